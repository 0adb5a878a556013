use Rattle.std.proofs.Common.{◌∙◌, ap, sym, List}
use Rattle.var_log.specs.declared.change.Change.{Change}
use Rattle.var_store.specs.Answers.{refusal_of}
use Rattle.var_store.proofs.RefusalLemmas.{refused}
use Rattle.var_store.proofs.store.VarStore.prepare_set.Goals as goal

pub returns-in-Some-clause-value : goal.returns-in-Some-clause-value
returns-in-Some-clause-value c =
    refused c.args.batch.now.items c.in-Some.fault
    (ap (λ (cs : List Change). refusal_of cs) (sym c.as_slice.ensures.value)
    ∙ sym c.refusal_of.ensures.value ∙ c.in-Some.is)
