use Rattle.std.proofs.Common.{rules, ap, ◌∙◌, nat_lt}
use Rattle.std.proofs.lemmas.List.Sorted.{answers_always}
use Rattle.std.proofs.lemmas.Result.{IfOk-weaker}
use Rattle.reference_machine.specs.Order.{in_order}
use Rattle.reference_machine.specs.declared.snapshot.StagedPair.{StagedPair}
use Rattle.update_inbox.proofs.WaitingLemmas.{by_serial}
use Rattle.update_inbox.proofs.waiting.staged.Goals as goal

pub returns-in-Ok : goal.returns-in-Ok
returns-in-Ok c =
    let keys = answers_always _ _ _ (λ f a r next called. search rules) in
    let order = by_serial _ _ (c.in-Ok.ensures.sorted (λ (p : StagedPair). p.serial) keys)
    (c.sort_by_key.ensures.stable (λ (p : StagedPair). p.serial) keys) in
    IfOk-weaker c.from_slice.result _ _ (λ list is. is ∙ c.deref.ensures.value ∙ order
    ∙ ap (in_order (λ (a b : StagedPair). nat_lt a.serial b.serial)) c.in_ok-pairs.ensures)
    c.from_slice.ensures
