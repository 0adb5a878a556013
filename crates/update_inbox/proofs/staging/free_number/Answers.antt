use Rattle.std.proofs.Common.{ℕ, arith, sym, ap, not, ◌∙◌}
use Rattle.std.specs.Prelude.{is_none}
use Rattle.stored_vars.specs.Holds.{staged_at}
use Rattle.var_store.specs.Stores.{variables_of}
use Rattle.update_inbox.proofs.StageLemmas.{first_is}
use Rattle.update_inbox.proofs.staging.free_number.Goals as goal

pub returns-then-is_none-clause-value : goal.returns-then-is_none-clause-value
returns-then-is_none-clause-value c =
    sym (first_is (λ (k : ℕ). is_none (staged_at (variables_of c.args.store.now) k)) 0 8
    c.loop-number.number (omega arith) (omega arith)
    (λ j from below. c.loop-number.invariant j below)
    (sym (ap is_none c.staged_at.ensures) ∙ ap not c.if-is_none.ensures))
