use Rattle.std.proofs.Common.{◌≡◌, ℕ, ◌<◌, take, None, true, get_or}
use Rattle.var_log.specs.declared.change.Change.{Change}
use Rattle.var_log.specs.Changes.{keeps_limits}
use Rattle.var_store.specs.Answers.{refusal_of}
use Rattle.var_store.proofs.prepared.refusal_of.Given as goal

abbrev pub invariant-loop-change : goal.invariant-loop-change
invariant-loop-change l =
    (refusal_of (take l.change-index l.changes) ≡ None)
    × ((k : ℕ) (d : Change) → k < l.change-index → keeps_limits (get_or l.changes k d) ≡ true)
