use Rattle.std.proofs.Common.{◌≡◌, ℕ, ◌+◌, ◌≤◌, ◌<◌, None}
use Rattle.cu_base.specs.Refusals.{first_refusal}
use Rattle.capsule_grammar.specs.Refusals.{image_rows, driver_count, bound, item}
use Rattle.capsule_grammar.proofs.checking.check_images.Given as goal

abbrev pub invariant-loop-k : goal.invariant-loop-k
invariant-loop-k l = (j : ℕ) → j < l.k → driver_count l.body ≤ j
    → first_refusal (image_rows (item l.body j) (l.at + bound l.body j)) ≡ None
