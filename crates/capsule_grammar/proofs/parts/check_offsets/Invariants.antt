use Rattle.std.proofs.Common.{◌≡◌, ℕ, ◌<◌, List, None}
use Rattle.cu_base.specs.Refusals.{first_refusal}
use Rattle.capsule_grammar.specs.Refusals.{offset_rows}
use Rattle.capsule_grammar.specs.Fronts.{Begins}
use Rattle.capsule_grammar.proofs.parts.check_offsets.Given as goal

abbrev pub invariant-loop-k : goal.invariant-loop-k
invariant-loop-k l = (j : ℕ) → j < l.k → (body : List ℕ) → Begins l.front l.size body
    → first_refusal (offset_rows body l.at j) ≡ None
