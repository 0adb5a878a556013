use Rattle.std.proofs.Common.{◌≡◌, ◌∷◌, ◌++◌, decimal, flat_map, drop}
use Rattle.reset_play.proofs.text.parts.push_number_parts.Given as goal

-- what was written, and the text of what is left, are the whole text
abbrev pub invariant-loop-number : goal.invariant-loop-number
invariant-loop-number l =
    l.out ++ flat_map (λ n. 32 ∷ decimal n) (drop l.number-index l.numbers)
    ≡ l.fn.out ++ flat_map (λ n. 32 ∷ decimal n) l.numbers
