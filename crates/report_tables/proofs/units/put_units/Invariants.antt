use Rattle.std.proofs.Common.{◌≡◌, ◌∷◌, [], ◌++◌, flat_map, drop}
use Rattle.report_tables.proofs.units.put_units.Given as goal

-- what was written, and the units of what is left, are the whole
abbrev pub invariant-loop-byte : goal.invariant-loop-byte
invariant-loop-byte l =
    l.out ++ flat_map (λ c. c ∷ 0 ∷ []) (drop l.byte-index l.bytes)
    ≡ l.fn.out ++ flat_map (λ c. c ∷ 0 ∷ []) l.bytes
