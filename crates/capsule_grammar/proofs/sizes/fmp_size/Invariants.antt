use Rattle.std.proofs.Common.{◌≡◌, ◌+◌, ◌*◌, ◌-◌, ◌^◌, length, min, take}
use Rattle.std.specs.List.{concat}
use Rattle.capsule_grammar.specs.Spelling.{item_bytes}
use Rattle.capsule_grammar.proofs.sizes.fmp_size.Given as goal

abbrev pub invariant-loop-k : goal.invariant-loop-k
invariant-loop-k l = l.size ≡ min
    (8 + 8 * length (item_bytes l.body) + length l.body.lead + length
    (concat (take l.k (item_bytes l.body)))) (2 ^ 64 - 1)
