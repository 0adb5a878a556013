use Rattle.std.proofs.Common.{◌≡◌, ◌++◌, take}
use Rattle.std.specs.List.{concat}
use Rattle.capsule_grammar.specs.Pieces.{joined}
use Rattle.capsule_grammar.specs.Rebuilt.{kept_items}
use Rattle.capsule_grammar.proofs.rebuilding.put_kept_pieces.Given as goal

abbrev pub invariant-loop-k : goal.invariant-loop-k
invariant-loop-k l =
    joined l.pieces.items ≡ joined l.fn.pieces.items ++ concat (take l.k (kept_items l.body))
