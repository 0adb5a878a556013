use Rattle.std.proofs.Common.{◌≡◌, map}
use Rattle.std.specs.List.{range_with_len}
use Rattle.capsule_grammar.specs.Reading.{image_of}
use Rattle.capsule_grammar.specs.Refusals.{driver_count, item}
use Rattle.capsule_grammar.proofs.reading.read_images.Given as goal

abbrev pub invariant-loop-k : goal.invariant-loop-k
invariant-loop-k l = l.list.items ≡ map (λ k. image_of (item l.body k))
    (range_with_len (driver_count l.body) l.k)
