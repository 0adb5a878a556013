use Rattle.std.proofs.Common.{map}
use Rattle.std.specs.List.{range_with_len}
use Rattle.capsule_grammar.specs.Reading.{image_of}
use Rattle.capsule_grammar.specs.Refusals.{driver_count, item}
use Rattle.capsule_show.specs.Appended.{AppendsLines}
use Rattle.capsule_show.specs.Images.{AreLinesOfAll}
use Rattle.capsule_show.proofs.fmp.push_images.Given as goal

abbrev pub invariant-loop-k : goal.invariant-loop-k
invariant-loop-k l = AppendsLines
    (AreLinesOfAll 0
    (map (λ k. image_of (item l.body k)) (range_with_len (driver_count l.body) l.k)))
    l.initial.out l.out
