use Rattle.std.proofs.Common.{◌≡◌, drop}
use Rattle.std.specs.List.{list_all}
use Rattle.capsule_grammar.specs.Fits.{image_fits}
use Rattle.capsule_grammar.proofs.fitting.images_fit.Given as goal

abbrev pub invariant-loop-image : goal.invariant-loop-image
invariant-loop-image l = list_all image_fits
    (drop l.image-index l.images) ≡ list_all image_fits l.images
