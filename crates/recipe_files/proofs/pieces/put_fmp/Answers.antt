use Rattle.std.proofs.Common.{◌++◌, length, map, arith}
use Rattle.capsule_grammar.specs.Spelling.{fmp_bytes}
use Rattle.recipe_files.specs.Builds.{drivers_of, fmp_of}
use Rattle.recipe_files.specs.Room.{found}
use Rattle.recipe_files.proofs.BuildLemmas.{fmp_size}
use Rattle.recipe_files.proofs.LayLemmas.{fmp_pieces, images_of}
use Rattle.recipe_files.proofs.pieces.put_fmp.Goals as goal

pub put_images-requires : goal.put_images-requires
put_images-requires c =
    omega (
      arith,
      fmp_size (found c.args.index.now) c.args.drivers.now c.args.items.now,
      c.requires.sized,
    )

pub returns : goal.returns
returns c =
    let f = found c.args.index.now in
    let drivers = c.args.drivers.now in
    let items = c.args.items.now in
    fmp_pieces c.args.pieces.now.items c.push.new.self.items c.put_drivers.new.pieces.items
    c.put_images.new.pieces.items _ (drivers_of (length items) (map f drivers)) (images_of f items)
    (c.args.heads ++ fmp_bytes (fmp_of f drivers items)) c.in_ok-push.ensures.ok
    c.in_ok-put_drivers.ensures c.in_ok-put_images.ensures c.in_ok-put_fmp_head.ensures
