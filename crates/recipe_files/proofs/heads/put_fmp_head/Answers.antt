use Rattle.std.proofs.Common.{ℕ, List, ◌++◌, ◌∙◌, length, refl, ap, arith}
use Rattle.fmp_headers.specs.FmpHeader.{fmp_header_bytes}
use Rattle.recipe_files.specs.Room.{found}
use Rattle.recipe_files.proofs.BuildLemmas.{fmp_size}
use Rattle.recipe_files.proofs.LayLemmas.{fmp_head}
use Rattle.recipe_files.proofs.heads.put_fmp_head.Goals as goal

pub put_driver_offsets-requires-clause-within : goal.put_driver_offsets-requires-clause-within
put_driver_offsets-requires-clause-within c =
    omega (
      arith,
      fmp_size (found c.args.index.now) c.args.drivers.now c.args.items.now,
      c.requires.sized,
    )

pub put_item_offsets-requires : goal.put_item_offsets-requires
put_item_offsets-requires c =
    omega (
      arith,
      fmp_size (found c.args.index.now) c.args.drivers.now c.args.items.now,
      c.requires.sized,
      c.in_ok-here.ensures.end,
    )

pub returns : goal.returns
returns c =
    let drivers = c.args.drivers.now in
    let items = c.args.items.now in
    let head = fmp_header_bytes (record { drivers = length drivers; items = length items }) in
    fmp_head (found c.args.index.now) drivers items (length drivers) (length items) _
    c.in_ok-here.here c.args.out.now c.write_into.new.out c.put_driver_offsets.new.out
    c.put_item_offsets.new.out refl refl refl
    (c.in_ok-write_into.ensures.ok ∙ ap (λ (l : List ℕ). l ++ head) c.reserve.ensures)
    c.in_ok-here.ensures.offsets c.in_ok-here.ensures.end c.in_ok-put_item_offsets.ensures
