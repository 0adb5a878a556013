use Rattle.std.proofs.Common.{◌≡◌, ◌+◌, ◌-◌, ◌∙◌, nat_lt, cond, ap, arith, drop, length, map}
use Rattle.std.proofs.lemmas.List.{length-drop}
use Rattle.recipe_files.specs.Builds.{drivers_of, filled}
use Rattle.recipe_files.specs.Room.{found}
use Rattle.recipe_files.proofs.BuildLemmas.{drivers_next}
use Rattle.recipe_files.proofs.LayLemmas.{piece_on}
use Rattle.recipe_files.proofs.pieces.put_drivers.Goals as goal

pub loop-name-preserved : goal.loop-name-preserved
loop-name-preserved c =
    let f = found c.args.index.now in
    let names = c.args.drivers.now in
    let later = c.args.later in
    let k = c.loop-name.name-index in
    let name = c.name-item.result in
    let behind = c.loop-name.behind - 1 in
    let left : behind ≡ length (drop (k + 1) names) + later =
    omega (
      arith,
      c.loop-name.invariant.behind,
      length-drop k names,
      length-drop (k + 1) names,
      c.loop-name-test.true,
    ) in
    record {
      behind = left;
      so_far = piece_on _ c.loop-name.pieces.items c.push.new.self.items _
          (drivers_of later (map f (drop k names))) (drivers_of later (map f (drop (k + 1) names)))
          (cond (nat_lt 0 behind) (filled (f name)) (f name))
          (drivers_next f later names k behind name (omega arith) c.name-item.is left)
          (c.driver.ensures ∙ ap (λ n. cond (nat_lt 0 behind) (filled (f n)) (f n))
          c.as_str.ensures)
          c.loop-name.invariant.so_far c.in_ok-push.ensures.ok;
    }
