use Rattle.std.proofs.Common.{rules, ◌≡◌, ◌∙◌, Err, arith, refl}
use Rattle.cap_boot.specs.Given.{setting}
use Rattle.cap_boot.specs.Going.{IsAny}
use Rattle.cap_boot.specs.Keeps.{KeepsUnit}
use Rattle.cap_boot.specs.Units.{delivery_key, delivery_of}
use Rattle.cap_boot.proofs.Doings.{as_listed, each_tasks, keeps_all, unit_next, units_out}
use Rattle.cap_boot.proofs.Frames.{regions_kept, regions_then}
use Rattle.cap_boot.proofs.Works.{as_result, goes_nowhere, stopped_first}
use Rattle.cap_boot.proofs.doing.do_units.Goals as goal

pub loop-at-init : goal.loop-at-init
loop-at-init g c =
    let x = setting c.args.board.now c.args.now.now g.S.SlotForm.slot_of in
    let d = delivery_of c.args.source.now in
    record {
      ready = c.requires.ready;
      regions = c.requires.regions;
      frame = record { told = refl; count = refl; long = λ k. refl; orders = refl };
      folder = refl;
      faults = omega arith;
      goes = goes_nowhere x IsAny (KeepsUnit (delivery_key d))
          (each_tasks d c.args.units.now c.args.from) _ tt (keeps_all (delivery_key d));
    }

pub returns-in_err-do_unit-clause-does : goal.returns-in_err-do_unit-clause-does
returns-in_err-do_unit-clause-does g c =
    let x = setting c.args.board.now c.args.now.now g.S.SlotForm.slot_of in
    let l = c.loop-at in
    let d = delivery_of c.args.source.now in
    let us = c.args.units.now in
    let is : c.from_residual.result ≡ Err c.in_err-do_unit.field-0.0 = search rules in
    as_result x is (as_listed x d us c.args.from (stopped_first x
    (unit_next x d us c.args.from l.at c.index-units-at.result c.loop-at-test.true
    c.index-units-at.is l.invariant.goes c.in_err-do_unit.ensures.does)))

pub loop-at-preserved : goal.loop-at-preserved
loop-at-preserved g c =
    let x = setting c.args.board.now c.args.now.now g.S.SlotForm.slot_of in
    let l = c.loop-at in
    let d = delivery_of c.args.source.now in
    let us = c.args.units.now in
    let state = g.W.BenchState.state in
    record {
      ready = c.in_ok-do_unit.ensures.ready;
      regions = regions_kept g.S.SlotForm.size_of c.args.board.now (state l.bench)
          (state c.do_unit.new.bench) l.invariant.regions c.do_unit.ensures.frame;
      frame = regions_then (state c.args.bench.now) (state l.bench) (state c.do_unit.new.bench)
          l.invariant.frame c.do_unit.ensures.frame;
      folder = c.do_unit.ensures.folder ∙ l.invariant.folder;
      faults = omega (arith, l.invariant.faults, c.do_unit.ensures.cause.later);
      goes = unit_next x d us c.args.from l.at c.index-units-at.result c.loop-at-test.true
          c.index-units-at.is l.invariant.goes c.in_ok-do_unit.ensures.does;
    }

pub returns-clause-does : goal.returns-clause-does
returns-clause-does g c =
    let x = setting c.args.board.now c.args.now.now g.S.SlotForm.slot_of in
    let l = c.loop-at in
    units_out x (delivery_of c.args.source.now) c.args.units.now c.args.from l.at (omega arith)
    l.invariant.goes
