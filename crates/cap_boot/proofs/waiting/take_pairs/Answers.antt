use Rattle.std.proofs.Common.{rules, ◌≡◌, ◌+◌, refl, Err, arith}
use Rattle.reference_machine.specs.Boots.{after_steps}
use Rattle.cap_boot.specs.Given.{setting}
use Rattle.cap_boot.specs.Going.{IsAny}
use Rattle.cap_boot.specs.Keeps.{KeepsFolder}
use Rattle.cap_boot.specs.Tasks.{pair_tasks_of, pairs_tasks}
use Rattle.delivery_formats.specs.TrueFormats.{true_formats}
use Rattle.std.proofs.Common.{drop}
use Rattle.cap_boot.proofs.Frames.{regions_kept, regions_then}
use Rattle.cap_boot.proofs.Groups.{folder_kept, folder_then, pairs_same}
use Rattle.cap_boot.proofs.Onward.{steps_ground}
use Rattle.cap_boot.proofs.Works.{as_result, goes_nowhere, loop_next, loop_out, stopped_first}
use Rattle.cap_boot.proofs.waiting.take_pairs.Goals as goal

pub loop-pair-init : goal.loop-pair-init
loop-pair-init g c =
    let x = setting c.args.board.now c.args.now.now g.S.SlotForm.slot_of in
    record {
      ready = c.requires.ready;
      regions = c.requires.regions;
      frame = record { told = refl; count = refl; long = λ k. refl; orders = refl };
      faults = omega arith;
      goes = goes_nowhere x IsAny KeepsFolder (pairs_tasks true_formats c.args.pairs.now) _ tt
          folder_kept;
    }

pub returns-in_err-take_pair-clause-does : goal.returns-in_err-take_pair-clause-does
returns-in_err-take_pair-clause-does g c =
    let x = setting c.args.board.now c.args.now.now g.S.SlotForm.slot_of in
    let l = c.loop-pair in
    let ps = c.args.pairs.now in
    let is : c.from_residual.result ≡ Err c.in_err-take_pair.field-0.0 = search rules in
    as_result x is (stopped_first x (loop_next x (pair_tasks_of true_formats) ps l.pair-index _
    (λ start m rest may. tt)
    (λ b k way kept. pairs_same true_formats (drop (l.pair-index + 1) ps) b.machine
    (after_steps x.formats k b).machine (steps_ground x.formats k b)) folder_then
    c.loop-pair-test.true l.invariant.goes c.in_err-take_pair.ensures.does))

pub loop-pair-preserved : goal.loop-pair-preserved
loop-pair-preserved g c =
    let x = setting c.args.board.now c.args.now.now g.S.SlotForm.slot_of in
    let l = c.loop-pair in
    let ps = c.args.pairs.now in
    let state = g.W.BenchState.state in
    record {
      ready = c.in_ok-take_pair.ensures.ready;
      regions = regions_kept g.S.SlotForm.size_of c.args.board.now (state l.bench)
          (state c.take_pair.new.bench) l.invariant.regions c.take_pair.ensures.frame;
      frame = regions_then (state c.args.bench.now) (state l.bench) (state c.take_pair.new.bench)
          l.invariant.frame c.take_pair.ensures.frame;
      faults = omega (arith, l.invariant.faults, c.take_pair.ensures.cause.later);
      goes = loop_next x (pair_tasks_of true_formats) ps l.pair-index _ (λ start m rest may. tt)
          (λ b k way kept. pairs_same true_formats (drop (l.pair-index + 1) ps) b.machine
          (after_steps x.formats k b).machine (steps_ground x.formats k b)) folder_then
          c.loop-pair-test.true l.invariant.goes c.in_ok-take_pair.ensures.does;
    }

pub returns-clause-does : goal.returns-clause-does
returns-clause-does g c =
    let x = setting c.args.board.now c.args.now.now g.S.SlotForm.slot_of in
    let l = c.loop-pair in
    loop_out x (pair_tasks_of true_formats) c.args.pairs.now l.pair-index (omega arith)
    l.invariant.goes
