use Rattle.std.proofs.Common.{rules, ◌≡◌, ◌+◌, refl, Err, arith, drop, get_or, ap, ◌∙◌}
use Rattle.bench_model.specs.Files.{ListedFile, without_serial}
use Rattle.cap_boot.specs.Given.{setting}
use Rattle.cap_boot.specs.Going.{IsFolder}
use Rattle.cap_boot.specs.Keeps.{KeepsNothing}
use Rattle.cap_boot.specs.Tasks.{files_tasks, serial_tasks}
use Rattle.delivery_formats.specs.TrueFormats.{true_formats}
use Rattle.reference_machine.specs.Stops.{is_folder_task}
use Rattle.cap_boot.proofs.Files.{files_folder, list_all_append}
use Rattle.cap_boot.proofs.Frames.{regions_kept, regions_then}
use Rattle.cap_boot.proofs.Takes.{have_later, have_tail, item_does, later_others, later_same}
use Rattle.cap_boot.proofs.Works.{as_result, goes_nowhere, loop_next, loop_out, stopped_first}
use Rattle.cap_boot.proofs.folder.take_files.Goals as goal

pub loop-file-init : goal.loop-file-init
loop-file-init g c =
    let x = setting c.args.board.now c.args.now.now g.S.SlotForm.slot_of in
    record {
      ready = c.requires.ready;
      regions = c.requires.regions;
      frame = record { told = refl; count = refl; long = λ k. refl; orders = refl };
      faults = omega arith;
      there = c.requires.there;
      goes = goes_nowhere x IsFolder KeepsNothing
          (files_tasks true_formats c.args.files.now) _ tt (λ m. tt);
    }

pub returns-in_err-take_file-clause-does : goal.returns-in_err-take_file-clause-does
returns-in_err-take_file-clause-does g c =
    let x = setting c.args.board.now c.args.now.now g.S.SlotForm.slot_of in
    let l = c.loop-file in
    let files = c.args.files.now in
    let a = c.file-item.result in
    let here : a ≡ get_or files l.file-index a = c.file-item.is in
    let is : c.from_residual.result ≡ Err c.in_err-take_file.field-0.0 = search rules in
    as_result x is (stopped_first x (loop_next x
    (λ (a : ListedFile). serial_tasks true_formats a.serial)
    files l.file-index a
    (λ start m rest may. (
      may.0,
      list_all_append is_folder_task
          (files_tasks true_formats (drop (l.file-index + 1) files) m) rest
          (files_folder true_formats m (drop (l.file-index + 1) files)) may.1,
    ))
    (λ b k way kept. later_same x files l.file-index a c.requires.apart
    c.loop-file-test.true b k kept) (λ a b d p q. tt)
    c.loop-file-test.true l.invariant.goes
    (item_does x files l.file-index a here c.in_err-take_file.ensures.does)))

pub loop-file-preserved : goal.loop-file-preserved
loop-file-preserved g c =
    let x = setting c.args.board.now c.args.now.now g.S.SlotForm.slot_of in
    let l = c.loop-file in
    let files = c.args.files.now in
    let a = c.file-item.result in
    let here : a ≡ get_or files l.file-index a = c.file-item.is in
    let state = g.W.BenchState.state in
    record {
      ready = c.in_ok-take_file.ensures.ready;
      regions = regions_kept g.S.SlotForm.size_of c.args.board.now (state l.bench)
          (state c.take_file.new.bench) l.invariant.regions c.take_file.ensures.frame;
      frame = regions_then (state c.args.bench.now) (state l.bench) (state c.take_file.new.bench)
          l.invariant.frame c.take_file.ensures.frame;
      faults = omega (arith, l.invariant.faults, c.take_file.ensures.cause.later);
      there = have_later (get_or files l.file-index a).serial (drop (l.file-index + 1) files)
          (state l.bench)
          (state c.take_file.new.bench)
          (c.in_ok-take_file.ensures.folder ∙ ap (λ (b : ListedFile).
          without_serial (state l.bench).contents.rest.folder b.serial) here)
          (later_others files l.file-index a c.requires.apart
          c.loop-file-test.true)
          (have_tail files l.file-index a (state l.bench) c.loop-file-test.true
          l.invariant.there);
      goes = loop_next x (λ (a : ListedFile). serial_tasks true_formats a.serial)
          files l.file-index a
          (λ start m rest may. (
            may.0,
            list_all_append is_folder_task
                (files_tasks true_formats (drop (l.file-index + 1) files) m) rest
                (files_folder true_formats m (drop (l.file-index + 1) files)) may.1,
          ))
          (λ b k way kept. later_same x files l.file-index a
          c.requires.apart c.loop-file-test.true b k kept)
          (λ a b d p q. tt)
          c.loop-file-test.true l.invariant.goes
          (item_does x files l.file-index a here c.in_ok-take_file.ensures.does);
    }

pub returns-clause-does : goal.returns-clause-does
returns-clause-does g c =
    let x = setting c.args.board.now c.args.now.now g.S.SlotForm.slot_of in
    let l = c.loop-file in
    loop_out x (λ (a : ListedFile). serial_tasks true_formats a.serial) c.args.files.now
    l.file-index (omega arith) l.invariant.goes
