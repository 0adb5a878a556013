use Rattle.std.proofs.Common.{◌≡◌, ◌≤◌, ◌+◌, ◌*◌, drop, find, None}
use Rattle.reference_machine.specs.Spent.{is_open}
use Rattle.delivery_formats.specs.TrueFormats.{true_formats}
use Rattle.reset_play.specs.Whole.{between_tasks, tasks_done, all_marked_tasks}
use Rattle.reset_play.proofs.thin_play.platform.ListPlatform.do_files.Given as goal

-- what is left to do leads to where all the work led from the start
abbrev pub invariant-loop-i : goal.invariant-loop-i
invariant-loop-i l = record {
  left : tasks_done true_formats (between_tasks l.self l.report)
      (all_marked_tasks (drop l.i l.files) (drop l.i l.marks))
      ≡ tasks_done true_formats (between_tasks l.initial.self l.initial.report)
      (all_marked_tasks l.files l.marks);
  rests : find is_open l.self.list ≡ None;
  board : l.self.board ≡ l.initial.self.board;
  batches : l.self.batches ≤ l.initial.self.batches + 2 * l.i;
  steps : l.report.steps ≤ l.initial.report.steps + 3 * l.i;
}
