use Rattle.std.proofs.Common.{◌≤◌, drop, Ok}
use Rattle.cap_boot.specs.Given.{setting}
use Rattle.cap_boot.specs.Going.{Goes, IsFolder}
use Rattle.cap_boot.specs.Keeps.{KeepsNothing}
use Rattle.cap_boot.specs.Situations.{IsReady, situation}
use Rattle.cap_boot.specs.Stands.{HasRegions, KeepsRegions}
use Rattle.cap_boot.specs.Tasks.{HaveFiles, files_tasks}
use Rattle.delivery_formats.specs.TrueFormats.{true_formats}
use Rattle.cap_boot.proofs.folder.take_files.Given as goal

abbrev pub invariant-loop-file : goal.invariant-loop-file
invariant-loop-file g l =
    let state = g.W.BenchState.state in
    let old = state l.initial.bench in
    let now = state l.bench in
    record {
      ready : IsReady l.store now;
      regions : HasRegions g.S.SlotForm.size_of l.board now;
      frame : KeepsRegions old now;
      faults : old.counts.flash_faults ≤ now.counts.flash_faults;
      there : HaveFiles (drop l.file-index l.files) now;
      goes : Goes {T = Unit {0}} (setting l.board l.now g.S.SlotForm.slot_of) IsFolder KeepsNothing
          (files_tasks true_formats l.files)
          (files_tasks true_formats (drop l.file-index l.files))
          (situation l.initial.store old l.initial.report) (Ok tt)
          (situation l.store now l.report);
    }
