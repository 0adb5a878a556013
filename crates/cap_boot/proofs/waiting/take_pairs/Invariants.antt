use Rattle.std.proofs.Common.{◌≤◌, drop, Ok}
use Rattle.cap_boot.specs.Given.{setting}
use Rattle.cap_boot.specs.Going.{Goes, IsAny}
use Rattle.cap_boot.specs.Keeps.{KeepsFolder}
use Rattle.cap_boot.specs.Situations.{IsReady, situation}
use Rattle.cap_boot.specs.Stands.{HasRegions, KeepsRegions}
use Rattle.cap_boot.specs.Tasks.{pairs_tasks}
use Rattle.delivery_formats.specs.TrueFormats.{true_formats}
use Rattle.cap_boot.proofs.waiting.take_pairs.Given as goal

abbrev pub invariant-loop-pair : goal.invariant-loop-pair
invariant-loop-pair g l =
    let state = g.W.BenchState.state in
    let old = state l.initial.bench in
    let now = state l.bench in
    record {
      ready : IsReady l.store now;
      regions : HasRegions g.S.SlotForm.size_of l.board now;
      frame : KeepsRegions old now;
      faults : old.counts.flash_faults ≤ now.counts.flash_faults;
      goes : Goes {T = Unit {0}} (setting l.board l.now g.S.SlotForm.slot_of) IsAny KeepsFolder
          (pairs_tasks true_formats l.pairs) (pairs_tasks true_formats (drop l.pair-index l.pairs))
          (situation l.initial.store old l.initial.report) (Ok tt)
          (situation l.store now l.report);
    }
