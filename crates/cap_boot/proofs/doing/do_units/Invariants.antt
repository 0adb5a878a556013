use Rattle.std.proofs.Common.{◌≡◌, ◌≤◌, ◌-◌, Ok, length}
use Rattle.cap_boot.specs.Given.{setting}
use Rattle.cap_boot.specs.Going.{Goes, IsAny}
use Rattle.cap_boot.specs.Keeps.{KeepsUnit}
use Rattle.cap_boot.specs.Situations.{IsReady, situation}
use Rattle.cap_boot.specs.Stands.{HasRegions, KeepsRegions}
use Rattle.cap_boot.specs.Units.{delivery_key, delivery_of}
use Rattle.cap_boot.proofs.Doings.{each_tasks}
use Rattle.cap_boot.proofs.doing.do_units.Given as goal

abbrev pub invariant-loop-at : goal.invariant-loop-at
invariant-loop-at g l =
    let state = g.W.BenchState.state in
    let old = state l.initial.bench in
    let now = state l.bench in
    let d = delivery_of l.source in
    record {
      ready : IsReady l.store now;
      regions : HasRegions g.S.SlotForm.size_of l.board now;
      frame : KeepsRegions old now;
      folder : now.contents.rest.folder ≡ old.contents.rest.folder;
      faults : old.counts.flash_faults ≤ now.counts.flash_faults;
      goes : Goes {T = Unit {0}} (setting l.board l.now g.S.SlotForm.slot_of) IsAny
          (KeepsUnit (delivery_key d)) (each_tasks d l.units l.from) (each_tasks d l.units l.at)
          (situation l.initial.store old l.initial.report) (Ok tt)
          (situation l.store now l.report);
    }

abbrev pub decreases-loop-at : goal.decreases-loop-at
decreases-loop-at g l = length l.units - l.at
