use Rattle.std.proofs.Common.{length, take, ◌-◌, ◌%◌, ◌<◌, ◌≡◌, ◌≤◌, true}
use Rattle.fmp_slot.specs.declared.limits.TheConstants.{PIECE}
use Rattle.fmp_slot.specs.Held.{KeepsSlots, region_in}
use Rattle.fmp_slot.specs.Spending.{ChangesDevice, RisesBy}
use Rattle.fmp_slot.specs.Writing.{more_taken, pieces_of}
use Rattle.fmp_slot.proofs.whole.put_pieces.Given as goal

-- the pieces so far, and that all before the last are whole
abbrev pub invariant-loop-at : goal.invariant-loop-at
invariant-loop-at g l =
    let first = g.S.SlotForm.writing l.initial.writer in
    let old = g.F.BenchState.state l.initial.flash in
    let new = g.F.BenchState.state l.flash in
    record {
      within : l.at ≤ length l.payload;
      cut : l.at < length l.payload → l.at % PIECE ≡ 0;
      writing : g.S.SlotForm.writing l.writer ≡ more_taken first l.at;
      places : g.S.SlotForm.places l.writer ≡ g.S.SlotForm.places l.initial.writer;
      underway : g.S.SlotForm.underway l.writer (region_in first.device new);
      taken : old.contents.told ≡ true
          → g.S.SlotForm.taken l.writer (region_in first.device new).bytes ≡ take l.at l.payload;
      images : KeepsSlots g.S.SlotForm.slot_of (region_in first.device old)
          (region_in first.device new);
      frame : ChangesDevice first.device old new;
      moves : RisesBy (pieces_of l.at) old.counts.moves new.counts.moves;
      looks : RisesBy (pieces_of l.at) old.counts.looks new.counts.looks;
      others : new.counts.volume_faults ≡ old.counts.volume_faults;
      later : old.counts.flash_faults ≤ new.counts.flash_faults;
    }

abbrev pub decreases-loop-at : goal.decreases-loop-at
decreases-loop-at g l = length l.payload - l.at
