use Rattle.std.proofs.Common.{◌≡◌, ◌+◌, ◌≤◌, take, map, length}
use Rattle.bench_play.specs.Counted.{IsOrdered}
use Rattle.bench_play.specs.Inputs.{input_bytes}
use Rattle.bench_play.specs.Played.{IsStart}
use Rattle.bench_play.proofs.Running.{IsUnderway}
use Rattle.cap_boot.specs.Given.{setting}
use Rattle.cap_boot.specs.Stands.{HasRegions, StandsForEither}
use Rattle.reference_machine.specs.Machine.{Machine, first_moment}
use Rattle.reference_machine.specs.TraceValues.{entry_value}
use Rattle.bench_play.proofs.playing.play.Given as goal

abbrev pub invariant-loop-event : goal.invariant-loop-event
invariant-loop-event g l =
    let state = g.W.BenchState.state in
    let x = setting l.board first_moment g.S.SlotForm.slot_of in
    let told = map entry_value l.trace.items in
    record {
      regions : HasRegions g.S.SlotForm.size_of l.board (state l.bench);
      room : length l.events ≤ (state l.bench).orders.room + l.event-index;
      count : length l.trace.items ≡ l.event-index;
      orders : IsOrdered (take l.event-index l.events) told (state l.initial.bench)
          (state l.bench);
      underway : (m : Machine) → IsStart x m
          → StandsForEither x (state l.initial.bench).contents m m
          → IsUnderway x (input_bytes l.loaded.items) m (take l.event-index l.events) told
          l.known (state l.bench).contents;
    }
