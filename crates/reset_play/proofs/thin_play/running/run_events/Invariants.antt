use Rattle.std.proofs.Common.{◌≡◌, ◌≤◌, ◌+◌, ◌*◌, ◌++◌, take, drop, map, length}
use Rattle.reference_machine.specs.Events.{trace_of, machine_after}
use Rattle.reset_play.specs.Plays.{loaded_bytes}
use Rattle.delivery_formats.specs.TrueFormats.{true_formats}
use Rattle.reference_machine.specs.TraceValues.{entry_value}
use Rattle.reset_play.proofs.thin_play.running.run_events.Given as goal

-- what was told is a front of the whole trace, and the other events tell the rest of it
abbrev pub invariant-loop-event : goal.invariant-loop-event
invariant-loop-event l = record {
  said : map entry_value l.trace.items
      ≡ map entry_value l.initial.trace.items
      ++ take l.event-index
      (trace_of true_formats (loaded_bytes l.loaded.items) l.initial.platform l.events);
  rest : trace_of true_formats (loaded_bytes l.loaded.items) l.platform
      (drop l.event-index l.events)
      ≡ drop l.event-index
      (trace_of true_formats (loaded_bytes l.loaded.items) l.initial.platform l.events);
  after : machine_after true_formats (loaded_bytes l.loaded.items) l.platform
      (drop l.event-index l.events)
      ≡ machine_after true_formats (loaded_bytes l.loaded.items) l.initial.platform l.events;
  board : l.platform.board ≡ l.initial.platform.board;
  batches : l.platform.batches ≤ l.initial.platform.batches + 200 * l.event-index;
  long : length l.trace.items ≤ length l.initial.trace.items + l.event-index;
}
