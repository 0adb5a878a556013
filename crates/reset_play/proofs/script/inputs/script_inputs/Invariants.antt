use Rattle.std.proofs.Common.{◌≡◌, ◌++◌, drop}
use Rattle.reset_play.specs.ScriptInputs.{inputs_of}
use Rattle.reset_play.proofs.ScriptNames.{unnamed}
use Rattle.reset_play.proofs.script.inputs.script_inputs.Given as goal

-- the names so far, and those of the events that are left but for the names so far, are those of
-- all events
abbrev pub invariant-loop-event : goal.invariant-loop-event
invariant-loop-event l = record {
  items : l.event-items ≡ l.script.items;
  named : l.names.items ++ unnamed l.names.items (drop l.event-index l.event-items)
      ≡ inputs_of l.script.items;
}
