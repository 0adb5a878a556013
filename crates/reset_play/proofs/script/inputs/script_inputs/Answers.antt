use Rattle.std.proofs.Common.{◌∙◌, ap, arith}
use Rattle.reset_play.specs.ScriptInputs.{inputs_of}
use Rattle.reset_play.proofs.ScriptNames.{named_more, named_none, named_distinct}
use Rattle.reset_play.proofs.script.inputs.script_inputs.Goals as goal

pub loop-event-init : goal.loop-event-init
loop-event-init c = record {
  items = c.as_slice-event-items.ensures;
  named = named_none c.new-names.result.items c.as_slice-event-items.result.now c.new-names.ensures
      ∙ ap inputs_of c.as_slice-event-items.ensures;
}

pub loop-event-preserved : goal.loop-event-preserved
loop-event-preserved c = record {
  items = c.loop-event.invariant.items;
  named =
      rw c.in_ok-take_event.ensures
      (named_more c.loop-event.names.items c.as_slice-event-items.result.now
      c.loop-event.event-index c.event-item.result (omega arith) c.event-item.is
      ∙ c.loop-event.invariant.named);
}

pub returns-clause-distinct : goal.returns-clause-distinct
returns-clause-distinct c =
    named_distinct c.loop-event.names.items c.as_slice-event-items.result.now
    c.args.script.now.items c.loop-event.event-index
    c.loop-event-test.false c.loop-event.invariant.named
