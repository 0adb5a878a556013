use Rattle.std.proofs.Common.{arith, ◌≡◌, ◌+◌, ◌∷◌, ◌++◌, List, [], map, take, drop, length, sym}
use Rattle.std.proofs.Common.{ap, ◌∙◌, append_assoc}
use Rattle.std.proofs.lemmas.List.{map_push}
use Rattle.reference_machine.specs.declared.event.Event.{Event}
use Rattle.reference_machine.specs.Events.{trace_of}
use Rattle.reset_play.specs.Plays.{loaded_bytes}
use Rattle.delivery_formats.specs.TrueFormats.{true_formats}
use Rattle.reference_machine.specs.TraceValues.{EntryValue, entry_value}
use Rattle.reset_play.proofs.PlayEvents.{taken_more, dropped_more, taken_whole, none_behind}
use Rattle.reset_play.proofs.PlayEvents.{length_more, told_next, machine_next}
use Rattle.reset_play.proofs.thin_play.running.run_events.Goals as goal

pub loop-event-preserved : goal.loop-event-preserved
loop-event-preserved c =
    let told : List EntryValue =
    trace_of true_formats
    (loaded_bytes c.args.loaded.now.items) c.args.platform.now c.args.events.now in
    let rest : entry_value c.in_ok-entry.entry
    ∷ trace_of true_formats (loaded_bytes c.args.loaded.now.items) c.answer_of.new.platform
    (drop (c.loop-event.event-index + 1) c.args.events.now)
    ≡ drop c.loop-event.event-index told =
    told_next c.args.loaded.now.items c.args.events.now c.loop-event.event-index c.event-item.result
    c.loop-event.platform c.answer_of.new.platform
    (entry_value c.in_ok-entry.entry) c.event-item.is c.loop-event-test.true
    c.in_ok-entry.ensures.ok
    ∙ c.loop-event.invariant.rest in
    let pushed : length c.push.new.self.items ≡ length c.loop-event.trace.items + 1 =
    ap length c.in_ok-push.ensures.ok
    ∙ length_more c.loop-event.trace.items c.in_ok-entry.entry in
    record {
      said =
          ap (map entry_value) c.in_ok-push.ensures.ok
          ∙ map_push entry_value c.loop-event.trace.items c.in_ok-entry.entry
          ∙ ap (λ (l : List EntryValue). l ++ entry_value c.in_ok-entry.entry
          ∷ []) c.loop-event.invariant.said
          ∙ append_assoc (map entry_value c.args.trace.now.items)
          (take c.loop-event.event-index told) (entry_value c.in_ok-entry.entry ∷ [])
          ∙ sym (ap (λ (l : List EntryValue). map entry_value c.args.trace.now.items ++ l)
          (taken_more told c.loop-event.event-index (entry_value c.in_ok-entry.entry) _ rest));
      rest = dropped_more told c.loop-event.event-index (entry_value c.in_ok-entry.entry) _ rest;
      after =
          machine_next c.args.loaded.now.items c.args.events.now c.loop-event.event-index
          c.event-item.result c.loop-event.platform c.answer_of.new.platform
          (entry_value c.in_ok-entry.entry) c.event-item.is c.loop-event-test.true
          c.in_ok-entry.ensures.ok
          ∙ c.loop-event.invariant.after;
      board = c.answer_of.ensures.frame ∙ c.loop-event.invariant.board;
      batches = omega (arith, c.in_ok-entry.ensures.counts);
      long = omega (arith, pushed);
    }

pub returns-clause-ok : goal.returns-clause-ok
returns-clause-ok c =
    let told : List EntryValue =
    trace_of true_formats
    (loaded_bytes c.args.loaded.now.items) c.args.platform.now c.args.events.now in
    let none : drop c.loop-event.event-index c.args.events.now ≡ [] =
    none_behind c.args.events.now c.loop-event.event-index c.loop-event-test.false in
    let rest : [] ≡ drop c.loop-event.event-index told =
    sym (ap (trace_of true_formats
    (loaded_bytes c.args.loaded.now.items) c.loop-event.platform) none)
    ∙ c.loop-event.invariant.rest in
    c.loop-event.invariant.said
    ∙ ap (λ (l : List EntryValue). map entry_value c.args.trace.now.items ++ l)
    (taken_whole told c.loop-event.event-index rest)
