use Rattle.std.proofs.Common.{◌∙◌, ◌+◌, ◌++◌, ◌∷◌, [], true, false, get_or, length, ap, sym, refl}
use Rattle.std.proofs.Common.{append-nil}
use Rattle.report_tables.specs.Entries.{entries_of, entry_of}
use Rattle.report_tables.proofs.EntryLemmas.{no_state, table_next, rests_are}
use Rattle.report_tables.proofs.entries.esrt_of.Goals as goal

pub loop-k-preserved-then-has_type : goal.loop-k-preserved-then-has_type
loop-k-preserved-then-has_type c =
    table_next c.loop-k.entries.items c.loop-k.entries.items
    (entries_of c.args.board.now c.args.states.now) c.devices-devices.result.now c.args.states.now
    c.loop-k.k c.index-devices-k.result (get_or c.args.states.now c.loop-k.k no_state) true
    c.loop-k-test.true (c.requires.states ∙ ap length (sym c.devices-devices.ensures.value))
    c.index-devices-k.is refl
    (sym c.has_type.ensures.value ∙ c.if-has_type.true) (sym (append-nil c.loop-k.entries.items))
    c.loop-k.invariant

pub loop-k-preserved : goal.loop-k-preserved
loop-k-preserved c =
    table_next c.loop-k.entries.items c.push.new.self.items
    (entries_of c.args.board.now c.args.states.now) c.devices-devices.result.now c.args.states.now
    c.loop-k.k c.index-devices-k.result (get_or c.args.states.now c.loop-k.k no_state) false
    c.loop-k-test.true (c.requires.states ∙ ap length (sym c.devices-devices.ensures.value))
    c.index-devices-k.is refl
    (sym c.has_type.ensures.value ∙ c.if-has_type.false)
    (c.in_ok-push.ensures.ok
    ∙ ap (λ e. c.loop-k.entries.items ++ e ∷ [])
    (c.entry_of.ensures.value
    ∙ ap (entry_of (c.index-devices-k.result, get_or c.args.states.now c.loop-k.k no_state))
    (rests_are c.devices-devices.result.now c.args.states.now (c.loop-k.k + 1))))
    c.loop-k.invariant
