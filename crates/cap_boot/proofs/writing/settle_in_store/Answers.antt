use Rattle.std.proofs.Common.{◌∙◌, List, sym}
use Rattle.dev_claims.specs.Ended.{open_settled}
use Rattle.var_log.specs.declared.change.Change.{Change}
use Rattle.cap_boot.proofs.Batches.{ready_written}
use Rattle.cap_boot.proofs.Commitments.{committed, stored_of}
use Rattle.cap_boot.proofs.HealSlots.{open_device_low, settled_is_some, stable_slot}
use Rattle.var_store.specs.Stores.{HeldStore, variables_of}
use Rattle.cap_boot.proofs.writing.settle_in_store.Goals as goal

pub settle_open-requires-clause-stable : goal.settle_open-requires-clause-stable
settle_open-requires-clause-stable g c d is =
    stable_slot g.S.SlotForm.size_of c.args.board.now (g.F.BenchState.state c.args.flash.now)
    c.requires.regions c.requires.ready.clean d
    (open_device_low c.args.board.now (variables_of c.args.store.now) d is)

pub returns-in-Ok-Some-clause-ready : goal.returns-in-Ok-Some-clause-ready
returns-in-Ok-Some-clause-ready g c =
    let old = c.requires.ready.opened.fresh in
    let new = c.in-Ok-Some.ensures.fresh old in
    ready_written c.args.store.now c.settle_open.new.store
    (g.F.BenchState.state c.args.flash.now) (g.F.BenchState.state c.settle_open.new.flash)
    c.requires.ready c.settle_open.ensures.frame (new.pending ∙ sym old.pending) new.stale
    (c.in-Ok-Some.ensures.stands old.stale)

pub returns-in-Ok-Some-clause-ok : goal.returns-in-Ok-Some-clause-ok
returns-in-Ok-Some-clause-ok g c told =
    let s : HeldStore = c.args.store.now in
    let b = g.F.BenchState.state c.args.flash.now in
    let cs : List Change = open_settled g.S.SlotForm.slot_of c.args.board.now c.args.now.now s b in
    stored_of cs s c.settle_open.new.store
    (committed cs s c.settle_open.new.store c.in-Ok-Some.field-0
    (settled_is_some g.S.SlotForm.slot_of c.args.board.now c.args.now.now s b c.requires.open)
    (c.in-Ok-Some.ensures.value told))
