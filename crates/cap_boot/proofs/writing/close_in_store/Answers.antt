use Rattle.std.proofs.Common.{List, ℕ, subst, sym}
use Rattle.dev_claims.specs.ClosedBy.{element_told}
use Rattle.dev_claims.specs.Units.{close_changes}
use Rattle.var_log.specs.declared.change.Change.{Change}
use Rattle.var_store.specs.Stores.{HeldStore, variables_of}
use Rattle.cap_boot.specs.declared.fault.BootFault.{BootFault}
use Rattle.cap_boot.specs.Commits.{LeavesBatch}
use Rattle.cap_boot.proofs.Batches.{ready_written}
use Rattle.cap_boot.proofs.Commitments.{closing_is_some, committed, not_committed, stored_of}
use Rattle.cap_boot.proofs.writing.close_in_store.Goals as goal

pub returns-in-Ok-clause-ready : goal.returns-in-Ok-clause-ready
returns-in-Ok-clause-ready g c =
    let s : HeldStore = c.args.store.now in
    let e = element_told c.args.line.now c.args.ids.now c.args.now.now in
    let cs : List Change = close_changes c.args.board.now (variables_of s) e in
    let done = committed cs s c.close_unit.new.store c.in-Ok.number
    (closing_is_some c.args.board.now (variables_of s) e) c.in-Ok.ensures.value in
    ready_written s c.close_unit.new.store (g.F.BenchState.state c.args.flash.now)
    (g.F.BenchState.state c.close_unit.new.flash) c.requires.ready c.close_unit.ensures.frame
    done.pending done.stale
    (c.in-Ok.ensures.stands c.requires.ready.opened.fresh.stale)

pub returns-in-Ok-clause-ok : goal.returns-in-Ok-clause-ok
returns-in-Ok-clause-ok g c =
    let s : HeldStore = c.args.store.now in
    let e = element_told c.args.line.now c.args.ids.now c.args.now.now in
    let cs : List Change = close_changes c.args.board.now (variables_of s) e in
    stored_of cs s c.close_unit.new.store
    (committed cs s c.close_unit.new.store c.in-Ok.number
    (closing_is_some c.args.board.now (variables_of s) e) c.in-Ok.ensures.value)

pub returns-in-Err-clause-err : goal.returns-in-Err-clause-err
returns-in-Err-clause-err g c =
    let s : HeldStore = c.args.store.now in
    let e = element_told c.args.line.now c.args.ids.now c.args.now.now in
    let cs : List Change = close_changes c.args.board.now (variables_of s) e in
    let t : HeldStore = c.close_unit.new.store in
    let old = g.F.BenchState.state c.args.flash.now in
    let new = g.F.BenchState.state c.close_unit.new.flash in
    subst (λ (f : BootFault). LeavesBatch cs s t old new f) (sym c.fault_of_claim.ensures)
    (not_committed ℕ cs s t old new c.in-Err.fault
    c.requires.ready.opened.fresh.pending c.in-Err.ensures.value c.in-Err.ensures.err
    (c.in-Err.ensures.images c.requires.ready.opened.fresh.stale
    c.requires.ready.opened.fresh.pending))
