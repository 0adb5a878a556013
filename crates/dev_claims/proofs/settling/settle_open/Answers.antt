use Rattle.std.proofs.Common.{rules, ◌≡◌, List, refl, sym, ap, ◌∙◌, subst, Some, None, Ok}
use Rattle.std.specs.Prelude.{Option, is_some}
use Rattle.dev_claims.specs.Committing.{HasCommitted, LeavesStore, moves_of_commit}
use Rattle.dev_claims.specs.Claimed.{open_claim_of}
use Rattle.dev_claims.specs.Ended.{IsAttemptEnd, claim_settled, open_settled}
use Rattle.dev_claims.proofs.OpenClaims.{as_open, open_claim_is}
use Rattle.dev_claims.proofs.Settled.{banks_same, slot_kept}
use Rattle.dev_claims.proofs.Settled.{counts_then, leaves_told, may_past, moves_past, settled_is}
use Rattle.dev_claims.proofs.Settled.{settled_some, shown_end, unmoved_past, written_past}
use Rattle.reference_machine.specs.declared.unit.UnitLine.{UnitLine}
use Rattle.var_log.specs.declared.change.Change.{Change}
use Rattle.var_store.proofs.WriteLemmas.{on_err}
use Rattle.var_store.specs.Stores.{variables_of}
use Rattle.var_store.specs.Writes.{MayHaveWritten}
use Rattle.dev_claims.proofs.settling.settle_open.Goals as goal

pub returns-in_err-claim-clause-images : goal.returns-in_err-claim-clause-images
returns-in_err-claim-clause-images g c = λ told fresh none.
    let bench = g.W.BenchState.state c.args.flash.now in
    on_err c.from_residual.result (unmoved_past (open_settled g.S.SlotForm.slot_of
    c.args.board.now c.args.now.now c.args.store.now bench) c.args.store.now.log.pending
    c.args.store.now.log bench bench refl none (c.requires.stands fresh).log.lies)

pub returns-in-None-clause-none : goal.returns-in-None-clause-none
returns-in-None-clause-none g c =
    let none : open_claim_of c.args.board.now (variables_of c.args.store.now) ≡ None = search rules
    in
    sym (ap is_some none) ∙ as_open c.args.board.now (variables_of c.args.store.now)

pub look-requires : goal.look-requires
look-requires g c =
    let is : open_claim_of c.args.board.now (variables_of c.args.store.now)
    ≡ Some c.in-Some.claim = search rules in
    record {
      there = c.requires.slots c.in-Some.claim.key.device
          (open_claim_is c.args.board.now (variables_of c.args.store.now) c.in-Some.claim is).device;
    }

pub returns-in-Err-clause-images : goal.returns-in-Err-clause-images
returns-in-Err-clause-images g c = λ told fresh none.
    let bench = g.W.BenchState.state c.args.flash.now in
    unmoved_past (open_settled g.S.SlotForm.slot_of c.args.board.now c.args.now.now
    c.args.store.now bench) c.args.store.now.log.pending c.args.store.now.log bench
    (g.W.BenchState.state c.look.new.flash) c.look.ensures.frame.contents none
    (c.requires.stands fresh).log.lies

pub settle_claim-requires-clause-device : goal.settle_claim-requires-clause-device
settle_claim-requires-clause-device g c =
    let is : open_claim_of c.args.board.now (variables_of c.args.store.now)
    ≡ Some c.in-Some.claim = search rules in
    (open_claim_is c.args.board.now (variables_of c.args.store.now) c.in-Some.claim is).device

pub settle_claim-requires-clause-name : goal.settle_claim-requires-clause-name
settle_claim-requires-clause-name g c =
    let is : open_claim_of c.args.board.now (variables_of c.args.store.now)
    ≡ Some c.in-Some.claim = search rules in
    (open_claim_is c.args.board.now (variables_of c.args.store.now) c.in-Some.claim is).name

pub settle_claim-requires-clause-end : goal.settle_claim-requires-clause-end
settle_claim-requires-clause-end g c =
    subst IsAttemptEnd (sym c.end_shown-end.ensures)
    (shown_end c.in-Some.claim.key.ticket c.in-Ok.slot)

pub returns-in_err-line-clause-images : goal.returns-in_err-line-clause-images
returns-in_err-line-clause-images g c = λ told fresh none.
    let is : open_claim_of c.args.board.now (variables_of c.args.store.now)
    ≡ Some c.in-Some.claim = search rules in
    let old = g.W.BenchState.state c.args.flash.now in
    let mid = g.W.BenchState.state c.look.new.flash in
    let new = g.W.BenchState.state c.settle_claim.new.flash in
    on_err c.from_residual-in_err-line.result
    (subst (λ (cs : List Change). MayHaveWritten cs c.settle_claim.new.store.log.pending old new)
    (settled_is g.S.SlotForm.slot_of c.args.board.now c.args.now.now c.args.store.now old
    c.in-Some.claim c.in-Ok.slot c.end_shown-end.result is (c.in-Ok.ensures.value told)
    c.end_shown-end.ensures)
    (may_past (claim_settled c.args.board.now (variables_of c.args.store.now) c.args.now.now
    c.in-Some.claim c.end_shown-end.result) c.settle_claim.new.store.log.pending old mid new
    c.look.ensures.frame.contents (c.in_err-line.ensures.images fresh none)))

pub returns-clause-value : goal.returns-clause-value
returns-clause-value g c = λ told.
    let is : open_claim_of c.args.board.now (variables_of c.args.store.now)
    ≡ Some c.in-Some.claim = search rules in
    let cs = claim_settled c.args.board.now (variables_of c.args.store.now) c.args.now.now
    c.in-Some.claim c.end_shown-end.result in
    subst (λ (x : List Change). LeavesStore {T = Option UnitLine} x c.args.store.now
    c.settle_claim.new.store (Ok (Some c.in_ok-line.line)))
    (settled_is g.S.SlotForm.slot_of c.args.board.now c.args.now.now c.args.store.now
    (g.W.BenchState.state c.args.flash.now) c.in-Some.claim c.in-Ok.slot c.end_shown-end.result is
    (c.in-Ok.ensures.value told) c.end_shown-end.ensures)
    (leaves_told {T = UnitLine} {V = Option UnitLine} cs c.args.store.now c.settle_claim.new.store
    c.in_ok-line.line (Some c.in_ok-line.line) c.in_ok-line.ensures.value)

pub returns-clause-durable : goal.returns-clause-durable
returns-clause-durable g c = λ told.
    let is : open_claim_of c.args.board.now (variables_of c.args.store.now)
    ≡ Some c.in-Some.claim = search rules in
    let old = g.W.BenchState.state c.args.flash.now in
    let mid = g.W.BenchState.state c.look.new.flash in
    let new = g.W.BenchState.state c.settle_claim.new.flash in
    subst (λ (x : List Change). HasCommitted x old new)
    (settled_is g.S.SlotForm.slot_of c.args.board.now c.args.now.now c.args.store.now old
    c.in-Some.claim c.in-Ok.slot c.end_shown-end.result is (c.in-Ok.ensures.value told)
    c.end_shown-end.ensures)
    (written_past (claim_settled c.args.board.now (variables_of c.args.store.now) c.args.now.now
    c.in-Some.claim c.end_shown-end.result) old mid new c.look.ensures.frame.contents
    c.in_ok-line.ensures.durable)

pub returns-clause-frame : goal.returns-clause-frame
returns-clause-frame g c =
    counts_then (g.W.BenchState.state c.args.flash.now) (g.W.BenchState.state c.look.new.flash)
    (g.W.BenchState.state c.settle_claim.new.flash) c.look.ensures.frame
    c.settle_claim.ensures.frame

pub returns-clause-moves : goal.returns-clause-moves
returns-clause-moves g c = λ told.
    let is : open_claim_of c.args.board.now (variables_of c.args.store.now)
    ≡ Some c.in-Some.claim = search rules in
    let old = (g.W.BenchState.state c.args.flash.now).counts.moves in
    let mid = (g.W.BenchState.state c.look.new.flash).counts.moves in
    let new = (g.W.BenchState.state c.settle_claim.new.flash).counts.moves in
    let cs = claim_settled c.args.board.now (variables_of c.args.store.now) c.args.now.now
    c.in-Some.claim c.end_shown-end.result in
    subst (λ (x : List Change). new ≡ moves_of_commit x c.args.store.now old)
    (settled_is g.S.SlotForm.slot_of c.args.board.now c.args.now.now c.args.store.now
    (g.W.BenchState.state c.args.flash.now) c.in-Some.claim c.in-Ok.slot c.end_shown-end.result is
    (c.in-Ok.ensures.value told) c.end_shown-end.ensures)
    (moves_past cs c.args.store.now old mid new (settled_some c.args.board.now
    (variables_of c.args.store.now) c.args.now.now c.in-Some.claim c.end_shown-end.result)
    c.look.ensures.counts.most_moves.least c.look.ensures.counts.most_moves.most
    c.in_ok-line.ensures.moves)

pub returns-in_err-claim-clause-slot : goal.returns-in_err-claim-clause-slot
returns-in_err-claim-clause-slot g c = λ d first.
    let old = g.W.BenchState.state c.args.flash.now in
    slot_kept g.S.SlotForm.slot_of d old old (banks_same old) (c.requires.stable d first)

pub returns-in-None-clause-slot : goal.returns-in-None-clause-slot
returns-in-None-clause-slot g c = λ d first.
    let old = g.W.BenchState.state c.args.flash.now in
    slot_kept g.S.SlotForm.slot_of d old old (banks_same old) (c.requires.stable d first)

pub returns-in-Err-clause-slot : goal.returns-in-Err-clause-slot
returns-in-Err-clause-slot g c = λ d first.
    let old = g.W.BenchState.state c.args.flash.now in
    let mid = g.W.BenchState.state c.look.new.flash in
    slot_kept g.S.SlotForm.slot_of d old mid
    (counts_then old mid mid c.look.ensures.frame (banks_same mid)) (c.requires.stable d first)

pub returns-in_err-line-clause-slot : goal.returns-in_err-line-clause-slot
returns-in_err-line-clause-slot g c = λ d first.
    let old = g.W.BenchState.state c.args.flash.now in
    let mid = g.W.BenchState.state c.look.new.flash in
    let new = g.W.BenchState.state c.settle_claim.new.flash in
    slot_kept g.S.SlotForm.slot_of d old new
    (counts_then old mid new c.look.ensures.frame c.settle_claim.ensures.frame)
    (c.requires.stable d first)

pub returns-clause-slot : goal.returns-clause-slot
returns-clause-slot g c = λ d first.
    let old = g.W.BenchState.state c.args.flash.now in
    let mid = g.W.BenchState.state c.look.new.flash in
    let new = g.W.BenchState.state c.settle_claim.new.flash in
    slot_kept g.S.SlotForm.slot_of d old new
    (counts_then old mid new c.look.ensures.frame c.settle_claim.ensures.frame)
    (c.requires.stable d first)
