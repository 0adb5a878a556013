use Rattle.std.proofs.Common.{◌≡◌, ◌∙◌, ap, sym, subst, ℕ, ◌+◌, Some, false}
use Rattle.std.specs.Prelude.{Option}
use Rattle.std.proofs.lemmas.Result.{err_from_is_err_and}
use Rattle.var_store.specs.Answers.{has_room, with_room_for}
use Rattle.var_store.specs.Stores.{HeldStore}
use Rattle.var_store.specs.Writes.{AnswersPrepared, MayHaveWritten}
use Rattle.var_store.proofs.WriteLemmas.{banks_then, has_written, may_have_written}
use Rattle.var_store.proofs.WriteLemmas.{on_err, room_usable, stopped_is, written_is}
use Rattle.var_store.proofs.store.VarStore.write_prepared.Goals as goal

pub returns-in_err-commit-clause-images : goal.returns-in_err-commit-clause-images
returns-in_err-commit-clause-images g c = λ fresh none.
    let old = g.F.BenchState.state c.args.flash.now in
    let mid = g.F.BenchState.state c.room_for.new.flash in
    let new = g.F.BenchState.state c.commit.new.flash in
    let room = c.in_ok-room_for.ensures.value
    ∙ ap (λ (n : ℕ). with_room_for n c.args.self.now) c.bytes.ensures.value in
    let doubt = (stopped_is c.args.prepared c.args.self.now c.room_for.new.self c.commit.new.self
    room fresh c.in_err-commit.field-0.0 c.in_err-commit.ensures.value
    c.in_err-commit.ensures.refused).1 in
    let usable = room_usable c.args.prepared.size c.args.self.now c.room_for.new.self room fresh in
    on_err c.from_residual-in_err-commit.result (subst (λ (pending : Option ℕ).
    MayHaveWritten c.args.prepared.changes pending old new) (sym doubt)
    (may_have_written old mid new c.commit.ensures.frame.told (c.room_for.ensures.images fresh)
    c.args.prepared.changes (c.commit.ensures.images usable) (c.args.self.now.log.seq + 1)))

pub returns-in_err-commit-clause-refused : goal.returns-in_err-commit-clause-refused
returns-in_err-commit-clause-refused g c =
    let room = c.in_ok-room_for.ensures.value
    ∙ ap (λ (n : ℕ). with_room_for n c.args.self.now) c.bytes.ensures.value in
    let fresh = c.in_ok-room_for.ensures.refused.0 in
    let flash = (stopped_is c.args.prepared c.args.self.now c.room_for.new.self c.commit.new.self
    room fresh c.in_err-commit.field-0.0 c.in_err-commit.ensures.value
    c.in_err-commit.ensures.refused).0 in
    let p = err_from_is_err_and c.from_residual-in_err-commit.result
    c.from_residual-in_err-commit.ensures.1 in
    let there = ap (λ (n : ℕ). has_room n c.args.self.now) (sym c.bytes.ensures.value)
    ∙ c.in_ok-room_for.ensures.refused.1 in
    rw (p.1, p.2, flash) (fresh, there)

pub returns-in_err-commit-clause-frame : goal.returns-in_err-commit-clause-frame
returns-in_err-commit-clause-frame g c =
    banks_then (g.F.BenchState.state c.args.flash.now) (g.F.BenchState.state c.room_for.new.flash)
    (g.F.BenchState.state c.commit.new.flash) c.room_for.ensures.frame c.commit.ensures.frame

pub returns-clause-value : goal.returns-clause-value
returns-clause-value g c =
    written_is c.args.prepared.size c.args.prepared.changes c.args.self.now c.room_for.new.self
    c.commit.new.self
    (c.in_ok-room_for.ensures.value
    ∙ ap (λ (n : ℕ). with_room_for n c.args.self.now) c.bytes.ensures.value)
    c.in_ok-room_for.ensures.refused.0 c.in_ok-commit.ensures.value

pub returns-clause-durable : goal.returns-clause-durable
returns-clause-durable g c =
    has_written (g.F.BenchState.state c.args.flash.now) (g.F.BenchState.state c.room_for.new.flash)
    (g.F.BenchState.state c.commit.new.flash) c.commit.ensures.frame.told
    (c.room_for.ensures.images c.in_ok-room_for.ensures.refused.0)
    c.args.prepared.changes c.in_ok-commit.ensures.durable

pub returns-clause-frame : goal.returns-clause-frame
returns-clause-frame g c =
    banks_then (g.F.BenchState.state c.args.flash.now) (g.F.BenchState.state c.room_for.new.flash)
    (g.F.BenchState.state c.commit.new.flash) c.room_for.ensures.frame c.commit.ensures.frame
