use Rattle.std.proofs.Common.{rules, ◌≡◌, ◌<◌, ◌^◌, subst, Err, ℕ}
use Rattle.bench_play.proofs.OutsideEvents.{as_told}
use Rattle.bench_play.proofs.StageEvents.{refused, resources, stage_cut, stage_fails, stage_happens}
use Rattle.bench_play.proofs.StageEvents.{stage_refuses}
use Rattle.reference_machine.specs.TraceValues.AnswerValue.{Invalid, Resources, Unsupported}
use Rattle.update_inbox.specs.Answers.{NotesOpened}
use Rattle.update_inbox.specs.Staging.{StagingAnswers}
use Rattle.update_inbox.specs.declared.fault.InboxFault.{InboxFault}
use Rattle.update_inbox.specs.declared.fault.InboxFault.TheVariants as inbox
use Rattle.bench_play.proofs.requests.stage.Goals as goal

pub returns-in-Ok-clause-does : goal.returns-in-Ok-clause-does
returns-in-Ok-clause-does g c x bytes_of board formats =
    let state = g.W.BenchState.state in
    let wide : c.args.at < 2 ^ 64 = search rules in
    as_told c.noted.ensures (stage_happens x bytes_of c.args.at wide formats board c.args.known.now
    (state c.args.bench.now) (state c.update_capsule.new.bench) c.update_capsule.ensures.frame
    c.in-Ok.serial c.update_capsule.new.note.opened c.in-Ok.ensures.noted
    c.update_capsule.ensures.opening c.in-Ok.ensures.read c.in-Ok.ensures.refused.0
    c.in-Ok.ensures.refused.1)

pub returns-in-Err-Invalid-clause-does : goal.returns-in-Err-Invalid-clause-does
returns-in-Err-Invalid-clause-does g c x bytes_of board formats =
    let state = g.W.BenchState.state in
    let old = state c.args.bench.now in
    let wide : c.args.at < 2 ^ 64 = search rules in
    let note = c.update_capsule.new.note in
    let same : c.in-Err-Invalid.field-0 ≡ inbox.Invalid = search rules in
    let is : StagingAnswers c.args.at old (Err inbox.Invalid) =
    subst (λ (f : InboxFault). StagingAnswers c.args.at old (Err f)) same
    c.in-Err-Invalid.ensures.refused in
    let some : NotesOpened {T = ℕ} (Err inbox.Invalid) note.opened =
    subst (λ (f : InboxFault). NotesOpened {T = ℕ} (Err f) note.opened) same
    c.in-Err-Invalid.ensures.noted in
    as_told c.noted-in-Err-Invalid.ensures (stage_refuses x bytes_of c.args.at wide formats board
    c.args.known.now old (state c.update_capsule.new.bench) c.update_capsule.ensures.frame
    Invalid note.opened note.pending some c.update_capsule.ensures.opening
    c.in-Err-Invalid.ensures.kept c.update_capsule.ensures.taken
    (λ m reads. refused x formats old c.args.at m reads Invalid is))

pub returns-in-Err-Unsupported-clause-does : goal.returns-in-Err-Unsupported-clause-does
returns-in-Err-Unsupported-clause-does g c x bytes_of board formats =
    let state = g.W.BenchState.state in
    let old = state c.args.bench.now in
    let wide : c.args.at < 2 ^ 64 = search rules in
    let note = c.update_capsule.new.note in
    let same : c.in-Err-Unsupported.field-0 ≡ inbox.Unsupported = search rules in
    let is : StagingAnswers c.args.at old (Err inbox.Unsupported) =
    subst (λ (f : InboxFault). StagingAnswers c.args.at old (Err f)) same
    c.in-Err-Unsupported.ensures.refused in
    let some : NotesOpened {T = ℕ} (Err inbox.Unsupported) note.opened =
    subst (λ (f : InboxFault). NotesOpened {T = ℕ} (Err f) note.opened) same
    c.in-Err-Unsupported.ensures.noted in
    as_told c.noted-in-Err-Unsupported.ensures (stage_refuses x bytes_of c.args.at wide formats
    board c.args.known.now old (state c.update_capsule.new.bench) c.update_capsule.ensures.frame
    Unsupported note.opened note.pending some c.update_capsule.ensures.opening
    c.in-Err-Unsupported.ensures.kept c.update_capsule.ensures.taken
    (λ m reads. refused x formats old c.args.at m reads Unsupported is))

pub returns-in-Err-Resources-clause-does : goal.returns-in-Err-Resources-clause-does
returns-in-Err-Resources-clause-does g c x bytes_of board formats =
    let state = g.W.BenchState.state in
    let old = state c.args.bench.now in
    let wide : c.args.at < 2 ^ 64 = search rules in
    let note = c.update_capsule.new.note in
    let same : c.in-Err-Resources.field-0 ≡ inbox.Resources = search rules in
    let is : StagingAnswers c.args.at old (Err inbox.Resources) =
    subst (λ (f : InboxFault). StagingAnswers c.args.at old (Err f)) same
    c.in-Err-Resources.ensures.refused in
    let some : NotesOpened {T = ℕ} (Err inbox.Resources) note.opened =
    subst (λ (f : InboxFault). NotesOpened {T = ℕ} (Err f) note.opened) same
    c.in-Err-Resources.ensures.noted in
    as_told c.noted-in-Err-Resources.ensures (stage_refuses x bytes_of c.args.at wide formats board
    c.args.known.now old (state c.update_capsule.new.bench) c.update_capsule.ensures.frame
    Resources note.opened note.pending some c.update_capsule.ensures.opening
    c.in-Err-Resources.ensures.kept c.update_capsule.ensures.taken
    (λ m reads. resources x formats old c.args.at m reads is.0 is.1))

pub returns-in-Err-Flash-clause-does : goal.returns-in-Err-Flash-clause-does
returns-in-Err-Flash-clause-does g c x bytes_of board formats =
    let state = g.W.BenchState.state in
    let wide : c.args.at < 2 ^ 64 = search rules in
    let note = c.update_capsule.new.note in
    as_told c.noted-in-Err-Flash.ensures (stage_fails x bytes_of c.args.at wide formats board
    c.args.known.now (state c.args.bench.now) (state c.update_capsule.new.bench)
    c.update_capsule.ensures.frame note.opened note.pending c.in-Err-Flash.ensures.images
    c.in-Err-Flash.ensures.kept c.update_capsule.ensures.opening c.update_capsule.ensures.pending
    c.update_capsule.ensures.taken)

pub returns-in-Err-clause-does : goal.returns-in-Err-clause-does
returns-in-Err-clause-does g c x bytes_of board formats =
    let state = g.W.BenchState.state in
    let wide : c.args.at < 2 ^ 64 = search rules in
    let note = c.update_capsule.new.note in
    stage_cut x bytes_of c.args.at wide formats board c.args.known.now (state c.args.bench.now)
    (state c.update_capsule.new.bench) c.update_capsule.ensures.frame note.opened note.pending
    c.in-Err.ensures.images c.in-Err.ensures.kept c.update_capsule.ensures.opening
    c.update_capsule.ensures.pending c.update_capsule.ensures.taken
