use Rattle.std.proofs.Common.{◌≡◌, ◌∷◌, ◌++◌, ℕ, [], List, Some, None, drop, sym, ap, ◌∙◌}
use Rattle.std.proofs.Common.{subst}
use Rattle.std.proofs.lemmas.List.{drop-append-le}
use Rattle.fmp_headers.specs.CapsuleHeader.{header_size}
use Rattle.cu_base.specs.Refusals.{first_refusal}
use Rattle.capsule_grammar.specs.Refusals.{body_of, offset, offset_rows}
use Rattle.capsule_feed.specs.Cursors.{Goes, InOffsets, PastOffset}
use Rattle.capsule_feed.proofs.OffsetSteps.{offset_kept, offset_read, offset_refused}
use Rattle.capsule_feed.proofs.turning.turn_offset.Goals as goal

pub returns-in_ok-push-in-Ok-clause-ok : goal.returns-in_ok-push-in-Ok-clause-ok
returns-in_ok-push-in-Ok-clause-ok c = λ whole s h within.
    let k = c.args.c in
    let old = c.args.list.now in
    let from = c.args.from in
    let head = c.args.head.now in
    let rest = drop k.start whole in
    let body = body_of rest in
    let here = c.u64_at-here.result in
    let read : offset body k.tested ≡ here =
    offset_read k (drop from old) head whole s h ∙ sym c.u64_at-here.ensures in
    let inside : InOffsets k c.own.result.now whole =
    subst (λ (l : List ℕ). InOffsets k l whole) (sym c.own.ensures) s in
    let none : first_refusal (offset_rows body (header_size rest) k.tested) ≡ None =
    c.in-Ok.ensures.refused whole inside read in
    let now : drop from c.push.new.self ≡ drop from old ++ here ∷ [] =
    ap (drop from) c.in_ok-push-in-Ok.ensures.ok
    ∙ drop-append-le from old (here ∷ []) c.requires.within in
    let past : PastOffset k (drop from old ++ here ∷ []) whole =
    offset_kept k (drop from old) head whole here s read none in
    let past2 : PastOffset k c.own-in-Ok.result.now whole =
    subst (λ (l : List ℕ). PastOffset k l whole) (sym (c.own-in-Ok.ensures ∙ now)) past in
    subst (λ (l : List ℕ). Goes c.after_offset.result l [] k.stop whole) c.own-in-Ok.ensures
    (c.after_offset.ensures whole past2)

pub returns-in-Err-clause-ok : goal.returns-in-Err-clause-ok
returns-in-Err-clause-ok c = λ whole s h within.
    let k = c.args.c in
    let old = c.args.list.now in
    let from = c.args.from in
    let head = c.args.head.now in
    let rest = drop k.start whole in
    let body = body_of rest in
    let here = c.u64_at-here.result in
    let r = c.in-Err.refusal in
    let read : offset body k.tested ≡ here =
    offset_read k (drop from old) head whole s h ∙ sym c.u64_at-here.ensures in
    let inside : InOffsets k c.own.result.now whole =
    subst (λ (l : List ℕ). InOffsets k l whole) (sym c.own.ensures) s in
    let refused : first_refusal (offset_rows body (header_size rest) k.tested) ≡ Some (r.at, r.why) =
    c.in-Err.ensures.refused whole inside read in
    rw (c.tells.ensures)
    (offset_refused k (drop from old) whole r c.saturating_sub.result s refused c.saturating_sub.ensures)
