use Rattle.std.proofs.Common.{◌≡◌, ℕ, [], Some, None, drop, length, sym, ◌∙◌, arith, subst}
use Rattle.std.proofs.lemmas.List.{length-drop}
use Rattle.fmp_headers.specs.CapsuleHeader.{capsule_header}
use Rattle.cu_base.specs.Refusals.{first_refusal}
use Rattle.capsule_grammar.specs.Refusals.{capsule_rows}
use Rattle.capsule_feed.specs.Cursors.{Goes, InHeader}
use Rattle.capsule_feed.proofs.CapsuleSteps.{header_known, header_read, header_refused}
use Rattle.capsule_feed.proofs.capsules.after_header.Goals as goal

pub begin_ext-requires : goal.begin_ext-requires
begin_ext-requires c =
    let k = c.args.c in
    let head = c.args.head.now in
    let whole = c.requires.some.whole in
    let s : InHeader k whole = c.requires.some.holds.0 in
    let rest = drop k.start whole in
    let read : capsule_header rest ≡ c.read.result =
    header_read k head whole s c.requires.some.holds.1 ∙ sym c.read.ensures.value in
    let long : length rest ≡ c.saturating_sub-size.result =
    omega (arith, length-drop k.start whole, c.saturating_sub-size.ensures, s.left.total) in
    let h = c.in-Ok.header in
    let none : first_refusal (capsule_rows rest) ≡ None = c.in-Ok.ensures.refused rest read long in
    let known = header_known k head whole h c.is_fmp_guid.result s none (read ∙ c.in-Ok.ensures.ok)
    c.is_fmp_guid.ensures in
    record { some = record { whole = whole; holds = record { known = known.1; left = known.2 } } }

pub returns-in-Ok : goal.returns-in-Ok
returns-in-Ok c = λ whole s gathered.
    let k = c.args.c in
    let head = c.args.head.now in
    let rest = drop k.start whole in
    let read : capsule_header rest ≡ c.read.result =
    header_read k head whole s gathered ∙ sym c.read.ensures.value in
    let long : length rest ≡ c.saturating_sub-size.result =
    omega (arith, length-drop k.start whole, c.saturating_sub-size.ensures, s.left.total) in
    let h = c.in-Ok.header in
    let none : first_refusal (capsule_rows rest) ≡ None = c.in-Ok.ensures.refused rest read long in
    let known = header_known k head whole h c.is_fmp_guid.result s none (read ∙ c.in-Ok.ensures.ok)
    c.is_fmp_guid.ensures in
    subst (λ (x : ℕ). Goes c.begin_ext.result [] [] x whole) (sym known.0)
    (c.begin_ext.ensures whole (record { known = known.1; left = known.2 }))

pub returns-in-Err : goal.returns-in-Err
returns-in-Err c = λ whole s gathered.
    let k = c.args.c in
    let head = c.args.head.now in
    let rest = drop k.start whole in
    let read : capsule_header rest ≡ c.read.result =
    header_read k head whole s gathered ∙ sym c.read.ensures.value in
    let long : length rest ≡ c.saturating_sub-size.result =
    omega (arith, length-drop k.start whole, c.saturating_sub-size.ensures, s.left.total) in
    let r = c.in-Err.refusal in
    let refused : first_refusal (capsule_rows rest) ≡ Some (r.at, r.why) =
    c.in-Err.ensures.refused rest read long in
    rw (c.tells.ensures)
    (header_refused k whole r c.min.result s refused (omega (arith, c.min.ensures, long)))
