use Rattle.std.proofs.Common.{◌≡◌, ◌+◌, ◌-◌, ℕ, [], Some, None, drop, sym}
use Rattle.std.proofs.Common.{◌∙◌, arith, subst}
use Rattle.fmp_headers.specs.CapsuleHeader.{header_size}
use Rattle.cu_base.specs.Refusals.{first_refusal}
use Rattle.capsule_grammar.specs.Fronts.{Begins}
use Rattle.capsule_grammar.specs.Refusals.{body_of, fmp_front_rows}
use Rattle.capsule_feed.specs.Cursors.{Goes}
use Rattle.capsule_feed.proofs.FrontSteps.{fmp_begins, fmp_known, fmp_refused, list_refused}
use Rattle.capsule_feed.proofs.fronts.after_fmp_head.Goals as goal

pub returns-in-Ok : goal.returns-in-Ok
returns-in-Ok c = λ whole s h.
    let k = c.args.c in
    let head = c.args.head.now in
    let rest = drop k.start whole in
    let body = body_of rest in
    let b : Begins head (k.image_size - k.header_size) body = fmp_begins k head whole s h in
    let size : Begins head c.body_size-size.result body =
    subst (λ (n : ℕ). Begins head n body) (sym c.body_size-size.ensures) b in
    let none : first_refusal (fmp_front_rows body (header_size rest)) ≡ None =
    subst (λ (n : ℕ). first_refusal (fmp_front_rows body n) ≡ None) s.header
    (c.in-Ok.ensures.refused body size) in
    let known = fmp_known k head whole c.driver_count.result c.item_count.result s h none
    (c.in-Ok.ensures.ok.1) c.driver_count.ensures c.item_count.ensures.value in
    let place : k.start + k.header_size + 8 ≡ k.stop = omega (arith, s.header, known.0) in
    subst (λ (x : ℕ). Goes c.begin_offsets.result [] [] x whole) place
    (c.begin_offsets.ensures whole (record { known = known.1; left = known.2 }))

pub returns-then-refusal-c : goal.returns-then-refusal-c
returns-then-refusal-c c = λ whole s h.
    let k = c.args.c in
    let head = c.args.head.now in
    let rest = drop k.start whole in
    let body = body_of rest in
    let r = c.in-Err.refusal in
    let b : Begins head (k.image_size - k.header_size) body = fmp_begins k head whole s h in
    let size : Begins head c.body_size-size.result body =
    subst (λ (n : ℕ). Begins head n body) (sym c.body_size-size.ensures) b in
    let refused : first_refusal (fmp_front_rows body (header_size rest)) ≡ Some (r.at, r.why) =
    subst (λ (n : ℕ). first_refusal (fmp_front_rows body n) ≡ Some (r.at, r.why)) s.header
    (c.in-Err.ensures.refused body size) in
    rw (c.tells.ensures)
    (fmp_refused k whole r (k.header_size + c.min.result) s refused (c.if-refusal-c.true ∙ s.header)
    (omega (arith, c.min.ensures, c.body_size-size.ensures, b.long, s.header)))

pub returns-else-refusal-c : goal.returns-else-refusal-c
returns-else-refusal-c c = λ whole s h.
    let k = c.args.c in
    let head = c.args.head.now in
    let rest = drop k.start whole in
    let body = body_of rest in
    let r = c.in-Err.refusal in
    let b : Begins head (k.image_size - k.header_size) body = fmp_begins k head whole s h in
    let size : Begins head c.body_size-size.result body =
    subst (λ (n : ℕ). Begins head n body) (sym c.body_size-size.ensures) b in
    let refused : first_refusal (fmp_front_rows body (header_size rest)) ≡ Some (r.at, r.why) =
    subst (λ (n : ℕ). first_refusal (fmp_front_rows body n) ≡ Some (r.at, r.why)) s.header
    (c.in-Err.ensures.refused body size) in
    rw (c.tells-in-Err.ensures)
    (list_refused k whole r s refused (λ e. c.if-refusal-c.false (e ∙ sym s.header)))
