use Rattle.std.proofs.Common.{◌≡◌, ◌≤◌, ◌+◌, ◌-◌, ℕ, Some, None, drop, sym, arith}
use Rattle.std.proofs.Common.{subst}
use Rattle.fmp_headers.specs.CapsuleHeader.{image_size}
use Rattle.cu_base.specs.Refusals.{first_refusal}
use Rattle.capsule_grammar.specs.Fronts.{Begins}
use Rattle.capsule_grammar.specs.Refusals.{body_of, image_rows, item}
use Rattle.capsule_feed.specs.Told.{image_reach}
use Rattle.capsule_feed.specs.Cursors.{place_of}
use Rattle.capsule_feed.proofs.ItemSteps.{place_le, whole_le}
use Rattle.capsule_feed.proofs.ImageSteps.{image_refused, start_begins}
use Rattle.capsule_feed.proofs.items.after_image_start.Goals as goal

pub returns-in-Ok : goal.returns-in-Ok
returns-in-Ok c = λ whole s h.
    let k = c.args.c in
    let own = c.args.own.now in
    let head = c.args.head.now in
    let image = item (body_of (drop k.start whole)) k.item in
    let b : Begins head (k.item_end - k.at) image = start_begins k own head whole s h in
    let size : Begins head c.saturating_sub-size.result image =
    subst (λ (n : ℕ). Begins head n image) (sym c.saturating_sub-size.ensures) b in
    let none : first_refusal (image_rows image (k.at - k.start)) ≡ None =
    subst (λ (n : ℕ). first_refusal (image_rows image n) ≡ None) c.saturating_sub-at.ensures
    (c.in-Ok.ensures image size) in
    c.known_image.ensures whole s h none

pub returns-in-Err : goal.returns-in-Err
returns-in-Err c = λ whole s h.
    let k = c.args.c in
    let own = c.args.own.now in
    let head = c.args.head.now in
    let rest = drop k.start whole in
    let image = item (body_of rest) k.item in
    let r = c.in-Err.refusal in
    let b : Begins head (k.item_end - k.at) image = start_begins k own head whole s h in
    let size : Begins head c.saturating_sub-size.result image =
    subst (λ (n : ℕ). Begins head n image) (sym c.saturating_sub-size.ensures) b in
    let refused : first_refusal (image_rows image (k.at - k.start)) ≡ Some (r.at, r.why) =
    subst (λ (n : ℕ). first_refusal (image_rows image n) ≡ Some (r.at, r.why)) c.saturating_sub-at.ensures
    (c.in-Err.ensures image size) in
    let far : c.image_reach.result ≡ image_reach image = c.image_reach.ensures image size in
    let there : place_of k.start rest (k.item + 1) ≤ k.start + image_size rest =
    place_le k.start rest (k.item + 1) s.items.fmp.front s.items.bounds
    (omega (arith, s.here, s.items.fmp.items)) in
    let all = whole_le k.start whole s.items.fmp.front in
    let within : image_reach image ≤ k.item_end - k.at = omega (arith, b.long) in
    let reach : c.saturating_add.result ≡ (k.at - k.start) + image_reach image =
    omega (
      arith,
      c.saturating_add.ensures,
      c.saturating_sub-at.ensures,
      far,
      within,
      s.end,
      s.at,
      there,
      all,
      s.left.small,
      s.left.total,
    ) in
    rw (c.tells.ensures) (image_refused k own head whole r c.saturating_add.result s.kind s h refused reach)
