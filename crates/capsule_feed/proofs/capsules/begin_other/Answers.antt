use Rattle.std.proofs.Common.{◌≡◌, ◌+◌, ℕ, [], drop, refl, arith, subst}
use Rattle.fmp_headers.specs.CapsuleHeader.{header_size, image_size}
use Rattle.capsule_feed.specs.Cursors.{Goes}
use Rattle.capsule_feed.specs.declared.cursor.Cursor.{Cursor}
use Rattle.capsule_feed.specs.declared.span.SpanKind.TheVariants.{Other}
use Rattle.capsule_feed.proofs.CapsuleSteps.{other_end, other_goes}
use Rattle.capsule_feed.proofs.ItemSteps.{whole_le}
use Rattle.capsule_feed.proofs.capsules.begin_other.Goals as goal

pub returns-then-body_size-eq0 : goal.returns-then-body_size-eq0
returns-then-body_size-eq0 c = λ whole h.
    let k = c.args.c in
    let same : k.start + k.image_size ≡ k.start + k.header_size =
    omega (arith, c.if-body_size-eq0.true, c.body_size.ensures, h.header, h.image, h.front.within) in
    subst (λ (x : ℕ). Goes c.end_capsule.result [] [] x whole) same
    (c.end_capsule.ensures [] whole (other_end k whole h))

pub returns : goal.returns
returns c = λ whole h.
    let k = c.args.c in
    let rest = drop k.start whole in
    let all = whole_le k.start whole h.front in
    let at : c.place.result ≡ k.start + header_size rest =
    omega (arith, c.place.ensures, h.header, h.front.within, all, h.left.small, h.left.total) in
    let stop : c.place-2.result ≡ k.start + image_size rest =
    omega (arith, c.place-2.ensures, h.image, all, h.left.small, h.left.total) in
    let same : k.start + header_size rest ≡ k.start + k.header_size = omega (arith, h.header) in
    let next : Cursor = record k {
      kind = Other;
      item = 0;
      at = c.place.result;
      stop = c.place-2.result;
    } in
    subst (λ (x : ℕ). Goes next [] [] x whole) same
    (other_goes next whole refl refl h.front h.image at stop
    (λ e. c.if-body_size-eq0.false
    (omega (arith, at, stop, e, c.body_size.ensures, h.header, h.image, h.front.within)))
    h.left)
