use Rattle.std.proofs.Common.{◌≡◌, ◌+◌, ℕ, [], drop, refl, arith, subst}
use Rattle.fmp_headers.specs.CapsuleHeader.{header_size}
use Rattle.capsule_feed.specs.Cursors.{Goes}
use Rattle.capsule_feed.proofs.CapsuleSteps.{ext_goes, ext_left}
use Rattle.capsule_feed.proofs.ItemSteps.{whole_le}
use Rattle.capsule_feed.proofs.capsules.begin_ext.Goals as goal

pub begin_body-requires : goal.begin_body-requires
begin_body-requires c = record {
  some = record {
    whole = c.requires.some.whole;
    holds = ext_left c.args.c c.requires.some.whole c.requires.some.holds;
  };
}

pub returns-then-c-eq-CAPSULE_HEADER_BYTES : goal.returns-then-c-eq-CAPSULE_HEADER_BYTES
returns-then-c-eq-CAPSULE_HEADER_BYTES c = λ whole h.
    let k = c.args.c in
    subst (λ (n : ℕ). Goes c.begin_body.result [] [] (k.start + n) whole)
    c.if-c-eq-CAPSULE_HEADER_BYTES.true (c.begin_body.ensures whole (ext_left k whole h))

pub returns : goal.returns
returns c = λ whole h.
    let k = c.args.c in
    let rest = drop k.start whole in
    let front = h.known.front in
    let all = whole_le k.start whole front in
    let at : c.place.result ≡ k.start + 28 =
    omega (arith, c.place.ensures, front.low, front.within, all, h.left.small, h.left.total) in
    let stop : c.place-2.result ≡ k.start + header_size rest =
    omega (arith, c.place-2.ensures, h.known.header, front.within, all, h.left.small, h.left.total) in
    ext_goes _ whole refl refl h.known at stop c.if-c-eq-CAPSULE_HEADER_BYTES.false h.left
