use Rattle.std.proofs.Common.{◌≡◌, sym, arith, ◌∙◌, ap, ℕ, ◌+◌, [], drop, subst}
use Rattle.fmp_headers.specs.CapsuleHeader.{image_size}
use Rattle.capsule_feed.specs.Cursors.{Goes, IsBetween}
use Rattle.capsule_feed.proofs.CapsuleSteps.{next_between, ended, end_place}
use Rattle.capsule_feed.proofs.capsules.end_capsule.Goals as goal

pub returns-then-next-c : goal.returns-then-next-c
returns-then-next-c c = λ own whole h.
    let k = c.args.c in
    let next = c.place-next.result in
    let e : next ≡ k.start + image_size (drop k.start whole) =
    end_place k whole next h c.place-next.ensures in
    let number : c.saturating_add.result ≡ k.capsule + 1 =
    omega (arith, c.saturating_add.ensures, h.left.few) in
    let b : IsBetween k.total c.saturating_add.result next whole =
    rw number (next_between k next whole h e c.if-next-c.true) in
    let same : next ≡ k.start + k.image_size = e ∙ ap (λ (n : ℕ). k.start + n) (sym h.image) in
    subst (λ (x : ℕ). Goes c.begin_capsule.result own [] x whole) same
    (c.begin_capsule.ensures own whole b)

pub returns : goal.returns
returns c = λ own whole h.
    let k = c.args.c in
    let next = c.place-next.result in
    let e : next ≡ k.start + image_size (drop k.start whole) =
    end_place k whole next h c.place-next.ensures in
    let same : k.start + image_size (drop k.start whole) ≡ k.start + k.image_size =
    ap (λ (n : ℕ). k.start + n) (sym h.image) in
    rw (← same) (ended k next own whole h e c.if-next-c.false)
