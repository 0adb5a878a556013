use Rattle.std.proofs.Common.{◌≡◌, ◌+◌, ℕ, [], drop, arith, subst}
use Rattle.capsule_feed.specs.Cursors.{AtFmpHead, Goes, InFmpHead}
use Rattle.capsule_feed.specs.declared.cursor.Cursor.{Cursor}
use Rattle.capsule_feed.specs.declared.span.SpanKind.TheVariants.{FmpHead}
use Rattle.capsule_feed.proofs.CapsuleSteps.{fmp_goes, fmp_in}
use Rattle.capsule_feed.proofs.Steps.{no_head}
use Rattle.capsule_feed.proofs.ItemSteps.{body_long, whole_le}
use Rattle.capsule_feed.proofs.capsules.begin_fmp_head.Goals as goal

pub after_fmp_head-requires : goal.after_fmp_head-requires
after_fmp_head-requires c =
    let k = c.args.c in
    let whole = c.requires.some.whole in
    let h : AtFmpHead k whole = c.requires.some.holds in
    let head : Cursor = record k {
      kind = FmpHead;
      item = 0;
      at = c.place-here.result;
      stop = c.saturating_add.result;
    } in
    let s : InFmpHead head whole = fmp_in k whole head.at head.stop h c.place-here.ensures
    (omega (arith, c.saturating_add.ensures, c.min-size.ensures, c.body_size.ensures)) in
    record {
      some = record {
        whole = whole;
        holds = (
          s,
          no_head head.at head.stop whole
              (omega (arith, c.if-size-eq0.true, c.saturating_add.ensures, c.place-here.type_inv)),
        );
      };
    }

pub returns-then-size-eq0 : goal.returns-then-size-eq0
returns-then-size-eq0 c = λ whole h.
    let k = c.args.c in
    let head : Cursor = record k {
      kind = FmpHead;
      item = 0;
      at = c.place-here.result;
      stop = c.saturating_add.result;
    } in
    let s : InFmpHead head whole = fmp_in k whole head.at head.stop h c.place-here.ensures
    (omega (arith, c.saturating_add.ensures, c.min-size.ensures, c.body_size.ensures)) in
    let none : head.at ≡ head.stop =
    omega (arith, c.if-size-eq0.true, c.saturating_add.ensures, c.place-here.type_inv) in
    let same : head.stop ≡ k.start + k.header_size = omega (arith, s.at, none, h.header) in
    subst (λ (x : ℕ). Goes c.after_fmp_head.result [] [] x whole) same
    (c.after_fmp_head.ensures whole s (no_head head.at head.stop whole none))

pub returns : goal.returns
returns c = λ whole h.
    let k = c.args.c in
    let head : Cursor = record k {
      kind = FmpHead;
      item = 0;
      at = c.place-here.result;
      stop = c.saturating_add.result;
    } in
    let s : InFmpHead head whole = fmp_in k whole head.at head.stop h c.place-here.ensures
    (omega (arith, c.saturating_add.ensures, c.min-size.ensures, c.body_size.ensures)) in
    let same : head.at ≡ k.start + k.header_size = omega (arith, s.at, h.header) in
    let all = whole_le k.start whole h.front in
    subst (λ (x : ℕ). Goes head [] [] x whole) same
    (fmp_goes head whole s (omega (
      arith,
      s.stop,
      c.if-size-eq0.false,
      c.min-size.ensures,
      c.body_size.ensures,
      h.header,
      h.image,
      body_long (drop k.start whole) h.front,
    )))
