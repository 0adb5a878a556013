use Rattle.std.proofs.Common.{◌+◌, ◌≤◌, ◌++◌, ℕ, List, length, take, sym, subst, ap, ◌∙◌, arith}
use Rattle.std.proofs.Common.{length-take}
use Rattle.cu_base.specs.Bytes.{IsBytes}
use Rattle.capsule_feed.specs.Feeds.{FeedValue, IsWholeOf, StandsFor}
use Rattle.capsule_feed.proofs.FeedSteps.{feed_made, next_some, on_ok, spans_given}
use Rattle.capsule_feed.proofs.FeedSteps.{stands_behind, stands_cut}
use Rattle.capsule_feed.proofs.feed.Feed.take.Goals as goal

pub read_all-requires-clause-some : goal.read_all-requires-clause-some
read_all-requires-clause-some c =
    let i = c.self.inside in
    let v = feed_made i.total i.came i.cursor i.head i.offsets in
    let piece = c.args.piece.now in
    let fits : v.came + length piece ≤ v.total =
    subst (λ (x : FeedValue). x.came + length piece ≤ x.total) (sym c.self.view_is) c.requires.fits in
    let bytes : IsBytes piece = λ k. omega (arith, c.type_inv.piece k) in
    next_some v c.self.invariant.stream piece c.copied.result c.min.result c.self.invariant.stands bytes
    fits c.copied.ensures c.min.ensures

pub invariant_of-self-2 : goal.invariant_of-self-2
invariant_of-self-2 c =
    let i = c.self.inside in
    let v = feed_made i.total i.came i.cursor i.head i.offsets in
    let piece = c.args.piece.now in
    let fits : v.came + length piece ≤ v.total =
    subst (λ (x : FeedValue). x.came + length piece ≤ x.total) (sym c.self.view_is) c.requires.fits in
    let bytes : IsBytes piece = λ k. omega (arith, c.type_inv.piece k) in
    let next = c.read_all.new in
    let own = c.truncate-2.ensures
    ∙ ap (λ (n : ℕ). take n c.forget.new.self) c.kept_offsets.ensures.value in
    record {
      stream = c.self.invariant.stream ++ piece;
      stands = subst (λ (l : List ℕ). StandsFor (feed_made v.total (v.came + length piece)
          next.reader.cursor next.reader.head l) (c.self.invariant.stream ++ piece)) (sym own)
          (stands_cut v.total (v.came + length piece) next.reader.cursor next.reader.head
          c.forget.new.self (c.self.invariant.stream ++ piece)
          (stands_behind v c.self.invariant.stream piece c.copied.result c.min.result
          next.reader.cursor _ next.reader.head c.forget.new.self next.reader.came
          c.args.events.now.items next.events.items c.self.invariant.stands bytes fits
          c.copied.ensures c.min.ensures
          (on_ok _ _ (sym c.is_err.ensures.value ∙ c.if-is_err.false) c.read_all.ensures.ok)
          c.forget.ensures));
      short = omega (
        arith,
        ap (λ (l : List ℕ). length l) c.truncate-2.ensures,
        length-take c.kept_offsets.result c.forget.new.self,
        c.kept_offsets.ensures.bound,
      );
    }

pub returns-clause-stands : goal.returns-clause-stands
returns-clause-stands c = λ stream h.
    let i = c.self.inside in
    let v = feed_made i.total i.came i.cursor i.head i.offsets in
    let piece = c.args.piece.now in
    let fits : v.came + length piece ≤ v.total =
    subst (λ (x : FeedValue). x.came + length piece ≤ x.total) (sym c.self.view_is) c.requires.fits in
    let bytes : IsBytes piece = λ k. omega (arith, c.type_inv.piece k) in
    let next = c.read_all.new in
    let own = c.truncate-2.ensures
    ∙ ap (λ (n : ℕ). take n c.forget.new.self) c.kept_offsets.ensures.value in
    subst (λ (l : List ℕ). StandsFor (feed_made v.total (v.came + length piece)
    next.reader.cursor next.reader.head l) (stream ++ piece)) (sym own)
    (stands_cut v.total (v.came + length piece) next.reader.cursor next.reader.head
    c.forget.new.self (stream ++ piece)
    (stands_behind v stream piece c.copied.result c.min.result
    next.reader.cursor _ next.reader.head c.forget.new.self next.reader.came
    c.args.events.now.items next.events.items
    (subst (λ (x : FeedValue). StandsFor x stream) (sym c.self.view_is) h) bytes fits
    c.copied.ensures c.min.ensures
    (on_ok _ _ (sym c.is_err.ensures.value ∙ c.if-is_err.false) c.read_all.ensures.ok)
    c.forget.ensures))

pub returns-clause-events : goal.returns-clause-events
returns-clause-events c = λ stream whole h w.
    let i = c.self.inside in
    let v = feed_made i.total i.came i.cursor i.head i.offsets in
    let piece = c.args.piece.now in
    let fits : v.came + length piece ≤ v.total =
    subst (λ (x : FeedValue). x.came + length piece ≤ x.total) (sym c.self.view_is) c.requires.fits in
    let next = c.read_all.new in
    spans_given v stream piece c.copied.result c.min.result
    next.reader.cursor _ next.reader.head next.reader.came
    c.args.events.now.items next.events.items whole
    (subst (λ (x : FeedValue). StandsFor x stream) (sym c.self.view_is) h) fits
    c.copied.ensures c.min.ensures
    (on_ok _ _ (sym c.is_err.ensures.value ∙ c.if-is_err.false) c.read_all.ensures.ok)
    (subst (λ (x : FeedValue). IsWholeOf x.total (stream ++ piece) whole) (sym c.self.view_is) w)
