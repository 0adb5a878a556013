use Rattle.std.proofs.Common.{◌≡◌, ◌++◌, ap, sym, subst, ◌∙◌}
use Rattle.std.proofs.lemmas.List.{length-append}
use Rattle.capsule_feed.specs.Feeds.{FeedValue, IsAnswered, IsWholeOf, StandsFor}
use Rattle.capsule_feed.proofs.FeedSteps.{answered_by, feed_made, if_told, on_ok}
use Rattle.capsule_feed.proofs.feed.Feed.feed.Goals as goal

pub returns-clause-told : goal.returns-clause-told
returns-clause-told c =
    if_told c.told.result _
    (λ stream whole h w.
    let i = c.self.inside in
    let v = feed_made i.total i.came i.cursor i.head i.offsets in
    let piece = c.args.piece.now in
    let all = stream ++ piece in
    let ok = sym c.is_err.ensures.value ∙ c.if-is_err.false in
    let s : StandsFor v all =
    subst (λ (x : FeedValue). StandsFor x all) (sym c.self.view_is)
    (on_ok _ _ ok c.take.ensures.stands stream h) in
    let total : c.args.self.now.total ≡ v.total =
    sym (ap (λ (x : FeedValue). x.total) c.self.view_is ∙ c.take.ensures.total) in
    let w2 : IsWholeOf v.total all whole = subst (λ n. IsWholeOf n all whole) total w in
    subst (λ n. IsAnswered c.told.result n whole) (length-append stream piece)
    (answered_by v all whole c.told.result s w2 c.told.ensures))
