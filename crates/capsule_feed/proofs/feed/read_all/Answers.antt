use Rattle.capsule_feed.proofs.FeedSteps.{on_ok_more, read_into}
use Rattle.capsule_feed.proofs.feed.read_all.Goals as goal

pub returns-clause-ok : goal.returns-clause-ok
returns-clause-ok c =
    on_ok_more c.give_all.result _ _
    (λ events whole next.
    read_into _ _ _ _ _ _ _ _ _ _ _ whole (c.in_ok-read.ensures.ok whole next)
    c.new-fresh.ensures c.as_slice.ensures events)
    c.give_all.ensures.ok
