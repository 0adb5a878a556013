use Rattle.std.proofs.Common.{refl, arith}
use Rattle.capsule_feed.proofs.FeedSteps.{at_first, no_bytes}
use Rattle.capsule_feed.proofs.feed.first_cursor.Goals as goal

pub returns-then-total-gt0 : goal.returns-then-total-gt0
returns-then-total-gt0 c = λ own whole bytes long.
    c.begin_capsule-first.ensures own whole
    (at_first c.args.total whole bytes long (omega (arith, c.ranges)) (omega (arith, c.if-total-gt0.true)))

pub returns : goal.returns
returns c = λ own whole bytes long.
    no_bytes _ own whole (omega (arith, long, c.if-total-gt0.false)) refl refl refl
