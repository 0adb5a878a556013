use Rattle.std.proofs.Common.{[], ℕ, List, ap, arith, length}
use Rattle.capsule_feed.proofs.FeedSteps.{first_stands}
use Rattle.capsule_feed.proofs.feed.Feed.new.Goals as goal

pub invariant_of-result : goal.invariant_of-result
invariant_of-result c =
    let own = c.new-2.result in
    record {
      stream = [];
      stands = first_stands c.args.total c.first_cursor.result c.new.result own
          (omega (arith, c.ranges.total.fits)) c.new.ensures (c.first_cursor.ensures own);
      short = omega (arith, ap (λ (l : List ℕ). length l) c.new-2.ensures);
    }

pub returns-clause-stands : goal.returns-clause-stands
returns-clause-stands c =
    let own = c.new-2.result in
    first_stands c.args.total c.first_cursor.result c.new.result own
    (omega (arith, c.ranges.total.fits)) c.new.ensures (c.first_cursor.ensures own)
