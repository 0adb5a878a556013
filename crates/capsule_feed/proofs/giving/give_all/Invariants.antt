use Rattle.std.proofs.Common.{◌≡◌, ◌-◌, ◌≤◌, ◌++◌, length, take}
use Rattle.capsule_feed.proofs.giving.give_all.Given as goal

abbrev pub invariant-loop-span : goal.invariant-loop-span
invariant-loop-span l =
    (l.events.items ≡ l.fn.events.items ++ take l.span-index l.more)
    × (length l.more - l.span-index ≤ l.events.spare)
