use Rattle.std.proofs.Common.{◌≡◌, ◌-◌, ◌≤◌, List, ℕ, drop, take, length}
use Rattle.capsule_feed.specs.Cursors.{IsGiven, IsNext}
use Rattle.capsule_feed.proofs.reading.read.Given as goal

abbrev pub invariant-loop-reader : goal.invariant-loop-reader
invariant-loop-reader l =
    (l.reader.from ≤ length l.list)
    × (take (length l.fn.list) l.list ≡ l.fn.list)
    × (length l.fn.list ≤ length l.list)
    × (l.fn.reader.came ≤ l.reader.came)
    × (l.rest ≡ drop (l.reader.came - l.fn.reader.came) l.piece)
    × (l.reader.came - l.fn.reader.came ≤ length l.piece)
    × (l.fn.reader.cursor.stop ≤ l.fn.reader.came → (l.reader.came ≡ l.fn.reader.came)
    × (l.reader.cursor.stop ≡ l.fn.reader.cursor.stop))
    × ((whole : List ℕ) → IsNext l.fn.reader.cursor (drop l.fn.reader.from l.fn.list) l.fn.reader.head
    l.fn.reader.came l.piece whole
    → IsGiven l.reader.cursor (drop l.reader.from l.list) l.reader.head l.reader.came l.given
    l.fn.reader.came l.fn.events.items l.events.items whole)

abbrev pub decreases-loop-reader : goal.decreases-loop-reader
decreases-loop-reader l = length l.rest
