-- What was taken in several reads.
use Rattle.std.proofs.Common.{◌≡◌, ℕ, ◌+◌, ◌-◌, ◌≤◌, List, ◌++◌, length, take, drop, length-append}
use Rattle.std.proofs.Common.{length-take-le, ap, sym, ◌∙◌, arith}
use Rattle.std.specs.Prelude.{Option}
use Rattle.std.specs.Io.KnownBytes.{Consumes}
use Rattle.std.proofs.Math.Seq.{take-append-add}
use Rattle.std.proofs.lemmas.List.{take-append-le}
use Rattle.std.proofs.KnownBytes.{Consumes-trans}
use borrow.Rule.Slice.PartMut.{put_mid}
use Rattle.cu_base.specs.Causes.{RoseBy}
use Rattle.cu_io.specs.Streams.{SourceSeen, TakesSome, Progress, Goes, Passes}

-- some bytes, after these
pub takes_some_after : (a b c : SourceSeen) (before : List ℕ) (room most : ℕ)
    → Consumes a.left b.left before → length before + room ≤ most → TakesSome room b c
    → TakesSome most a c
takes_some_after a b c before room most first within (bytes, short, then) = (
  before ++ bytes,
  omega (arith, length-append before bytes),
  Consumes-trans a.left b.left c.left before bytes first then,
)

pub rose_after : (m n a b c : ℕ) → RoseBy m a b → RoseBy n b c → RoseBy (m + n) a c
rose_after m n a b c first then = omega (arith, first, then)

-- bytes that came after these
pub goes_after : (before bytes : List ℕ) (a b c : Progress) → Goes before a b → Goes bytes b c
    → Goes (before ++ bytes) a c
goes_after before bytes a b c first then = record {
  consumed = Consumes-trans a.left b.left c.left before bytes first.consumed then.consumed;
  counted =
      rw (length-append before bytes) (rose_after (length before) (length bytes) a.taken b.taken
      c.taken first.counted then.counted);
  place = omega (arith, length-append before bytes, first.place, then.place);
  later = omega (arith, first.later, then.later);
}

pub passes_after : (m n : ℕ) (a b c : Progress) → Passes m a b → Passes n b c → Passes (m + n) a c
passes_after m n a b c (before, long, first) (bytes, more, then) = (
  before ++ bytes,
  length-append before bytes ∙ ap (λ k. k + length bytes) long
      ∙ ap (λ k. m + k) more,
  goes_after before bytes a b c first then,
)

-- what was put behind the first bytes follows them
pub take_filled : (a n : ℕ) (xs ys : List ℕ) → a ≤ length xs → n ≤ length ys
    → take (a + n) (put_mid a (length xs - a) xs ys) ≡ take a xs ++ take n ys
take_filled a n xs ys within few =
    let front = length-take-le a xs within in
    ap (λ k. take (k + n) (put_mid a (length xs - a) xs ys)) (sym front)
    ∙ take-append-add (take a xs) (ys ++ drop (length xs - a) (drop a xs)) n
    ∙ ap (λ l. take a xs ++ l) (take-append-le n ys (drop (length xs - a) (drop a xs)) few)
