-- A feed of a delivery in pieces: for which bytes so far its state stands, and what it answers.
use Rattle.std.specs.Prelude.{◌≡◌, ℕ, ◌^◌, ◌<◌, ◌≤◌, List, length, min, take, Some}
use Rattle.std.specs.Prelude.{Result}
use Rattle.std.specs.Prelude.Result.{Ok, Err}
use Rattle.cu_base.specs.Bytes.{IsBytes}
use Rattle.capsule_grammar.specs.declared.faults.DecodeFault.{DecodeFault}
use Rattle.capsule_grammar.specs.declared.faults.DecodeFault.TheVariants.{Refused, Memory}
use Rattle.capsule_grammar.specs.declared.refusal.Refusal.{Refusal}
use Rattle.capsule_feed.specs.Cursors.{Goes}
use Rattle.capsule_feed.specs.Told.{Told, told_of}
use Rattle.capsule_feed.specs.declared.cursor.Cursor.{Cursor}
use Rattle.capsule_feed.specs.declared.cursor.Fate.{Fate}
use Rattle.capsule_feed.specs.declared.cursor.Fate.TheVariants.{Reads, Tells, Ends}
use Rattle.capsule_feed.specs.declared.span.SpanKind.{SpanKind}
use Rattle.capsule_feed.specs.declared.span.SpanKind.TheVariants.{Header, Ext, Other, FmpHead}
use Rattle.capsule_feed.specs.declared.span.SpanKind.TheVariants.{Offsets, Lead, Driver, ImageHead}
use Rattle.capsule_feed.specs.declared.span.SpanKind.TheVariants.{Image, Vendor, Pad}

-- the size of the delivery, how many bytes came, where the reader stands, what it gathered of the
-- structure in hand, and the offsets of the capsule in hand
pub record FeedValue : Type 0 where
  pub total : ℕ
  pub came : ℕ
  pub cursor : Cursor
  pub head : List ℕ
  pub offsets : List ℕ

-- a whole of so many bytes that begins with these
pub record IsWholeOf (total : ℕ) (stream whole : List ℕ) : Type 0 where
  pub bytes : IsBytes whole
  pub long : length whole ≡ total
  pub front : take (length stream) whole ≡ stream

-- these are the bytes that came
pub record StandsFor (feed : FeedValue) (stream : List ℕ) : Type 0 where
  pub bytes : IsBytes stream
  pub small : feed.total < 2 ^ 32
  pub within : length stream ≤ feed.total
  pub came : feed.came ≡ length stream
  pub goes : (whole : List ℕ) → IsWholeOf feed.total stream whole
      → Goes feed.cursor feed.offsets feed.head (min feed.came feed.cursor.stop) whole

-- how many offsets of the capsule in hand are kept in a structure of this kind: those that are
-- tested, and then one an item
abbrev pub kept_in : SpanKind → ℕ → ℕ → ℕ
kept_in Header tested items = 0
kept_in Ext tested items = 0
kept_in Other tested items = 0
kept_in FmpHead tested items = 0
kept_in Offsets tested items = min tested items
kept_in Lead tested items = items
kept_in Driver tested items = items
kept_in ImageHead tested items = items
kept_in Image tested items = items
kept_in Vendor tested items = items
kept_in Pad tested items = items

-- the same by the reader's fate
abbrev pub kept_by : Fate → SpanKind → ℕ → ℕ → ℕ
kept_by Reads kind tested items = kept_in kind tested items
kept_by (Tells r) kind tested items = 0
kept_by Ends kind tested items = 0

-- at most one offset is kept for each item of the capsule in hand
abbrev pub IsShort : FeedValue → Type 0
IsShort feed = length feed.offsets ≤ feed.cursor.items

-- some bytes came
pub record StandsForSome (feed : FeedValue) : Type 0 where
  pub stream : List ℕ
  pub stands : StandsFor feed stream
  pub short : IsShort feed

-- ---- what is answered

-- the refusal of the whole, whose told place is among so many bytes
pub record IsTold (refusal : Refusal) (came : ℕ) (whole : List ℕ) : Type 0 where
  pub reach : ℕ
  pub told : told_of whole ≡ Some (record { reach = reach; at = refusal.at; why = refusal.why })
  pub reached : reach ≤ came

-- where so many bytes of the whole came: its refusal, from its told place on
abbrev pub IsAnswered : {T : Type 0} → Result T DecodeFault → ℕ → List ℕ → Type 0
IsAnswered (Ok value) came whole = (t : Told) → told_of whole ≡ Some t → came < t.reach
IsAnswered (Err (Refused refusal)) came whole = IsTold refusal came whole
IsAnswered (Err Memory) came whole = ⊥

-- it holds where memory was not wanting
abbrev pub IfTold : {T : Type 0} → Result T DecodeFault → Type 0 → Type 0
IfTold (Ok value) P = P
IfTold (Err (Refused refusal)) P = P
IfTold (Err Memory) P = Unit {0}

-- it holds where memory was wanting
abbrev pub IfMemory : {T : Type 0} → Result T DecodeFault → Type 0 → Type 0
IfMemory (Ok value) P = Unit {0}
IfMemory (Err (Refused refusal)) P = Unit {0}
IfMemory (Err Memory) P = P

-- a reader of this fate tells its refusal from the place on where it stops
abbrev pub IsAnswerOf : {T : Type 0} → Fate → ℕ → ℕ → Result T DecodeFault → Type 0
IsAnswerOf (Tells r) stop came (Ok value) = came < stop
IsAnswerOf (Tells r) stop came (Err (Refused refusal)) = (r ≡ refusal) × (stop ≤ came)
IsAnswerOf (Tells r) stop came (Err Memory) = ⊥
IsAnswerOf Reads stop came (Ok value) = Unit {0}
IsAnswerOf Reads stop came (Err e) = ⊥
IsAnswerOf Ends stop came (Ok value) = Unit {0}
IsAnswerOf Ends stop came (Err e) = ⊥

-- a refusal was answered
abbrev pub HasTold : Fate → ℕ → ℕ → Type 0
HasTold (Tells r) stop came = stop ≤ came
HasTold Reads stop came = ⊥
HasTold Ends stop came = ⊥

-- it holds where a refusal was answered
abbrev pub IfRefused : {T : Type 0} → Result T DecodeFault → Type 0 → Type 0
IfRefused (Ok value) P = Unit {0}
IfRefused (Err (Refused refusal)) P = P
IfRefused (Err Memory) P = Unit {0}
