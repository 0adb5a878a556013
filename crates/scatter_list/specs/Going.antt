-- A walk that goes on: what the code that finds its repeats has to know.
use Rattle.std.specs.Prelude.{◌≡◌, ◌≢◌, ℕ, ◌+◌, ◌%◌, ◌<◌, ◌≤◌, true, false, List, Option, None, Some}
use Rattle.bench_model.specs.declared.segment.Segment.{Segment}
use Rattle.scatter_list.specs.Reads.{is_whole}
use Rattle.scatter_list.specs.Walk.{is_end, address, steps_on}
use Rattle.scatter_list.specs.declared.limits.TheConstants.{MAX_DESCRIPTORS}

-- a descriptor at which the walk does not end by itself
pub record GoesOn (memory : List Segment) (at : ℕ) : Type 0 where
  pub aligned : at % 8 ≡ 0
  pub whole : is_whole memory at 16 ≡ true
  pub more : is_end memory at ≡ false

-- the walk goes on at each index below this one
abbrev pub GoesOnTo : List Segment → ℕ → ℕ → Type 0
GoesOnTo memory root end = (k : ℕ) → k < end → GoesOn memory (address memory root k)

-- a place is not reached from itself by so many steps or fewer
abbrev pub NoReturn : (ℕ → ℕ) → ℕ → ℕ → Type 0
NoReturn f x most = (n : ℕ) → 0 < n → n ≤ most → steps_on f x n ≢ x

-- the smallest number of steps, 1 at least, that lead from a place to itself
pub record IsPeriod (f : ℕ → ℕ) (x period : ℕ) : Type 0 where
  pub some : 0 < period
  pub returns : steps_on f x period ≡ x
  pub least : (n : ℕ) → 0 < n → n < period → steps_on f x n ≢ x

-- the smallest number of steps of at most 65,536 that lead from a place to itself, or that none does
abbrev pub TellsPeriod : (ℕ → ℕ) → ℕ → Option ℕ → Type 0
TellsPeriod f x None = NoReturn f x MAX_DESCRIPTORS
TellsPeriod f x (Some period) = IsPeriod f x period × (period ≤ MAX_DESCRIPTORS)

-- of the indices below this one none has the address of the index that is so far behind it
abbrev pub NoMeeting : (ℕ → ℕ) → ℕ → ℕ → ℕ → Type 0
NoMeeting f root period end =
    (k : ℕ) → k + period < end → steps_on f root k ≢ steps_on f root (k + period)

-- the address of the first index that is met again after so many steps
pub record Meets (f : ℕ → ℕ) (root period at : ℕ) : Type 0 where
  pub index : ℕ
  pub here : at ≡ steps_on f root index
  pub again : steps_on f root index ≡ steps_on f root (index + period)
  pub within : index + period ≤ MAX_DESCRIPTORS
  pub first : NoMeeting f root period (index + period)

-- the first meeting at or below index 65,536, or that there is none
abbrev pub TellsMeeting : (ℕ → ℕ) → ℕ → ℕ → Option ℕ → Type 0
TellsMeeting f root period None = NoMeeting f root period (MAX_DESCRIPTORS + 1)
TellsMeeting f root period (Some at) = Meets f root period at
