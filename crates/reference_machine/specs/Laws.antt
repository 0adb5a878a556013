-- What holds of every machine that is reached from a fresh board, whatever is delivered and
-- whatever fails.
use Rattle.std.specs.Prelude.{◌≡◌, ◌≢◌, ◌⊎◌, ℕ, ◌+◌, ◌<◌, ◌≤◌, Bool, false, ◌==◌, List, [], ◌∷◌}
use Rattle.std.specs.Prelude.{◌++◌, IsTrue, length, filter, find, Option, None, Some}
use Rattle.std.specs.List.{AllByRecursion, list_any}
use Rattle.cu_base.specs.declared.time.EfiTime.{EfiTime}
use Rattle.reference_machine.specs.declared.limits.TheConstants.{MAX_STAGED}
use Rattle.bench_model.specs.declared.outside_limits.TheConstants.{MAX_FILES}
use Rattle.bench_model.specs.declared.outside_limits.TheConstants.{MAX_SEGMENTS, MAX_MEMORY_BYTES}
use Rattle.reference_machine.specs.declared.limits.TheConstants.{MAX_DELIVERY_CAPSULES}
use Rattle.reference_machine.specs.declared.limits.TheConstants.{MAX_DELIVERY_UNITS}
use Rattle.reference_machine.specs.declared.event.Event.{Event}
use Rattle.reference_machine.specs.declared.trace.BootEnd.{BootEnd}
use Rattle.reference_machine.specs.declared.trace.BootEnd.TheVariants as ends
use Rattle.reference_machine.specs.declared.unit.End.{End}
use Rattle.reference_machine.specs.declared.unit.UnitKey.{UnitKey}
use Rattle.bench_model.specs.Boards.{BoardValue}
use Rattle.reference_machine.specs.Boots.{boot_at, progress_with}
use Rattle.reference_machine.specs.Events.{InputBytes, Step, laid_bytes}
use Rattle.reference_machine.specs.Formats.{Capsule, Formats}
use Rattle.bench_model.specs.Files.{File}
use Rattle.reference_machine.specs.Machine.{Machine, fresh}
use Rattle.bench_model.specs.Files.{is_same_name}
use Rattle.reference_machine.specs.Spent.{Element, is_open, is_attempt, floor_of, is_of, spent}
use Rattle.reference_machine.specs.Spent.Standing.{Closed}
use Rattle.reference_machine.specs.Stops.{IsHeldEnd}
use Rattle.reference_machine.specs.TraceValues.{AnswerValue, EntryValue}
use Rattle.reference_machine.specs.TraceValues.AnswerValue.{Done, Serial, FlashFault, VolumeFault}
use Rattle.reference_machine.specs.TraceValues.AnswerValue.{NoBank, Full, Wraps, Invalid}
use Rattle.reference_machine.specs.TraceValues.AnswerValue.{Unsupported, Resources, Booted, Shown}

-- a machine that is reached from a fresh board: by events, and by steps of a boot that something
-- stopped, with or without faults
pub data IsReached (f : Formats) (board : BoardValue) : Machine → Type 0 where
  Fresh : IsReached f board (fresh board)
  ByEvent : (bytes_of : InputBytes) (m : Machine) (event : Event) (entry : EntryValue)
      (new : Machine) → IsReached f board m → Step f bytes_of m event entry new →
      IsReached f board new
  BySteps : (m : Machine) (h : End) (j : ℕ) → IsReached f board m → IsHeldEnd h →
      IsReached f board (boot_at f m h j).machine

-- an open element is the last one, so that there is at most one
abbrev pub OpenIsLast : List Element → Type 0
OpenIsLast list =
    (before rest : List Element) (e : Element) → list ≡ before ++ e ∷ rest → IsTrue (is_open e)
    → rest ≡ []

-- an attempt has at least the version that is the floor in force where it stands
abbrev pub AttemptsReachFloor : BoardValue → List Element → Type 0
AttemptsReachFloor board list =
    (before rest : List Element) (e : Element) → list ≡ before ++ e ∷ rest → IsTrue (is_attempt e)
    → floor_of board before e.key.device ≤ e.version

-- the end of a boot tells no fault
abbrev pub IsNoFaultEnd : BootEnd → Type 0
IsNoFaultEnd ends.Ok = Unit {0}
IsNoFaultEnd ends.Flash = ⊥
IsNoFaultEnd ends.Volume = ⊥
IsNoFaultEnd ends.NoBank = ⊥

-- an answer tells no fault
abbrev pub IsNoFault : AnswerValue → Type 0
IsNoFault Done = Unit {0}
IsNoFault (Serial serial) = Unit {0}
IsNoFault FlashFault = ⊥
IsNoFault VolumeFault = ⊥
IsNoFault NoBank = ⊥
IsNoFault Full = Unit {0}
IsNoFault Wraps = Unit {0}
IsNoFault Invalid = Unit {0}
IsNoFault Unsupported = Unit {0}
IsNoFault Resources = Unit {0}
IsNoFault (Booted report end) = IsNoFaultEnd end
IsNoFault (Shown snapshot) = Unit {0}

-- no entry tells a fault
abbrev pub TellNoFault : List EntryValue → Type 0
TellNoFault [] = Unit {0}
TellNoFault (said ∷ rest) = IsNoFault said.answer × TellNoFault rest

-- no item is the same as a later one
abbrev pub Distinct : {X : Type 0} → (X → X → Bool) → List X → Type 0
Distinct same [] = Unit {0}
Distinct same (x ∷ xs) = AllByRecursion (λ y. same x y ≡ false) xs × Distinct same xs

-- two files have one name
abbrev pub have_same_name : File → File → Bool
have_same_name a b = is_same_name a.name b.name

-- files have distinct names and distinct serials up to the last one, and so have staged deliveries
pub record AreApart (m : Machine) : Type 0 where
  pub names : Distinct have_same_name m.files
  pub files : Distinct (λ a b. a.serial == b.serial) m.files
  pub last_file : AllByRecursion (λ x. x.serial ≤ m.last_file) m.files
  pub staged : Distinct (λ a b. a.serial == b.serial) m.staged
  pub last_staged : AllByRecursion (λ p. p.serial ≤ m.last_staged) m.staged

-- the units of one delivery stand in order, without gaps from 0: each is preceded by as many as its
-- number says
abbrev pub StandInOrder : List Element → Type 0
StandInOrder list =
    (before rest : List Element) (e : Element) → list ≡ before ++ e ∷ rest
    → e.key.unit ≡ length (filter (λ x. is_of e.key.ticket.route e.key.ticket.serial x.key) before)

-- no key stands twice
abbrev pub HaveDistinctKeys : List Element → Type 0
HaveDistinctKeys list =
    (before between rest : List Element) (a b : Element)
    → list ≡ before ++ a ∷ (between ++ b ∷ rest) → a.key ≢ b.key

-- a file of which units are spent has its progress stored
abbrev pub SpentFilesHaveProgress : Machine → Type 0
SpentFilesHaveProgress m =
    AllByRecursion
    (λ x. 0 < spent m.list x.serial → IsTrue (list_any (λ s. s == x.serial) m.in_progress)) m.files

-- the serials of stored progress, with that of an open element on a file
abbrev pub progress_with_open : List ℕ → Option Element → List ℕ
progress_with_open in_progress None = in_progress
progress_with_open in_progress (Some e) = progress_with in_progress e.key

-- files and staged deliveries are within their limits, and so are the serials of stored progress,
-- with that of an open element on a file: there are at most as many as there may be files
pub record IsWithinLimits (m : Machine) : Type 0 where
  pub files : length m.files ≤ MAX_FILES
  pub staged : length m.staged ≤ MAX_STAGED
  pub in_progress : length (progress_with_open m.in_progress (find is_open m.list)) ≤ MAX_FILES

-- a unit is of a delivery by memory (route 0) or by disk (route 1), with a serial up to the last
-- one there
abbrev pub IsGiven : Machine → UnitKey → Type 0
IsGiven m key =
    ((key.ticket.route ≡ 0) × (key.ticket.serial ≤ m.last_staged))
    ⊎ ((key.ticket.route ≡ 1) × (key.ticket.serial ≤ m.last_file))

-- the serials of spent units and those of stored progress are at most the last ones, and a delivery
-- that is staged has no spent unit
pub record SerialsAreGiven (m : Machine) : Type 0 where
  pub elements : AllByRecursion (λ e. IsGiven m e.key) m.list
  pub in_progress : AllByRecursion (λ s. s ≤ m.last_file) m.in_progress
  pub staged : AllByRecursion (λ p. list_any (λ e. is_of 0 p.serial e.key) m.list ≡ false) m.staged

-- a unit is the next of its file: as many units of the file are spent as its number says. There are
-- few units of a delivery, and its serial was given.
pub record IsDue (m : Machine) (key : UnitKey) : Type 0 where
  pub unit : key.ticket.route ≡ 1 → key.unit ≡ spent m.list key.ticket.serial
  pub few : key.unit < MAX_DELIVERY_UNITS
  pub given : IsGiven m key

-- a delivery holds few capsules. Of items and devices nothing needs to be said: a capsule of too
-- many items is passed over, and a board has few devices.
pub record KeepsLimits (f : Formats) : Type 0 where
  pub capsules : (bytes : List ℕ) (found : List Capsule) → f.capsules bytes ≡ Some found →
      length found ≤ MAX_DELIVERY_CAPSULES

-- the last element of a list, which was open, is closed with an end, and more elements follow
pub record ClosesLast (old new : List Element) : Type 0 where
  pub front : List Element
  pub last : Element
  pub end : End
  pub at : EfiTime
  pub more : List Element
  pub was_last : old ≡ front ++ last ∷ []
  pub was_open : IsTrue (is_open last)
  pub closed : new ≡ front ++ record last { standing = Closed (Some end) at } ∷ more

-- one list of spent units grew to another: by more elements, of which an open last one was closed
-- before
abbrev pub Grows : List Element → List Element → Type 0
Grows old new = ((more : List Element) × (new ≡ old ++ more)) ⊎ ClosesLast old new

-- no more segments may be laid, or not so many bytes
abbrev pub IsPastMemory : Machine → List ℕ → Type 0
IsPastMemory m bytes =
    (MAX_SEGMENTS ≤ length m.memory) ⊎ (MAX_MEMORY_BYTES < laid_bytes m + length bytes)
