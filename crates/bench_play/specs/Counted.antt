-- The orders that a play gives to its bench, and how many of its entries tell a fault of the flash.
use Rattle.std.specs.Prelude.{◌≡◌, ℕ, ◌+◌, ◌≤◌, Bool, true, false, List, [], ◌∷◌, ◌++◌, Option}
use Rattle.std.specs.Prelude.{None, Some, Result, MatchResult, if◌then◌else◌}
use Rattle.bench_model.specs.Bench.{BenchValue, Orders, with_order}
use Rattle.bench_model.specs.declared.orders.Order.{Order}
use Rattle.bench_model.specs.declared.orders.Order.TheVariants as orders
use Rattle.bench_model.specs.declared.orders.Ordered.{Ordered}
use Rattle.cu_base.specs.Causes.{RoseBy}
use Rattle.cu_base.specs.declared.faults.NoMemory.{NoMemory}
use Rattle.reference_machine.specs.TraceValues.{AnswerValue, EntryValue, entry_value}
use Rattle.reference_machine.specs.TraceValues.AnswerValue.{Done, Serial, FlashFault, VolumeFault}
use Rattle.reference_machine.specs.TraceValues.AnswerValue.{NoBank, Full, Wraps, Invalid}
use Rattle.reference_machine.specs.TraceValues.AnswerValue.{Unsupported, Resources, Booted, Shown}
use Rattle.reference_machine.specs.declared.event.Event.{Event}
use Rattle.reference_machine.specs.declared.event.Event.TheVariants.{Time, Drop, Signal, Lay, Poke}
use Rattle.reference_machine.specs.declared.event.Event.TheVariants.{Stage, Boot, Arm, Fail, Reset}
use Rattle.reference_machine.specs.declared.event.Event.TheVariants.{Show}
use Rattle.reference_machine.specs.declared.trace.BootEnd.{BootEnd}
use Rattle.reference_machine.specs.declared.trace.BootEnd.TheVariants as ends
use Rattle.reference_machine.specs.declared.trace.Entry.{Entry}

-- the order that an event gives
abbrev pub order_of : Event → Option Order
order_of (Time moment) = None
order_of (Drop file input) = None
order_of Signal = None
order_of (Lay at input) = None
order_of (Poke at bytes) = None
order_of (Stage at) = None
order_of Boot = None
order_of (Arm after choice) = Some (orders.Arm after choice)
order_of (Fail nth) = Some (orders.Fail nth)
order_of (Reset cold) = Some (orders.Cycle cold)
order_of Show = None

-- a boot ended by a fault of the flash
abbrev pub is_flash_end : BootEnd → Bool
is_flash_end ends.Ok = false
is_flash_end ends.Flash = true
is_flash_end ends.Volume = false
is_flash_end ends.NoBank = false

-- an answer tells a fault of the flash
abbrev pub is_flash_fault : AnswerValue → Bool
is_flash_fault Done = false
is_flash_fault (Serial serial) = false
is_flash_fault FlashFault = true
is_flash_fault VolumeFault = false
is_flash_fault NoBank = false
is_flash_fault Full = false
is_flash_fault Wraps = false
is_flash_fault Invalid = false
is_flash_fault Unsupported = false
is_flash_fault Resources = false
is_flash_fault (Booted report end) = is_flash_end end
is_flash_fault (Shown snapshot) = false

-- how many faults of the flash an entry tells: one or none
abbrev pub faults_told : EntryValue → ℕ
faults_told entry = if is_flash_fault entry.answer then 1 else 0

-- the orders once an event was played
abbrev pub orders_after : Option Order → BenchValue → Orders
orders_after None b = b.orders
orders_after (Some order) b = with_order order b

-- an event that told this gave its order and no other, and told a fault of the flash only where the
-- count of these rose; the count never falls
pub record IsTold (event : Event) (entry : EntryValue) (old new : BenchValue) : Type 0 where
  pub orders : new.orders ≡ orders_after (order_of event) old
  pub rose : RoseBy (faults_told entry) old.counts.flash_faults new.counts.flash_faults

-- no order was given, and the count of faults did not fall
pub record GivesNone (old new : BenchValue) : Type 0 where
  pub orders : new.orders ≡ old.orders
  pub later : old.counts.flash_faults ≤ new.counts.flash_faults

-- the same of an event by its answer
abbrev pub Tells : Event → BenchValue → Result Entry NoMemory → BenchValue → Type 0
Tells event old result new =
    MatchResult result (λ entry. IsTold event (entry_value entry) old new)
    (λ _. GivesNone old new)

-- what holds of an event by its order: without one this, and with one that of the order given first
-- and of those behind it
abbrev pub ByOrder : Option Order → List Ordered → (Ordered → List Ordered → Type 0) → Type 0
    → Type 0
ByOrder None given WithOne Without = Without
ByOrder (Some order) [] WithOne Without = ⊥
ByOrder (Some order) (o ∷ given) WithOne Without = (o.order ≡ order) × WithOne o given

-- the orders of events that told these entries, in order and with their operands. Between two
-- neighbours of them, and behind the last, as many entries tell a fault of the flash as its count
-- rose there at most, while it is below its last value. `at` is the count at the order before, and
-- `since` is how many entries have told a fault since.
abbrev pub AreCounted : ℕ → ℕ → List Event → List EntryValue → List Ordered → ℕ → Type 0
AreCounted at since [] [] [] now = RoseBy since at now
AreCounted at since [] [] (o ∷ given) now = ⊥
AreCounted at since [] (t ∷ told) given now = ⊥
AreCounted at since (event ∷ events) [] given now = ⊥
AreCounted at since (event ∷ events) (t ∷ told) given now =
    ByOrder (order_of event) given
    (λ o rest. RoseBy since at o.flash_faults
    × AreCounted o.flash_faults (faults_told t) events told rest now)
    (AreCounted at (since + faults_told t) events told given now)

-- a bench was given the orders of these events, and counted the faults that these entries tell
pub record IsOrdered (events : List Event) (told : List EntryValue)
    (old new : BenchValue) : Type 0 where
  pub given : List Ordered
  pub is : new.orders.given ≡ old.orders.given ++ given
  pub counted : AreCounted old.counts.flash_faults 0 events told given new.counts.flash_faults
