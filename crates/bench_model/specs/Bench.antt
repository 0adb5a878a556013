-- What a bench is, as one record, and what its calls may change of it: the disk model.
use Rattle.std.specs.Prelude.{◌≡◌, ◌≢◌, ◌⊎◌, ℕ, ◌+◌, ◌-◌, ◌^◌, ◌<◌, ◌≤◌, ◌==◌, ◌||◌, min, Bool}
use Rattle.std.specs.Prelude.{true, false, List, [], ◌∷◌, ◌++◌, length, IsTrue, Option, Some, None}
use Rattle.std.specs.Prelude.{IfSome, option_map, Result, Ok, Err, is_err, if◌then◌else◌}
use Rattle.cu_base.specs.Causes.{HasCause, HasCauseOf}
use Rattle.cu_base.specs.Fields.{field}
use Rattle.cu_base.specs.declared.faults.Failed.{Failed}
use Rattle.cu_base.specs.declared.ticket.Ticket.{Ticket}
use Rattle.bench_model.specs.declared.choice.Choice.{Choice}
use Rattle.bench_model.specs.declared.counts.Counts.{Counts}
use Rattle.bench_model.specs.declared.faults.LayFault.{LayFault}
use Rattle.bench_model.specs.declared.faults.VolumeFault.{VolumeFault}
use Rattle.bench_model.specs.declared.faults.VolumeFault.TheVariants.{Full, Memory}
use Rattle.bench_model.specs.declared.faults.VolumeFault.TheVariants as volume
use Rattle.bench_model.specs.declared.orders.Order.{Order}
use Rattle.bench_model.specs.declared.orders.Order.TheVariants.{Cycle}
use Rattle.bench_model.specs.declared.orders.Ordered.{Ordered}
use Rattle.bench_model.specs.declared.plan.Call.{Call}
use Rattle.bench_model.specs.declared.plan.Plan.{Plan}
use Rattle.bench_model.specs.declared.segment.Segment.{Segment}
use Rattle.bench_model.specs.Files.{FolderValue, ListedFile, listed, has_serial, file_bytes}
use Rattle.bench_model.specs.Files.{is_folder_full, with_put, without_serial}
use Rattle.bench_model.specs.Memory.{lay_refusal, with_segment}
use Rattle.bench_model.specs.Plans.{no_plan, is_off, is_struck, strike_of, after_call, with_arm}
use Rattle.bench_model.specs.Plans.{with_fail}
use Rattle.bench_model.specs.Regions.{Region, IsImage, IsStable, KeepsImages, ReadsAs, Syncs}
use Rattle.bench_model.specs.Regions.{Writes}

-- what stands beside the regions: no write, read or sync changes it
pub record Rest : Type 0 where
  pub begun : ℕ → List Ticket  -- the tickets that were begun, by device, in order
  pub open_device : Option ℕ  -- the device whose region may be written: it was begun and not ended
  pub folder : FolderValue
  pub memory : List Segment

-- what a bench holds: all but its counts, its plan and its orders
pub record Contents : Type 0 where
  pub told : Bool  -- whether the bytes of regions and files are told; their numbers always are
  pub regions : ℕ  -- how many regions there are: 0 and 1 are the banks, and 2 + d is that of device d
  pub bytes : ℕ → List ℕ  -- the bytes as read, by region
  pub dirty : ℕ → ℕ → Bool  -- whether a place of a region is dirty
  pub rest : Rest

-- the orders that were given, each with the counts of faults as they stood, and how many more need
-- no memory
pub record Orders : Type 0 where
  pub given : List Ordered
  pub room : ℕ

-- what a bench is
pub record BenchValue : Type 0 where
  pub contents : Contents
  pub spare : ℕ → ℕ  -- by device, how many begins need no memory
  pub orders : Orders
  pub plan : Option Plan  -- the plan of faults, where it is told
  pub counts : Counts

-- the region of a device
abbrev pub region_of : ℕ → ℕ
region_of d = d + 2

-- one region of the contents
abbrev pub region_at : Contents → ℕ → Region
region_at s k = record { told = s.told; bytes = s.bytes k; dirty = s.dirty k }

-- what a power cut may leave of all regions
abbrev pub AreImages : Contents → (ℕ → List ℕ) → Type 0
AreImages s image = (k : ℕ) → IsImage (region_at s k) (image k)

-- a count one higher; it stays at 2^64 - 1
abbrev pub next_count : ℕ → ℕ
next_count n = min (n + 1) (2 ^ 64 - 1)

-- the region is there
abbrev pub HasRegion : ℕ → BenchValue → Type 0
HasRegion region b = region < b.contents.regions

-- so many places from `at` on are within the region
abbrev pub IsWithin : ℕ → ℕ → ℕ → BenchValue → Type 0
IsWithin region at n b = at + n ≤ length (b.contents.bytes region)

-- the device has a region
abbrev pub HasDevice : ℕ → BenchValue → Type 0
HasDevice device b = region_of device < b.contents.regions

-- the region of a device may be written only while the device is the open one
abbrev pub MayWrite : ℕ → BenchValue → Type 0
MayWrite region b = (d : ℕ) → region ≡ region_of d → b.contents.rest.open_device ≡ Some d

-- the region reads as these bytes from `at` on, where it is told
abbrev pub RegionReads : ℕ → ℕ → List ℕ → BenchValue → Type 0
RegionReads region at bytes b = ReadsAs at bytes (region_at b.contents region)

-- of the region a write changed this range alone
abbrev pub RegionWrites : ℕ → ℕ → ℕ → BenchValue → BenchValue → Type 0
RegionWrites region at n old new =
    Writes at n (region_at old.contents region) (region_at new.contents region)

-- a sync of the region changed no byte of it
abbrev pub RegionSyncs : ℕ → BenchValue → BenchValue → Type 0
RegionSyncs region old new = Syncs (region_at old.contents region) (region_at new.contents region)

-- no place of the region is dirty
abbrev pub IsRegionStable : ℕ → BenchValue → Type 0
IsRegionStable region b = IsStable (region_at b.contents region)

-- nothing changes but counts and the plan
pub record ChangesCounts (old new : BenchValue) : Type 0 where
  pub contents : new.contents ≡ old.contents
  pub spare : new.spare ≡ old.spare
  pub orders : new.orders ≡ old.orders

-- nothing changes but this region, counts and the plan
pub record ChangesRegion (region : ℕ) (old new : BenchValue) : Type 0 where
  pub told : new.contents.told ≡ old.contents.told
  pub regions : new.contents.regions ≡ old.contents.regions
  pub bytes : (k : ℕ) → k ≢ region → new.contents.bytes k ≡ old.contents.bytes k
  pub dirty : (k : ℕ) → k ≢ region → new.contents.dirty k ≡ old.contents.dirty k
  pub rest : new.contents.rest ≡ old.contents.rest
  pub spare : new.spare ≡ old.spare
  pub orders : new.orders ≡ old.orders

-- nothing changes but the contents, counts and the plan
pub record ChangesContents (old new : BenchValue) : Type 0 where
  pub spare : new.spare ≡ old.spare
  pub orders : new.orders ≡ old.orders

-- the tickets with one more of a device
abbrev pub begun_with : (ℕ → List Ticket) → ℕ → Ticket → ℕ → List Ticket
begun_with begun device ticket d = if d == device then begun d ++ ticket ∷ [] else begun d

-- the contents once a device was begun: the ticket is its last, and it is the open device
abbrev pub after_begin : Contents → ℕ → Ticket → Contents
after_begin s device ticket =
    record s {
      rest = record s.rest {
        begun = begun_with s.rest.begun device ticket;
        open_device = Some device;
      };
    }

-- the contents once a device was ended: none is open
abbrev pub after_end : Contents → Contents
after_end s = record s { rest = record s.rest { open_device = None } }

-- the contents with another folder
abbrev pub with_folder : Contents → FolderValue → Contents
with_folder s folder = record s { rest = record s.rest { folder = folder } }

-- the contents with another memory
abbrev pub with_memory : Contents → List Segment → Contents
with_memory s memory = record s { rest = record s.rest { memory = memory } }

-- a begin of a device takes one of its spare places
abbrev pub spare_less : (ℕ → ℕ) → ℕ → ℕ → ℕ
spare_less spare device d = if d == device then spare d - 1 else spare d

-- what a begin leaves
pub record Begins (device : ℕ) (ticket : Ticket) (old new : BenchValue) : Type 0 where
  pub contents : new.contents ≡ after_begin old.contents device ticket
  pub spare : new.spare ≡ spare_less old.spare device

-- a move is counted: a write, a sync, a begin or an end
pub record CountsMove (old new : BenchValue) : Type 0 where
  pub moves : new.counts.moves ≡ next_count old.counts.moves
  pub looks : new.counts.looks ≡ old.counts.looks
  pub others : new.counts.volume_faults ≡ old.counts.volume_faults

-- a look at the flash is counted
pub record CountsLook (old new : BenchValue) : Type 0 where
  pub moves : new.counts.moves ≡ old.counts.moves
  pub looks : new.counts.looks ≡ next_count old.counts.looks
  pub others : new.counts.volume_faults ≡ old.counts.volume_faults

-- a look at the folder is counted
pub record CountsFolderLook (old new : BenchValue) : Type 0 where
  pub moves : new.counts.moves ≡ old.counts.moves
  pub looks : new.counts.looks ≡ next_count old.counts.looks
  pub others : new.counts.flash_faults ≡ old.counts.flash_faults

-- a change of the folder is neither a move nor a look
pub record CountsFolderChange (old new : BenchValue) : Type 0 where
  pub moves : new.counts.moves ≡ old.counts.moves
  pub looks : new.counts.looks ≡ old.counts.looks
  pub others : new.counts.flash_faults ≡ old.counts.flash_faults

-- a call of the flash failed only where its count of faults rose, and the count never falls
abbrev pub FlashCause : {T : Type 0} → BenchValue → BenchValue → Result T Failed → Type 0
FlashCause old new result = HasCause old.counts.flash_faults new.counts.flash_faults result

-- the same of a call of the volume that can fail alone
abbrev pub VolumeCause : {T : Type 0} → BenchValue → BenchValue → Result T Failed → Type 0
VolumeCause old new result = HasCause old.counts.volume_faults new.counts.volume_faults result

-- the same of a call of the volume with other answers
abbrev pub VolumeCauseOf : {T : Type 0} → BenchValue → BenchValue → Result T VolumeFault → Type 0
VolumeCauseOf old new result =
    HasCauseOf volume.Failed old.counts.volume_faults new.counts.volume_faults result

-- where the plan is told: the call fails exactly where the plan strikes it, the count of faults
-- rises by one there and nowhere else, the plan goes on by this call, and while power is off
-- nothing else happens
pub record Follows (faults : Counts → ℕ) (call : Call) (failed : Bool)
    (old new : BenchValue) : Type 0 where
  pub planned : new.plan ≡ option_map (after_call call) old.plan
  pub struck : IfSome old.plan (λ p. failed ≡ is_struck (strike_of call p))
  pub counted : IfSome old.plan (λ p. faults new.counts
      ≡ (if failed then next_count (faults old.counts) else faults old.counts))
  pub idle : IfSome old.plan (λ p. IsTrue (is_off p) → new.contents ≡ old.contents)

-- the answer tells a fault of the volume
abbrev pub is_failed : {T : Type 0} → Result T VolumeFault → Bool
is_failed (Ok x) = false
is_failed (Err volume.Failed) = true
is_failed (Err Full) = false
is_failed (Err Memory) = false

-- the same for a call of the flash
abbrev pub FlashFollows : {T : Type 0} → Call → Result T Failed → BenchValue → BenchValue → Type 0
FlashFollows call result old new = Follows (λ c. c.flash_faults) call (is_err result) old new

-- the same for a call of the volume that can fail alone
abbrev pub VolumeFollows : {T : Type 0} → Call → Result T Failed → BenchValue → BenchValue → Type 0
VolumeFollows call result old new = Follows (λ c. c.volume_faults) call (is_err result) old new

-- the same for a call of the volume with other answers
abbrev pub VolumeFollowsOf : {T : Type 0} → Call → Result T VolumeFault → BenchValue → BenchValue
    → Type 0
VolumeFollowsOf call result old new = Follows (λ c. c.volume_faults) call (is_failed result) old new

-- a file has this serial
abbrev pub HasFile : ℕ → BenchValue → Type 0
HasFile serial b = IsTrue (has_serial serial b.contents.rest.folder.files)

-- so many places from `at` on are within the file
abbrev pub IsInFile : ℕ → ℕ → ℕ → BenchValue → Type 0
IsInFile serial at n b = at + n ≤ length (file_bytes serial b.contents.rest.folder.files)

-- the file reads as these bytes from `at` on, where it is told
abbrev pub FileReads : ℕ → ℕ → List ℕ → BenchValue → Type 0
FileReads serial at bytes b =
    b.contents.told ≡ true → field (file_bytes serial b.contents.rest.folder.files) at
    (length bytes) ≡ bytes

-- a listing tells the files of the folder
abbrev pub Lists : List ListedFile → BenchValue → Type 0
Lists files b = files ≡ listed b.contents.rest.folder.files

-- the contents with a file put into the folder
abbrev pub after_put : Contents → List ℕ → List ℕ → Contents
after_put s name bytes = with_folder s (with_put s.rest.folder name bytes)

-- the contents with a file taken out of the folder
abbrev pub after_remove : Contents → ℕ → Contents
after_remove s serial = with_folder s (without_serial s.rest.folder serial)

-- the folder takes no further file of this name and size
abbrev pub is_full : List ℕ → ℕ → BenchValue → Bool
is_full name size b = is_folder_full b.contents.rest.folder name size

-- what a put that was done leaves
pub record Puts (name bytes : List ℕ) (serial : ℕ) (old new : BenchValue) : Type 0 where
  pub drawn : serial ≡ old.contents.rest.folder.last_serial + 1
  pub contents : new.contents ≡ after_put old.contents name bytes

-- what a put that was not done leaves, by its answer: after a failure it was done wholly or not at
-- all, and it was not done where it would have been refused
abbrev pub PutStops : List ℕ → List ℕ → BenchValue → BenchValue → VolumeFault → Type 0
PutStops name bytes old new volume.Failed =
    (new.contents ≡ old.contents)
    ⊎ ((is_full name (length bytes) old ≡ false)
    × (new.contents ≡ after_put old.contents name bytes))
PutStops name bytes old new Full = new.contents ≡ old.contents
PutStops name bytes old new Memory = new.contents ≡ old.contents

-- a put is refused as Full exactly where the folder is full, unless it failed
abbrev pub IsPutAnswer : List ℕ → ℕ → BenchValue → Result ℕ VolumeFault → Type 0
IsPutAnswer name size b (Ok serial) = is_full name size b ≡ false
IsPutAnswer name size b (Err volume.Failed) = Unit {0}
IsPutAnswer name size b (Err Full) = is_full name size b ≡ true
IsPutAnswer name size b (Err Memory) = is_full name size b ≡ false

-- what a remove that was done leaves
abbrev pub Removes : ℕ → BenchValue → BenchValue → Type 0
Removes serial old new = new.contents ≡ after_remove old.contents serial

-- what a remove that failed leaves: it was done or it was not
abbrev pub RemoveStops : ℕ → BenchValue → BenchValue → Type 0
RemoveStops serial old new = (new.contents ≡ old.contents) ⊎ Removes serial old new

-- what a segment that was laid leaves
abbrev pub Lays : ℕ → List ℕ → BenchValue → BenchValue → Type 0
Lays at bytes old new =
    new ≡ record old {
      contents = with_memory old.contents
          (with_segment old.contents.rest.memory at bytes);
    }

-- why a segment is not laid into the memory of the bench
abbrev pub laid_refusal : ℕ → ℕ → BenchValue → Option LayFault
laid_refusal at size b = lay_refusal b.contents.rest.memory at size

-- one more order needs no memory
abbrev pub HasOrderRoom : BenchValue → Type 0
HasOrderRoom b = 1 ≤ b.orders.room

-- the orders with one more, which takes one place of the room
abbrev pub with_order : Order → BenchValue → Orders
with_order order b = record {
  given = b.orders.given ++ record {
    order = order;
    flash_faults = b.counts.flash_faults;
    volume_faults = b.counts.volume_faults;
  } ∷ [];
  room = b.orders.room - 1;
}

-- nothing changes but the plan, and one order is kept
abbrev pub OrdersOnly : Order → BenchValue → BenchValue → Type 0
OrdersOnly order old new = new ≡ record old { orders = with_order order old; plan = new.plan }

-- the power cut is pending, or the order was kept alone
abbrev pub ArmsPlan : ℕ → Choice → BenchValue → BenchValue → Type 0
ArmsPlan after choice old new =
    (new.plan ≡ option_map (with_arm after choice) old.plan) ⊎ (new.plan ≡ old.plan)

-- the fault is pending, or the order was kept alone
abbrev pub FailsPlan : ℕ → BenchValue → BenchValue → Type 0
FailsPlan nth old new = (new.plan ≡ option_map (with_fail nth) old.plan) ⊎ (new.plan ≡ old.plan)

-- a cycle is cold by its argument, or where power is off
abbrev pub is_cold : Bool → Option Plan → Bool
is_cold cold None = cold
is_cold cold (Some p) = cold || is_off p

-- what a cycle leaves: each image was an image before, no device is open, a cold one leaves nothing
-- dirty and no memory, and the plan is empty
pub record Cycles (cold : Bool) (old new : BenchValue) : Type 0 where
  pub told : new.contents.told ≡ old.contents.told
  pub regions : new.contents.regions ≡ old.contents.regions
  pub images : (k : ℕ) → KeepsImages (region_at old.contents k) (region_at new.contents k)
  pub stable : IsTrue (is_cold cold old.plan) → (k at : ℕ) → new.contents.dirty k at ≡ false
  pub rest : new.contents.rest ≡ record old.contents.rest {
    open_device = None;
    memory = (if is_cold cold old.plan then [] else
        old.contents.rest.memory);
  }
  pub spare : new.spare ≡ old.spare
  pub orders : new.orders ≡ with_order (Cycle cold) old
  pub plan : new.plan ≡ option_map (λ p. no_plan) old.plan
  pub counts : new.counts ≡ old.counts
