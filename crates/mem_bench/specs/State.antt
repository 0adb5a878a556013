-- What a bench in memory is as a bench. It tells all.
use Rattle.std.specs.Prelude.{◌≡◌, ℕ, ◌<◌, Bool, true, false, List, [], length, get_or, Option}
use Rattle.std.specs.Prelude.{None, Some, IsTrue, if◌then◌else◌}
use Rattle.cu_base.specs.declared.ticket.Ticket.{Ticket}
use Rattle.bench_model.specs.declared.segment.Segment.{Segment}
use Rattle.bench_model.specs.declared.plan.Call.TheVariants.{Step}
use Rattle.bench_model.specs.declared.plan.Strike.{Strike}
use Rattle.bench_model.specs.Bench.{BenchValue, Orders, after_remove, is_cold}
use Rattle.bench_model.specs.Files.{FolderValue}
use Rattle.bench_model.specs.Plans.{no_plan, is_struck, strike_of}
use Rattle.mem_bench.specs.declared.bench.MemBench.{MemBench}
use Rattle.mem_bench.specs.declared.clerk.Clerk.{Clerk}
use Rattle.mem_bench.specs.Parts.{TicketsValue, keeps_change, no_tickets}
use Rattle.mem_bench.specs.Regions.{IsSettled, RegionValue, no_region, stable_region}

-- the bytes as read, by region
abbrev pub bytes_by : List RegionValue → ℕ → List ℕ
bytes_by regions k = (get_or regions k no_region).bytes

-- the dirty places, by region
abbrev pub dirty_by : List RegionValue → ℕ → ℕ → Bool
dirty_by regions k at = get_or (get_or regions k no_region).marks at false

-- the tickets that were begun, by device
abbrev pub begun_by : List TicketsValue → ℕ → List Ticket
begun_by devices d = (get_or devices d no_tickets).begun

-- how many begins need no memory, by device
abbrev pub spare_by : List TicketsValue → ℕ → ℕ
spare_by devices d = (get_or devices d no_tickets).spare

-- the bench of these parts
abbrev pub state_from : List RegionValue → List TicketsValue → Option ℕ → FolderValue → List Segment
    → Orders → Clerk → BenchValue
state_from regions devices open_device folder memory orders clerk = record {
  contents = record {
    told = true;
    regions = length regions;
    bytes = bytes_by regions;
    dirty = dirty_by regions;
    rest = record {
      begun = begun_by devices;
      open_device = open_device;
      folder = folder;
      memory = memory;
    };
  };
  spare = spare_by devices;
  orders = orders;
  plan = Some clerk.plan;
  counts = clerk.counts;
}

-- the bench
abbrev pub state_of : MemBench → BenchValue
state_of b =
    state_from b.regions.items b.devices.items b.open_device b.folder b.memory b.orders b.clerk

-- no regions, an empty folder, no memory and the empty plan, with nothing counted
abbrev pub empty_state : BenchValue
empty_state =
    state_from [] [] None (record { files = []; last_serial = 0 }) []
    (record { given = []; room = 0 })
    (record {
      plan = no_plan;
      counts = record
          { moves = 0; looks = 0; flash_faults = 0; volume_faults = 0 };
    })

-- a region as the bench keeps it, with its bytes at the last sync
abbrev pub kept_region : ℕ → MemBench → RegionValue
kept_region k b = get_or b.regions.items k no_region

-- what strikes the next step
abbrev pub next_strike : MemBench → Strike
next_strike b = strike_of Step b.clerk.plan

-- what a sync leaves of a region: where it is struck all stays, its dirty places and the bytes at
-- the sync before included, else its bytes as read are stable
abbrev pub after_sync : Strike → RegionValue → RegionValue
after_sync strike r = if is_struck strike then r else stable_region r.bytes

-- what a put that is struck leaves where no cut keeps it: nothing of it
abbrev pub PutIsDropped : MemBench → MemBench → Type 0
PutIsDropped old new =
    IsTrue (is_struck (next_strike old)) → keeps_change (next_strike old) ≡ false
    → (state_of new).contents ≡ (state_of old).contents

-- what a remove that is struck leaves: it is done exactly where the cut keeps it
abbrev pub RemoveIsKept : ℕ → MemBench → MemBench → Type 0
RemoveIsKept serial old new =
    IsTrue (is_struck (next_strike old)) → (state_of new).contents
    ≡ (if keeps_change (next_strike old) then after_remove (state_of old).contents serial
    else (state_of old).contents)

-- what a cycle leaves of the regions: a warm one all of them, dirty places too; a cold one what the
-- choice of the cut that turned power off leaves, byte by byte, or without a cut the bytes as read
pub record LeavesRegions (cold : Bool) (old new : MemBench) : Type 0 where
  pub warm : is_cold cold (Some old.clerk.plan) ≡ false → new.regions.items ≡ old.regions.items
  pub each : IsTrue (is_cold cold (Some old.clerk.plan)) → (k : ℕ) → k < length old.regions.items
      → IsSettled old.clerk.plan.off (kept_region k old) (kept_region k new)
