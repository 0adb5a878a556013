-- What a room keeps of its blocks beside their bytes: of each block, whether it is as at the last
-- sync, new since then, or changed, and of those that are changed their bytes at the last sync and
-- their dirty places. Own format.
use Rattle.std.specs.Prelude.{◌≡◌, ℕ, ◌+◌, ◌*◌, ◌/◌, ◌≤◌, Bool, true, false, List, length, map}
use Rattle.std.specs.Prelude.{get_or}
use Rattle.std.specs.List.{range_with_len}
use Rattle.mem_bench.specs.declared.last_sync.BlockState.{BlockState}
use Rattle.mem_bench.specs.declared.last_sync.BlockState.TheVariants.{Clean, Fresh, Changed}
use Rattle.mem_bench.specs.declared.room.TheConstants.{BLANK, BLOCK}

-- the byte at the last sync, of a place that reads so and of which so much was saved
abbrev pub synced_in : BlockState → ℕ → ℕ → ℕ
synced_in Clean read saved = read
synced_in Fresh read saved = BLANK
synced_in Changed read saved = saved

-- whether a place is dirty, where the block's marks say so of it
abbrev pub mark_in : BlockState → Bool → Bool
mark_in Clean mark = false
mark_in Fresh mark = true
mark_in Changed mark = mark

-- whether no place of the block is dirty
abbrev pub is_clean : BlockState → Bool
is_clean Clean = true
is_clean Fresh = false
is_clean Changed = false

-- the state of the block of a place
abbrev pub state_at : List BlockState → ℕ → BlockState
state_at states place = get_or states (place / BLOCK) Clean

-- the byte of a place at the last sync
abbrev pub synced_at : List BlockState → List ℕ → List ℕ → ℕ → ℕ
synced_at states saved bytes place =
    synced_in (state_at states place) (get_or bytes place 0) (get_or saved place 0)

-- whether a place is dirty
abbrev pub mark_at : List BlockState → List Bool → ℕ → Bool
mark_at states marks place = mark_in (state_at states place) (get_or marks place false)

-- the bytes at the last sync
unfoldable pub synced_by : List BlockState → List ℕ → List ℕ → List ℕ
synced_by states saved bytes = map (synced_at states saved bytes) (range_with_len 0 (length bytes))

-- the dirty marks of the first so many places
unfoldable pub marks_by : List BlockState → List Bool → ℕ → List Bool
marks_by states marks size = map (mark_at states marks) (range_with_len 0 size)

-- of each block that is changed, bytes and marks are saved
pub record IsSaved (states : List BlockState) (saved : List ℕ) (marks : List Bool) : Type 0 where
  pub sized : length marks ≡ length saved
  pub long : length saved ≤ length states * BLOCK
  pub there : (b : ℕ) → get_or states b Clean ≡ Changed → (b + 1) * BLOCK ≤ length saved
