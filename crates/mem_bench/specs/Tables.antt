-- A region by blocks: its table says of each block whether it is kept, and where. Own format.
use Rattle.std.specs.Prelude.{◌≡◌, ℕ, ◌+◌, ◌-◌, ◌*◌, ◌/◌, ◌%◌, ◌<◌, ◌≤◌, ◌==◌, false, List, length}
use Rattle.std.specs.Prelude.{map, get_or, sum_by, if◌then◌else◌}
use Rattle.std.specs.List.{range_with_len}
use Rattle.mem_bench.specs.declared.room.TheConstants.{BLANK, BLOCK}
use Rattle.mem_bench.specs.Regions.{RegionValue}

-- 1 for a block that is not kept, else 0
abbrev pub one_if_blank : ℕ → ℕ
one_if_blank number = if number == 0 then 1 else 0

-- the table of blocks: all numbers up to that of the blocks that are kept are given out, each once
pub record IsTable (table : List ℕ) (made : ℕ) : Type 0 where
  pub count : made + sum_by one_if_blank table ≡ length table
  pub within : (b : ℕ) → get_or table b 0 ≤ made
  pub apart : (a b : ℕ) → 0 < get_or table a 0 → get_or table a 0 ≡ get_or table b 0 → a ≡ b

-- the item of a place whose block has this number: that of the block, or a blank one
abbrev pub item_in : {A : Type 0} → A → List A → ℕ → ℕ → A
item_in blank items number inside =
    if number == 0 then blank else get_or items ((number - 1) * BLOCK + inside) blank

-- the item at a place of the region
abbrev pub item_at : {A : Type 0} → A → List ℕ → List A → ℕ → A
item_at blank table items place =
    item_in blank items (get_or table (place / BLOCK) 0) (place % BLOCK)

-- the items at the first so many places of the region
unfoldable pub through : {A : Type 0} → A → ℕ → List ℕ → List A → List A
through blank size table items = map (item_at blank table items) (range_with_len 0 size)

-- what a region of this size keeps
abbrev pub seen_through : ℕ → List ℕ → RegionValue → RegionValue
seen_through size table kept = record {
  bytes = through BLANK size table kept.bytes;
  synced = through BLANK size table kept.synced;
  marks = through false size table kept.marks;
}
