-- How many units of each file are spent (own format): for each file its serial in 8 bytes and the
-- number in 4, by strictly rising serials.
use Rattle.std.specs.Prelude.{◌≡◌, ℕ, ◌+◌, ◌*◌, ◌/◌, ◌%◌, ◌^◌, ◌<◌, ◌==◌, Bool, true, ◌&&◌, List, [], ◌∷◌}
use Rattle.std.specs.Prelude.{◌++◌, length, map, flat_map, find, nat_lt, Option, None, Some}
use Rattle.std.specs.Prelude.{option_map, unwrap_or, if◌then◌else◌}
use Rattle.std.specs.List.{AllByRecursion, range_with_len}
use Rattle.cu_base.specs.Fields.{number_at, bytes_of}
use Rattle.stored_vars.specs.declared.progress.ProgressEntry.{ProgressEntry}

-- the spelling of an entry
abbrev pub entry_bytes : ProgressEntry → List ℕ
entry_bytes e = bytes_of 8 e.serial ++ bytes_of 4 e.units

-- the spelling of entries, one behind another
abbrev pub progress_bytes : List ProgressEntry → List ℕ
progress_bytes entries = flat_map entry_bytes entries

-- the serial of an entry is below that of the first of these
abbrev pub is_below : ProgressEntry → List ProgressEntry → Bool
is_below e [] = true
is_below e (next ∷ rest) = nat_lt e.serial next.serial

-- the serials rise strictly
abbrev pub are_rising : List ProgressEntry → Bool
are_rising [] = true
are_rising (e ∷ rest) = is_below e rest && are_rising rest

-- the entry of this number by its places
abbrev pub entry_at : List ℕ → ℕ → ProgressEntry
entry_at bytes k = record {
  serial = number_at bytes (12 * k) 8;
  units = number_at bytes (12 * k + 8) 4;
}

-- the entries by their places
abbrev pub entries_at : List ℕ → List ProgressEntry
entries_at bytes = map (entry_at bytes) (range_with_len 0 (length bytes / 12))

-- these bytes are the spelling of entries with strictly rising serials
abbrev pub is_progress : List ℕ → Bool
is_progress bytes = (length bytes % 12 == 0) && are_rising (entries_at bytes)

-- the entries that these bytes spell; any others are none
abbrev pub progress_in : List ℕ → Option (List ProgressEntry)
progress_in bytes = if is_progress bytes then Some (entries_at bytes) else None

-- the units of a file by these entries, 0 where none is of it
abbrev pub units_among : List ProgressEntry → ℕ → ℕ
units_among entries serial =
    unwrap_or (option_map (λ e. e.units) (find (λ e. e.serial == serial) entries)) 0

-- the units of a file by these bytes, 0 where they spell no entry of it
abbrev pub units_in : List ℕ → ℕ → ℕ
units_in bytes serial = units_among (unwrap_or (progress_in bytes) []) serial

-- serial and units have their width
pub record IsEntry (e : ProgressEntry) : Type 0 where
  pub serial : e.serial < 2 ^ 64
  pub units : e.units < 2 ^ 32

-- entries of their width with strictly rising serials
pub record IsProgress (entries : List ProgressEntry) : Type 0 where
  pub each : AllByRecursion IsEntry entries
  pub rising : are_rising entries ≡ true
