-- What was read of the records of a bank.
use Rattle.std.specs.Prelude.{◌≡◌, ℕ, ◌+◌, ◌<◌, ◌≤◌, Bool, true, false, not, List, ◌++◌, length}
use Rattle.std.specs.Prelude.{map}
use Rattle.std.specs.Prelude.{Option, Some, None, is_none}
use Rattle.std.specs.List.{flat_map}
use Rattle.cu_base.specs.Fields.{field, number_at}
use Rattle.cu_base.specs.Refusals.{first_refusal}
use Rattle.var_log.specs.declared.change.Change.{Change}
use Rattle.var_log.specs.declared.scanning.Front.{Front}
use Rattle.var_log.specs.declared.seen.Seen.{Seen}
use Rattle.var_log.specs.Banks.{last_of, taken}
use Rattle.var_log.specs.Records.{Entry, changes_in, end_rows, entries_in, entry_of}
use Rattle.var_log.specs.Seen.{as_change}

-- a record stands at the front of bytes
abbrev pub is_record : ℕ → Option ℕ → List ℕ → Bool
is_record format before bytes = is_none (first_refusal (end_rows format before bytes))

-- the size and number of the record at the front of bytes, whose body alone is still to be tested
pub record IsFront (format : ℕ) (before : Option ℕ) (bytes : List ℕ) (f : Front) : Type 0 where
  pub size : f.size ≡ (entry_of format bytes).size
  pub number : f.number ≡ (entry_of format bytes).number
  pub behind : 16 + number_at bytes 4 4 ≤ f.size
  pub within : f.size < length bytes
  pub body : is_record format before bytes
      ≡ not (is_none (changes_in (field bytes 16 (number_at bytes 4 4))))

-- what is told of the front of bytes
abbrev pub FrontIs : ℕ → Option ℕ → List ℕ → Option Front → Type 0
FrontIs format before bytes (Some f) = IsFront format before bytes f
FrontIs format before bytes None = is_record format before bytes ≡ false

-- the record at the front of bytes was read, and its changes were appended
pub record IsRecordRead (format : ℕ) (before : Option ℕ) (bytes : List ℕ) (old new : List Seen)
    (f : Front) : Type 0 where
  pub stands : is_record format before bytes ≡ true
  pub size : f.size ≡ (entry_of format bytes).size
  pub number : f.number ≡ (entry_of format bytes).number
  pub some : 0 < f.size
  pub within : f.size < length bytes
  pub changes : map as_change new ≡ map as_change old ++ (entry_of format bytes).changes

-- what was read of the front of bytes
abbrev pub RecordIs : ℕ → Option ℕ → List ℕ → List Seen → List Seen → Option Front → Type 0
RecordIs format before bytes old new (Some f) = IsRecordRead format before bytes old new f
RecordIs format before bytes old new None =
    (is_record format before bytes ≡ false) × (new ≡ old)

-- these are the changes of records, the bytes that they take and their last number
pub record AreRead (entries : List Entry) (changes : List Change) (n : ℕ)
    (last : Option ℕ) : Type 0 where
  pub changes_are : flat_map (λ e. e.changes) entries ≡ changes
  pub taken_is : taken entries ≡ n
  pub last_is : last_of None entries ≡ last

-- the same of the records that bytes begin with, and a byte stands behind them
pub record HasRead (format : ℕ) (bytes : List ℕ) (changes : List Change) (n : ℕ)
    (last : Option ℕ) : Type 0 where
  pub within : n < length bytes
  pub are : (most : ℕ) → length bytes ≤ most → AreRead (entries_in most format None bytes)
      changes n last
