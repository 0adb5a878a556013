-- Records of a log (own format): a gate, three bytes, the length of the body (u32), the number
-- (u64) and the body, which is a count (u16) and so many changes. Under format 2 zero bytes follow
-- up to the next multiple of 8.
use Rattle.std.specs.Prelude.{◌≡◌, ℕ, zero, suc, ◌+◌, ◌-◌, ◌%◌, ◌<◌, ◌≤◌, ◌^◌, ◌==◌, ◌&&◌, Bool}
use Rattle.std.specs.Prelude.{true, not}
use Rattle.std.specs.Prelude.{List, [], ◌∷◌, ◌++◌, length, drop, get_or, replicate, All, IsTrue}
use Rattle.std.specs.Prelude.{Option, Some, None, is_none, option_map, option_and_then, unwrap_or}
use Rattle.std.specs.Prelude.{if◌then◌else◌, nat_le, nat_lt}
use Rattle.std.specs.Prelude.{codes}
use Rattle.std.specs.List.{flat_map, list_all}
use Rattle.cu_base.specs.Fields.{bytes_of, field, number_at}
use Rattle.cu_base.specs.Refusals.{Row, row, first_refusal}
use Rattle.cu_base.specs.declared.guid.Guid.{Guid}
use Rattle.var_log.specs.declared.change.Change.{Change}
use Rattle.var_log.specs.declared.change.Change.TheVariants.{Set, Delete}
use Rattle.var_log.specs.declared.limits.TheConstants.{MAX_DATA, MAX_CHANGES, MAX_RECORD}
use Rattle.var_log.specs.declared.limits.TheConstants.{OPEN_GATE, CLOSED_GATE}
use Rattle.var_log.specs.Changes.{is_name, is_change}

-- the bytes of a change
abbrev pub change_bytes : Change → List ℕ
change_bytes (Set name guid attributes value) =
    1 ∷ length name ∷ name ++ guid.bytes ++ bytes_of 4 attributes ++ bytes_of 4 (length value)
    ++ value
change_bytes (Delete name guid) = 2 ∷ length name ∷ name ++ guid.bytes

-- the bytes of a body
abbrev pub body_of : List Change → List ℕ
body_of changes = bytes_of 2 (length changes) ++ flat_map change_bytes changes

-- how many zero bytes follow a body of so many bytes
abbrev pub padding : ℕ → ℕ → ℕ
padding format n = if format == 1 then 0 else (8 - n % 8) % 8

-- the bytes that a record takes, by those of its body
abbrev pub record_size : ℕ → ℕ → ℕ
record_size format n = 16 + n + padding format n

-- what stands behind the number of a record
abbrev pub tail_of : ℕ → List Change → List ℕ
tail_of format changes =
    body_of changes ++ replicate (padding format (length (body_of changes))) 0

-- a record behind its gate, as it is written
abbrev pub behind_gate : ℕ → ℕ → List Change → List ℕ
behind_gate format number changes =
    0 ∷ 0 ∷ 0 ∷ bytes_of 4 (length (body_of changes)) ++ bytes_of 8 number ++ tail_of format changes

-- a record with an open gate
abbrev pub record_bytes : ℕ → ℕ → List Change → List ℕ
record_bytes format number changes = OPEN_GATE ∷ behind_gate format number changes

-- the change that bytes begin with, and what is behind it
unfoldable pub first_change : List ℕ → Option (Change × List ℕ)
first_change bytes =
    let n = get_or bytes 1 0 in
    let name = field bytes 2 n in
    let guid : Guid = record { bytes = field bytes (2 + n) 16 } in
    let size = number_at bytes (22 + n) 4 in
    if get_or bytes 0 0 == 1 && nat_le (26 + n) (length bytes) && is_name name
    && nat_le size MAX_DATA && nat_le (26 + n + size) (length bytes)
    then Some (
      Set name guid (number_at bytes (18 + n) 4) (field bytes (26 + n) size),
      drop (26 + n + size) bytes,
    )
    else if get_or bytes 0 0 == 2 && nat_le (18 + n) (length bytes) && is_name name
    then Some (Delete name guid, drop (18 + n) bytes)
    else None

-- the changes that bytes are exactly, so many of them
unfoldable pub changes_from : ℕ → List ℕ → Option (List Change)
changes_from zero [] = Some []
changes_from zero (b ∷ bytes) = None
changes_from (suc n) bytes =
    option_and_then (λ (first : Change × List ℕ).
    option_map (λ (rest : List Change). first.0 ∷ rest) (changes_from n first.1))
    (first_change bytes)

-- the changes that a body is exactly
unfoldable pub changes_in : List ℕ → Option (List Change)
changes_in body =
    if nat_lt (length body) 2 then None else changes_from (number_at body 0 2) (drop 2 body)

-- why what stands at a place of a log is no record of it
pub data LogEnd : Type 0 where
  GateClosed : LogEnd
  NotWithin : LogEnd
  NotChanges : LogEnd
  NotPadded : LogEnd
  NotNext : LogEnd

-- a number is one above the number before, if there is one
abbrev pub is_next : Option ℕ → ℕ → Bool
is_next None number = true
is_next (Some before) number = number == before + 1

-- the tests of a record of which the first that holds ends the log: its gate is not open, it does
-- not lie within the bank with a byte behind it, its body is not exactly its changes, a byte of its
-- padding is not zero, or its number is not the next
abbrev pub end_rows : ℕ → Option ℕ → List ℕ → List (Row LogEnd)
end_rows format before bytes =
    let n = number_at bytes 4 4 in
    row (not (get_or bytes 0 0 == OPEN_GATE)) GateClosed
    ∷ row (not (nat_lt (record_size format n) (length bytes))) NotWithin
    ∷ row (is_none (changes_in (field bytes 16 n))) NotChanges
    ∷ row (not (list_all (λ b. b == 0) (field bytes (16 + n) (padding format n)))) NotPadded
    ∷ row (not (is_next before (number_at bytes 8 8))) NotNext
    ∷ []

-- a record that counts: the bytes that it takes, its number and its changes
pub record Entry : Type 0 where
  pub size : ℕ
  pub number : ℕ
  pub changes : List Change

-- the record at the front of bytes
abbrev pub entry_of : ℕ → List ℕ → Entry
entry_of format bytes = record {
  size = record_size format (number_at bytes 4 4);
  number = number_at bytes 8 8;
  changes = unwrap_or (changes_in (field bytes 16 (number_at bytes 4 4))) [];
}

-- the records that stand one behind another, up to the first thing that is none; each takes some
-- of so many bytes
unfoldable pub entries_in : ℕ → ℕ → Option ℕ → List ℕ → List Entry
entries_in zero format before bytes = []
entries_in (suc most) format before bytes =
    if is_none (first_refusal (end_rows format before bytes))
    then entry_of format bytes
    ∷ entries_in most format (Some (entry_of format bytes).number)
    (drop (entry_of format bytes).size bytes)
    else []

-- what contracts see of a record: its changes, its number, and the bytes that it takes
pub record RecordValue : Type 0 where
  pub changes : List Change
  pub number : ℕ
  pub size : ℕ

-- the record of changes under a number
abbrev pub record_with : ℕ → List Change → RecordValue
record_with number changes = record {
  changes = changes;
  number = number;
  size = record_size 2 (length (body_of changes));
}

-- the record of a batch before it has a number
abbrev pub record_of : List Change → RecordValue
record_of = record_with 0

-- the record at the front of bytes
abbrev pub record_in : List ℕ → RecordValue
record_in bytes = record {
  changes = (entry_of 2 bytes).changes;
  number = (entry_of 2 bytes).number;
  size = (entry_of 2 bytes).size;
}

-- a record keeps its limits
pub record IsWritable (r : RecordValue) : Type 0 where
  pub is : r ≡ record_with r.number r.changes
  pub each : All (λ c. IsTrue (is_change c)) r.changes
  pub few : length r.changes ≤ MAX_CHANGES
  pub low : r.number < 2 ^ 64
  pub small : r.size ≤ MAX_RECORD

-- these bytes are a record with an open gate, and a closed gate behind it
pub record IsRecord (bytes : List ℕ) : Type 0 where
  pub written : bytes ≡ record_bytes 2 (entry_of 2 bytes).number (entry_of 2 bytes).changes
      ++ CLOSED_GATE ∷ []
  pub each : All (λ c. IsTrue (is_change c)) (entry_of 2 bytes).changes
  pub count : length (entry_of 2 bytes).changes ≤ MAX_CHANGES
  pub number : (entry_of 2 bytes).number < 2 ^ 64
  pub size : length bytes ≤ MAX_RECORD + 1

-- batches one behind another, under numbers from this one on
abbrev pub spelled : ℕ → List (List Change) → List ℕ
spelled number [] = []
spelled number (changes ∷ batches) = record_bytes 2 number changes ++ spelled (number + 1) batches

-- the records that they are
abbrev pub numbered : ℕ → List (List Change) → List Entry
numbered number [] = []
numbered number (changes ∷ batches) =
    record {
      size = record_size 2 (length (body_of changes));
      number = number;
      changes = changes;
    } ∷ numbered (number + 1) batches

-- batches that may be written under numbers from this one on, which is the next
abbrev pub AreBatches : Option ℕ → ℕ → List (List Change) → Type 0
AreBatches before number [] = Unit {0}
AreBatches before number (changes ∷ batches) =
    All (λ c. IsTrue (is_change c)) changes × (length changes < 2 ^ 16)
    × (length (body_of changes) < 2 ^ 32) × (number < 2 ^ 64) × (is_next before number ≡ true)
    × AreBatches (Some number) (number + 1) batches

-- the change of the first record of a fresh board, OsIndications of EFI_GLOBAL_VARIABLE (UEFI 2.10,
-- 8.5.4) with EFI_OS_INDICATIONS_FILE_CAPSULE_DELIVERY_SUPPORTED, and its attributes 7
abbrev pub first_record : Change
first_record =
    Set (codes "OsIndications")
    (record {
      bytes = 0x61 ∷ 0xDF ∷ 0xE4 ∷ 0x8B ∷ 0xCA ∷ 0x93 ∷ 0xD2 ∷ 0x11 ∷ 0xAA ∷ 0x0D ∷ 0x00 ∷ 0xE0
          ∷ 0x98 ∷ 0x03 ∷ 0x2B ∷ 0x8C ∷ [];
    }) 7 (4 ∷ 0 ∷ 0 ∷ 0 ∷ 0 ∷ 0 ∷ 0 ∷ 0 ∷ [])

-- its 72 bytes by hand
abbrev pub first_record_bytes : List ℕ
first_record_bytes =
    0x5A ∷ 0 ∷ 0 ∷ 0 ∷ 0x31 ∷ 0 ∷ 0 ∷ 0 ∷ 1 ∷ 0 ∷ 0 ∷ 0 ∷ 0 ∷ 0 ∷ 0 ∷ 0
    ∷ 1 ∷ 0 ∷ 1 ∷ 0x0D ∷ 0x4F ∷ 0x73 ∷ 0x49 ∷ 0x6E ∷ 0x64 ∷ 0x69 ∷ 0x63 ∷ 0x61 ∷ 0x74 ∷ 0x69
    ∷ 0x6F ∷ 0x6E ∷ 0x73 ∷ 0x61 ∷ 0xDF ∷ 0xE4 ∷ 0x8B ∷ 0xCA ∷ 0x93 ∷ 0xD2 ∷ 0x11 ∷ 0xAA ∷ 0x0D
    ∷ 0x00 ∷ 0xE0 ∷ 0x98 ∷ 0x03 ∷ 0x2B ∷ 0x8C ∷ 7 ∷ 0 ∷ 0 ∷ 0 ∷ 8 ∷ 0 ∷ 0 ∷ 0
    ∷ 4 ∷ 0 ∷ 0 ∷ 0 ∷ 0 ∷ 0 ∷ 0 ∷ 0 ∷ 0 ∷ 0 ∷ 0 ∷ 0 ∷ 0 ∷ 0 ∷ 0 ∷ []
