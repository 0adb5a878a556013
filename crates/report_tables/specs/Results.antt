-- Result variables (UEFI 2.10, 8.5.6). EFI_CAPSULE_RESULT_VARIABLE_HEADER: VariableTotalSize and
-- Reserved in 4 bytes each, CapsuleGuid in 16, CapsuleProcessed in 16, CapsuleStatus in 8. Behind it
-- stands EFI_CAPSULE_RESULT_VARIABLE_FMP where a payload was looked at: Version in 2 bytes,
-- PayloadIndex and UpdateImageIndex in 1 each, UpdateImageTypeId in 16, and the texts
-- CapsuleFileName and CapsuleTarget.
use Rattle.std.specs.Prelude.{◌≡◌, ℕ, ◌+◌, ◌<◌, ◌^◌, ◌==◌, not, nat_lt, List, [], ◌∷◌, ◌++◌, length}
use Rattle.std.specs.List.{AllByRecursion}
use Rattle.std.specs.Prelude.{drop, slice_index, IfSome, Option, None, Some, if◌then◌else◌}
use Rattle.std.specs.Prelude.{Bool}
use Rattle.cu_base.specs.Fields.{field, number_at, bytes_of}
use Rattle.cu_base.specs.Refusals.{Row, row}
use Rattle.cu_base.specs.Times.{time_bytes, time_at_front}
use Rattle.report_tables.specs.Units.{unit_bytes, text_at_front, text_size, text_rows, IsPlain}
use Rattle.report_tables.specs.declared.faults.ReportFault.{ReportFault}
use Rattle.report_tables.specs.declared.faults.ReportFault.TheVariants.{Short, BadVersion, BadSize}
use Rattle.report_tables.specs.declared.result.FmpResult.{FmpResult}
use Rattle.report_tables.specs.declared.result.ResultVar.{ResultVar}

-- the layout of the part on a payload, whose version is 1
abbrev pub fmp_bytes : Option FmpResult → List ℕ
fmp_bytes None = []
fmp_bytes (Some p) =
    bytes_of 2 1 ++ p.payload ∷ p.index ∷ p.type_id.bytes ++ unit_bytes p.file
    ++ unit_bytes p.target

-- how many bytes a result takes
abbrev pub result_size : ResultVar → ℕ
result_size v = 48 + length (fmp_bytes v.fmp)

-- the layout of a result with this number as Reserved
abbrev pub result_layout : ℕ → ResultVar → List ℕ
result_layout reserved v =
    bytes_of 4 (result_size v) ++ bytes_of 4 reserved ++ v.guid.bytes ++ time_bytes v.time
    ++ bytes_of 8 v.status.code ++ fmp_bytes v.fmp

-- the layout that is written: Reserved is 0
abbrev pub result_bytes : ResultVar → List ℕ
result_bytes = result_layout 0

-- CapsuleFileName, the text from 68 on
abbrev pub file_in : List ℕ → List ℕ
file_in bytes = text_at_front (drop 68 bytes)

-- the place of CapsuleTarget
abbrev pub target_place : List ℕ → ℕ
target_place bytes = 68 + text_size (file_in bytes)

-- CapsuleTarget
abbrev pub target_in : List ℕ → List ℕ
target_in bytes = text_at_front (drop (target_place bytes) bytes)

-- the place behind CapsuleTarget
abbrev pub end_place : List ℕ → ℕ
end_place bytes = target_place bytes + text_size (target_in bytes)

-- when the fields of the part on a payload are refused: below them, then where its version is not 1
abbrev pub fmp_field_rows : List ℕ → List (Row ReportFault)
fmp_field_rows bytes =
    row (nat_lt (length bytes) 68) Short ∷ row (not (number_at bytes 48 2 == 1)) BadVersion ∷ []

-- when bytes stand behind the part on a payload
abbrev pub fmp_end_rows : List ℕ → List (Row ReportFault)
fmp_end_rows bytes = row (not (length bytes == end_place bytes)) BadSize ∷ []

-- when the part on a payload is refused, in order: by its fields, by its first text and its second,
-- and where bytes stand behind them
abbrev pub fmp_rows : List ℕ → List (Row ReportFault)
fmp_rows bytes =
    fmp_field_rows bytes
    ++ (text_rows (drop 68 bytes)
    ++ (text_rows (drop (target_place bytes) bytes) ++ fmp_end_rows bytes))

-- when a result is refused, in order: below its header, where VariableTotalSize is not its length,
-- and by its part on a payload where bytes stand behind the header
abbrev pub result_rows : List ℕ → List (Row ReportFault)
result_rows bytes =
    row (nat_lt (length bytes) 48) Short
    ∷ row (not (number_at bytes 0 4 == length bytes)) BadSize
    ∷ (if length bytes == 48 then [] else fmp_rows bytes)

-- the part on a payload by its fields
abbrev pub fmp_fields : List ℕ → FmpResult
fmp_fields bytes = record {
  payload = slice_index bytes 50;
  index = slice_index bytes 51;
  type_id = record { bytes = field bytes 52 16 };
  file = file_in bytes;
  target = target_in bytes;
}

-- a result by its fields; Reserved is not kept
abbrev pub result_fields : List ℕ → ResultVar
result_fields bytes = record {
  guid = record { bytes = field bytes 8 16 };
  time = time_at_front (drop 24 bytes);
  status = record { code = number_at bytes 40 8 };
  fmp = if length bytes == 48 then None else Some (fmp_fields bytes);
}

-- its size has 4 bytes
abbrev pub is_writable : ResultVar → Bool
is_writable v = nat_lt (result_size v) (2 ^ 32)

-- each field of a part on a payload has its width, and its texts are ASCII without zero
pub record IsFmpResult (p : FmpResult) : Type 0 where
  pub payload : p.payload < 2 ^ 8
  pub index : p.index < 2 ^ 8
  pub type_id : length p.type_id.bytes ≡ 16
  pub file : AllByRecursion IsPlain p.file
  pub target : AllByRecursion IsPlain p.target

-- each field of a result has its width; its moment is the one that the bytes of it hold, as that of
-- every moment is
pub record IsResult (v : ResultVar) : Type 0 where
  pub guid : length v.guid.bytes ≡ 16
  pub time : time_at_front (time_bytes v.time) ≡ v.time
  pub status : v.status.code < 2 ^ 64
  pub fmp : IfSome v.fmp IsFmpResult
  pub size : result_size v < 2 ^ 32
