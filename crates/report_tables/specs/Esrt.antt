-- The EFI System Resource Table (UEFI 2.10, 23.4): FwResourceCount and FwResourceCountMax in 4
-- bytes each, FwResourceVersion in 8, then 40 bytes an entry: FwClass in 16, then FwType,
-- FwVersion, LowestSupportedFwVersion, CapsuleFlags, LastAttemptVersion and LastAttemptStatus in 4
-- bytes each.
use Rattle.std.specs.Prelude.{◌≡◌, ℕ, ◌+◌, ◌*◌, ◌^◌, ◌<◌, ◌==◌, not, nat_lt, List, [], ◌∷◌, ◌++◌}
use Rattle.std.specs.Prelude.{length, map, flat_map, Option, None, Some}
use Rattle.std.specs.List.{AllByRecursion, range_with_len}
use Rattle.cu_base.specs.Fields.{field, number_at, bytes_of}
use Rattle.cu_base.specs.Refusals.{Row, row}
use Rattle.report_tables.specs.declared.esrt.EsrtEntry.{EsrtEntry}
use Rattle.report_tables.specs.declared.faults.ReportFault.{ReportFault}
use Rattle.report_tables.specs.declared.faults.ReportFault.TheVariants.{Short, BadCount, BadVersion}
use Rattle.report_tables.specs.declared.faults.ReportFault.TheVariants.{BadSize, NoTerminator}
use Rattle.report_tables.specs.declared.faults.ReportFault.TheVariants.{NotAscii, Memory}

-- the layout of an entry
abbrev pub entry_bytes : EsrtEntry → List ℕ
entry_bytes e =
    e.class.bytes ++ bytes_of 4 e.fw_type ++ bytes_of 4 e.version ++ bytes_of 4 e.lowest
    ++ bytes_of 4 e.flags ++ bytes_of 4 e.last_version ++ bytes_of 4 e.last_status

-- the layout of a table: it holds as many entries as it may, and its version is 1
abbrev pub esrt_bytes : List EsrtEntry → List ℕ
esrt_bytes entries =
    bytes_of 4 (length entries) ++ bytes_of 4 (length entries) ++ bytes_of 8 1
    ++ flat_map entry_bytes entries

-- FwResourceCount, the number at 0
abbrev pub entry_count : List ℕ → ℕ
entry_count bytes = number_at bytes 0 4

-- when a table is refused, in order: below 16 bytes, where it could hold more or fewer entries
-- than it does, where its version is not 1, and where its length is not that of its entries
abbrev pub esrt_rows : List ℕ → List (Row ReportFault)
esrt_rows bytes =
    row (nat_lt (length bytes) 16) Short
    ∷ row (not (entry_count bytes == number_at bytes 4 4)) BadCount
    ∷ row (not (number_at bytes 8 8 == 1)) BadVersion
    ∷ row (not (length bytes == 16 + 40 * entry_count bytes)) BadSize
    ∷ []

-- the entry whose fields stand from a place on
abbrev pub entry_at : List ℕ → ℕ → EsrtEntry
entry_at bytes at = record {
  class = record { bytes = field bytes at 16 };
  fw_type = number_at bytes (at + 16) 4;
  version = number_at bytes (at + 20) 4;
  lowest = number_at bytes (at + 24) 4;
  flags = number_at bytes (at + 28) 4;
  last_version = number_at bytes (at + 32) 4;
  last_status = number_at bytes (at + 36) 4;
}

-- the entries of a table, one behind another
abbrev pub entries_in : List ℕ → List EsrtEntry
entries_in bytes = map (λ k. entry_at bytes (16 + 40 * k)) (range_with_len 0 (entry_count bytes))

-- each field of an entry has its width
pub record IsEntry (e : EsrtEntry) : Type 0 where
  pub class : length e.class.bytes ≡ 16
  pub fw_type : e.fw_type < 2 ^ 32
  pub version : e.version < 2 ^ 32
  pub lowest : e.lowest < 2 ^ 32
  pub flags : e.flags < 2 ^ 32
  pub last_version : e.last_version < 2 ^ 32
  pub last_status : e.last_status < 2 ^ 32

-- entries of a table, each with fields of their width, whose number has 4 bytes
pub record AreEntries (entries : List EsrtEntry) : Type 0 where
  pub each : AllByRecursion IsEntry entries
  pub count : length entries < 2 ^ 32

-- the refusal that a fault tells; want of memory is none
abbrev pub told_fault : ReportFault → Option ReportFault
told_fault Short = Some Short
told_fault BadCount = Some BadCount
told_fault BadVersion = Some BadVersion
told_fault BadSize = Some BadSize
told_fault NoTerminator = Some NoTerminator
told_fault NotAscii = Some NotAscii
told_fault Memory = None
