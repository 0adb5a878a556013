-- A GUID's bytes in a capsule, and its text (UEFI 2.10, appendix A; RFC 9562, 4). The text shows
-- its bytes in order, and in a capsule the first three fields, of 4, 2 and 2 bytes, stand the other
-- way round.
use Rattle.std.specs.Prelude.{ℕ, List, ◌++◌, reverse, Result, ok_or, option_map}
use Rattle.uuid.specs.Text.{parsed, hyphenated_text, lower}
use Rattle.cu_base.specs.Fields.{field}
use Rattle.cu_base.specs.declared.faults.BaseFault.{BaseFault}
use Rattle.cu_base.specs.declared.faults.BaseFault.TheVariants.{BadGuidText}
use Rattle.cu_base.specs.declared.guid.Guid.{Guid}

-- the bytes in a capsule of those in a text, and the other way
abbrev pub fields_reversed : List ℕ → List ℕ
fields_reversed bytes =
    reverse (field bytes 0 4) ++ reverse (field bytes 4 2) ++ reverse (field bytes 6 2)
    ++ field bytes 8 8

-- the GUID whose text shows these bytes
abbrev pub guid_of : List ℕ → Guid
guid_of shown = record { bytes = fields_reversed shown }

-- the GUID that a text shows in any of the forms that `uuid` takes
abbrev pub guid_of_text : List ℕ → Result Guid BaseFault
guid_of_text text = ok_or (option_map guid_of (parsed text)) BadGuidText

-- the hyphenated text of lower-case digits
abbrev pub guid_text : Guid → List ℕ
guid_text guid = hyphenated_text lower (fields_reversed guid.bytes)
