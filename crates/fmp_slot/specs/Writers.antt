-- What the writer of a slot with one bank has, and how it stands to its region.
use Rattle.std.specs.Prelude.{◌≡◌, ℕ, List, take}
use Rattle.bench_model.specs.Regions.{Region}
use Rattle.bench_model.specs.declared.outside_limits.TheConstants.{SLOT_LEAD}
use Rattle.fmp_slot.specs.declared.slot.SlotHead.{SlotHead}
use Rattle.fmp_slot.specs.declared.writer.SlotWriter.{SlotWriter}
use Rattle.fmp_slot.specs.Layout.{front_bytes}
use Rattle.fmp_slot.specs.Writing.{Writing, Places, IsUnderway}

-- its device, its head, its section, and how many bytes of the payload it took
abbrev pub writing_of : SlotWriter → Writing
writing_of w =
    record { device = w.device; head = w.head; dep = take w.head.dep_length w.dep; taken = w.taken }

-- its region may be written on
abbrev pub is_underway : SlotWriter → Region → Type 0
is_underway w region = IsUnderway w.head.length region

-- where a head and a section and the payload behind them are written
abbrev pub places_for : SlotHead → List ℕ → Places
places_for head dep =
    record { front_at = 1; front = front_bytes head dep; payload_at = SLOT_LEAD }

-- where it writes
abbrev pub places_of : SlotWriter → Places
places_of w = places_for w.head (take w.head.dep_length w.dep)

-- where a writer of a head and a section may write, whatever the size of the region
abbrev pub writes_at : ℕ → SlotHead → List ℕ → Places → Type 0
writes_at size head dep places = places ≡ places_for head dep
