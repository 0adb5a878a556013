-- The text of a trace. Each event has one line, and the lines of a boot and of what is shown stand
-- before it, with two spaces in front.
use Rattle.std.specs.Prelude.{ℕ, false, ◌+◌, ◌%◌, ◌^◌, ◌==◌, List, [], ◌∷◌, ◌++◌, length}
use Rattle.std.specs.Prelude.{flat_map, slice_get, codes, decimal, Option, None, Some, option_map}
use Rattle.std.specs.Prelude.{unwrap_or, if◌then◌else◌}
use Rattle.std.specs.Fmt.{radix_digits}
use Rattle.cu_base.specs.declared.status.EfiStatus.{EfiStatus}
use Rattle.cu_base.specs.declared.ticket.Ticket.{Ticket}
use Rattle.cu_base.specs.Guids.{guid_text}
use Rattle.reference_machine.specs.declared.event.Event.{Event}
use Rattle.reference_machine.specs.declared.event.Event.TheVariants as events
use Rattle.reference_machine.specs.declared.snapshot.CapsuleResult.{CapsuleResult}
use Rattle.report_tables.specs.declared.esrt.EsrtEntry.{EsrtEntry}
use Rattle.report_tables.specs.declared.result.FmpResult.{FmpResult}
use Rattle.reference_machine.specs.declared.snapshot.FolderFile.{FolderFile}
use Rattle.reference_machine.specs.declared.snapshot.StagedPair.{StagedPair}
use Rattle.reference_machine.specs.declared.trace.BootEnd.{BootEnd}
use Rattle.reference_machine.specs.declared.trace.BootEnd.TheVariants as ends
use Rattle.reference_machine.specs.declared.unit.Kind.{Kind}
use Rattle.reference_machine.specs.declared.unit.Kind.TheVariants.{Try, Heal, Skip, NoTarget, Bad}
use Rattle.reference_machine.specs.declared.unit.UnitLine.{UnitLine}
use Rattle.bench_model.specs.Boards.{BoardValue}
use Rattle.report_tables.specs.Names.{result_name}
use Rattle.reference_machine.specs.TraceValues.{AnswerValue, SnapshotValue}
use Rattle.reference_machine.specs.TraceValues.AnswerValue.{Done, Serial, FlashFault, VolumeFault}
use Rattle.reference_machine.specs.TraceValues.AnswerValue.{NoBank, Full, Wraps, Invalid}
use Rattle.reference_machine.specs.TraceValues.AnswerValue.{Unsupported, Resources, Booted, Shown}

-- words, each with a space before it
abbrev pub parts : List (List ℕ) → List ℕ
parts words = flat_map (λ w. 32 ∷ w) words

-- a line: a first word, further ones, and the line feed
abbrev pub line : List ℕ → List (List ℕ) → List ℕ
line first words = first ++ parts words ++ 10 ∷ []

-- a line with two spaces in front
abbrev pub indented : List ℕ → List (List ℕ) → List ℕ
indented first words = codes "  " ++ line first words

-- what stands for something that is not there
abbrev pub dash : List ℕ
dash = codes "-"

-- the number of an EFI_STATUS without its top bit
abbrev pub status_text : EfiStatus → List ℕ
status_text status = decimal (status.code % 2 ^ 63)

-- the word of a kind
abbrev pub kind_word : Kind → List ℕ
kind_word Try = codes "try"
kind_word Heal = codes "heal"
kind_word Skip = codes "skip"
kind_word NoTarget = codes "none"
kind_word Bad = codes "bad"

-- where a unit comes from: the serial of a delivery by memory, or the name of a file
abbrev pub source_text : Ticket → List ℕ → List ℕ
source_text ticket name =
    if ticket.route == 0 then codes "mem:" ++ decimal ticket.serial else codes "file:" ++ name

-- a refused delivery has no capsule
abbrev pub capsule_text : Kind → ℕ → List ℕ
capsule_text Try n = decimal n
capsule_text Heal n = decimal n
capsule_text Skip n = decimal n
capsule_text NoTarget n = decimal n
capsule_text Bad n = dash

-- and neither it nor a capsule that is passed over has an item
abbrev pub item_text : Kind → ℕ → List ℕ
item_text Try n = decimal n
item_text Heal n = decimal n
item_text NoTarget n = decimal n
item_text Skip n = dash
item_text Bad n = dash

-- only an attempt has a target and a version
abbrev pub attempt_text : Kind → List ℕ → List ℕ
attempt_text Try text = text
attempt_text Heal text = text
attempt_text Skip text = dash
attempt_text NoTarget text = dash
attempt_text Bad text = dash

-- the name of a device of the board
abbrev pub device_text : BoardValue → ℕ → List ℕ
device_text board d = unwrap_or (option_map (λ x. x.name) (slice_get board.devices d)) dash

-- where a line of a boot comes from and where to it goes: source, capsule, item, target
abbrev pub key_words : BoardValue → UnitLine → List (List ℕ)
key_words board l =
    source_text l.key.ticket l.key.name ∷ capsule_text l.kind l.key.ticket.capsule
    ∷ item_text l.kind l.key.ticket.item
    ∷ attempt_text l.kind (device_text board l.key.device) ∷ []

-- and how it ended: status, version, result
abbrev pub end_words : UnitLine → List (List ℕ)
end_words l =
    status_text l.status ∷ attempt_text l.kind (decimal l.version) ∷ result_name l.result ∷ []

-- a line of a boot
abbrev pub unit_text : BoardValue → UnitLine → List ℕ
unit_text board l = indented (kind_word l.kind) (key_words board l ++ end_words l)

-- the line of an ESRT entry
abbrev pub esrt_text : EsrtEntry → List ℕ
esrt_text e =
    indented (codes "esrt")
    (guid_text e.class ∷ decimal e.fw_type ∷ decimal e.version ∷ decimal e.lowest
    ∷ decimal e.flags
    ∷ decimal e.last_version ∷ decimal e.last_status ∷ [])

-- a text, or a dash for the empty one
abbrev pub or_dash : List ℕ → List ℕ
or_dash [] = dash
or_dash (b ∷ bs) = b ∷ bs

-- the words of the FMP part of a result
abbrev pub fmp_words : Option FmpResult → List (List ℕ)
fmp_words None = []
fmp_words (Some p) = decimal p.payload ∷ decimal p.index ∷ or_dash p.file ∷ or_dash p.target ∷ []

-- the line of a result
abbrev pub result_text : CapsuleResult → List ℕ
result_text r =
    indented (codes "result")
    (result_name r.number ∷ status_text r.variable.status ∷ guid_text r.variable.guid
    ∷ fmp_words r.variable.fmp)

-- the line of the last result
abbrev pub last_text : Option ℕ → List ℕ
last_text None = []
last_text (Some n) = indented (codes "last") (result_name n ∷ [])

-- the line of a file
abbrev pub file_text : FolderFile → List ℕ
file_text x = indented (codes "file") (x.name ∷ decimal x.serial ∷ decimal x.size ∷ [])

-- a staged delivery with its address in lower-case hexadecimal
abbrev pub staged_text : StagedPair → List ℕ
staged_text p = indented (codes "staged") (decimal p.serial ∷ radix_digits 16 false p.address ∷ [])

-- what the platform shows: the ESRT, the results, the last of them, the files and the staged
-- deliveries
abbrev pub picture_text : SnapshotValue → List ℕ
picture_text p =
    flat_map esrt_text p.esrt ++ flat_map result_text p.results ++ last_text p.last
    ++ flat_map file_text p.files ++ flat_map staged_text p.staged

-- the lines before an event's own
abbrev pub lines_before : BoardValue → AnswerValue → List ℕ
lines_before board Done = []
lines_before board (Serial serial) = []
lines_before board FlashFault = []
lines_before board VolumeFault = []
lines_before board NoBank = []
lines_before board Full = []
lines_before board Wraps = []
lines_before board Invalid = []
lines_before board Unsupported = []
lines_before board Resources = []
lines_before board (Booted report end) = flat_map (unit_text board) report.lines
lines_before board (Shown snapshot) = picture_text snapshot

-- the word of an event
abbrev pub event_word : Event → List ℕ
event_word (events.Time moment) = codes "time"
event_word (events.Drop file input) = codes "drop"
event_word events.Signal = codes "signal"
event_word (events.Lay at input) = codes "lay"
event_word (events.Poke at bytes) = codes "poke"
event_word (events.Stage at) = codes "stage"
event_word events.Boot = codes "boot"
event_word (events.Arm after choice) = codes "arm"
event_word (events.Fail nth) = codes "fail"
event_word (events.Reset cold) = codes "reset"
event_word events.Show = codes "show"

-- the word of a boot's end
abbrev pub end_word : BootEnd → List ℕ
end_word ends.Ok = codes "ok"
end_word ends.Flash = codes "flash"
end_word ends.Volume = codes "volume"
end_word ends.NoBank = codes "nobank"

-- the words of an answer
abbrev pub answer_words : AnswerValue → List (List ℕ)
answer_words Done = codes "ok" ∷ []
answer_words (Serial serial) = codes "ok" ∷ decimal serial ∷ []
answer_words FlashFault = codes "flash" ∷ []
answer_words VolumeFault = codes "volume" ∷ []
answer_words NoBank = codes "nobank" ∷ []
answer_words Full = codes "full" ∷ []
answer_words Wraps = codes "wraps" ∷ []
answer_words Invalid = codes "invalid" ∷ []
answer_words Unsupported = codes "unsupported" ∷ []
answer_words Resources = codes "resources" ∷ []
answer_words (Booted report end) = end_word end ∷ []
answer_words (Shown snapshot) = codes "ok" ∷ []

-- the line of the n-th event
abbrev pub event_line : ℕ → Event → AnswerValue → List ℕ
event_line n event answer = line (decimal n) (event_word event ∷ answer_words answer)

-- the lines of events from the n-th on, as far as there are answers
abbrev pub entries_text : BoardValue → ℕ → List Event → List AnswerValue → List ℕ
entries_text board n [] answers = []
entries_text board n (event ∷ events) [] = []
entries_text board n (event ∷ events) (answer ∷ answers) =
    lines_before board answer ++ event_line n event answer
    ++ entries_text board (n + 1) events answers

-- events count from 1; the last line tells how many there are
abbrev pub trace_text : BoardValue → List Event → List AnswerValue → List ℕ
trace_text board events answers =
    entries_text board 1 events answers ++ line (codes "done") (decimal (length events) ∷ [])
