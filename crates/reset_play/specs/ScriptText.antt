-- The text of a script: lines with a line feed between any two, each of them skipped, an event or
-- refused.
use Rattle.std.specs.Prelude.{ℕ, ◌+◌, Bool, ◌||◌, not, ◌==◌, nat_lt, if◌then◌else◌, List, [], ◌∷◌}
use Rattle.std.specs.Prelude.{◌++◌, length, slice_index, Option, Some, None, Result, Ok, Err}
use Rattle.std.specs.List.{list_all}
use Rattle.reference_machine.specs.declared.event.Event.{Event}
use Rattle.reset_play.specs.declared.script.limits.TheConstants.{MAX_EVENTS}
use Rattle.reset_play.specs.declared.script.faults.ScriptKind.{ScriptKind}
use Rattle.reset_play.specs.declared.script.faults.ScriptKind.TheVariants.{BadText, BadEvent}
use Rattle.reset_play.specs.declared.script.faults.ScriptKind.TheVariants.{TooMany}
use Rattle.reset_play.specs.ScriptWords.{is_within, parts, words}
use Rattle.reset_play.specs.ScriptEvents.{forms, event_by}

-- an empty line, and one that begins with `#`
abbrev pub is_skipped : List ℕ → Bool
is_skipped line = (length line == 0) || (slice_index line 0 == 35)

-- printable ASCII characters alone
abbrev pub is_plain : List ℕ → Bool
is_plain line = list_all (is_within 0x20 0x7E) line

-- the event that words say
abbrev pub event_of_words : List (List ℕ) → Result Event ScriptKind
event_of_words [] = Err BadEvent  -- no line has no word
event_of_words (word ∷ operands) = event_by forms word operands

-- an event that a line says
abbrev pub as_event : Result Event ScriptKind → Result (Option Event) ScriptKind
as_event (Ok event) = Ok (Some event)
as_event (Err kind) = Err kind

-- what a line says: nothing where it is skipped, an event, or why it is refused
abbrev pub line_said : List ℕ → Result (Option Event) ScriptKind
line_said line =
    if not (is_plain line) then Err BadText
    else if is_skipped line then Ok None
    else as_event (event_of_words (words line))

-- the events of lines, or the first fault
abbrev pub ScriptSaid : Type 0
ScriptSaid = Result (List Event) (ℕ × ScriptKind)

-- events, and then those of what is left
abbrev pub behind : List Event → ScriptSaid → ScriptSaid
behind events (Ok more) = Ok (events ++ more)
behind events (Err fault) = Err fault

-- what a script says from a line on: that of this line, with that of the lines behind it
abbrev pub with_line : ℕ → ℕ → Result (Option Event) ScriptKind → ScriptSaid → ScriptSaid
    → ScriptSaid
with_line line before (Err kind) skipped taken = Err (line, kind)
with_line line before (Ok None) skipped taken = skipped
with_line line before (Ok (Some event)) skipped taken =
    if nat_lt before MAX_EVENTS then behind (event ∷ []) taken else Err (line, TooMany)

-- what lines say, where the first has this number and so many events stand before it: their events,
-- or the number of the first line that is refused, and why
abbrev pub lines_said : ℕ → ℕ → List (List ℕ) → ScriptSaid
lines_said line before [] = Ok []
lines_said line before (text ∷ lines) =
    with_line line before (line_said text) (lines_said (line + 1) before lines)
    (lines_said (line + 1) (before + 1) lines)

-- what a whole text says
abbrev pub script_said : List ℕ → ScriptSaid
script_said text = lines_said 1 0 (parts 10 text)
