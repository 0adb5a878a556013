-- The events of a script: for each first word, what the operands behind it say.
use Rattle.std.specs.Prelude.{ℕ, Bool, true, false, codes, if◌then◌else◌, List, [], ◌∷◌, Option}
use Rattle.std.specs.Prelude.{Some, None, option_and_then, option_map, ok_or, Result, Err}
use Rattle.std.specs.Result.{result_ok}
use Rattle.std.specs.Str.{bytes_eq}
use Rattle.cu_base.specs.Times.{time_of_text, ◌>>=◌}
use Rattle.bench_model.specs.declared.choice.Choice.{Choice}
use Rattle.bench_model.specs.declared.choice.Choice.TheVariants.{New, Old, Mix, Fill}
use Rattle.reference_machine.specs.declared.event.Event.{Event}
use Rattle.reference_machine.specs.declared.event.Event.TheVariants as events
use Rattle.reset_play.specs.declared.script.limits.TheConstants.{MAX_COUNT}
use Rattle.reset_play.specs.declared.script.faults.ScriptKind.{ScriptKind}
use Rattle.reset_play.specs.declared.script.faults.ScriptKind.TheVariants.{BadEvent, BadOperand}
use Rattle.reset_play.specs.ScriptWords.{is_file_name, is_input_name, number_within, address}
use Rattle.reset_play.specs.ScriptWords.{hex_number, hex_bytes}

-- a word, where it passes a test
abbrev pub where_it : (List ℕ → Bool) → List ℕ → Option (List ℕ)
where_it test word = if test word then Some word else None

-- the one word of words, where there is one
abbrev pub only : List (List ℕ) → Option (List ℕ)
only [] = None
only (a ∷ []) = Some a
only (a ∷ b ∷ more) = None

-- the two words of words, where there are two
abbrev pub both : List (List ℕ) → Option (List ℕ × List ℕ)
both [] = None
both (a ∷ []) = None
both (a ∷ b ∷ []) = Some (a, b)
both (a ∷ b ∷ c ∷ more) = None

-- what no operand says
abbrev pub none : Event → List (List ℕ) → Option Event
none event [] = Some event
none event (a ∷ more) = None

-- what the one operand says
abbrev pub one : (List ℕ → Option Event) → List (List ℕ) → Option Event
one event operands = option_and_then event (only operands)

-- what the two operands say
abbrev pub two : (List ℕ → List ℕ → Option Event) → List (List ℕ) → Option Event
two event operands = option_and_then (λ p. event p.0 p.1) (both operands)

-- `time MOMENT`
abbrev pub time_event : List ℕ → Option Event
time_event moment = option_map events.Time (result_ok (time_of_text moment))

-- `drop FILE INPUT`
abbrev pub drop_event : List ℕ → List ℕ → Option Event
drop_event file input = do
  name ← where_it is_file_name file
  source ← where_it is_input_name input
  Some (events.Drop name source)

-- `lay ADDRESS INPUT`
abbrev pub lay_event : List ℕ → List ℕ → Option Event
lay_event at input = do
  place ← address at
  source ← where_it is_input_name input
  Some (events.Lay place source)

-- `poke ADDRESS BYTES`
abbrev pub poke_event : List ℕ → List ℕ → Option Event
poke_event at digits = do
  place ← address at
  bytes ← hex_bytes digits
  Some (events.Poke place bytes)

-- `stage ADDRESS`
abbrev pub stage_event : List ℕ → Option Event
stage_event at = option_map events.Stage (address at)

-- `new`, `old` or `mix`, or `fill` and a byte of two hexadecimal digits
abbrev pub choice : List (List ℕ) → Option Choice
choice [] = None
choice (a ∷ []) =
    if bytes_eq a (codes "new") then Some New
    else if bytes_eq a (codes "old") then Some Old
    else if bytes_eq a (codes "mix") then Some Mix
    else None
choice (a ∷ b ∷ []) = if bytes_eq a (codes "fill") then option_map Fill (hex_number 2 2 b) else None
choice (a ∷ b ∷ c ∷ more) = None

-- `arm NUMBER CHOICE`
abbrev pub arm_event : List (List ℕ) → Option Event
arm_event [] = None
arm_event (a ∷ more) = do
  after ← number_within 0 MAX_COUNT a
  left ← choice more
  Some (events.Arm after left)

-- `fail NUMBER`
abbrev pub fail_event : List ℕ → Option Event
fail_event nth = option_map events.Fail (number_within 1 MAX_COUNT nth)

-- `reset warm` or `reset cold`
abbrev pub reset_event : List ℕ → Option Event
reset_event how =
    if bytes_eq how (codes "warm") then Some (events.Reset false)
    else if bytes_eq how (codes "cold") then Some (events.Reset true)
    else None

-- a first word, and the event that the operands behind it say
pub record Form : Type 0 where
  pub word : List ℕ
  pub event : List (List ℕ) → Option Event

-- a form of its word
abbrev pub form : List ℕ → (List (List ℕ) → Option Event) → Form
form word event = record { word = word; event = event }

-- the eleven forms
abbrev pub forms : List Form
forms =
    form (codes "time") (one time_event)
    ∷ form (codes "drop") (two drop_event)
    ∷ form (codes "signal") (none events.Signal)
    ∷ form (codes "lay") (two lay_event)
    ∷ form (codes "poke") (two poke_event)
    ∷ form (codes "stage") (one stage_event)
    ∷ form (codes "boot") (none events.Boot)
    ∷ form (codes "arm") arm_event
    ∷ form (codes "fail") (one fail_event)
    ∷ form (codes "reset") (one reset_event)
    ∷ form (codes "show") (none events.Show)
    ∷ []

-- the event of the form of this first word
abbrev pub event_by : List Form → List ℕ → List (List ℕ) → Result Event ScriptKind
event_by [] word operands = Err BadEvent
event_by (f ∷ fs) word operands =
    if bytes_eq word f.word then ok_or (f.event operands) BadOperand else event_by fs word operands
