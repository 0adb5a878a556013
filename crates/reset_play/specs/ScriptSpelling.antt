-- How a script is written: each event in one line, as words with one space between any two.
use Rattle.std.specs.Prelude.{◌≡◌, ℕ, false, zero, suc, ◌/◌, ◌%◌, ◌^◌, ◌<◌, ◌≤◌, if◌then◌else◌}
use Rattle.std.specs.Prelude.{codes, decimal, IsTrue, List, [], ◌∷◌, ◌++◌, length, flat_map}
use Rattle.std.specs.Fmt.{digit_glyph}
use Rattle.std.specs.List.{AllByRecursion, join_with_byte}
use Rattle.bench_model.specs.declared.choice.Choice.{Choice}
use Rattle.bench_model.specs.declared.choice.Choice.TheVariants.{New, Old, Mix, Fill}
use Rattle.cu_base.specs.Times.{is_in_calendar, moment, time_text}
use Rattle.reference_machine.specs.declared.event.Event.{Event}
use Rattle.reference_machine.specs.declared.event.Event.TheVariants.{Time, Drop, Signal, Lay, Poke}
use Rattle.reference_machine.specs.declared.event.Event.TheVariants.{Stage, Boot, Arm, Fail, Reset}
use Rattle.reference_machine.specs.declared.event.Event.TheVariants.{Show}
use Rattle.reset_play.specs.declared.script.limits.TheConstants.{MAX_COUNT, MAX_POKE_BYTES}
use Rattle.reset_play.specs.ScriptWords.{is_file_name, is_input_name}

-- the last so many hexadecimal digits of a number
abbrev pub hex_text : ℕ → ℕ → List ℕ
hex_text zero n = []
hex_text (suc k) n = hex_text k (n / 16) ++ digit_glyph false (n % 16) ∷ []

-- the two hexadecimal digits of each byte
abbrev pub pairs_text : List ℕ → List ℕ
pairs_text [] = []
pairs_text (b ∷ bs) = digit_glyph false (b / 16) ∷ digit_glyph false (b % 16) ∷ pairs_text bs

-- the words of a choice
abbrev pub choice_words : Choice → List (List ℕ)
choice_words New = codes "new" ∷ []
choice_words Old = codes "old" ∷ []
choice_words Mix = codes "mix" ∷ []
choice_words (Fill byte) = codes "fill" ∷ hex_text 2 byte ∷ []

-- the words of an event
abbrev pub event_words : Event → List (List ℕ)
event_words (Time now) = codes "time" ∷ time_text now ∷ []
event_words (Drop file input) = codes "drop" ∷ file ∷ input ∷ []
event_words Signal = codes "signal" ∷ []
event_words (Lay at input) = codes "lay" ∷ hex_text 16 at ∷ input ∷ []
event_words (Poke at bytes) = codes "poke" ∷ hex_text 16 at ∷ pairs_text bytes ∷ []
event_words (Stage at) = codes "stage" ∷ hex_text 16 at ∷ []
event_words Boot = codes "boot" ∷ []
event_words (Arm after choice) = codes "arm" ∷ decimal after ∷ choice_words choice
event_words (Fail nth) = codes "fail" ∷ decimal nth ∷ []
event_words (Reset cold) = codes "reset" ∷ (if cold then codes "cold" else codes "warm") ∷ []
event_words Show = codes "show" ∷ []

-- the line of an event
abbrev pub event_line : Event → List ℕ
event_line event = join_with_byte 32 (event_words event)

-- the text of a script, with a line feed behind each event
abbrev pub script_text : List Event → List ℕ
script_text events = flat_map (λ event. event_line event ++ 10 ∷ []) events

-- a choice that has words
abbrev pub FitsChoice : Choice → Type 0
FitsChoice New = Unit {0}
FitsChoice Old = Unit {0}
FitsChoice Mix = Unit {0}
FitsChoice (Fill byte) = byte < 256

-- what an event of a script may hold
abbrev pub Fits : Event → Type 0
Fits (Time now) =
    IsTrue (is_in_calendar now)
    × (now ≡ moment now.year now.month now.day now.hour now.minute now.second)
Fits (Drop file input) = IsTrue (is_file_name file) × IsTrue (is_input_name input)
Fits Signal = Unit {0}
Fits (Lay at input) = (at < 2 ^ 64) × IsTrue (is_input_name input)
Fits (Poke at bytes) =
    (at < 2 ^ 64) × (1 ≤ length bytes) × (length bytes ≤ MAX_POKE_BYTES)
    × AllByRecursion (λ b. b < 256) bytes
Fits (Stage at) = at < 2 ^ 64
Fits Boot = Unit {0}
Fits (Arm after choice) = (after ≤ MAX_COUNT) × FitsChoice choice
Fits (Fail nth) = (1 ≤ nth) × (nth ≤ MAX_COUNT)
Fits (Reset cold) = Unit {0}
Fits Show = Unit {0}
