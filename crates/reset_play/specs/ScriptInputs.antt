-- The inputs that a script names.
use Rattle.std.specs.Prelude.{ℕ, Bool, not, if◌then◌else◌, List, [], ◌∷◌, ◌++◌, filter, Option}
use Rattle.std.specs.Prelude.{Some, None}
use Rattle.std.specs.List.{filter_map, list_any}
use Rattle.std.specs.Str.{bytes_eq}
use Rattle.reference_machine.specs.declared.event.Event.{Event}
use Rattle.reference_machine.specs.declared.event.Event.TheVariants.{Time, Drop, Signal, Lay, Poke}
use Rattle.reference_machine.specs.declared.event.Event.TheVariants.{Stage, Boot, Arm, Fail, Reset}
use Rattle.reference_machine.specs.declared.event.Event.TheVariants.{Show}

-- the input that an event names
abbrev pub mention : Event → Option (List ℕ)
mention (Time moment) = None
mention (Drop file input) = Some input
mention Signal = None
mention (Lay at input) = Some input
mention (Poke at bytes) = None
mention (Stage at) = None
mention Boot = None
mention (Arm after choice) = None
mention (Fail nth) = None
mention (Reset cold) = None
mention Show = None

-- each name once, in order of first mention
abbrev pub once : List (List ℕ) → List (List ℕ)
once [] = []
once (name ∷ names) = name ∷ filter (λ other. not (bytes_eq name other)) (once names)

-- the inputs of a script, each once, in order of first mention
abbrev pub inputs_of : List Event → List (List ℕ)
inputs_of events = once (filter_map mention events)

-- a name is among others
abbrev pub has_name : List ℕ → List (List ℕ) → Bool
has_name name names = list_any (λ other. bytes_eq other name) names

-- a name goes behind others where it is not among them
abbrev pub with_name : List (List ℕ) → List ℕ → List (List ℕ)
with_name names name = if has_name name names then names else names ++ name ∷ []

-- the names with that of one more event
abbrev pub with_mention : List (List ℕ) → Option (List ℕ) → List (List ℕ)
with_mention names None = names
with_mention names (Some name) = with_name names name
