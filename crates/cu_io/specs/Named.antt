-- Inputs that are found by name.
use Rattle.std.specs.Prelude.{◌≡◌, ℕ, List, [], ◌∷◌, Option, None, Some, IsSome, ⊤, if◌then◌else◌}
use Rattle.std.specs.Str.{bytes_eq}

-- each name with its bytes
abbrev pub Named : Type 0
Named = List (List ℕ × List ℕ)

-- the bytes of a name, those of its first pair
abbrev pub bytes_named : Named → List ℕ → Option (List ℕ)
bytes_named [] name = None
bytes_named (pair ∷ pairs) name = if bytes_eq pair.0 name then
    Some pair.1 else bytes_named pairs name

-- the name is not there
abbrev pub LacksName : Named → List ℕ → Type 0
LacksName named name = bytes_named named name ≡ None

-- no name stands twice
abbrev pub HasDistinctNames : Named → Type 0
HasDistinctNames [] = ⊤
HasDistinctNames (pair ∷ pairs) = LacksName pairs pair.0 × HasDistinctNames pairs

-- what an opened source has left: the bytes of its name, where names are told
abbrev pub Opens : Option Named → List ℕ → Option (List ℕ) → Type 0
Opens None name left = ⊤
Opens (Some named) name left = (bytes_named named name ≡ left) × IsSome left

-- names are told, and this one is not among them
abbrev pub IsMissing : Option Named → List ℕ → Type 0
IsMissing None name = ⊥
IsMissing (Some named) name = LacksName named name
