-- The bytes of inputs by their names, and how much of a capsule's room is taken.
use Rattle.std.specs.Prelude.{◌≡◌, ℕ, ◌+◌, ◌<◌, List, [], Option, option_map, Result, Ok, Err}
use Rattle.std.specs.Prelude.{Some, unwrap_or, if◌then◌else◌}
use Rattle.std.specs.HashMap.{HashMap, get_by}
use Rattle.std.specs.Str.{bytes_eq}
use denote.Ref.{Bor}
use Rattle.recipe_files.specs.declared.faults.BuildFault.{BuildFault}
use Rattle.recipe_files.specs.declared.faults.BuildFault.TheVariants.{TooLarge, Memory}
use Rattle.recipe_files.specs.Builds.{Contents}

-- the bytes of a name in a map, if it is there
abbrev pub found_in : {S : Type 0} → HashMap (Bor (List ℕ)) (Bor (List ℕ)) S → List ℕ
    → Option (List ℕ)
found_in index name = option_map (λ bytes. bytes.now) (get_by (λ k. bytes_eq name k.now) index)

-- the bytes of each name in a map
unfoldable pub found : {S : Type 0} → HashMap (Bor (List ℕ)) (Bor (List ℕ)) S → Contents
found index name = unwrap_or (found_in index name) []

-- the bytes of a pair are found by its name, and those of each other name as before
abbrev pub AddsPair : {S : Type 0} → HashMap (Bor (List ℕ)) (Bor (List ℕ)) S
    → (List ℕ × List ℕ) → HashMap (Bor (List ℕ)) (Bor (List ℕ)) S → Type 0
AddsPair old pair new =
    (name : List ℕ) → found_in new name
    ≡ (if bytes_eq pair.0 name then Some pair.1 else found_in old name)

-- so many bytes fit into the room, and this is left of it, or they do not
abbrev pub FitsIn : ℕ → ℕ → Result ℕ BuildFault → Type 0
FitsIn room size (Ok left) = left + size ≡ room
FitsIn room size (Err TooLarge) = room < size
FitsIn room size (Err Memory) = ⊥
