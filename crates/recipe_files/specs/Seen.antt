-- The names that were seen, in order of first mention.
use Rattle.std.specs.Prelude.{◌≡◌, ℕ, List, ◌++◌, map}
use Rattle.std.specs.HashSet.{HashSet}
use denote.Ref.{Bor}
use Rattle.recipe_files.specs.Mentions.{first_mentions}

-- the bytes of a name
abbrev pub bytes_of_name : Bor (List ℕ) → List ℕ
bytes_of_name name = name.now

-- the names of a set, in order
abbrev pub seen : {S : Type 0} → HashSet (Bor (List ℕ)) S → List (List ℕ)
seen names = map bytes_of_name names.keys

-- each mention that was not seen was added
abbrev pub Sees : List (List ℕ) → List (List ℕ) → List (List ℕ) → Type 0
Sees old mentions new = new ≡ old ++ first_mentions old mentions
