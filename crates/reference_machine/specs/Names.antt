-- The order of capsule files: they go by their upper-cased names.
use Rattle.std.specs.Prelude.{ℕ, Bool, true, false, if◌then◌else◌, nat_lt, List, [], ◌∷◌}
use Rattle.std.specs.Str.{str_to_ascii_uppercase}

-- whether the first text stands before the second in a dictionary of bytes
abbrev pub is_before : List ℕ → List ℕ → Bool
is_before a [] = false
is_before [] (y ∷ ys) = true
is_before (x ∷ xs) (y ∷ ys) =
    if nat_lt x y then true else if nat_lt y x then false else is_before xs ys

-- whether the file of the first name is taken before that of the second
abbrev pub is_taken_before : List ℕ → List ℕ → Bool
is_taken_before a b = is_before (str_to_ascii_uppercase a) (str_to_ascii_uppercase b)
