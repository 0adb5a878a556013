-- The keys of the map of a store, which stand in the order of their bytes.
use Rattle.std.specs.Prelude.{ℕ, Bool, List}
use Rattle.std.specs.Cmp.Lexicographic.{slice_cmp}
use Rattle.std.specs.Ordering.{is_eq, nat_cmp}
use Rattle.std.specs.declared.cmp.Ordering.{Ordering}
use Rattle.std.specs.Prelude.{Vec}
use Rattle.std.specs.declared.alloc.Global.{Global}

-- a key
abbrev pub Key : Type 0
Key = Vec ℕ Global

-- the bytes of a key
abbrev pub bytes_of_key : Key → List ℕ
bytes_of_key k = k.items

-- keys are in the order of their bytes
abbrev pub key_order : Key → Key → Ordering
key_order a b = slice_cmp nat_cmp a.items b.items

-- a key has these bytes
abbrev pub asks : List ℕ → Key → Bool
asks bytes k = is_eq (slice_cmp nat_cmp bytes k.items)
