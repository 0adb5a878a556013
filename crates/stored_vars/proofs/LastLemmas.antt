-- The name of a result in CHAR16: when bytes are one.
use Rattle.std.proofs.Common.{◌≡◌, ◌≢◌, ℕ, ◌^◌, ◌<◌, ◌≤◌, Bool, true, false, ◌&&◌, cond, List}
use Rattle.std.proofs.Common.{length, nat_lt, Some, None, refl, sym, ap, ◌∙◌, arith}
use Rattle.std.proofs.lemmas.Bool.{false_from_ne_true, le-ltb, lt-ltb}
use Rattle.std.proofs.lemmas.Slice.Eq.{bytes_eq-Decides}
use Rattle.std.specs.Str.{bytes_eq}
use Rattle.stored_vars.specs.Last.{is_last, last_bytes, last_in, number_named}

pub and_second : (a b : Bool) → (a && b) ≡ true → b ≡ true
and_second true b h = h
and_second false b h = absurd cc

pub and_first : (a b : Bool) → (a && b) ≡ true → a ≡ true
and_first true b h = refl
and_first false b h = h

no_last : (bytes : List ℕ) → is_last bytes ≡ false → last_in bytes ≡ None
no_last bytes e = ap (λ z. cond z (Some (number_named bytes)) None) e

last_size : (n : ℕ) → length (last_bytes n) ≡ 22
last_size n = refl

pub last_sized : (bytes : List ℕ) → length bytes ≢ 22 → last_in bytes ≡ None
last_sized bytes other =
    no_last bytes (false_from_ne_true _ (λ is. other
    (ap length (sym (same is)) ∙ last_size (number_named bytes))))
  where
    same : is_last bytes ≡ true → last_bytes (number_named bytes) ≡ bytes
    same is =
        (bytes_eq-Decides (last_bytes (number_named bytes)) bytes).0
        (and_second (nat_lt (number_named bytes) (2 ^ 16)) _ is)

pub last_high : (bytes : List ℕ) → 65535 < number_named bytes → last_in bytes ≡ None
last_high bytes high =
    no_last bytes (ap (λ z. z && bytes_eq (last_bytes (number_named bytes)) bytes)
    (le-ltb (number_named bytes) (2 ^ 16) (omega arith)))

pub last_named : (bytes : List ℕ) (b : Bool) → number_named bytes ≤ 65535
    → bytes_eq (last_bytes (number_named bytes)) bytes ≡ b
    → last_in bytes ≡ cond b (Some (number_named bytes)) None
last_named bytes b low e =
    ap (λ z. cond (z && bytes_eq (last_bytes (number_named bytes)) bytes)
    (Some (number_named bytes)) None)
    (lt-ltb (number_named bytes) (2 ^ 16) (omega arith))
    ∙ ap (λ z. cond z (Some (number_named bytes)) None) e
