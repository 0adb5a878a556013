-- Fields in lists of bytes: a field that is written is read again, and one that is read is written
-- back.
use Rattle.std.proofs.Common.{◌≡◌, ℕ, zero, suc, ◌+◌, ◌*◌, ◌/◌, ◌%◌, ◌^◌, ◌<◌, ◌≤◌, List, [], ◌∷◌}
use Rattle.std.proofs.Common.{◌++◌, length, get_or, take, drop, refl, sym, ap, subst, ◌∙◌, inl, inr}
use Rattle.std.proofs.Common.{lit<, arith}
use Rattle.std.proofs.lemmas.List.{take_at, drop_at, take-append-drop, length-take, length-drop}
use Rattle.std.proofs.lemmas.List.{get_or-drop, get_or-take, get_or_past, take-take, drop-take}
use Rattle.std.proofs.lemmas.List.{take_more}
use Rattle.std.proofs.lemmas.Bool.{cases_lt}
use Rattle.std.specs.List.{AllByRecursion}
use native.Mathlib.Numerals.{unary_clauses}
use Rattle.cu_base.specs.Fields.{number, field, number_at, bytes_of}
use Rattle.cu_base.specs.Bytes.{IsBytes}

pub IsBytes-drop : (n : ℕ) (bytes : List ℕ) → IsBytes bytes → IsBytes (drop n bytes)
IsBytes-drop n bytes h i = rw get_or-drop (h (n + i))

pub IsBytes-take : (n : ℕ) (bytes : List ℕ) → IsBytes bytes → IsBytes (take n bytes)
IsBytes-take n bytes h i =
    elim (cases_lt i n) [
      | inl lt ↦ rw (get_or-take n bytes i 0 lt) (h i)
      | inr le ↦ rw (get_or_past (take n bytes) i 0 (omega (arith, length-take n bytes)))
          (omega arith)
    ]

pub IsBytes-field : (bytes : List ℕ) (at size : ℕ) → IsBytes bytes → IsBytes (field bytes at size)
IsBytes-field bytes at size h = IsBytes-take size (drop at bytes) (IsBytes-drop at bytes h)

pub IsBytes-rest : (b : ℕ) (bytes : List ℕ) → IsBytes (b ∷ bytes) → IsBytes bytes
IsBytes-rest b bytes h i = h (suc i)

-- numbers that are bytes one by one
pub IsBytes-from : (bytes : List ℕ) → AllByRecursion (λ b. b < 256) bytes → IsBytes bytes
IsBytes-from [] all i = lit< tt
IsBytes-from (b ∷ bytes) all zero = all.0
IsBytes-from (b ∷ bytes) all (suc i) = IsBytes-from bytes all.1 i

pub length-bytes_of : (size n : ℕ) → length (bytes_of size n) ≡ size
length-bytes_of zero n = refl
length-bytes_of (suc size) n = ap suc (length-bytes_of size (n / 256))

pub length-field : (bytes : List ℕ) (at size : ℕ)
    → at + size ≤ length bytes → length (field bytes at size) ≡ size
length-field bytes at size h = omega (arith, length-take size (drop at bytes), length-drop at bytes)

-- the bytes of a number have that number
pub number-bytes_of : (size n : ℕ) → n < 256 ^ size → number (bytes_of size n) ≡ n
number-bytes_of zero n h = omega arith
number-bytes_of (suc size) n h =
    let power : n < 256 ^ size * 256 = simp unary_clauses at h in
    let less : n / 256 < 256 ^ size = omega arith in
    omega (arith, number-bytes_of size (n / 256) less)

-- the number of bytes has those bytes
pub bytes_of-number : (bytes : List ℕ)
    → IsBytes bytes → bytes_of (length bytes) (number bytes) ≡ bytes
bytes_of-number [] h = refl
bytes_of-number (b ∷ bytes) h =
    let low : (b + 256 * number bytes) % 256 ≡ b = omega (arith, h 0) in
    let high : (b + 256 * number bytes) / 256 ≡ number bytes = omega (arith, h 0) in
    rw (low, high, bytes_of-number bytes (IsBytes-rest b bytes h)) refl

pub bytes_of-number_at : (bytes : List ℕ) (at size : ℕ) → IsBytes bytes
    → at + size ≤ length bytes → bytes_of size (number_at bytes at size) ≡ field bytes at size
bytes_of-number_at bytes at size is long =
    ap (λ (k : ℕ). bytes_of k (number_at bytes at size)) (sym (length-field bytes at size long))
    ∙ bytes_of-number (field bytes at size) (IsBytes-field bytes at size is)

-- a field between two parts
pub field_in : (whole p q r : List ℕ) (at size : ℕ)
    → whole ≡ p ++ (q ++ r) → length p ≡ at → length q ≡ size → field whole at size ≡ q
field_in whole p q r at size e before here =
    rw (e, drop_at p (q ++ r) at before, take_at q r size here) refl

pub number_at_in : (whole p q : List ℕ) (n : ℕ) (r : List ℕ) (at size : ℕ)
    → whole ≡ p ++ (q ++ r) → q ≡ bytes_of size n → length p ≡ at → n < 256 ^ size
    → number_at whole at size ≡ n
number_at_in whole p q n r at size e is before fits =
    ap number (field_in whole p q r at size e before (ap length is ∙ length-bytes_of size n))
    ∙ ap number is ∙ number-bytes_of size n fits

-- the number of a field is below the numbers that need more bytes
pub number-below : (bytes : List ℕ) → IsBytes bytes → number bytes < 256 ^ length bytes
number-below [] h = omega arith
number-below (b ∷ bytes) h =
    simp unary_clauses (omega (arith, h 0, number-below bytes (IsBytes-rest b bytes h)))

pub number_at-below : (bytes : List ℕ) (at size : ℕ) → IsBytes bytes
    → at + size ≤ length bytes → number_at bytes at size < 256 ^ size
number_at-below bytes at size is long =
    subst (λ (k : ℕ). number_at bytes at size < 256 ^ k) (length-field bytes at size long)
    (number-below (field bytes at size) (IsBytes-field bytes at size is))

-- a field behind the front that is already there
pub take_field : (bytes : List ℕ) (at size : ℕ)
    → take at bytes ++ field bytes at size ≡ take (at + size) bytes
take_field bytes at size =
    let whole = take (at + size) bytes in
    let front : take at whole ≡ take at bytes = take-take at (at + size) bytes (omega arith) in
    let here : drop at whole ≡ field bytes at size = drop-take at size bytes in
    rw (← front, ← here) (take-append-drop at whole)

-- the bytes of a number that was read, behind the front that is already there
pub next_number : (bytes front : List ℕ) (at size : ℕ) → IsBytes bytes → at + size ≤ length bytes
    → front ≡ take at bytes
    → front ++ bytes_of size (number_at bytes at size) ≡ take (at + size) bytes
next_number bytes front at size is long so_far =
    rw (so_far, bytes_of-number_at bytes at size is long) (take_field bytes at size)

pub next_field : (bytes front : List ℕ) (at size : ℕ)
    → front ≡ take at bytes → front ++ field bytes at size ≡ take (at + size) bytes
next_field bytes front at size so_far = rw so_far (take_field bytes at size)

-- the byte at a place, behind the front that is already there
pub next_byte : (bytes front : List ℕ) (at : ℕ) → at < length bytes
    → front ≡ take at bytes → front ++ get_or bytes at 0 ∷ [] ≡ take (at + 1) bytes
next_byte bytes front at long so_far = rw so_far (sym (take_more bytes at 0 long))
