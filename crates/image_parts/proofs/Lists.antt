-- Fronts of lists that are joined, and fields that are read in a front.
use Rattle.std.proofs.Common.{◌≡◌, ℕ, zero, suc, ◌+◌, ◌-◌, ◌≤◌, min, inl, inr, List, [], ◌∷◌, ◌++◌}
use Rattle.std.proofs.Common.{length, take, drop, refl, sym, ap, ◌∙◌, arith}
use Rattle.std.proofs.lemmas.List.{drop-take, take-take}
use Rattle.std.proofs.lemmas.List.{get_or_append_left, get_or-append_right, take_at}
use Rattle.std.proofs.lemmas.List.{take-append-drop, take_all, take_min}
use Rattle.std.proofs.lemmas.Bool.{cases_lt}
use Rattle.cu_base.specs.Bytes.{IsBytes}
use Rattle.cu_base.specs.Fields.{field}

pub take_append : (n : ℕ) (xs ys : List ℕ) → take n (xs ++ ys) ≡ take n xs
    ++ take (n - length xs) ys
take_append zero xs ys =
    let none : 0 - length xs ≡ 0 = omega arith in rw none refl
take_append (suc n) [] ys =
    let all : suc n - 0 ≡ suc n = omega arith in rw all refl
take_append (suc n) (x ∷ xs) ys =
    let less : suc n - length (x ∷ xs) ≡ n - length xs = omega arith in
    rw less (ap (λ (l : List ℕ). x ∷ l) (take_append n xs ys))

pub drop_append : (n : ℕ) (xs ys : List ℕ) → drop n (xs ++ ys) ≡ drop n xs
    ++ drop (n - length xs) ys
drop_append zero xs ys =
    let none : 0 - length xs ≡ 0 = omega arith in rw none refl
drop_append (suc n) [] ys =
    let all : suc n - 0 ≡ suc n = omega arith in rw all refl
drop_append (suc n) (x ∷ xs) ys =
    let less : suc n - length (x ∷ xs) ≡ n - length xs = omega arith in
    rw less (drop_append n xs ys)

pub bytes_append : (xs ys : List ℕ) → IsBytes xs → IsBytes ys → IsBytes (xs ++ ys)
bytes_append xs ys hx hy i =
    elim (cases_lt i (length xs)) [
      | inl lt ↦ rw (get_or_append_left xs ys 0 i lt) (hx i)
      | inr le ↦ rw (get_or-append_right xs ys (length xs) i 0 refl le) (hy (i - length xs))
    ]

-- a field that ends within a front
field_front : (bytes : List ℕ) (n at size : ℕ) → at + size ≤ n
    → field (take n bytes) at size ≡ field bytes at size
field_front bytes n at size within =
    let whole : n ≡ at + (n - at) = omega arith in
    ap (λ (k : ℕ). take size (drop at (take k bytes))) whole
    ∙ ap (take size) (drop-take at (n - at) bytes)
    ∙ take-take size (n - at) (drop at bytes) (omega arith)

pub same_field : (a b : List ℕ) (n at size : ℕ) → take n a ≡ take n b → at + size ≤ n
    → field a at size ≡ field b at size
same_field a b n at size e within =
    sym (field_front a n at size within) ∙ ap (λ (l : List ℕ). field l at size) e
    ∙ field_front b n at size within

-- a list that has the front of another
pub carried : (old new front more : List ℕ) → old ≡ front ++ more
    → take (length front) old ≡ take (length front) new → new ≡ front ++ drop (length front) new
carried old new front more whole same =
    let here : take (length front) old ≡ front =
    ap (take (length front)) whole ∙ take_at front more (length front) refl in
    sym (take-append-drop (length front) new)
    ∙ ap (λ (l : List ℕ). l ++ drop (length front) new) (sym same ∙ here)

-- a front that grows by what it has room for
pub joined_front : (m : ℕ) (xs ys : List ℕ) (added : ℕ) → length xs ≤ m
    → added ≡ min (m - length xs) (length ys) → xs ++ take added ys ≡ take m (xs ++ ys)
joined_front m xs ys added low e =
    ap (λ (n : ℕ). xs ++ take n ys) e
    ∙ ap (λ (l : List ℕ). xs ++ l) (take_min (m - length xs) ys)
    ∙ ap (λ (l : List ℕ). l ++ take (m - length xs) ys) (sym (take_all m xs low))
    ∙ sym (take_append m xs ys)
