-- The first true of a list of answers, seen a part at a time through the mask of that part.
use Rattle.std.proofs.Common.{◌≡◌, ◌≢◌, ℕ, zero, suc, ◌+◌, ◌*◌, ◌<◌, ◌≤◌, ◌==◌, Bool, true, false}
use Rattle.std.proofs.Common.{not}
use Rattle.std.proofs.Common.{cond, eqb, List, [], ◌∷◌, ◌++◌, map, length, take, drop}
use Rattle.std.proofs.Common.{refl, sym, ap, ap₂, ◌∙◌, arith}
use Rattle.std.proofs.lemmas.List.{length-drop, length-take, map-id, take-append-drop}
use Rattle.std.proofs.lemmas.List.{take-map, drop-map, drop_all, drop-drop, length-map}
use Rattle.std.proofs.lemmas.List.Folds.{prefix_len-append}
use Rattle.std.proofs.lemmas.List.Sums.{prefix_len-le-length}
use Rattle.std.proofs.lemmas.Bool.{eq-eqb, ne_eqb}
use Rattle.std.proofs.lemmas.Simd.{leading_from_mask_l, trailing_mask_l}
use Rattle.std.specs.List.{common_prefix_len, prefix_len}
use Rattle.std.specs.Simd.Lanes.{mask_l, zip2}
use lib.Count.{count_trailing_zeros}

-- the first place of an answer that is true, and the length where there is none
abbrev pub first_true : List Bool → ℕ
first_true answers = prefix_len (λ b. not b) answers

-- ---- a part of the answers

none_true : (b : Bool) (n l m : ℕ) → n ≤ l → cond (not b) (1 + n) 0 ≡ 1 + l → (n ≡ l → m ≡ 0)
    → cond b 1 0 + 2 * m ≡ 0
none_true true n l m le e ih = let no : ⊥ = omega arith in absurd no
none_true false n l m le e ih = let z = ih (omega arith) in omega arith

all_false : (xs : List Bool) → first_true xs ≡ length xs → mask_l xs ≡ 0
all_false [] e = refl
all_false (x ∷ xs) e =
    none_true x _ (length xs) _ (prefix_len-le-length (λ b. not b) xs) (omega arith) (all_false xs)

parted : (n : ℕ) (xs : List Bool) → first_true xs
    ≡ cond (eqb (first_true (take n xs)) (length (take n xs)))
    (length (take n xs) + first_true (drop n xs))
    (first_true (take n xs))
parted n xs =
    ap first_true (sym (take-append-drop n xs))
    ∙ prefix_len-append (λ b. not b) (take n xs) (drop n xs)

long : (n : ℕ) (xs : List Bool) → n ≤ length xs → length (take n xs) ≡ n
long n xs room = omega (arith, length-take n xs)

same_mask : (xs : List Bool) → mask_l (map (λ (b : Bool). b) xs) ≡ mask_l xs
same_mask xs = ap mask_l (map-id xs)

-- a part without a true answer is passed
pub run_through : (n : ℕ) (xs : List Bool) → n ≤ length xs → mask_l (take n xs) ≡ 0
    → first_true xs ≡ n + first_true (drop n xs)
run_through n xs room none =
    let c = take n xs in
    let all : first_true c ≡ length c = leading_from_mask_l (λ b. b) c (same_mask c ∙ none) in
    parted n xs
    ∙ ap (λ b. cond b (length c + first_true (drop n xs)) (first_true c)) (eq-eqb _ _ all)
    ∙ ap (λ k. k + first_true (drop n xs)) (long n xs room)

-- a part with one tells where the first is
pub run_stops : (n : ℕ) (xs : List Bool) → n ≤ length xs → n ≤ 64 → 0 < mask_l (take n xs)
    → first_true xs ≡ count_trailing_zeros 64 (mask_l (take n xs))
run_stops n xs room short some =
    let c = take n xs in
    let others : first_true c ≢ length c = λ e. omega (arith, all_false c e) in
    let fits : length c ≤ 64 = omega (arith, long n xs room) in
    let first = trailing_mask_l (λ b. b) 64 c fits (omega (arith, same_mask c)) in
    parted n xs
    ∙ ap (λ b. cond b (length c + first_true (drop n xs)) (first_true c)) (ne_eqb _ _ others)
    ∙ sym first ∙ ap (count_trailing_zeros 64) (same_mask c)

-- ---- the answers of a comparison

not-not : (b : Bool) → b ≡ not (not b)
not-not true = refl
not-not false = refl

-- the bytes that are alike run to the first that is not
pub unlike_is : (like : ℕ) (xs : List ℕ)
    → prefix_len (λ b. b == like) xs ≡ first_true (map (λ b. not (b == like)) xs)
unlike_is like [] = refl
unlike_is like (x ∷ xs) =
    ap₂ (λ b n. cond b (1 + n) 0) (not-not (x == like)) (unlike_is like xs)

pub apart_is : (xs ys : List ℕ)
    → common_prefix_len (λ x y. x == y) xs ys ≡ first_true (zip2 (λ x y. not (x == y)) xs ys)
apart_is [] ys = refl
apart_is (x ∷ xs) [] = refl
apart_is (x ∷ xs) (y ∷ ys) =
    ap₂ (λ b n. cond b (1 + n) 0) (not-not (x == y)) (apart_is xs ys)

pub take-zip2 : {X Y Z : Type 0} (f : X → Y → Z) (n : ℕ) (xs : List X) (ys : List Y)
    → take n (zip2 f xs ys) ≡ zip2 f (take n xs) (take n ys)
take-zip2 f zero xs ys = refl
take-zip2 f (suc n) [] ys = refl
take-zip2 f (suc n) (x ∷ xs) [] = refl
take-zip2 f (suc n) (x ∷ xs) (y ∷ ys) = ap (λ zs. f x y ∷ zs) (take-zip2 f n xs ys)

zip2-none : {X Y Z : Type 0} (f : X → Y → Z) (xs : List X) → zip2 f xs [] ≡ []
zip2-none f [] = refl
zip2-none f (x ∷ xs) = refl

pub drop-zip2 : {X Y Z : Type 0} (f : X → Y → Z) (n : ℕ) (xs : List X) (ys : List Y)
    → drop n (zip2 f xs ys) ≡ zip2 f (drop n xs) (drop n ys)
drop-zip2 f zero xs ys = refl
drop-zip2 f (suc n) [] ys = refl
drop-zip2 f (suc n) (x ∷ xs) [] = sym (zip2-none f (drop n xs))
drop-zip2 f (suc n) (x ∷ xs) (y ∷ ys) = drop-zip2 f n xs ys

length-least : {X Y Z : Type 0} (f : X → Y → Z) (xs : List X) (ys : List Y) (n : ℕ)
    → n ≤ length xs → n ≤ length ys → n ≤ length (zip2 f xs ys)
length-least f xs ys zero a b = omega arith
length-least f [] ys (suc n) a b = let no : ⊥ = omega arith in absurd no
length-least f (x ∷ xs) [] (suc n) a b = let no : ⊥ = omega arith in absurd no
length-least f (x ∷ xs) (y ∷ ys) (suc n) a b =
    let rest = length-least f xs ys n (omega arith) (omega arith) in
    omega arith

pub length-most : {X Y Z : Type 0} (f : X → Y → Z) (xs : List X) (ys : List Y)
    → length (zip2 f xs ys) ≤ length xs
length-most f [] ys = omega arith
length-most f (x ∷ xs) [] = omega arith
length-most f (x ∷ xs) (y ∷ ys) = omega (arith, length-most f xs ys)

-- ---- the two scans, from a place on

abbrev pub unlike_at : ℕ → List ℕ → ℕ → ℕ
unlike_at like bytes at = prefix_len (λ b. b == like) (drop at bytes)

abbrev pub unlike_mask : ℕ → List ℕ → ℕ → ℕ
unlike_mask like bytes at = mask_l (map (λ b. not (b == like)) (take 32 (drop at bytes)))

mask_of_map : (like : ℕ) (d : List ℕ)
    → mask_l (take 32 (map (λ b. not (b == like)) d))
    ≡ mask_l (map (λ b. not (b == like)) (take 32 d))
mask_of_map like d = ap mask_l (take-map (λ b. not (b == like)) 32 d)

drop_more_of : {X : Type 0} (i n : ℕ) (xs : List X) → drop n (drop i xs) ≡ drop (i + n) xs
drop_more_of i n xs = drop-drop n i xs

pub unlike_through : (like : ℕ) (bytes : List ℕ) (at : ℕ) → at + 32 ≤ length bytes
    → unlike_mask like bytes at ≡ 0 → unlike_at like bytes at ≡ 32 + unlike_at like bytes (at + 32)
unlike_through like bytes at room none =
    let other : ℕ → Bool = λ b. not (b == like) in
    let d = drop at bytes in
    let size : 32 ≤ length (map other d) =
    omega (arith, length-map d other, length-drop at bytes) in
    unlike_is like d
    ∙ run_through 32 (map other d) size (mask_of_map like d ∙ none)
    ∙ ap (λ xs. 32 + first_true xs) (drop-map other 32 d)
    ∙ ap (λ k. 32 + k) (sym (unlike_is like (drop 32 d)))
    ∙ ap (λ xs. 32 + prefix_len (λ b. b == like) xs) (drop_more_of at 32 bytes)

pub unlike_stops : (like : ℕ) (bytes : List ℕ) (at : ℕ) → at + 32 ≤ length bytes
    → 0 < unlike_mask like bytes at
    → unlike_at like bytes at ≡ count_trailing_zeros 64 (unlike_mask like bytes at)
unlike_stops like bytes at room some =
    let other : ℕ → Bool = λ b. not (b == like) in
    let d = drop at bytes in
    let size : 32 ≤ length (map other d) =
    omega (arith, length-map d other, length-drop at bytes) in
    let here : 0 < mask_l (take 32 (map other d)) = omega (arith, mask_of_map like d) in
    unlike_is like d
    ∙ run_stops 32 (map other d) size (omega arith) here
    ∙ ap (count_trailing_zeros 64) (mask_of_map like d)

abbrev pub apart_at : List ℕ → List ℕ → ℕ → ℕ
apart_at a b at = common_prefix_len (λ x y. x == y) (drop at a) (drop at b)

abbrev pub apart_mask : List ℕ → List ℕ → ℕ → ℕ
apart_mask a b at = mask_l (zip2 (λ x y. not (x == y)) (take 32 (drop at a)) (take 32 (drop at b)))

mask_of_zip : (c d : List ℕ) → mask_l (take 32 (zip2 (λ x y. not (x == y)) c d))
    ≡ mask_l (zip2 (λ x y. not (x == y)) (take 32 c) (take 32 d))
mask_of_zip c d = ap mask_l (take-zip2 (λ x y. not (x == y)) 32 c d)

pub apart_through : (a b : List ℕ) (at : ℕ) → at + 32 ≤ length a → at + 32 ≤ length b
    → apart_mask a b at ≡ 0 → apart_at a b at ≡ 32 + apart_at a b (at + 32)
apart_through a b at in_a in_b none =
    let other : ℕ → ℕ → Bool = λ x y. not (x == y) in
    let c = drop at a in
    let d = drop at b in
    let size = length-least other c d 32
    (omega (arith, length-drop at a)) (omega (arith, length-drop at b)) in
    apart_is c d
    ∙ run_through 32 (zip2 other c d) size (mask_of_zip c d ∙ none)
    ∙ ap (λ xs. 32 + first_true xs) (drop-zip2 other 32 c d)
    ∙ ap (λ k. 32 + k) (sym (apart_is (drop 32 c) (drop 32 d)))
    ∙ ap₂ (λ xs ys. 32 + common_prefix_len (λ x y. x == y) xs ys)
    (drop_more_of at 32 a) (drop_more_of at 32 b)

pub apart_stops : (a b : List ℕ) (at : ℕ) → at + 32 ≤ length a → at + 32 ≤ length b
    → 0 < apart_mask a b at → apart_at a b at ≡ count_trailing_zeros 64 (apart_mask a b at)
apart_stops a b at in_a in_b some =
    let other : ℕ → ℕ → Bool = λ x y. not (x == y) in
    let c = drop at a in
    let d = drop at b in
    let size = length-least other c d 32
    (omega (arith, length-drop at a)) (omega (arith, length-drop at b)) in
    let here : 0 < mask_l (take 32 (zip2 other c d)) = omega (arith, mask_of_zip c d) in
    apart_is c d
    ∙ run_stops 32 (zip2 other c d) size (omega arith) here
    ∙ ap (count_trailing_zeros 64) (mask_of_zip c d)

-- where the second list is at its end, nothing is alike
none_left : (xs : List ℕ) → common_prefix_len (λ x y. x == y) xs [] ≡ 0
none_left [] = refl
none_left (x ∷ xs) = refl

pub apart_ends : (a b : List ℕ) (at : ℕ) → length b ≤ at → apart_at a b at ≡ 0
apart_ends a b at past =
    ap (common_prefix_len (λ x y. x == y) (drop at a)) (drop_all at b past) ∙ none_left (drop at a)
