-- The files of the update folder in order.
use Rattle.std.proofs.Common.{◌≡◌, ◌∙◌, sym, ℕ, suc, ◌+◌, ◌≤◌, ◌<◌, not, take, drop, get_or}
use Rattle.std.proofs.Common.{drop-cons, Bool, true, false, cond, List, [], ◌∷◌, ◌++◌, insert}
use Rattle.std.proofs.Common.{length, refl, ap, arith, None}
use native.Mathlib.Numerals.{unary_clauses}
use Rattle.std.proofs.lemmas.List.Sums.{prefix_len-le-length}
use Rattle.std.specs.List.{position_or_len, position}
use Rattle.std.proofs.lemmas.List.{take_more}
use Rattle.std.proofs.lemmas.List.Sums.{sum_by-cons}
use Rattle.bench_model.specs.Files.{File, bytes_in, is_same_name, others_than}
use Rattle.reference_machine.specs.Order.{inserted, in_order}

pub place_at_most : {X : Type 0} (p : X → Bool) (xs : List X) → position_or_len p xs ≤ length xs
place_at_most p xs = prefix_len-le-length (λ x. not (p x)) xs

pub none_passes : {X : Type 0} (p : X → Bool) (xs : List X) → position p xs ≡ None
    → length xs ≡ position_or_len p xs
none_passes p xs h = grind (arith, h, place_at_most p xs)

insert_behind : {X : Type 0} (y x : X) (ys : List X) (n : ℕ)
    → y ∷ insert ys n x ≡ insert (y ∷ ys) (1 + n) x
insert_behind y x ys n = let e : 1 + n ≡ suc n = omega arith in rw e refl

-- an item is put at the place of the first item that does not come before it, else at the end
pub inserted_at : {X : Type 0} (before : X → X → Bool) (x : X) (ys : List X)
    → inserted before x ys ≡ insert ys (position_or_len (λ y. not (before y x)) ys) x
inserted_at before x [] = refl
inserted_at {X} before x (y ∷ ys) =
    elim (before y x) as
    (λ b. cond b (y ∷ inserted before x ys) (x ∷ y ∷ ys)
    ≡ insert (y ∷ ys)
    (cond (not (not b)) (1 + position_or_len (λ z. not (before z x)) ys) 0) x) [
      | true ↦ ap (λ (l : List X). y ∷ l) (inserted_at before x ys)
          ∙ insert_behind y x ys (position_or_len (λ z. not (before z x)) ys)
      | false ↦ refl
    ]

-- the items from one on, in order
pub one_more_in_order : {X : Type 0} (before : X → X → Bool) (xs : List X) (i : ℕ) (d : X)
    → i < length xs
    → in_order before (drop i xs)
    ≡ inserted before (get_or xs i d) (in_order before (drop (i + 1) xs))
one_more_in_order before xs i d h = simp unary_clauses (ap (in_order before) (drop-cons xs i d h))

-- the list with an item at the place of the first that does not come before it
pub put_at : {X : Type 0} (before : X → X → Bool) (x : X) (ys zs : List X) (place : ℕ)
    → place ≡ position_or_len (λ y. not (before y x)) ys → zs ≡ insert ys place x
    → zs ≡ inserted before x ys
put_at before x ys zs place at is = is ∙ ap (λ p. insert ys p x) at ∙ sym (inserted_at before x ys)

-- the bytes of one file more
others_more : (name : List ℕ) (files : List File) (x : File)
    → bytes_in (others_than name (files ++ x ∷ []))
    ≡ bytes_in (others_than name files) + cond (is_same_name x.name name) 0 (length x.bytes)
others_more name [] x =
    let one : bytes_in (x ∷ []) ≡ 0 + length x.bytes =
    sum_by-cons (λ (z : File). length z.bytes) x [] ∙ omega arith in
    elim (is_same_name x.name name) as
    (λ b. bytes_in (cond (not b) (x ∷ []) []) ≡ 0 + cond b 0 (length x.bytes)) [
      | true ↦ refl
      | false ↦ one
    ]
others_more name (y ∷ ys) x =
    let more : List File = others_than name (ys ++ x ∷ []) in
    let last : ℕ = cond (is_same_name x.name name) 0 (length x.bytes) in
    let h : bytes_in more ≡ bytes_in (others_than name ys) + last = others_more name ys x in
    let longer : bytes_in (y ∷ more) ≡ length y.bytes + bytes_in more =
    sum_by-cons (λ (z : File). length z.bytes) y more in
    let long : bytes_in (y ∷ others_than name ys)
    ≡ length y.bytes + bytes_in (others_than name ys) =
    sum_by-cons (λ (z : File). length z.bytes) y (others_than name ys) in
    let both : bytes_in (y ∷ more) ≡ bytes_in (y ∷ others_than name ys) + last = omega arith in
    elim (is_same_name y.name name) as
    (λ b. bytes_in (cond (not b) (y ∷ more) more)
    ≡ bytes_in (cond (not b) (y ∷ others_than name ys) (others_than name ys)) + last) [
      | true ↦ h
      | false ↦ both
    ]

pub bytes_more : (name : List ℕ) (files : List File) (i : ℕ) (d : File) → i < length files
    → bytes_in (others_than name (take (i + 1) files))
    ≡ bytes_in (others_than name (take i files))
    + (cond (is_same_name (get_or files i d).name name) 0 (length (get_or files i d).bytes))
bytes_more name files i d h =
    ap (λ (xs : List File). bytes_in (others_than name xs)) (take_more files i d h)
    ∙ others_more name (take i files) (get_or files i d)
