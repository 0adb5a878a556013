-- A list in order of a number that its items have: what stays when some are left out, and where an
-- item with a greater number goes.
use Rattle.std.proofs.Common.{◌≡◌, ℕ, ◌<◌, ◌≤◌, Bool, true, false, cond, List, [], ◌∷◌, ◌++◌}
use Rattle.std.proofs.Common.{filter, nat_lt, refl, sym, ap, ◌∙◌, arith}
use Rattle.std.specs.List.{AllByRecursion}
use Rattle.std.proofs.lemmas.Bool.{ltb-true, ltb-false, le-ltb, lt-ltb}
use Rattle.reference_machine.specs.Order.{inserted, in_order}
use Rattle.reference_machine.proofs.Apart.{all_imply}
use Rattle.reference_machine.proofs.Ordered.{all_inserted, all_ordered}

-- ---- what holds of each item

pub all_filtered : {X : Type 0} (P : X → Type 0) (p : X → Bool) (xs : List X) → AllByRecursion P xs
    → AllByRecursion P (filter p xs)
all_filtered P p [] all = tt
all_filtered P p (x ∷ xs) all =
    elim (p x) as (λ b. AllByRecursion P (cond b (x ∷ filter p xs) (filter p xs))) [
      | true ↦ (all.0, all_filtered P p xs all.1)
      | false ↦ all_filtered P p xs all.1
    ]

-- what holds of each item in order holds of each
all_outserted : {X : Type 0} (P : X → Type 0) (before : X → X → Bool) (x : X) (ys : List X)
    → AllByRecursion P (inserted before x ys) → P x × AllByRecursion P ys
all_outserted P before x [] all = all
all_outserted P before x (y ∷ ys) all = by_test (all_outserted P before x ys) (before y x) all
  where
    by_test : (AllByRecursion P (inserted before x ys) → P x × AllByRecursion P ys) → (b : Bool)
        → AllByRecursion P (cond b (y ∷ inserted before x ys) (x ∷ y ∷ ys))
        → P x × AllByRecursion P (y ∷ ys)
    by_test rest true h = ((rest h.1).0, (h.0, (rest h.1).1))
    by_test rest false h = h

pub all_unordered : {X : Type 0} (P : X → Type 0) (before : X → X → Bool) (xs : List X)
    → AllByRecursion P (in_order before xs) → AllByRecursion P xs
all_unordered P before [] all = tt
all_unordered P before (x ∷ xs) all =
    let parts = all_outserted P before x (in_order before xs) all in
    (parts.0, all_unordered P before xs parts.1)

-- ---- in order of a number

abbrev pub by : {X : Type 0} → (X → ℕ) → X → X → Bool
by key a b = nat_lt (key a) (key b)

-- no item has a greater number than a later one
abbrev Rises : {X : Type 0} → (X → ℕ) → List X → Type 0
Rises key [] = Unit {0}
Rises key (y ∷ ys) = AllByRecursion (λ z. key y ≤ key z) ys × Rises key ys

inserted_rises : {X : Type 0} (key : X → ℕ) (x : X) (ys : List X) → Rises key ys
    → Rises key (inserted (by key) x ys)
inserted_rises key x [] r = (tt, tt)
inserted_rises key x (y ∷ ys) r =
    by_test (inserted_rises key x ys r.1) (nat_lt (key y) (key x)) refl
  where
    later : key x ≤ key y → AllByRecursion (λ z. key x ≤ key z) ys
    later h = all_imply (λ z. key y ≤ key z) (λ z. key x ≤ key z) (λ z k. omega arith) ys r.0

    by_test : Rises key (inserted (by key) x ys) → (b : Bool) → nat_lt (key y) (key x) ≡ b
        → Rises key (cond b (y ∷ inserted (by key) x ys) (x ∷ y ∷ ys))
    by_test rest true e =
        let below : key y < key x = ltb-true (key y) (key x) e in
        (all_inserted (λ z. key y ≤ key z) (by key) x ys (omega arith) r.0, rest)
    by_test rest false e =
        let above : key x ≤ key y = ltb-false (key y) (key x) e in ((above, later above), r)

ordered_rises : {X : Type 0} (key : X → ℕ) (xs : List X) → Rises key (in_order (by key) xs)
ordered_rises key [] = tt
ordered_rises key (x ∷ xs) = inserted_rises key x (in_order (by key) xs) (ordered_rises key xs)

-- an item of the least number goes to the front
inserted_first : {X : Type 0} (key : X → ℕ) (x : X) (ys : List X)
    → AllByRecursion (λ y. key x ≤ key y) ys → inserted (by key) x ys ≡ x ∷ ys
inserted_first key x [] all = refl
inserted_first key x (y ∷ ys) all =
    ap (λ b. cond b (y ∷ inserted (by key) x ys) (x ∷ y ∷ ys)) (le-ltb (key y) (key x) all.0)

-- ---- some are left out

filter_here : {X : Type 0} (p : X → Bool) (x : X) (ys : List X) → p x ≡ true
    → filter p (x ∷ ys) ≡ x ∷ filter p ys
filter_here p x ys h = ap (λ b. cond b (x ∷ filter p ys) (filter p ys)) h

filter_gone : {X : Type 0} (p : X → Bool) (x : X) (ys : List X) → p x ≡ false
    → filter p (x ∷ ys) ≡ filter p ys
filter_gone p x ys h = ap (λ b. cond b (x ∷ filter p ys) (filter p ys)) h

inserted_kept : {X : Type 0} (key : X → ℕ) (p : X → Bool) (x : X) (ys : List X) → p x ≡ true
    → Rises key ys → filter p (inserted (by key) x ys) ≡ inserted (by key) x (filter p ys)
inserted_kept key p x [] h r = filter_here p x [] h
inserted_kept key p x (y ∷ ys) h r =
    by_test (inserted_kept key p x ys h r.1) (nat_lt (key y) (key x)) refl (p y) refl
  where
    by_test : filter p (inserted (by key) x ys) ≡ inserted (by key) x (filter p ys)
        → (b : Bool) → nat_lt (key y) (key x) ≡ b → (c : Bool) → p y ≡ c
        → filter p (cond b (y ∷ inserted (by key) x ys) (x ∷ y ∷ ys))
        ≡ inserted (by key) x (cond c (y ∷ filter p ys) (filter p ys))
    by_test rest true e true k =
        filter_here p y (inserted (by key) x ys) k ∙ ap (λ l. y ∷ l) rest
        ∙ sym (ap (λ b. cond b (y ∷ inserted (by key) x (filter p ys)) (x ∷ y ∷ filter p ys)) e)
    by_test rest true e false k = filter_gone p y (inserted (by key) x ys) k ∙ rest
    by_test rest false e true k =
        filter_here p x (y ∷ ys) h ∙ ap (λ l. x ∷ l) (filter_here p y ys k)
        ∙ sym (ap (λ b. cond b (y ∷ inserted (by key) x (filter p ys)) (x ∷ y ∷ filter p ys)) e)
    by_test rest false e false k =
        let above : key x ≤ key y = ltb-false (key y) (key x) e in
        filter_here p x (y ∷ ys) h ∙ ap (λ l. x ∷ l) (filter_gone p y ys k)
        ∙ sym (inserted_first key x (filter p ys)
        (all_filtered (λ z. key x ≤ key z) p ys
        (all_imply (λ z. key y ≤ key z) (λ z. key x ≤ key z) (λ z l. omega arith) ys r.0)))

inserted_gone : {X : Type 0} (before : X → X → Bool) (p : X → Bool) (x : X) (ys : List X)
    → p x ≡ false → filter p (inserted before x ys) ≡ filter p ys
inserted_gone before p x [] h = filter_gone p x [] h
inserted_gone before p x (y ∷ ys) h =
    elim (before y x) as
    (λ b. filter p (cond b (y ∷ inserted before x ys) (x ∷ y ∷ ys)) ≡ filter p (y ∷ ys)) [
      | true ↦ ap (λ l. cond (p y) (y ∷ l) l) (inserted_gone before p x ys h)
      | false ↦ filter_gone p x (y ∷ ys) h
    ]

-- to leave some out of a list in order is to put the others in order
pub filter_ordered : {X : Type 0} (key : X → ℕ) (p : X → Bool) (xs : List X)
    → filter p (in_order (by key) xs) ≡ in_order (by key) (filter p xs)
filter_ordered key p [] = refl
filter_ordered key p (x ∷ xs) = by_test (filter_ordered key p xs) (p x) refl
  where
    by_test : filter p (in_order (by key) xs) ≡ in_order (by key) (filter p xs) → (b : Bool)
        → p x ≡ b
        → filter p (inserted (by key) x (in_order (by key) xs))
        ≡ in_order (by key) (cond b (x ∷ filter p xs) (filter p xs))
    by_test rest true h =
        inserted_kept key p x (in_order (by key) xs) h (ordered_rises key xs)
        ∙ ap (inserted (by key) x) rest
    by_test rest false h = inserted_gone (by key) p x (in_order (by key) xs) h ∙ rest

-- ---- one of a greater number

inserted_last : {X : Type 0} (key : X → ℕ) (x : X) (ys : List X)
    → AllByRecursion (λ y. key y < key x) ys → inserted (by key) x ys ≡ ys ++ x ∷ []
inserted_last key x [] all = refl
inserted_last key x (y ∷ ys) all =
    ap (λ b. cond b (y ∷ inserted (by key) x ys) (x ∷ y ∷ ys)) (lt-ltb (key y) (key x) all.0)
    ∙ ap (λ l. y ∷ l) (inserted_last key x ys all.1)

inserted_before : {X : Type 0} (key : X → ℕ) (x z : X) (ys : List X) → key x ≤ key z
    → inserted (by key) x (ys ++ z ∷ []) ≡ inserted (by key) x ys ++ z ∷ []
inserted_before key x z [] h =
    ap (λ b. cond b (z ∷ x ∷ []) (x ∷ z ∷ [])) (le-ltb (key z) (key x) h)
inserted_before key x z (y ∷ ys) h =
    elim (nat_lt (key y) (key x)) as
    (λ b. cond b (y ∷ inserted (by key) x (ys ++ z ∷ [])) (x ∷ y ∷ (ys ++ z ∷ []))
    ≡ cond b (y ∷ inserted (by key) x ys) (x ∷ y ∷ ys) ++ z ∷ []) [
      | true ↦ ap (λ l. y ∷ l) (inserted_before key x z ys h)
      | false ↦ refl
    ]

-- an item of a greater number than all others is the last in order
pub ordered_last : {X : Type 0} (key : X → ℕ) (z : X) (xs ys : List X)
    → AllByRecursion (λ x. key x < key z) xs → AllByRecursion (λ y. key y < key z) ys
    → in_order (by key) (xs ++ z ∷ ys) ≡ in_order (by key) (xs ++ ys) ++ z ∷ []
ordered_last key z [] ys low high =
    inserted_last key z (in_order (by key) ys)
    (all_ordered (λ y. key y < key z) (by key) ys high)
ordered_last key z (x ∷ xs) ys low high =
    ap (inserted (by key) x) (ordered_last key z xs ys low.1 high)
    ∙ inserted_before key x z (in_order (by key) (xs ++ ys)) (omega (arith, low.0))
