-- What a stable sort makes of a list is the list put in order; and names are in an order.
use Rattle.std.proofs.Common.{◌≡◌, ℕ, zero, suc, ◌+◌, ◌≤◌, ◌<◌, Bool, true, false, not, ◌&&◌, cond}
use Rattle.std.proofs.Common.{true≢false, List, [], ◌∷◌, filter, map, length, get_or, refl, sym, ap, ◌∙◌}
use Rattle.std.proofs.Common.{subst, arith, nat_lt, ◌==◌, Less, Equal, Greater}
use Rattle.std.specs.Cmp.{IsStrictWeakOrder}
use Rattle.std.specs.Cmp.Lexicographic.{slice_cmp}
use Rattle.std.specs.List.{AllByRecursion, AllPairs}
use Rattle.std.specs.List.Sorted.{IsSortedBy, IsStableBy, ties}
use Rattle.std.specs.Ordering.{is_lt, nat_cmp, ordering_then}
use Rattle.std.specs.Str.{str_to_ascii_uppercase}
use Rattle.std.proofs.lemmas.Bool.Decides.{nat_tests}
use Rattle.std.proofs.lemmas.Cmp.{nat_list_cmp_total}
use Rattle.std.proofs.lemmas.List.Elements.{All-from_recursion, recursion_from_All}
use Rattle.std.proofs.lemmas.List.Kept.{AllPairs-cons}
use Rattle.std.proofs.lemmas.List.Sorted.{ranks_by, sorted_far}
use Rattle.reference_machine.specs.Names.{is_before, is_taken_before}
use Rattle.reference_machine.specs.Order.{inserted, in_order}
use Rattle.reference_machine.proofs.Apart.{all_imply}
use Rattle.reference_machine.proofs.Ordered.{all_inserted, all_ordered}

-- an item that stands first among those that pass a test is one of the list
first_passes : {X : Type 0} (P : X → Type 0) (t : X → Bool) (x : X) (rest ys : List X)
    → filter t ys ≡ x ∷ rest → AllByRecursion P ys → P x
first_passes P t x rest [] is all = cc
first_passes P t x rest (y ∷ ys) is all =
    by_test (λ e. first_passes P t x rest ys e all.1) (t y) is
  where
    by_test : (filter t ys ≡ x ∷ rest → P x) → (b : Bool)
        → cond b (y ∷ filter t ys) (filter t ys) ≡ x ∷ rest → P x
    by_test later true e = let same : y ≡ x = cc in subst P same all.0
    by_test later false e = later e

both_not : (a b : Bool) → a ≡ false → b ≡ false → not a && not b ≡ true
both_not a b p q = λ i. not (p i) && not (q i)

not_first : (a b : Bool) → not a && not b ≡ true → a ≡ false
not_first true b h = sym h
not_first false b h = refl

not_second : (a b : Bool) → not a && not b ≡ true → b ≡ false
not_second true b h = absurd (true≢false (sym h))
not_second false true h = sym h
not_second false false h = refl

module _ {X : Type 0} (lt : X → X → Bool) (o : IsStrictWeakOrder lt) where
  -- no item comes before an earlier one
  abbrev Up : List X → Type 0
  Up [] = Unit {0}
  Up (x ∷ xs) = AllByRecursion (λ y. lt y x ≡ false) xs × Up xs

  no_self : (x : X) → lt x x ≡ false
  no_self x = by_test (lt x x) refl
    where
      by_test : (b : Bool) → lt x x ≡ b → lt x x ≡ false
      by_test true e = o.one_way x x e
      by_test false e = e

  ties_self : (x : X) → ties lt x x ≡ true
  ties_self x = both_not (lt x x) (lt x x) (no_self x) (no_self x)

  -- ---- what a sort leaves

  above_of : (x : X) (xs : List X) → ((k : ℕ) → k < length xs → lt (get_or xs k x) x ≡ false)
      → AllByRecursion (λ y. lt y x ≡ false) xs
  above_of x [] h = tt
  above_of x (y ∷ ys) h = (h 0 (omega arith), above_of x ys (λ k p. h (suc k) (omega arith)))

  up_of : (xs : List X)
      → ((i j : ℕ) (d : X) → i ≤ j → j < length xs → lt (get_or xs j d) (get_or xs i d) ≡ false)
      → Up xs
  up_of [] h = tt
  up_of (x ∷ xs) h = (
    above_of x xs (λ k p. h 0 (suc k) x (omega arith) (omega arith)),
    up_of xs (λ i j d p q. h (suc i) (suc j) d (omega arith) (omega arith)),
  )

  -- ---- what an order leaves

  inserted_up : (x : X) (ys : List X) → Up ys → Up (inserted lt x ys)
  inserted_up x [] up = (tt, tt)
  inserted_up x (y ∷ ys) up = by_test (inserted_up x ys up.1) (lt y x) refl
    where
      by_test : Up (inserted lt x ys) → (b : Bool) → lt y x ≡ b
          → Up (cond b (y ∷ inserted lt x ys) (x ∷ y ∷ ys))
      by_test rest true e = (
        all_inserted (λ z. lt z y ≡ false) lt x ys (o.one_way y x e) up.0,
        rest,
      )
      by_test rest false e = (
        (
          e,
          all_imply (λ z. lt z y ≡ false) (λ z. lt z x ≡ false) (λ z h. o.chain z y x h e) ys
              up.0,
        ),
        up,
      )

  up_in_order : (xs : List X) → Up (in_order lt xs)
  up_in_order [] = tt
  up_in_order (x ∷ xs) = inserted_up x (in_order lt xs) (up_in_order xs)

  -- of two items of which one comes before the other, not both tie with a third
  ties_one : (x y z : X) → lt z y ≡ true → ties lt x z ≡ true → ties lt x y ≡ false
  ties_one x y z before tie = by_test (ties lt x y) refl
    where
      by_test : (b : Bool) → ties lt x y ≡ b → ties lt x y ≡ false
      by_test false e = e
      by_test true e =
          let zx : lt z x ≡ false = not_second (lt x z) (lt z x) tie in
          let xy : lt x y ≡ false = not_first (lt x y) (lt y x) e in
          absurd (true≢false (sym before ∙ o.chain z x y zx xy))

  -- items that tie with one stand as they stood
  inserted_ties : (x y : X) (zs : List X)
      → filter (ties lt x) (inserted lt y zs) ≡ filter (ties lt x) (y ∷ zs)
  inserted_ties x y [] = refl
  inserted_ties x y (z ∷ zs) = by_test (inserted_ties x y zs) (lt z y) refl (ties lt x z) refl
    where
      by_test : filter (ties lt x) (inserted lt y zs) ≡ filter (ties lt x) (y ∷ zs)
          → (b : Bool) → lt z y ≡ b → (c : Bool) → ties lt x z ≡ c
          → filter (ties lt x) (cond b (z ∷ inserted lt y zs) (y ∷ z ∷ zs))
          ≡ filter (ties lt x) (y ∷ z ∷ zs)
      by_test rest false e c k = refl
      by_test rest true e true k =
          let other : ties lt x y ≡ false = ties_one x y z e k in
          let gone : filter (ties lt x) (y ∷ zs) ≡ filter (ties lt x) zs =
          ap (λ b. cond b (y ∷ filter (ties lt x) zs) (filter (ties lt x) zs)) other in
          let here : filter (ties lt x) (y ∷ z ∷ zs) ≡ filter (ties lt x) (z ∷ zs) =
          ap (λ b. cond b (y ∷ filter (ties lt x) (z ∷ zs)) (filter (ties lt x) (z ∷ zs))) other in
          ap (λ l. cond (ties lt x z) (z ∷ l) l) (rest ∙ gone) ∙ sym here
      by_test rest true e false k =
          let left : filter (ties lt x) (z ∷ inserted lt y zs)
          ≡ filter (ties lt x) (inserted lt y zs) =
          ap (λ b. cond b (z ∷ filter (ties lt x) (inserted lt y zs))
          (filter (ties lt x) (inserted lt y zs))) k in
          let right : filter (ties lt x) (z ∷ zs) ≡ filter (ties lt x) zs =
          ap (λ b. cond b (z ∷ filter (ties lt x) zs) (filter (ties lt x) zs)) k in
          left ∙ rest ∙ sym (ap (λ l. cond (ties lt x y) (y ∷ l) l) right)

  order_ties : (x : X) (ys : List X)
      → filter (ties lt x) (in_order lt ys) ≡ filter (ties lt x) ys
  order_ties x [] = refl
  order_ties x (y ∷ ys) =
      inserted_ties x y (in_order lt ys)
      ∙ ap (λ l. cond (ties lt x y) (y ∷ l) l) (order_ties x ys)

  -- ---- there is one such list

  tail_alike : (x y : X) (ys zs : List X)
      → filter (ties lt x) (y ∷ ys) ≡ filter (ties lt x) (y ∷ zs)
      → filter (ties lt x) ys ≡ filter (ties lt x) zs
  tail_alike x y ys zs h = by_test (ties lt x y) h
    where
      by_test : (b : Bool)
          → cond b (y ∷ filter (ties lt x) ys) (filter (ties lt x) ys)
          ≡ cond b (y ∷ filter (ties lt x) zs) (filter (ties lt x) zs)
          → filter (ties lt x) ys ≡ filter (ties lt x) zs
      by_test true e = cc
      by_test false e = e

  filter_self : (y : X) (ys : List X)
      → filter (ties lt y) (y ∷ ys) ≡ y ∷ filter (ties lt y) ys
  filter_self y ys =
      ap (λ b. cond b (y ∷ filter (ties lt y) ys) (filter (ties lt y) ys)) (ties_self y)

  -- the first item of a list is not before that of another with the same items that tie with it
  not_before : (y z : X) (ys zs : List X) → AllByRecursion (λ w. lt w z ≡ false) zs
      → filter (ties lt y) (y ∷ ys) ≡ filter (ties lt y) (z ∷ zs) → lt y z ≡ false
  not_before y z ys zs above same =
      first_passes (λ w. lt w z ≡ false) (ties lt y) y (filter (ties lt y) ys) (z ∷ zs)
      (sym same ∙ filter_self y ys) (no_self z, above)

  first_alike : (y z : X) (ys zs : List X) → ties lt y z ≡ true
      → filter (ties lt y) (y ∷ ys) ≡ filter (ties lt y) (z ∷ zs) → y ≡ z
  first_alike y z ys zs tie same =
      let left : filter (ties lt y) (z ∷ zs) ≡ z ∷ filter (ties lt y) zs =
      ap (λ b. cond b (z ∷ filter (ties lt y) zs) (filter (ties lt y) zs)) tie in
      let both : y ∷ filter (ties lt y) ys ≡ z ∷ filter (ties lt y) zs =
      sym (filter_self y ys) ∙ same ∙ left in
      cc

  one_order : (ys zs : List X) → Up ys → Up zs
      → ((x : X) → filter (ties lt x) ys ≡ filter (ties lt x) zs) → ys ≡ zs
  one_order [] [] up down same = refl
  one_order [] (z ∷ zs) up down same =
      let e : [] ≡ z ∷ filter (ties lt z) zs = same z ∙ filter_self z zs in cc
  one_order (y ∷ ys) [] up down same =
      let e : y ∷ filter (ties lt y) ys ≡ [] = sym (filter_self y ys) ∙ same y in cc
  one_order (y ∷ ys) (z ∷ zs) up down same =
      let first : y ≡ z = first_alike y z ys zs (both_not (lt y z) (lt z y)
      (not_before y z ys zs down.0 (same y)) (not_before z y zs ys up.0 (sym (same z)))) (same y) in
      let rest : ys ≡ zs = one_order ys zs up.1 down.1 (λ x. tail_alike x y ys zs
      (same x ∙ sym (ap (λ w. filter (ties lt x) (w ∷ zs)) first))) in
      ap (λ w. w ∷ ys) first ∙ ap (λ l. z ∷ l) rest

  -- a stable sort puts a list in order
  pub sorted_in_order : (xs ys : List X) → IsSortedBy lt ys → IsStableBy lt xs ys
      → ys ≡ in_order lt xs
  sorted_in_order xs ys sorted stable =
      one_order ys (in_order lt xs) (up_of ys (sorted_far lt o ys sorted)) (up_in_order xs)
      (λ x. stable x ∙ sym (order_ties x xs))

-- ---- what holds of each two items

module _ {X : Type 0} (R : X → X → Type 0) where
  abbrev EachTwo : List X → Type 0
  EachTwo [] = Unit {0}
  EachTwo (x ∷ xs) = AllByRecursion (R x) xs × EachTwo xs

  each_two_of : (xs : List X) → AllPairs R xs → EachTwo xs
  each_two_of [] h = tt
  each_two_of (x ∷ xs) h = (
    recursion_from_All (R x) xs (λ k d below. h 0 (suc k) d (omega arith) (omega arith)),
    each_two_of xs (λ i j d low high. h (suc i) (suc j) d (omega arith) (omega arith)),
  )

  all_pairs_of : (xs : List X) → EachTwo xs → AllPairs R xs
  all_pairs_of [] h = λ i j d low high. absurd (omega arith)
  all_pairs_of (x ∷ xs) h =
      AllPairs-cons R x xs (All-from_recursion (R x) xs h.0) (all_pairs_of xs h.1)

  module _ (before : X → X → Bool) (turn : (x y : X) → R x y → R y x) where
    each_two_inserted : (x : X) (ys : List X) → AllByRecursion (R x) ys → EachTwo ys
        → EachTwo (inserted before x ys)
    each_two_inserted x [] all h = (tt, tt)
    each_two_inserted x (y ∷ ys) all h =
        elim (before y x) as
        (λ b. EachTwo (cond b (y ∷ inserted before x ys) (x ∷ y ∷ ys))) [
          | true ↦ (
            all_inserted (R y) before x ys (turn x y all.0) h.0,
            each_two_inserted x ys all.1 h.1,
          )
          | false ↦ (all, h)
        ]

    each_two_ordered : (xs : List X) → EachTwo xs → EachTwo (in_order before xs)
    each_two_ordered [] h = tt
    each_two_ordered (x ∷ xs) h =
        each_two_inserted x (in_order before xs) (all_ordered (R x) before xs h.0)
        (each_two_ordered xs h.1)

    -- a relation of two items, either way round, holds of each two in any order
    pub pairs_ordered : (xs : List X) → AllPairs R xs → AllPairs R (in_order before xs)
    pairs_ordered xs h =
        all_pairs_of (in_order before xs) (each_two_ordered xs (each_two_of xs h))

-- what is told of each item, in order
inserted_map : {X Y : Type 0} (f : X → Y) (before : X → X → Bool) (later : Y → Y → Bool)
    → ((x y : X) → later (f x) (f y) ≡ before x y) → (x : X) (ys : List X)
    → map f (inserted before x ys) ≡ inserted later (f x) (map f ys)
inserted_map f before later same x [] = refl
inserted_map f before later same x (y ∷ ys) =
    by_test (inserted_map f before later same x ys) (before y x) refl
  where
    by_test : map f (inserted before x ys) ≡ inserted later (f x) (map f ys) → (b : Bool)
        → before y x ≡ b
        → map f (cond b (y ∷ inserted before x ys) (x ∷ y ∷ ys))
        ≡ inserted later (f x) (f y ∷ map f ys)
    by_test rest true e =
        ap (λ l. f y ∷ l) rest
        ∙ sym (ap (λ b. cond b (f y ∷ inserted later (f x) (map f ys)) (f x ∷ f y ∷ map f ys))
        (same y x ∙ e))
    by_test rest false e =
        sym (ap (λ b. cond b (f y ∷ inserted later (f x) (map f ys)) (f x ∷ f y ∷ map f ys))
        (same y x ∙ e))

pub map_ordered : {X Y : Type 0} (f : X → Y) (before : X → X → Bool) (later : Y → Y → Bool)
    → ((x y : X) → later (f x) (f y) ≡ before x y) → (xs : List X)
    → map f (in_order before xs) ≡ in_order later (map f xs)
map_ordered f before later same [] = refl
map_ordered f before later same (x ∷ xs) =
    inserted_map f before later same x (in_order before xs)
    ∙ ap (inserted later (f x)) (map_ordered f before later same xs)

-- ---- the order of numbers and of names

-- of two numbers the first is less
pub less_is : (x y : ℕ) → is_lt (nat_cmp x y) ≡ nat_lt x y
less_is x y = by_test (nat_lt x y) refl (x == y) refl
  where
    by_test : (b : Bool) → nat_lt x y ≡ b → (c : Bool) → (x == y) ≡ c
        → is_lt (cond b Less (cond c Equal Greater)) ≡ b
    by_test true e c k = refl
    by_test false e true k = refl
    by_test false e false k = refl

-- the order of names is that of lists of bytes
before_is_less : (a b : List ℕ) → is_before a b ≡ is_lt (slice_cmp nat_cmp a b)
before_is_less [] [] = refl
before_is_less (x ∷ xs) [] = refl
before_is_less [] (y ∷ ys) = refl
before_is_less (x ∷ xs) (y ∷ ys) =
    by_test (before_is_less xs ys) (nat_lt x y) refl (nat_lt y x) refl (x == y) refl
  where
    by_test : is_before xs ys ≡ is_lt (slice_cmp nat_cmp xs ys) → (b : Bool) → nat_lt x y ≡ b
        → (c : Bool) → nat_lt y x ≡ c → (d : Bool) → (x == y) ≡ d
        → cond b true (cond c false (is_before xs ys))
        ≡ is_lt (ordering_then (cond b Less (cond d Equal Greater)) (slice_cmp nat_cmp xs ys))
    by_test rest true e c k d l = refl
    by_test rest false e true k false l = refl
    by_test rest false e false k true l = rest
    by_test rest false e true k true l = absurd (true≢false (sym l ∙ grind (arith, nat_tests, k)))
    by_test rest false e false k false l =
        absurd (true≢false (sym (grind (arith, nat_tests, e, k)) ∙ l))

-- what stands before another by their upper-cased names
pub taken_before_is : (a b : List ℕ) → is_taken_before a b
    ≡ is_lt (slice_cmp nat_cmp (str_to_ascii_uppercase a) (str_to_ascii_uppercase b))
taken_before_is a b = before_is_less (str_to_ascii_uppercase a) (str_to_ascii_uppercase b)

-- things with names are in an order
pub names_in_order : {X : Type 0} (name : X → List ℕ)
    → IsStrictWeakOrder (λ a b. is_taken_before (name a) (name b))
names_in_order name = record {
  one_way = λ a b h. taken_before_is (name b) (name a)
      ∙ o.one_way a b (sym (taken_before_is (name a) (name b)) ∙ h);
  chain = λ a b c h k. taken_before_is (name a) (name c)
      ∙ o.chain a b c (sym (taken_before_is (name a) (name b)) ∙ h)
      (sym (taken_before_is (name b) (name c)) ∙ k);
}
  where
    o : IsStrictWeakOrder (λ a b. is_lt (slice_cmp nat_cmp (str_to_ascii_uppercase (name a))
        (str_to_ascii_uppercase (name b))))
    o = ranks_by nat_list_cmp_total (λ a. str_to_ascii_uppercase (name a))
