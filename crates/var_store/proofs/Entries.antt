-- The entries of the map of a store, as one is found, put or exchanged.
use Rattle.std.proofs.Common.{◌≡◌, ℕ, List, [], ◌∷◌, ◌++◌, length, refl}
use Rattle.std.proofs.Common.{sym, ap, ◌∙◌, arith, subst, true, false, Bool, Option, Some, None}
use Rattle.std.proofs.Common.{cond, ◌&&◌, ◌||◌, ◌<◌, Result, Ok, Err}
use Rattle.std.specs.Prelude.{OnErr, OnOk}
use Rattle.std.specs.Prelude.{option_and_then, option_copied, is_some}
use Rattle.std.specs.Borrow.{Bor}
use Rattle.std.specs.declared.cmp.Ordering.{Ordering}
use Rattle.std.specs.declared.cmp.Ordering.TheVariants.{Less, Equal, Greater}
use Rattle.std.specs.Ordering.{is_eq, nat_cmp, ordering_then, match_ordering}
use Rattle.std.specs.Cmp.Lexicographic.{slice_cmp}
use Rattle.std.specs.Str.{bytes_eq}
use Rattle.std.specs.List.{AllByRecursion, list_any}
use Rattle.std.specs.List.Sorted.{IsStrictlySortedBy}
use Rattle.std.specs.Map.{keys_of, values_of, lookup, set_value}
use Rattle.std.specs.BTreeMap.{insert_entry}
use Rattle.std.proofs.lemmas.Bool.{true≢false}
use Rattle.std.proofs.lemmas.Map.Text.{is_eq-slice_cmp}
use Rattle.std.proofs.lemmas.Map.Keys.{sorted_head, sorted_tail}
use Rattle.var_log.specs.declared.change.Change.{Change}
use Rattle.var_log.specs.declared.change.Change.TheVariants.{Set, Delete}
use Rattle.var_log.specs.Changes.{after, changed, guid_of, is_of, keeps_limits, left_by}
use Rattle.var_log.specs.Changes.{name_of, no_variables, Variable}
use Rattle.var_log.specs.Opens.{change_order}
use Rattle.var_store.specs.Places.{AreKept, AreLive, IsKeyed, sets_of}
use Rattle.var_store.proofs.Found.{IsOf, alike, any_none, bytes_are, bytes_same, found}
use Rattle.var_store.proofs.Found.{after_found, is_of_from, long_none, not_both, same_order, sets_are, sets_keep}
use Rattle.var_store.proofs.Found.{untouched}

-- ---- keys in order

then_then : (a b c : Ordering)
    → ordering_then a (ordering_then b c) ≡ ordering_then (ordering_then a b) c
then_then Less b c = refl
then_then Equal b c = refl
then_then Greater b c = refl

append_cmp : (a b c d : List ℕ) → length a ≡ length b → slice_cmp nat_cmp (a ++ c) (b ++ d)
    ≡ ordering_then (slice_cmp nat_cmp a b) (slice_cmp nat_cmp c d)
append_cmp [] [] c d same = refl
append_cmp [] (y ∷ b) c d same = absurd (omega arith)
append_cmp (x ∷ a) [] c d same = absurd (omega arith)
append_cmp (x ∷ a) (y ∷ b) c d same =
    ap (ordering_then (nat_cmp x y)) (append_cmp a b c d (omega arith))
    ∙ then_then (nat_cmp x y) (slice_cmp nat_cmp a b) (slice_cmp nat_cmp c d)

flip_case : (a b : List ℕ) (s t : Bool) → bytes_eq a b ≡ s → bytes_eq b a ≡ t → s ≡ t
flip_case a b true true p q = refl
flip_case a b false false p q = refl
flip_case a b true false p q =
    sym (bytes_are a) ∙ ap (λ (l : List ℕ). bytes_eq l a) (bytes_same a b p) ∙ q
flip_case a b false true p q =
    sym p ∙ ap (λ (l : List ℕ). bytes_eq a l) (bytes_same b a q) ∙ bytes_are a

bytes_flip : (a b : List ℕ) → bytes_eq a b ≡ bytes_eq b a
bytes_flip a b = flip_case a b _ _ refl refl

eq_then : (a b : Ordering) → is_eq (ordering_then a b) ≡ (is_eq a && is_eq b)
eq_then Less b = refl
eq_then Equal b = refl
eq_then Greater b = refl

module _ {K : Type 0} (bytes : K → List ℕ) where
  abbrev key_cmp : K → K → Ordering
  key_cmp a b = slice_cmp nat_cmp (bytes a) (bytes b)

  -- a query by the bytes of a GUID and a name
  abbrev asks : List ℕ → K → Bool
  asks key k = is_eq (slice_cmp nat_cmp key (bytes k))

  asked : (guid name : List ℕ) (e : K × Change) → length guid ≡ 16 → IsKeyed bytes e
      → asks (guid ++ name) e.0 ≡ is_of guid name e.1
  asked guid name e sized keyed =
      ap (λ (l : List ℕ). is_eq (slice_cmp nat_cmp (guid ++ name) l)) keyed.key
      ∙ ap is_eq (append_cmp guid (guid_of e.1).bytes name (name_of e.1) (sized ∙ sym keyed.sized))
      ∙ eq_then (slice_cmp nat_cmp guid (guid_of e.1).bytes) (slice_cmp nat_cmp name (name_of e.1))
      ∙ ap (λ (t : Bool). t && is_eq (slice_cmp nat_cmp name (name_of e.1)))
      (is_eq-slice_cmp guid (guid_of e.1).bytes ∙ bytes_flip guid (guid_of e.1).bytes)
      ∙ ap (λ (t : Bool). bytes_eq (guid_of e.1).bytes guid && t)
      (is_eq-slice_cmp name (name_of e.1) ∙ bytes_flip name (name_of e.1))

  ordered_as : (a b : K × Change) → IsKeyed bytes a → IsKeyed bytes b
      → key_cmp a.0 b.0 ≡ change_order a.1 b.1
  ordered_as a b p q =
      ap (λ (l : List ℕ). slice_cmp nat_cmp l (bytes b.0)) p.key
      ∙ ap (λ (l : List ℕ). slice_cmp nat_cmp ((guid_of a.1).bytes ++ name_of a.1) l) q.key
      ∙ append_cmp (guid_of a.1).bytes (guid_of b.1).bytes (name_of a.1) (name_of b.1)
      (p.sized ∙ sym q.sized)

  -- ---- the order of keys is that of changes

  below_as : (a : K × Change) (es : List (K × Change)) → IsKeyed bytes a
      → AllByRecursion (IsKeyed bytes) es
      → AllByRecursion (λ (y : K). key_cmp a.0 y ≡ Less) (keys_of es)
      → AllByRecursion (λ (d : Change). change_order a.1 d ≡ Less) (values_of es)
  below_as a [] here keyed below = tt
  below_as a (e ∷ es) here keyed below =
      (sym (ordered_as a e here keyed.0) ∙ below.0, below_as a es here keyed.1 below.1)

  first_of : (c : Change) (cs : List Change) → AllByRecursion (λ (d : Change). change_order c d ≡ Less) cs
      → IsStrictlySortedBy change_order cs → IsStrictlySortedBy change_order (c ∷ cs)
  unfolding IsStrictlySortedBy
  first_of c cs below sorted = (below, sorted)

  none_ordered : IsStrictlySortedBy change_order []
  unfolding IsStrictlySortedBy
  none_ordered = tt

  values_ordered : (es : List (K × Change)) → AllByRecursion (IsKeyed bytes) es
      → IsStrictlySortedBy key_cmp (keys_of es) → IsStrictlySortedBy change_order (values_of es)
  values_ordered [] keyed sorted = none_ordered
  values_ordered (e ∷ es) keyed sorted =
      first_of e.1 (values_of es)
      (below_as e es keyed.0 keyed.1 (sorted_head key_cmp e.0 (keys_of es) sorted))
      (values_ordered es keyed.1 (sorted_tail key_cmp e.0 (keys_of es) sorted))

  pub kept_from : (es : List (K × Change)) → AllByRecursion (IsKeyed bytes) es
      → IsStrictlySortedBy key_cmp (keys_of es) → AreKept bytes es
  kept_from es keyed sorted = record { keyed = keyed; ordered = values_ordered es keyed sorted }

  pub limits_kept : (es : List (K × Change)) → AllByRecursion (IsKeyed bytes) es
      → AllByRecursion (λ (c : Change). keeps_limits c ≡ true) (values_of es)
  limits_kept [] keyed = tt
  limits_kept (e ∷ es) keyed = (keyed.0.limits, limits_kept es keyed.1)

  -- ---- what a query finds

  lookup_case : (e : K × Change) (s t : Bool) → s ≡ t → (later : Option Change) (x : Option Variable)
      → option_and_then left_by later ≡ x
      → option_and_then left_by (cond s (Some e.1) later) ≡ cond t (left_by e.1) x
  lookup_case e true t same later x is = ap (λ (u : Bool). cond u (left_by e.1) x) same
  lookup_case e false t same later x is = is ∙ ap (λ (u : Bool). cond u (left_by e.1) x) same

  pub lookup_found : (guid name : List ℕ) (es : List (K × Change)) → length guid ≡ 16
      → AllByRecursion (IsKeyed bytes) es
      → option_and_then left_by (lookup (asks (guid ++ name)) es) ≡ found (values_of es) guid name
  lookup_found guid name [] sized keyed = refl
  lookup_found guid name (e ∷ es) sized keyed =
      lookup_case e (asks (guid ++ name) e.0) (is_of guid name e.1) (asked guid name e sized keyed.0)
      (lookup (asks (guid ++ name)) es) (found (values_of es) guid name)
      (lookup_found guid name es sized keyed.1)

  some_case : (e : K × Change) (s t : Bool) → s ≡ t → (later : Option Change) (x : Bool)
      → is_some later ≡ x → is_some (cond s (Some e.1) later) ≡ (t || x)
  some_case e true t same later x is = ap (λ (u : Bool). u || x) same
  some_case e false t same later x is = is ∙ ap (λ (u : Bool). u || x) same

  pub lookup_some : (guid name : List ℕ) (es : List (K × Change)) → length guid ≡ 16
      → AllByRecursion (IsKeyed bytes) es
      → is_some (lookup (asks (guid ++ name)) es) ≡ list_any (is_of guid name) (values_of es)
  lookup_some guid name [] sized keyed = refl
  lookup_some guid name (e ∷ es) sized keyed =
      some_case e (asks (guid ++ name) e.0) (is_of guid name e.1) (asked guid name e sized keyed.0)
      (lookup (asks (guid ++ name)) es) (list_any (is_of guid name) (values_of es))
      (lookup_some guid name es sized keyed.1)

  -- ---- an entry is put

  cond_same : {A : Type 0} (t : Bool) (x y z : A) → cond t x z ≡ cond t x (cond t y z)
  cond_same true x y z = refl
  cond_same false x y z = refl

  cond_swap : {A : Type 0} (s t : Bool) (x y z : A) → (s ≡ true → t ≡ false)
      → cond t y (cond s x z) ≡ cond s x (cond t y z)
  cond_swap true true x y z h = absurd (true≢false (h refl))
  cond_swap true false x y z h = refl
  cond_swap false t x y z h = refl

  or_same : (t z : Bool) → (t || z) ≡ (t || (t || z))
  or_same true z = refl
  or_same false z = refl

  or_swap : (s t z : Bool) → (t || (s || z)) ≡ (s || (t || z))
  or_swap true true z = refl
  or_swap true false z = refl
  or_swap false t z = refl

  of_equal : (c : Change) (d : Change) → change_order c d ≡ Equal → IsOf (guid_of d).bytes (name_of d) c
  of_equal c d is = is_of_from (guid_of d).bytes (name_of d) c (sym (same_order c d) ∙ ap is_eq is)

  put_case : (guid name : List ℕ) (k : K) (c : Change) (e : K × Change) (es : List (K × Change))
      (o : Ordering) → change_order c e.1 ≡ o
      → found (values_of (insert_entry key_cmp es k c)) guid name
      ≡ cond (is_of guid name c) (left_by c) (found (values_of es) guid name)
      → found (values_of (match_ordering o ((k, c) ∷ e ∷ es) ((e.0, c) ∷ es)
      (e ∷ insert_entry key_cmp es k c))) guid name
      ≡ cond (is_of guid name c) (left_by c) (found (values_of (e ∷ es)) guid name)
  put_case guid name k c e es Less is later = refl
  put_case guid name k c e es Equal is later =
      cond_same (is_of guid name c) (left_by c) (left_by e.1) (found (values_of es) guid name)
      ∙ ap (λ (t : Bool). cond (is_of guid name c) (left_by c)
      (cond t (left_by e.1) (found (values_of es) guid name)))
      (alike guid name c e.1 (of_equal c e.1 is))
  put_case guid name k c e es Greater is later =
      ap (λ (x : Option Variable). cond (is_of guid name e.1) (left_by e.1) x) later
      ∙ cond_swap (is_of guid name c) (is_of guid name e.1) (left_by c) (left_by e.1)
      (found (values_of es) guid name)
      (λ p. not_both guid name c e.1 Greater is refl p _ refl)

  put_any_case : (guid name : List ℕ) (k : K) (c : Change) (e : K × Change) (es : List (K × Change))
      (o : Ordering) → change_order c e.1 ≡ o
      → list_any (is_of guid name) (values_of (insert_entry key_cmp es k c))
      ≡ (is_of guid name c || list_any (is_of guid name) (values_of es))
      → list_any (is_of guid name) (values_of (match_ordering o ((k, c) ∷ e ∷ es) ((e.0, c) ∷ es)
      (e ∷ insert_entry key_cmp es k c)))
      ≡ (is_of guid name c || list_any (is_of guid name) (values_of (e ∷ es)))
  put_any_case guid name k c e es Less is later = refl
  put_any_case guid name k c e es Equal is later =
      or_same (is_of guid name c) (list_any (is_of guid name) (values_of es))
      ∙ ap (λ (t : Bool). is_of guid name c || (t || list_any (is_of guid name) (values_of es)))
      (alike guid name c e.1 (of_equal c e.1 is))
  put_any_case guid name k c e es Greater is later =
      ap (λ (x : Bool). is_of guid name e.1 || x) later
      ∙ or_swap (is_of guid name c) (is_of guid name e.1) (list_any (is_of guid name) (values_of es))

  put_keyed_case : (k : K) (c : Change) (e : K × Change) (es : List (K × Change)) (o : Ordering)
      → IsKeyed bytes (k, c) → IsKeyed bytes e → AllByRecursion (IsKeyed bytes) es
      → change_order c e.1 ≡ o → AllByRecursion (IsKeyed bytes) (insert_entry key_cmp es k c)
      → AllByRecursion (IsKeyed bytes) (match_ordering o ((k, c) ∷ e ∷ es) ((e.0, c) ∷ es)
      (e ∷ insert_entry key_cmp es k c))
  put_keyed_case k c e es Less here one keyed is later = (here, (one, keyed))
  put_keyed_case k c e es Equal here one keyed is later =
      let same = of_equal c e.1 is in (
        record {
          key = one.key
              ∙ sym (ap (λ (l : List ℕ). l ++ name_of c) same.guid_is
              ∙ ap (λ (l : List ℕ). (guid_of e.1).bytes ++ l) same.name_is);
          sized = here.sized;
          limits = here.limits;
        },
        keyed,
      )
  put_keyed_case k c e es Greater here one keyed is later = (one, later)

  module _ (k : K) (c : Change) (here : IsKeyed bytes (k, c)) where
    put_as : (e : K × Change) → IsKeyed bytes e → key_cmp k e.0 ≡ change_order c e.1
    put_as e keyed = ordered_as (k, c) e here keyed

    pub put_found : (guid name : List ℕ) (es : List (K × Change)) → AllByRecursion (IsKeyed bytes) es
        → found (values_of (insert_entry key_cmp es k c)) guid name
        ≡ cond (is_of guid name c) (left_by c) (found (values_of es) guid name)
    put_found guid name [] keyed = refl
    put_found guid name (e ∷ es) keyed =
        put_case guid name k c e es (key_cmp k e.0) (sym (put_as e keyed.0))
        (put_found guid name es keyed.1)

    pub put_any : (guid name : List ℕ) (es : List (K × Change)) → AllByRecursion (IsKeyed bytes) es
        → list_any (is_of guid name) (values_of (insert_entry key_cmp es k c))
        ≡ (is_of guid name c || list_any (is_of guid name) (values_of es))
    put_any guid name [] keyed = refl
    put_any guid name (e ∷ es) keyed =
        put_any_case guid name k c e es (key_cmp k e.0) (sym (put_as e keyed.0))
        (put_any guid name es keyed.1)

    pub put_keyed : (es : List (K × Change)) → AllByRecursion (IsKeyed bytes) es
        → AllByRecursion (IsKeyed bytes) (insert_entry key_cmp es k c)
    put_keyed [] keyed = (here, tt)
    put_keyed (e ∷ es) keyed =
        put_keyed_case k c e es (key_cmp k e.0) here keyed.0 keyed.1 (sym (put_as e keyed.0))
        (put_keyed es keyed.1)

  -- ---- an entry is exchanged

  set_case : (guid name : List ℕ) (test : K → Bool) (c : Change) (e : K × Change)
      (es : List (K × Change)) (t : Bool) → is_of (guid_of c).bytes (name_of c) e.1 ≡ t
      → (t ≡ false → found (values_of (set_value test es c)) guid name
      ≡ cond (is_of guid name c) (left_by c) (found (values_of es) guid name))
      → found (values_of (cond t ((e.0, c) ∷ es) (e ∷ set_value test es c))) guid name
      ≡ cond (is_of guid name c) (left_by c) (found (values_of (e ∷ es)) guid name)
  set_case guid name test c e es true is later =
      cond_same (is_of guid name c) (left_by c) (left_by e.1) (found (values_of es) guid name)
      ∙ ap (λ (t : Bool). cond (is_of guid name c) (left_by c)
      (cond t (left_by e.1) (found (values_of es) guid name)))
      (sym (alike guid name e.1 c (is_of_from (guid_of c).bytes (name_of c) e.1 is)))
  set_case guid name test c e es false is later =
      ap (λ (x : Option Variable). cond (is_of guid name e.1) (left_by e.1) x) (later refl)
      ∙ cond_swap (is_of guid name c) (is_of guid name e.1) (left_by c) (left_by e.1)
      (found (values_of es) guid name)
      (λ p. other guid name c e.1 is p _ refl)
    where
      other : (guid name : List ℕ) (c d : Change) → is_of (guid_of c).bytes (name_of c) d ≡ false
          → is_of guid name c ≡ true → (t : Bool) → is_of guid name d ≡ t → t ≡ false
      other guid name c d apart p true q =
          let a = is_of_from guid name c p in
          let b = is_of_from guid name d q in
          absurd (true≢false (sym (rw (b.guid_is, b.name_is, a.guid_is, a.name_is, bytes_are guid, bytes_are name) refl)
          ∙ apart))
      other guid name c d apart p false q = refl

  tail_has : (t x : Bool) → (t || x) ≡ true → t ≡ false → x ≡ true
  tail_has true x has none = absurd (true≢false none)
  tail_has false x has none = has

  module _ (c : Change) (sized : length (guid_of c).bytes ≡ 16) (limits : keeps_limits c ≡ true) where
    abbrev own_test : K → Bool
    own_test = asks ((guid_of c).bytes ++ name_of c)

    own_asked : (e : K × Change) → IsKeyed bytes e
        → own_test e.0 ≡ is_of (guid_of c).bytes (name_of c) e.1
    own_asked e keyed = asked (guid_of c).bytes (name_of c) e sized keyed

    pub set_found : (guid name : List ℕ) (es : List (K × Change)) → AllByRecursion (IsKeyed bytes) es
        → list_any (is_of (guid_of c).bytes (name_of c)) (values_of es) ≡ true
        → found (values_of (set_value own_test es c)) guid name
        ≡ cond (is_of guid name c) (left_by c) (found (values_of es) guid name)
    set_found guid name [] keyed has = absurd (true≢false (sym has))
    set_found guid name (e ∷ es) keyed has =
        set_case guid name own_test c e es (own_test e.0) (sym (own_asked e keyed.0))
        (λ none. set_found guid name es keyed.1
        (tail_has _ _ has (sym (own_asked e keyed.0) ∙ none)))

    set_any_case : (guid name : List ℕ) (e : K × Change) (es : List (K × Change)) (t : Bool)
        → is_of (guid_of c).bytes (name_of c) e.1 ≡ t
        → list_any (is_of guid name) (values_of (set_value own_test es c))
        ≡ list_any (is_of guid name) (values_of es)
        → list_any (is_of guid name) (values_of (cond t ((e.0, c) ∷ es) (e ∷ set_value own_test es c)))
        ≡ list_any (is_of guid name) (values_of (e ∷ es))
    set_any_case guid name e es true is later =
        ap (λ (t : Bool). t || list_any (is_of guid name) (values_of es))
        (sym (alike guid name e.1 c (is_of_from (guid_of c).bytes (name_of c) e.1 is)))
    set_any_case guid name e es false is later = ap (λ (x : Bool). is_of guid name e.1 || x) later

    pub set_any : (guid name : List ℕ) (es : List (K × Change)) → AllByRecursion (IsKeyed bytes) es
        → list_any (is_of guid name) (values_of (set_value own_test es c))
        ≡ list_any (is_of guid name) (values_of es)
    set_any guid name [] keyed = refl
    set_any guid name (e ∷ es) keyed =
        set_any_case guid name e es (own_test e.0) (sym (own_asked e keyed.0))
        (set_any guid name es keyed.1)

    set_keyed_case : (e : K × Change) (es : List (K × Change)) (t : Bool) → IsKeyed bytes e
        → AllByRecursion (IsKeyed bytes) es → is_of (guid_of c).bytes (name_of c) e.1 ≡ t
        → AllByRecursion (IsKeyed bytes) (set_value own_test es c)
        → AllByRecursion (IsKeyed bytes) (cond t ((e.0, c) ∷ es) (e ∷ set_value own_test es c))
    set_keyed_case e es true one keyed is later =
        let same = is_of_from (guid_of c).bytes (name_of c) e.1 is in (
          record {
            key = one.key ∙ ap (λ (l : List ℕ). l ++ name_of e.1) same.guid_is
                ∙ ap (λ (l : List ℕ). (guid_of c).bytes ++ l) same.name_is;
            sized = sized;
            limits = limits;
          },
          keyed,
        )
    set_keyed_case e es false one keyed is later = (one, later)

    pub set_keyed : (es : List (K × Change)) → AllByRecursion (IsKeyed bytes) es
        → AllByRecursion (IsKeyed bytes) (set_value own_test es c)
    set_keyed [] keyed = tt
    set_keyed (e ∷ es) keyed =
        set_keyed_case e es (own_test e.0) keyed.0 keyed.1 (sym (own_asked e keyed.0))
        (set_keyed es keyed.1)

    -- the map once it was exchanged
    pub set_kept : (es new : List (K × Change)) → AreKept bytes es → new ≡ set_value own_test es c
        → IsStrictlySortedBy key_cmp (keys_of new) → AreKept bytes new
    set_kept es new kept is sorted =
        kept_from new (subst (AllByRecursion (IsKeyed bytes)) (sym is) (set_keyed es kept.keyed)) sorted

    pub set_after : (es new : List (K × Change)) → AreKept bytes es → new ≡ set_value own_test es c
        → IsStrictlySortedBy key_cmp (keys_of new)
        → list_any (is_of (guid_of c).bytes (name_of c)) (values_of es) ≡ true
        → after no_variables (values_of new) ≡ changed (after no_variables (values_of es)) c
    set_after es new kept is sorted has = λ i guid name.
        (after_found no_variables guid name (values_of new) refl (set_kept es new kept is sorted).ordered
        ∙ ap (λ (l : List (K × Change)). found (values_of l) guid name) is
        ∙ set_found guid name es kept.keyed has
        ∙ ap (λ (x : Option Variable). cond (is_of guid name c) (left_by c) x)
        (sym (after_found no_variables guid name (values_of es) refl kept.ordered))) i

  -- ---- the map once an entry was put

  module _ (k : K) (c : Change) (here : IsKeyed bytes (k, c)) where
    pub put_kept : (es new : List (K × Change)) → AreKept bytes es → new ≡ insert_entry key_cmp es k c
        → IsStrictlySortedBy key_cmp (keys_of new) → AreKept bytes new
    put_kept es new kept is sorted =
        kept_from new (subst (AllByRecursion (IsKeyed bytes)) (sym is) (put_keyed k c here es kept.keyed)) sorted

    pub put_after : (es new : List (K × Change)) → AreKept bytes es → new ≡ insert_entry key_cmp es k c
        → IsStrictlySortedBy key_cmp (keys_of new)
        → after no_variables (values_of new) ≡ changed (after no_variables (values_of es)) c
    put_after es new kept is sorted = λ i guid name.
        (after_found no_variables guid name (values_of new) refl (put_kept es new kept is sorted).ordered
        ∙ ap (λ (l : List (K × Change)). found (values_of l) guid name) is
        ∙ put_found k c here guid name es kept.keyed
        ∙ ap (λ (x : Option Variable). cond (is_of guid name c) (left_by c) x)
        (sym (after_found no_variables guid name (values_of es) refl kept.ordered))) i

    -- the same where it may not have been put
    pub put_any_way : {A B : Type 0} (r : Result A B) (es new : List (K × Change)) → AreKept bytes es
        → OnOk r (new ≡ insert_entry key_cmp es k c) → OnErr r (new ≡ es)
        → IsStrictlySortedBy key_cmp (keys_of new) → AreKept bytes new
    put_any_way (Ok x) es new kept is stays sorted = put_kept es new kept is sorted
    put_any_way (Err x) es new kept is stays sorted = subst (AreKept bytes) (sym stays) kept

  -- ---- what the map has

  pub last_found : (guid name : List ℕ) (es : List (K × Change)) → length guid ≡ 16 → AreKept bytes es
      → option_and_then left_by (lookup (asks (guid ++ name)) es) ≡ after no_variables (values_of es) guid name
  last_found guid name es sized kept =
      lookup_found guid name es sized kept.keyed
      ∙ sym (after_found no_variables guid name (values_of es) refl kept.ordered)

  pub long_lacks : (guid name : List ℕ) (es : List (K × Change)) → 64 < length name → AreKept bytes es
      → after no_variables (values_of es) guid name ≡ None
  long_lacks guid name es long kept =
      untouched no_variables guid name (values_of es)
      (long_none guid name (values_of es) long (limits_kept es kept.keyed))

  pub long_has_none : (guid name : List ℕ) (es : List (K × Change)) → 64 < length name → AreKept bytes es
      → list_any (is_of guid name) (values_of es) ≡ false
  long_has_none guid name es long kept =
      any_none guid name (values_of es)
      (long_none guid name (values_of es) long (limits_kept es kept.keyed))

  pub none_kept : (es : List (K × Change)) → es ≡ [] → AreKept bytes es
  none_kept [] is = record { keyed = tt; ordered = none_ordered }
  none_kept (e ∷ es) is = absurd (omega (arith, ap length is))

  pub live_of : (es : List (K × Change)) → AreKept bytes es → AreLive (values_of es) (sets_of (values_of es))
  live_of es kept = record {
    are = refl;
    same = sets_are (values_of es) kept.ordered;
    limits = sets_keep (values_of es) (limits_kept es kept.keyed);
  }

pub some_copied : {A : Type 0} (r : Option (Bor A)) → is_some (option_copied r) ≡ is_some r
some_copied None = refl
some_copied (Some x) = refl

-- ---- the sets of the entries that a loop has gone over

no_set_at : (e d : Change) (cs : List Change) → change_order d e ≡ Less
    → list_any (is_of (guid_of e).bytes (name_of e)) (sets_of cs) ≡ false
    → list_any (is_of (guid_of e).bytes (name_of e)) (sets_of (d ∷ cs)) ≡ false
no_set_at e (Set n g a v) cs less later =
    ap (λ (t : Bool). t || list_any (is_of (guid_of e).bytes (name_of e)) (sets_of cs))
    (sym (same_order (Set n g a v) e) ∙ ap is_eq less)
    ∙ later
no_set_at e (Delete n g) cs less later = later

below_at : {K : Type 0} (d : Change) (done : List (K × Change)) (e : K × Change) (rest : List (K × Change))
    → AllByRecursion (λ (c : Change). change_order d c ≡ Less) (values_of (done ++ e ∷ rest))
    → change_order d e.1 ≡ Less
below_at d [] e rest below = below.0
below_at d (x ∷ done) e rest below = below_at d done e rest below.1

pub no_set_before : {K : Type 0} (done : List (K × Change)) (e : K × Change) (rest : List (K × Change))
    → IsStrictlySortedBy change_order (values_of (done ++ e ∷ rest))
    → list_any (is_of (guid_of e.1).bytes (name_of e.1)) (sets_of (values_of done)) ≡ false
no_set_before [] e rest sorted = refl
no_set_before (d ∷ done) e rest sorted =
    no_set_at e.1 d.1 (values_of done)
    (below_at d.1 done e rest (sorted_head change_order d.1 (values_of (done ++ e ∷ rest)) sorted))
    (no_set_before done e rest (sorted_tail change_order d.1 (values_of (done ++ e ∷ rest)) sorted))
