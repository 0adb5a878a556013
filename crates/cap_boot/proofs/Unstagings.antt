-- The batch that takes a staged delivery out: it deletes each variable once, and its record is small.
use Rattle.std.proofs.Common.{◌≡◌, ℕ, zero, suc, ◌+◌, ◌*◌, ◌<◌, ◌≤◌, Bool, true, false, cond, List}
use Rattle.std.proofs.Common.{[], ◌∷◌, ◌++◌, filter, map, length, refl, ap, ◌∙◌, subst, arith}
use Rattle.std.proofs.Common.{length-append, append-nil}
use Rattle.std.specs.List.{AllByRecursion, flat_map, range_with_len}
use Rattle.std.specs.Str.{bytes_eq}
use Rattle.std.proofs.lemmas.Bool.{lt-ltb}
use Rattle.std.proofs.lemmas.List.{length-map, map-append}
use Rattle.std.proofs.lemmas.List.Elements.{filter-append}
use Rattle.std.proofs.lemmas.Slice.Eq.{bytes_eq-Decides}
use Rattle.dev_claims.specs.Batches.{keeps_serial, unstage_changes}
use Rattle.stored_vars.specs.Edits.{delete_of}
use Rattle.stored_vars.specs.Variables.{guid_of, name_of}
use Rattle.stored_vars.specs.declared.variable.StoredVar.TheVariants.{Stage}
use Rattle.stored_vars.proofs.VariableLaws.{names_apart}
use Rattle.var_log.specs.Changes.{Variables, has_key}
use Rattle.var_log.specs.Records.{body_of, change_bytes, record_size}
use Rattle.var_log.specs.declared.change.Change.{Change}

abbrev deletes : List ℕ → List Change
deletes ks = map (λ k. delete_of (Stage k)) ks

-- ---- one delete a variable

stages_apart : (j k : ℕ) → j < k → k < 8 → bytes_eq (name_of (Stage j)) (name_of (Stage k)) ≡ false
stages_apart j k below within = by_test (bytes_eq (name_of (Stage j)) (name_of (Stage k))) refl
  where
    by_test : (b : Bool) → bytes_eq (name_of (Stage j)) (name_of (Stage k)) ≡ b
        → bytes_eq (name_of (Stage j)) (name_of (Stage k)) ≡ false
    by_test false e = e
    by_test true e =
        let same : Stage j ≡ Stage k = names_apart (Stage j) (Stage k)
        (lt-ltb j 8 (omega arith)) (lt-ltb k 8 within) ((bytes_eq-Decides _ _).0 e) in
        let number : j ≡ k = cc in
        absurd (omega (arith, number))

pub not_deleted : (k : ℕ) → k < 8 → (js : List ℕ) → AllByRecursion (λ j. j < k) js
    → has_key (guid_of (Stage k)) (name_of (Stage k)) (deletes js) ≡ false
not_deleted k within [] all = refl
not_deleted k within (j ∷ js) all = rw (stages_apart j k all.0 within) (not_deleted k within js all.1)

-- ---- the numbers so far

range_more : (a n : ℕ) → range_with_len a (suc n) ≡ range_with_len a n ++ (a + n) ∷ []
range_more a zero = ap (λ k. k ∷ []) (omega arith)
range_more a (suc n) =
    let same : a + 1 + n ≡ a + suc n = omega arith in
    ap (λ l. a ∷ l) (range_more (a + 1) n ∙ ap (λ k. range_with_len (a + 1) n ++ k ∷ []) same)

below_all : (a n : ℕ) → AllByRecursion (λ j. j < a + n) (range_with_len a n)
below_all a zero = tt
below_all a (suc n) = (
  omega arith,
  subst (λ m. AllByRecursion (λ j. j < m) (range_with_len (a + 1) n)) (omega arith)
      (below_all (a + 1) n),
)

all_kept : (P : ℕ → Type 0) (p : ℕ → Bool) (ks : List ℕ) → AllByRecursion P ks
    → AllByRecursion P (filter p ks)
all_kept P p [] all = tt
all_kept P p (k ∷ ks) all =
    elim (p k) as (λ b. AllByRecursion P (cond b (k ∷ filter p ks) (filter p ks))) [
      | true ↦ (all.0, all_kept P p ks all.1)
      | false ↦ all_kept P p ks all.1
    ]

pub kept_below : (p : ℕ → Bool) (n : ℕ)
    → AllByRecursion (λ j. j < n) (filter p (range_with_len 0 n))
kept_below p n =
    all_kept (λ j. j < n) p (range_with_len 0 n)
    (subst (λ m. AllByRecursion (λ j. j < m) (range_with_len 0 n)) (omega arith) (below_all 0 n))

deletes_append : (p : ℕ → Bool) (n : ℕ) → deletes (filter p (range_with_len 0 (n + 1)))
    ≡ deletes (filter p (range_with_len 0 n)) ++ deletes (filter p (n ∷ []))
deletes_append p n =
    let next : n + 1 ≡ suc n = omega arith in
    let last : 0 + n ≡ n = omega arith in
    ap (λ m. deletes (filter p (range_with_len 0 m))) next
    ∙ ap (λ ks. deletes (filter p ks)) (range_more 0 n)
    ∙ ap (λ k. deletes (filter p (range_with_len 0 n ++ k ∷ []))) last
    ∙ ap deletes (filter-append p (range_with_len 0 n) (n ∷ []))
    ∙ map-append (λ k. delete_of (Stage k)) (filter p (range_with_len 0 n)) (filter p (n ∷ []))

-- a variable that keeps no such delivery is left out
pub one_left : (p : ℕ → Bool) (n : ℕ) → p n ≡ false
    → deletes (filter p (range_with_len 0 (n + 1))) ≡ deletes (filter p (range_with_len 0 n))
one_left p n no_one =
    deletes_append p n
    ∙ ap (λ b. deletes (filter p (range_with_len 0 n)) ++ deletes (cond b (n ∷ []) [])) no_one
    ∙ append-nil (deletes (filter p (range_with_len 0 n)))

-- one that keeps it is deleted
pub one_deleted : (p : ℕ → Bool) (n : ℕ) → p n ≡ true
    → deletes (filter p (range_with_len 0 (n + 1)))
    ≡ deletes (filter p (range_with_len 0 n)) ++ delete_of (Stage n) ∷ []
one_deleted p n is =
    deletes_append p n
    ∙ ap (λ b. deletes (filter p (range_with_len 0 n)) ++ deletes (cond b (n ∷ []) [])) is

-- ---- the record

deletes_long : (ks : List ℕ) → length (flat_map change_bytes (deletes ks)) ≡ 24 * length ks
deletes_long [] = refl
deletes_long (k ∷ ks) =
    let one : length (change_bytes (delete_of (Stage k))) ≡ 24 = refl in
    omega (
      arith,
      one,
      deletes_long ks,
      length-append (change_bytes (delete_of (Stage k))) (flat_map change_bytes (deletes ks)),
    )

fewer : (p : ℕ → Bool) (ks : List ℕ) → length (filter p ks) ≤ length ks
fewer p [] = omega arith
fewer p (k ∷ ks) =
    elim (p k) as (λ b. length (cond b (k ∷ filter p ks) (filter p ks)) ≤ suc (length ks)) [
      | true ↦ omega (arith, fewer p ks)
      | false ↦ omega (arith, fewer p ks)
    ]

few_kept : (p : ℕ → Bool) → length (filter p (range_with_len 0 8)) ≤ 8
few_kept p = fewer p (range_with_len 0 8)

pub unstage_few : (variables : Variables) (serial : ℕ)
    → length (unstage_changes variables serial) ≤ 65535
unstage_few variables serial =
    omega (
      arith,
      few_kept (keeps_serial variables serial),
      length-map (filter (keeps_serial variables serial) (range_with_len 0 8))
          (λ k. delete_of (Stage k)),
    )

padded : (n : ℕ) → n ≤ 194 → record_size 2 n ≤ 1048576
padded n small = omega arith

pub unstage_small : (variables : Variables) (serial : ℕ)
    → record_size 2 (length (body_of (unstage_changes variables serial))) ≤ 1048576
unstage_small variables serial =
    let ks = filter (keeps_serial variables serial) (range_with_len 0 8) in
    padded (length (body_of (deletes ks)))
    (omega (arith, deletes_long ks, few_kept (keeps_serial variables serial)))
