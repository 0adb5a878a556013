-- The deliveries of the first variables, and of one variable more; and all of them in order.
use Rattle.std.proofs.Common.{◌≡◌, ℕ, zero, suc, ◌+◌, nat_lt, List, [], ◌∷◌, ◌++◌, filter_map, refl}
use Rattle.std.proofs.Common.{sym, ap, ◌∙◌, append-nil, arith, Bool, Some, None, Option}
use Rattle.std.specs.List.{cons_option, range_with_len}
use Rattle.std.specs.List.Sorted.{IsSortedByKey, IsStableByKey}
use Rattle.std.specs.Ordering.{is_lt, nat_cmp}
use Rattle.std.proofs.lemmas.Cmp.{nat_cmp_total}
use Rattle.std.proofs.lemmas.List.Elements.{filter_map-append}
use Rattle.std.proofs.lemmas.List.Sorted.{ranks_by}
use Rattle.reference_machine.specs.Order.{in_order}
use Rattle.reference_machine.specs.declared.snapshot.StagedPair.{StagedPair}
use Rattle.reference_machine.proofs.Sorted.{less_is, sorted_in_order}

range_more : (a n : ℕ) → range_with_len a (suc n) ≡ range_with_len a n ++ (a + n) ∷ []
range_more a zero = ap (λ k. k ∷ []) (omega arith)
range_more a (suc n) =
    let same : a + 1 + n ≡ a + suc n = omega arith in
    ap (λ l. a ∷ l) (range_more (a + 1) n ∙ ap (λ k. range_with_len (a + 1) n ++ k ∷ []) same)

kept_more : {X : Type 0} (f : ℕ → Option X) (n : ℕ)
    → filter_map f (range_with_len 0 (n + 1))
    ≡ filter_map f (range_with_len 0 n) ++ cons_option (f n) []
kept_more f n =
    let next : n + 1 ≡ suc n = omega arith in
    let last : 0 + n ≡ n = omega arith in
    ap (λ k. filter_map f (range_with_len 0 k)) next ∙ ap (filter_map f) (range_more 0 n)
    ∙ ap (λ k. filter_map f (range_with_len 0 n ++ k ∷ [])) last
    ∙ filter_map-append f (range_with_len 0 n) (n ∷ [])

-- a variable that keeps nothing adds nothing
pub none_more : {X : Type 0} (f : ℕ → Option X) (n : ℕ) → f n ≡ None
    → filter_map f (range_with_len 0 (n + 1)) ≡ filter_map f (range_with_len 0 n)
none_more f n none =
    kept_more f n ∙ ap (λ o. filter_map f (range_with_len 0 n) ++ cons_option o []) none
    ∙ append-nil (filter_map f (range_with_len 0 n))

-- one that keeps a thing adds it behind the others
pub one_more : {X : Type 0} (f : ℕ → Option X) (n : ℕ) (x : X) → f n ≡ Some x
    → filter_map f (range_with_len 0 (n + 1)) ≡ filter_map f (range_with_len 0 n) ++ x ∷ []
one_more f n x some =
    kept_more f n ∙ ap (λ o. filter_map f (range_with_len 0 n) ++ cons_option o []) some

-- pairs that a stable sort put by their serials are in order
pub by_serial : (xs ys : List StagedPair)
    → IsSortedByKey (λ (p : StagedPair). p.serial) nat_cmp ys
    → IsStableByKey (λ (p : StagedPair). p.serial) nat_cmp xs ys
    → ys ≡ in_order (λ a b. nat_lt a.serial b.serial) xs
by_serial xs ys sorted stable =
    sorted_in_order (λ a b. is_lt (nat_cmp a.serial b.serial))
    (ranks_by nat_cmp_total (λ (p : StagedPair). p.serial)) xs ys sorted stable
    ∙ ap (λ (before : StagedPair → StagedPair → Bool). in_order before xs)
    (λ i a b. less_is a.serial b.serial i)
