-- What is put into a list, and one region of many.
use Rattle.std.proofs.Common.{◌≡◌, ◌≢◌, inl, inr, ℕ, ◌+◌, ◌-◌, ◌<◌, ◌≤◌, Bool, true, false, List}
use Rattle.std.proofs.Common.{◌∷◌, ◌++◌, length, get_or, take, drop, replicate, refl, sym, ◌∙◌, ap}
use Rattle.std.proofs.Common.{[], subst, arith, length-append, length-take, length-drop, append_assoc}
use Rattle.std.specs.Prelude.{slice_set}
use Rattle.std.proofs.lemmas.List.{length-replicate, get_or_read, get_or-set_same, take_at, drop_at}
use Rattle.std.proofs.lemmas.List.{append-nil, places, replicate-append-replicate, same_lists}
use Rattle.std.proofs.lemmas.List.{take-append-drop}
use Rattle.bench_model.specs.Regions.{IsOutside, Writes}
use Rattle.mem_bench.specs.Regions.{RegionValue, IsRegion, no_region, overlaid, told_region}
use Rattle.mem_bench.specs.Regions.{written}

module _ {A : Type 0} (old : List A) (at : ℕ) (items : List A)
    (fits : at + length items ≤ length old) where
  pub overlaid_long : length (overlaid at items old) ≡ length old
  overlaid_long = search (Rattle.std.proofs.Common.rules, places)

  pub overlaid_outside : (k : ℕ) (d : A) → IsOutside at (length items) k
      → get_or (overlaid at items old) k d ≡ get_or old k d
  overlaid_outside k d (inl lt) = search (Rattle.std.proofs.Common.rules, places)
  overlaid_outside k d (inr le) = grind (arith, places)

  pub overlaid_inside : (k : ℕ) (d : A) → at ≤ k → k < at + length items
      → get_or (overlaid at items old) k d ≡ get_or items (k - at) d
  overlaid_inside k d from below = grind (arith, places)

  pub overlaid_reads : take (length items) (drop at (overlaid at items old)) ≡ items
  overlaid_reads =
      let front : length (take at old) ≡ at = omega (arith, length-take at old) in
      ap (λ (l : List A). take (length items) (drop at l))
      (append_assoc (take at old) items (drop (at + length items) old))
      ∙ ap (λ (l : List A). take (length items) l)
      (drop_at (take at old) (items ++ drop (at + length items) old) at front)
      ∙ take_at items (drop (at + length items) old) (length items) refl

overlaid_none : {A : Type 0} (old : List A) (at : ℕ)
    → overlaid at [] old ≡ old
overlaid_none {A} old at =
    ap (λ (xs : List A). xs ++ drop (at + 0) old) (append-nil (take at old))
    ∙ ap (λ (n : ℕ). take at old ++ drop n old) (omega arith) ∙ take-append-drop at old

-- two writes of which the second follows the first are one write
pub overlaid_more : {A : Type 0} (old : List A) (at : ℕ) (a b : List A)
    → at + length a + length b ≤ length old
    → overlaid (at + length a) b (overlaid at a old) ≡ overlaid at (a ++ b) old
overlaid_more old at a b fits =
    same_lists (overlaid (at + length a) b (overlaid at a old)) (overlaid at (a ++ b) old)
    (search (Rattle.std.proofs.Common.rules, places))
    (λ k d h. grind (arith, places))

pub written_more : (r : RegionValue) (at : ℕ) (a b : List ℕ) → IsRegion r
    → at + length a + length b ≤ length r.bytes
    → written (at + length a) b (written at a r) ≡ written at (a ++ b) r
written_more r at a b rule fits =
    let bytes : overlaid (at + length a) b (overlaid at a r.bytes) ≡ overlaid at (a ++ b) r.bytes =
    overlaid_more r.bytes at a b fits in
    let m : List Bool = replicate (length a) true in
    let n : List Bool = replicate (length b) true in
    let long_a : length (replicate (length a) true) ≡ length a = length-replicate (length a) true in
    let long_b : length (replicate (length b) true) ≡ length b = length-replicate (length b) true in
    let marks : overlaid (at + length a) (replicate (length b) true)
    (overlaid at (replicate (length a) true) r.marks)
    ≡ overlaid at (replicate (length (a ++ b)) true) r.marks =
    ap (λ (x : ℕ). overlaid (at + x) (replicate (length b) true)
    (overlaid at (replicate (length a) true) r.marks)) (sym long_a)
    ∙ overlaid_more r.marks at (replicate (length a) true) (replicate (length b) true)
    (omega (arith, long_a, long_b, rule.marks))
    ∙ ap (λ (xs : List Bool). overlaid at xs r.marks)
    (replicate-append-replicate (length a) (length b) true
    ∙ ap (λ (x : ℕ). replicate x true) (sym (length-append a b))) in
    λ i. record { bytes = bytes i; synced = r.synced; marks = marks i }

pub written_none : (r : RegionValue) (at : ℕ) → written at [] r ≡ r
written_none r at =
    let bytes : overlaid at [] r.bytes ≡ r.bytes = overlaid_none r.bytes at in
    let marks : overlaid at [] r.marks ≡ r.marks = overlaid_none r.marks at in
    λ i. record { bytes = bytes i; synced = r.synced; marks = marks i }

pub written_region : (old new : RegionValue) (at : ℕ) (bytes : List ℕ) → IsRegion old
    → at + length bytes ≤ length old.bytes
    → new.bytes ≡ overlaid at bytes old.bytes → new.marks
    ≡ overlaid at (replicate (length bytes) true) old.marks
    → Writes at (length bytes) (told_region old) (told_region new)
written_region old new at bytes rule fits is marked =
    let long : length new.bytes ≡ length old.bytes =
    ap length is ∙ overlaid_long old.bytes at bytes fits in
    let n : length (replicate (length bytes) true) ≡ length bytes =
    length-replicate (length bytes) true in
    record {
      told = refl;
      long = long;
      rest = λ told. record {
        long = long;
        same = λ k out. ap (λ (l : List ℕ). get_or l k 0) is
            ∙ overlaid_outside old.bytes at bytes fits k 0 out;
      };
      dirt = λ k out clean. ap (λ (l : List Bool). get_or l k false) marked
          ∙ overlaid_outside old.marks at (replicate (length bytes) true)
          (omega (arith, n, rule.marks)) k false
          (subst (λ (m : ℕ). IsOutside at m k) (sym n) out)
          ∙ clean;
    }

-- a relation of one region before and after holds of that region in the list
pub in_list : (R : RegionValue → RegionValue → Type 0) (xs : List RegionValue) (k : ℕ)
    (y x : RegionValue)
    → k < length xs
    → y ≡ get_or xs k y → R y x → R (get_or xs k no_region) (get_or (slice_set xs k x) k no_region)
in_list R xs k y x there was r =
    subst (λ (a : RegionValue). R (get_or xs k no_region) a)
    (sym (get_or-set_same xs k x no_region there))
    (subst (λ (a : RegionValue). R a x) (get_or_read xs k y there was no_region) r)
