-- A region seen through the table of its blocks: what a write of one block leaves, and a further
-- block.
use Rattle.std.proofs.Common.{◌≡◌, ◌≢◌, ◌⊎◌, inl, inr, ℕ, ◌+◌, ◌-◌, ◌*◌, ◌/◌, ◌%◌, ◌<◌, ◌≤◌}
use Rattle.std.proofs.Common.{List, ◌++◌, length, get_or, replicate, sum_by, refl, sym, ◌∙◌, ap}
use Rattle.std.proofs.Common.{arith}
use Rattle.std.proofs.Math.ListN.{set}
use Rattle.std.proofs.lemmas.List.{get_or-append_right, get_or-set_other, get_or-set_same}
use Rattle.std.proofs.lemmas.List.{get_or_append_left, get_or-replicate, length-set}
use Rattle.std.proofs.lemmas.List.FromFn.{fill_by_all, get_or-map-range_with_len}
use Rattle.std.proofs.lemmas.List.FromFn.{length-map-range_with_len}
use Rattle.std.proofs.lemmas.Bool.{cases_eq, cases_lt, cases_order}
use Rattle.std.proofs.Math.Nat.{eq-zero-or-pos}
use Rattle.std.proofs.lemmas.List.Sums.{sum_by-set}
use Rattle.bench_model.specs.Regions.{IsOutside}
use Rattle.mem_bench.specs.declared.room.TheConstants.{BLOCK}
use Rattle.mem_bench.specs.Tables.{IsTable, item_at, item_in, one_if_blank, through}
use Rattle.mem_bench.specs.Regions.{overlaid}
use Rattle.mem_bench.proofs.RegionLemmas.{overlaid_inside, overlaid_long, overlaid_outside}

module _ {A : Type 0} (blank : A) (size : ℕ) (table : List ℕ) (items : List A) where
  pub through_long : length (through blank size table items) ≡ size
  unfolding through
  through_long = length-map-range_with_len (item_at blank table items) 0 size

  pub through_at : (k : ℕ) (d : A) → k < size
      → get_or (through blank size table items) k d ≡ item_at blank table items k
  unfolding through
  through_at k d within =
      get_or-map-range_with_len (item_at blank table items) 0 size k k d within (omega arith)

  -- a list of the region's size that has each item is the region
  pub through_is : (xs : List A) (d : A) → length xs ≡ size
      → ((k : ℕ) → k < size → get_or xs k d ≡ item_at blank table items k)
      → through blank size table items ≡ xs
  unfolding through
  through_is xs d long each =
      sym (fill_by_all (item_at blank table items) xs size d long each)

-- the item of a place whose block is not kept, and of one whose block is
pub item_blank : {A : Type 0} (blank : A) (items : List A) (number inside : ℕ) → number ≡ 0
    → item_in blank items number inside ≡ blank
item_blank blank items number inside none = rw none refl

pub item_kept : {A : Type 0} (blank : A) (items : List A) (number inside : ℕ) → 0 < number
    → item_in blank items number inside ≡ get_or items ((number - 1) * BLOCK + inside) blank
item_kept blank items number inside some = grind arith

-- two places that a write of one block tells apart have addresses that it tells apart
address_outside : (number m place k n : ℕ) → 0 < number → 0 < m → place % BLOCK + n ≤ BLOCK
    → (m ≡ number → k / BLOCK ≡ place / BLOCK) → IsOutside place n k
    → IsOutside ((number - 1) * BLOCK + place % BLOCK) n ((m - 1) * BLOCK + k % BLOCK)
address_outside number m place k n some there inside same outside =
    elim (cases_order m number) [
      | inl is ↦ (
          let block : k / BLOCK ≡ place / BLOCK = same is in
          elim outside [ inl lt ↦ inl (omega arith) | inr le ↦ inr (omega arith) ]
          )
      | inr other ↦ elim other [ inl lt ↦ inl (omega arith) | inr gt ↦ inr (omega arith) ]
    ]

module _ {A : Type 0} (blank : A) (size : ℕ) (table : List ℕ) (made : ℕ) (rule : IsTable table made)
    (old new piece : List A) (place number : ℕ) (is : number ≡ get_or table (place / BLOCK) 0)
    (some : 0 < number) (kept : length old ≡ made * BLOCK)
    (inside : place % BLOCK + length piece ≤ BLOCK) (within : place + length piece ≤ size)
    (put : new ≡ overlaid ((number - 1) * BLOCK + place % BLOCK) piece old) where
  fits : (number - 1) * BLOCK + place % BLOCK + length piece ≤ length old
  fits = omega (arith, rule.within (place / BLOCK))

  in_piece : (k : ℕ) → place ≤ k → k < place + length piece
      → get_or (overlaid place piece (through blank size table old)) k blank
      ≡ item_at blank table new k
  in_piece k from below =
      let block : k / BLOCK ≡ place / BLOCK = omega arith in
      let n : get_or table (k / BLOCK) 0 ≡ number =
      ap (λ (b : ℕ). get_or table b 0) block ∙ sym is in
      let there : 0 < get_or table (k / BLOCK) 0 = omega arith in
      let at : (get_or table (k / BLOCK) 0 - 1) * BLOCK + k % BLOCK
      ≡ ((number - 1) * BLOCK + place % BLOCK) + (k - place) = omega arith in
      overlaid_inside (through blank size table old) place piece
      (omega (arith, through_long blank size table old)) k blank from below
      ∙ sym (
      item_kept blank new (get_or table (k / BLOCK) 0) (k % BLOCK) there
      ∙ ap (λ (a : ℕ). get_or new a blank) at
      ∙ ap (λ (xs : List A). get_or xs
      (((number - 1) * BLOCK + place % BLOCK) + (k - place)) blank) put
      ∙ overlaid_inside old ((number - 1) * BLOCK + place % BLOCK) piece fits
      (((number - 1) * BLOCK + place % BLOCK) + (k - place)) blank (omega arith) (omega arith)
      ∙ ap (λ (a : ℕ). get_or piece a blank) (omega arith)
      )

  same_item : (k m : ℕ) → m ≡ get_or table (k / BLOCK) 0 → IsOutside place (length piece) k
      → item_in blank old m (k % BLOCK) ≡ item_in blank new m (k % BLOCK)
  same_item k m m_is out =
      elim (eq-zero-or-pos m) [
        | inl none ↦ item_blank blank old m (k % BLOCK) none
            ∙ sym (item_blank blank new m (k % BLOCK) none)
        | inr there ↦ (
            let apart : m ≡ number → k / BLOCK ≡ place / BLOCK =
            λ e. rule.apart (k / BLOCK) (place / BLOCK) (omega arith) (omega arith) in
            item_kept blank old m (k % BLOCK) there
            ∙ sym (overlaid_outside old ((number - 1) * BLOCK + place % BLOCK) piece fits
            ((m - 1) * BLOCK + k % BLOCK) blank
            (address_outside number m place k (length piece) some there inside apart out))
            ∙ ap (λ (xs : List A). get_or xs ((m - 1) * BLOCK + k % BLOCK) blank) (sym put)
            ∙ sym (item_kept blank new m (k % BLOCK) there)
            )
      ]

  out_of_piece : (k : ℕ) → k < size → IsOutside place (length piece) k
      → get_or (overlaid place piece (through blank size table old)) k blank
      ≡ item_at blank table new k
  out_of_piece k below out =
      overlaid_outside (through blank size table old) place piece
      (omega (arith, through_long blank size table old)) k blank out
      ∙ through_at blank size table old k blank below
      ∙ same_item k (get_or table (k / BLOCK) 0) refl out

  -- a write within one block that is kept is a write of the region
  pub piece_written : through blank size table new
      ≡ overlaid place piece (through blank size table old)
  piece_written =
      through_is blank size table new (overlaid place piece (through blank size table old)) blank
      (overlaid_long (through blank size table old) place piece
      (omega (arith, through_long blank size table old)) ∙ through_long blank size table old)
      (λ k below. elim (cases_lt k place) [
        | inl lt ↦ out_of_piece k below (inl lt)
        | inr from ↦ elim (cases_lt k (place + length piece)) [
          | inl lt ↦ in_piece k from lt
          | inr le ↦ out_of_piece k below (inr le)
        ]
      ])

-- places of blocks that are kept stay where further ones follow
lengthened_item : {A : Type 0} (blank : A) (items more : List A) (made m inside : ℕ)
    → inside < BLOCK → m ≤ made → length items ≡ made * BLOCK
    → item_in blank (items ++ more) m inside ≡ item_in blank items m inside
lengthened_item blank items more made m inside below le kept =
    elim (eq-zero-or-pos m) [
      | inl none ↦ item_blank blank (items ++ more) m inside none
          ∙ sym (item_blank blank items m inside none)
      | inr there ↦ item_kept blank (items ++ more) m inside there
          ∙ get_or_append_left items more blank ((m - 1) * BLOCK + inside) (omega arith)
          ∙ sym (item_kept blank items m inside there)
    ]

-- a block that is kept first, with blank places, changes nothing of the region
module _ (table : List ℕ) (made block : ℕ) (rule : IsTable table made)
    (there : block < length table) (none : get_or table block 0 ≡ 0) where
  -- the table has a block that is not kept
  pub blank_left : made + 1 ≤ length table
  blank_left =
      let counted : sum_by one_if_blank (set table block 1)
      + one_if_blank (get_or table block 0) ≡ sum_by one_if_blank table + one_if_blank 1 =
      sum_by-set one_if_blank table block 1 0 there in
      let one : one_if_blank (get_or table block 0) ≡ 1 = rw none refl in
      omega (arith, counted, one, rule.count)

  pub numbered : (b : ℕ) → (b ≡ block) × (get_or (set table block (made + 1)) b 0 ≡ made + 1)
      ⊎ ((b ≢ block) × (get_or (set table block (made + 1)) b 0 ≡ get_or table b 0))
  numbered b =
      elim (cases_eq b block) [
        | inl is ↦ inl (
          is,
          ap (λ (x : ℕ). get_or (set table block (made + 1)) x 0) is
              ∙ get_or-set_same table block (made + 1) 0 there,
        )
        | inr other ↦ inr (other, get_or-set_other table block b (made + 1) 0 other)
      ]

  pub IsTable-set : IsTable (set table block (made + 1)) (made + 1)
  IsTable-set = record {
    count = (
        let counted : sum_by one_if_blank (set table block (made + 1))
        + one_if_blank (get_or table block 0)
        ≡ sum_by one_if_blank table + one_if_blank (made + 1) =
        sum_by-set one_if_blank table block (made + 1) 0 there in
        let one : one_if_blank (get_or table block 0) ≡ 1 = rw none refl in
        let no : one_if_blank (made + 1) ≡ 0 = grind arith in
        omega (arith, counted, one, no, rule.count, length-set table block (made + 1))
        );
    within = λ b. elim (numbered b) [
      | inl new ↦ omega (arith, new.1)
      | inr old ↦ omega (arith, old.1, rule.within b)
    ];
    apart = λ a b some same. elim (numbered a) [
      | inl x ↦ elim (numbered b) [
        | inl y ↦ x.0 ∙ sym y.0
        | inr y ↦ absurd (omega (arith, x.1, y.1, rule.within b))
      ]
      | inr x ↦ elim (numbered b) [
        | inl y ↦ absurd (omega (arith, x.1, y.1, rule.within a))
        | inr y ↦ rule.apart a b (omega (arith, x.1)) (sym x.1 ∙ same ∙ y.1)
      ]
    ];
  }

  module _ {A : Type 0} (blank : A) (size : ℕ) (items : List A) (kept : length items ≡ made * BLOCK)
    where
      same_or_blank : (k : ℕ) → item_at blank table items k
          ≡ item_at blank (set table block (made + 1)) (items ++ replicate BLOCK blank) k
      same_or_blank k = elim (numbered (k / BLOCK)) [
        | inl new ↦ item_blank blank items (get_or table (k / BLOCK) 0) (k % BLOCK)
            (ap (λ (b : ℕ). get_or table b 0) new.0 ∙ none)
            ∙ sym (
            ap (λ (m : ℕ). item_in blank (items ++ replicate BLOCK blank) m (k % BLOCK)) new.1
            ∙ item_kept blank (items ++ replicate BLOCK blank) (made + 1) (k % BLOCK)
            (omega arith)
            ∙ get_or-append_right items (replicate BLOCK blank) (made * BLOCK)
            ((made + 1 - 1) * BLOCK + k % BLOCK) blank kept (omega arith)
            ∙ get_or-replicate BLOCK ((made + 1 - 1) * BLOCK + k % BLOCK - made * BLOCK) blank
            blank (omega arith)
            )
        | inr old ↦ (
            sym (
            ap (λ (m : ℕ). item_in blank (items ++ replicate BLOCK blank) m (k % BLOCK)) old.1
            ∙ lengthened_item blank items (replicate BLOCK blank) made (get_or table (k / BLOCK) 0)
            (k % BLOCK) (omega arith) (rule.within (k / BLOCK)) kept
            )
            )
      ]

      pub block_kept : through blank size (set table block (made + 1))
          (items ++ replicate BLOCK blank) ≡ through blank size table items
      block_kept =
          through_is blank size (set table block (made + 1)) (items ++ replicate BLOCK blank)
          (through blank size table items) blank (through_long blank size table items)
          (λ k below. through_at blank size table items k blank below ∙ same_or_blank k)
