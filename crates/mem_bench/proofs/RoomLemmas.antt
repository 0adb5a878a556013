-- What a room keeps of its blocks: a further block, one that is saved, dirty places, bytes that are
-- put, and a sync.
use Rattle.std.proofs.Common.{◌≡◌, ◌≢◌, ◌⊎◌, inl, inr, ℕ, ◌+◌, ◌-◌, ◌*◌, ◌/◌, ◌%◌, ◌<◌, ◌≤◌}
use Rattle.std.proofs.Common.{Bool, true, false, List, [], ◌∷◌, ◌++◌, length, get_or, replicate}
use Rattle.std.proofs.Common.{refl, sym, ◌∙◌, ap, arith, map, take, drop, length-append}
use Rattle.std.proofs.Common.{length-drop, if◌then◌else◌}
use Rattle.std.proofs.Math.ListN.{set}
use Rattle.std.proofs.lemmas.Bool.{cases_eq, cases_lt, cases_order}
use Rattle.std.proofs.lemmas.List.{get_or-append_right, get_or-drop, get_or-replicate, get_or-take}
use Rattle.std.proofs.lemmas.List.{get_or-set_other, get_or-set_same, get_or_append_left}
use Rattle.std.proofs.lemmas.List.{get_or_past, length-replicate, length-take-le, places, same_lists}
use Rattle.std.proofs.lemmas.List.FromFn.{fill_by_all, get_or-map-range_with_len}
use Rattle.std.proofs.lemmas.List.FromFn.{length-map-range_with_len}
use Rattle.bench_model.specs.Regions.{IsOutside}
use Rattle.mem_bench.specs.declared.last_sync.BlockState.{BlockState}
use Rattle.mem_bench.specs.declared.last_sync.BlockState.TheVariants.{Clean, Fresh, Changed}
use Rattle.mem_bench.specs.declared.room.TheConstants.{BLANK, BLOCK}
use Rattle.bench_model.specs.declared.choice.Choice.{Choice}
use Rattle.mem_bench.specs.Regions.{IsCut, IsRegion, RegionValue, byte_after, lengthened, no_region}
use Rattle.mem_bench.specs.Regions.{overlaid, stable_region, written}
use Rattle.mem_bench.specs.Rooms.{IsSaved, mark_at, mark_in, marks_by, state_at, synced_at}
use Rattle.mem_bench.specs.Rooms.{synced_by, synced_in}
use Rattle.mem_bench.proofs.RegionLemmas.{overlaid_inside, overlaid_long, overlaid_outside}

-- one item everywhere reads as that item, also past the end where it is the default
pub same_everywhere : {A : Type 0} (n k : ℕ) (a : A) → get_or (replicate n a) k a ≡ a
same_everywhere n k a = elim (cases_lt k n) [
  | inl lt ↦ get_or-replicate n k a a lt
  | inr le ↦ get_or_past (replicate n a) k a (omega (arith, length-replicate n a))
]

-- ---- lists by their places

module _ (states : List BlockState) (saved bytes : List ℕ) where
  pub synced_long : length (synced_by states saved bytes) ≡ length bytes
  unfolding synced_by
  synced_long = length-map-range_with_len (synced_at states saved bytes) 0 (length bytes)

  pub synced_there : (k : ℕ) → k < length bytes
      → get_or (synced_by states saved bytes) k 0 ≡ synced_at states saved bytes k
  unfolding synced_by
  synced_there k below =
      get_or-map-range_with_len (synced_at states saved bytes) 0 (length bytes) k k 0 below
      (omega arith)

  -- a list of that length with each byte at the last sync is all of them
  pub synced_is : (xs : List ℕ) → length xs ≡ length bytes
      → ((k : ℕ) → k < length bytes → get_or xs k 0 ≡ synced_at states saved bytes k)
      → synced_by states saved bytes ≡ xs
  unfolding synced_by
  synced_is xs long each =
      sym (fill_by_all (synced_at states saved bytes) xs (length bytes) 0 long each)

module _ (states : List BlockState) (marks : List Bool) (size : ℕ) where
  pub marks_long : length (marks_by states marks size) ≡ size
  unfolding marks_by
  marks_long = length-map-range_with_len (mark_at states marks) 0 size

  pub marks_there : (k : ℕ) → k < size
      → get_or (marks_by states marks size) k false ≡ mark_at states marks k
  unfolding marks_by
  marks_there k below =
      get_or-map-range_with_len (mark_at states marks) 0 size k k false below (omega arith)

  -- a list of that length with each mark is all of them
  pub marks_is : (xs : List Bool) → length xs ≡ size
      → ((k : ℕ) → k < size → get_or xs k false ≡ mark_at states marks k)
      → marks_by states marks size ≡ xs
  unfolding marks_by
  marks_is xs long each = sym (fill_by_all (mark_at states marks) xs size false long each)

-- ---- a state

pub synced_other : (s : BlockState) (read x y : ℕ) → (s ≡ Changed → x ≡ y)
    → synced_in s read x ≡ synced_in s read y
synced_other Clean read x y same = refl
synced_other Fresh read x y same = refl
synced_other Changed read x y same = same refl

mark_other : (s : BlockState) (x y : Bool) → (s ≡ Changed → x ≡ y) → mark_in s x ≡ mark_in s y
mark_other Clean x y same = refl
mark_other Fresh x y same = refl
mark_other Changed x y same = same refl

-- where a block is not clean, its bytes at the last sync are not those as read
synced_apart : (s : BlockState) (read now x : ℕ) → s ≢ Clean → synced_in s read x ≡ synced_in s now x
synced_apart Clean read now x not = absurd (not refl)
synced_apart Fresh read now x not = refl
synced_apart Changed read now x not = refl

-- ---- a block that is saved

-- places of other blocks
outside_block : (k b : ℕ) → k / BLOCK ≢ b → IsOutside (b * BLOCK) BLOCK k
outside_block k b other =
    elim (cases_order (k / BLOCK) b) [
      | inl is ↦ absurd (other is)
      | inr far ↦ elim far [ inl lt ↦ inl (omega arith) | inr gt ↦ inr (omega arith) ]
    ]

module _ {A : Type 0} (old piece : List A) (item : A) (m b : ℕ) (whole : length piece ≡ BLOCK)
    (fits : (b + 1) * BLOCK ≤ length (old ++ replicate m item)) where
  -- what stands at places of the block, and at others that were there
  piece_there : (k : ℕ) (d : A) → k / BLOCK ≡ b
      → get_or (overlaid (b * BLOCK) piece (old ++ replicate m item)) k d
      ≡ get_or piece (k - b * BLOCK) d
  piece_there k d is =
      overlaid_inside (old ++ replicate m item) (b * BLOCK) piece (omega (arith, whole, fits)) k d
      (omega arith) (omega (arith, whole))

  others_stay : (k : ℕ) (d : A) → k / BLOCK ≢ b → k < length old
      → get_or (overlaid (b * BLOCK) piece (old ++ replicate m item)) k d ≡ get_or old k d
  others_stay k d other below =
      let out : IsOutside (b * BLOCK) (length piece) k =
      elim (outside_block k b other) [
        | inl lt ↦ inl lt
        | inr le ↦ inr (omega (arith, whole))
      ] in
      overlaid_outside (old ++ replicate m item) (b * BLOCK) piece (omega (arith, whole, fits)) k d
      out
      ∙ get_or_append_left old (replicate m item) d k below

module _ (states : List BlockState) (saved : List ℕ) (marks : List Bool)
    (rule : IsSaved states saved marks) (b : ℕ) (there : b < length states)
    (clean : get_or states b Clean ≡ Clean) where
  changed_now : (k : ℕ) → k / BLOCK ≡ b
      → get_or (set states b Changed) (k / BLOCK) Clean ≡ Changed
  changed_now k is =
      ap (λ (x : ℕ). get_or (set states b Changed) x Clean) is
      ∙ get_or-set_same states b Changed Clean there

  clean_before : (k : ℕ) → k / BLOCK ≡ b → get_or states (k / BLOCK) Clean ≡ Clean
  clean_before k is = ap (λ (x : ℕ). get_or states x Clean) is ∙ clean

  same_state : (k : ℕ) → k / BLOCK ≢ b
      → get_or (set states b Changed) (k / BLOCK) Clean ≡ get_or states (k / BLOCK) Clean
  same_state k other = get_or-set_other states b (k / BLOCK) Changed Clean other

  kept_there : (k : ℕ) → get_or states (k / BLOCK) Clean ≡ Changed → k < length saved
  kept_there k changed = omega (arith, rule.there (k / BLOCK) changed)

  pub saved_synced : (bytes : List ℕ) (m : ℕ)
      → length bytes ≡ length states * BLOCK
      → (b + 1) * BLOCK ≤ length (saved ++ replicate m BLANK)
      → synced_by (set states b Changed)
      (overlaid (b * BLOCK) (take BLOCK (drop (b * BLOCK) bytes)) (saved ++ replicate m BLANK)) bytes
      ≡ synced_by states saved bytes
  saved_synced bytes m long fits =
      let piece : List ℕ = take BLOCK (drop (b * BLOCK) bytes) in
      let whole : length (take BLOCK (drop (b * BLOCK) bytes)) ≡ BLOCK =
      length-take-le BLOCK (drop (b * BLOCK) bytes)
      (omega (arith, long, length-drop (b * BLOCK) bytes)) in
      let now : List ℕ = overlaid (b * BLOCK) piece (saved ++ replicate m BLANK) in
      synced_is (set states b Changed) now bytes (synced_by states saved bytes)
      (synced_long states saved bytes)
      (λ k below. synced_there states saved bytes k below ∙ elim (cases_eq (k / BLOCK) b) [
        | inl is ↦ ap (λ (s : BlockState). synced_in s (get_or bytes k 0) (get_or saved k 0))
            (clean_before k is)
            ∙ sym (
            ap (λ (s : BlockState). synced_in s (get_or bytes k 0) (get_or now k 0))
            (changed_now k is)
            ∙ piece_there saved piece BLANK m b whole fits k 0 is
            ∙ get_or-take BLOCK (drop (b * BLOCK) bytes) (k - b * BLOCK) 0 (omega arith)
            ∙ get_or-drop (b * BLOCK) bytes (k - b * BLOCK) 0
            ∙ ap (λ (j : ℕ). get_or bytes j 0) (omega arith)
            )
        | inr other ↦ sym (
            ap (λ (s : BlockState). synced_in s (get_or bytes k 0) (get_or now k 0))
            (same_state k other)
            ∙ synced_other (get_or states (k / BLOCK) Clean) (get_or bytes k 0) (get_or now k 0)
            (get_or saved k 0)
            (λ changed. others_stay saved piece BLANK m b whole fits k 0 other
            (kept_there k changed))
            )
      ])

  pub saved_marks : (size m : ℕ) → size ≡ length states * BLOCK
      → (b + 1) * BLOCK ≤ length (marks ++ replicate m false)
      → marks_by (set states b Changed)
      (overlaid (b * BLOCK) (replicate BLOCK false) (marks ++ replicate m false)) size
      ≡ marks_by states marks size
  saved_marks size m long fits =
      let whole : length (replicate BLOCK false) ≡ BLOCK = length-replicate BLOCK false in
      let now : List Bool =
      overlaid (b * BLOCK) (replicate BLOCK false) (marks ++ replicate m false) in
      marks_is (set states b Changed) now size (marks_by states marks size)
      (marks_long states marks size)
      (λ k below. marks_there states marks size k below ∙ elim (cases_eq (k / BLOCK) b) [
        | inl is ↦ ap (λ (s : BlockState). mark_in s (get_or marks k false)) (clean_before k is)
            ∙ sym (
            ap (λ (s : BlockState). mark_in s (get_or now k false)) (changed_now k is)
            ∙ piece_there marks (replicate BLOCK false) false m b whole fits k false is
            ∙ same_everywhere BLOCK (k - b * BLOCK) false
            )
        | inr other ↦ sym (
            ap (λ (s : BlockState). mark_in s (get_or now k false)) (same_state k other)
            ∙ mark_other (get_or states (k / BLOCK) Clean) (get_or now k false)
            (get_or marks k false)
            (λ changed. others_stay marks (replicate BLOCK false) false m b whole fits k false other
            (omega (arith, kept_there k changed, rule.sized)))
            )
      ])

-- ---- dirty places, all of one block

module _ (states : List BlockState) (marks now : List Bool) (size at n : ℕ)
    (fits : at + n ≤ size)
    (inside : (k : ℕ) → at ≤ k → k < at + n → mark_at states now k ≡ true)
    (outside : (k : ℕ) → IsOutside at n k → get_or now k false ≡ get_or marks k false) where
  room_there : at + length (replicate n true) ≤ length (marks_by states marks size)
  room_there = omega (arith, length-replicate n true, marks_long states marks size)

  left_out : (k : ℕ) → k < size → IsOutside at n k
      → get_or (overlaid at (replicate n true) (marks_by states marks size)) k false
      ≡ mark_at states now k
  left_out k below out =
      let apart : IsOutside at (length (replicate n true)) k =
      elim out [ inl lt ↦ inl lt | inr le ↦ inr (omega (arith, length-replicate n true)) ] in
      overlaid_outside (marks_by states marks size) at (replicate n true) room_there k false apart
      ∙ marks_there states marks size k below
      ∙ ap (λ (m : Bool). mark_in (state_at states k) m) (sym (outside k out))

  pub marks_dirty : marks_by states now size
      ≡ overlaid at (replicate n true) (marks_by states marks size)
  marks_dirty =
      marks_is states now size (overlaid at (replicate n true) (marks_by states marks size))
      (overlaid_long (marks_by states marks size) at (replicate n true) room_there
      ∙ marks_long states marks size)
      (λ k below. elim (cases_lt k at) [
        | inl lt ↦ left_out k below (inl lt)
        | inr from ↦ elim (cases_lt k (at + n)) [
          | inl lt ↦ overlaid_inside (marks_by states marks size) at (replicate n true) room_there k
              false from (omega (arith, length-replicate n true))
              ∙ get_or-replicate n (k - at) true false (omega arith)
              ∙ sym (inside k from lt)
          | inr le ↦ left_out k below (inr le)
        ]
      ])

-- the state of the block of a place from `at` on, in the block of `at`
same_block : (states : List BlockState) (at n k : ℕ) (s : BlockState) → at % BLOCK + n ≤ BLOCK
    → state_at states at ≡ s → at ≤ k → k < at + n → state_at states k ≡ s
same_block states at n k s inside is from below =
    ap (λ (b : ℕ). get_or states b Clean) (omega arith) ∙ is

pub changed_dirty : (states : List BlockState) (marks : List Bool) (size at n : ℕ)
    → at + n ≤ size → at % BLOCK + n ≤ BLOCK → at + n ≤ length marks
    → state_at states at ≡ Changed
    → marks_by states (overlaid at (replicate n true) marks) size
    ≡ overlaid at (replicate n true) (marks_by states marks size)
changed_dirty states marks size at n fits inside there is =
    let long : length (replicate n true) ≡ n = length-replicate n true in
    marks_dirty states marks (overlaid at (replicate n true) marks) size at n fits
    (λ k from below. ap (λ (s : BlockState). mark_in s
    (get_or (overlaid at (replicate n true) marks) k false))
    (same_block states at n k Changed inside is from below)
    ∙ overlaid_inside marks at (replicate n true) (omega (arith, long)) k false from
    (omega (arith, long))
    ∙ get_or-replicate n (k - at) true false (omega arith))
    (λ k out. overlaid_outside marks at (replicate n true) (omega (arith, long)) k false
    (elim out [ inl lt ↦ inl lt | inr le ↦ inr (omega (arith, long)) ]))

pub fresh_dirty : (states : List BlockState) (marks : List Bool) (size at n : ℕ)
    → at + n ≤ size → at % BLOCK + n ≤ BLOCK → state_at states at ≡ Fresh
    → marks_by states marks size ≡ overlaid at (replicate n true) (marks_by states marks size)
fresh_dirty states marks size at n fits inside is =
    marks_dirty states marks marks size at n fits
    (λ k from below. ap (λ (s : BlockState). mark_in s (get_or marks k false))
    (same_block states at n k Fresh inside is from below))
    (λ k out. refl)

-- bytes that are put into a block that is not clean leave those at the last sync
pub put_synced : (states : List BlockState) (saved bytes items : List ℕ) (at : ℕ)
    → at + length items ≤ length bytes → at % BLOCK + length items ≤ BLOCK
    → state_at states at ≢ Clean
    → synced_by states saved (overlaid at items bytes) ≡ synced_by states saved bytes
put_synced states saved bytes items at fits inside not =
    let long : length (overlaid at items bytes) ≡ length bytes = overlaid_long bytes at items fits in
    let out : (k : ℕ) → k < length bytes → IsOutside at (length items) k
    → get_or (synced_by states saved bytes) k 0 ≡ synced_at states saved (overlaid at items bytes) k =
    λ k below apart. synced_there states saved bytes k below
    ∙ ap (λ (x : ℕ). synced_in (state_at states k) x (get_or saved k 0))
    (sym (overlaid_outside bytes at items fits k 0 apart)) in
    synced_is states saved (overlaid at items bytes) (synced_by states saved bytes)
    (synced_long states saved bytes ∙ sym long)
    (λ k below. elim (cases_lt k at) [
      | inl lt ↦ out k (omega (arith, long)) (inl lt)
      | inr from ↦ elim (cases_lt k (at + length items)) [
        | inl lt ↦ synced_there states saved bytes k (omega (arith, long))
            ∙ synced_apart (state_at states k) (get_or bytes k 0)
            (get_or (overlaid at items bytes) k 0) (get_or saved k 0)
            (λ is. not (ap (λ (b : ℕ). get_or states b Clean) (omega arith) ∙ is))
        | inr le ↦ out k (omega (arith, long)) (inr le)
      ]
    ])

-- ---- a further block

module _ (states : List BlockState) (saved : List ℕ) (marks : List Bool) (s : BlockState)
    (bytes more : List ℕ) (long : length bytes ≡ length states * BLOCK)
    (whole : length more ≡ BLOCK) where
  old_state : (k : ℕ) → k < length bytes
      → state_at (states ++ s ∷ []) k ≡ state_at states k
  old_state k below =
      get_or_append_left states (s ∷ []) Clean (k / BLOCK) (omega arith)

  new_state : (k : ℕ) → length bytes ≤ k → k < length bytes + BLOCK
      → state_at (states ++ s ∷ []) k ≡ s
  new_state k from below =
      let first : k / BLOCK - length states ≡ 0 = omega arith in
      get_or-append_right states (s ∷ []) (length states) (k / BLOCK) Clean refl (omega arith)
      ∙ ap (λ (j : ℕ). get_or (s ∷ []) j Clean) first

  pub synced_further : ((j x : ℕ) → j < BLOCK → synced_in s (get_or more j 0) x ≡ BLANK)
      → synced_by (states ++ s ∷ []) saved (bytes ++ more)
      ≡ synced_by states saved bytes ++ replicate BLOCK BLANK
  synced_further blank =
      let all : length (bytes ++ more) ≡ length bytes + BLOCK =
      length-append bytes more ∙ ap (λ (n : ℕ). length bytes + n) whole in
      synced_is (states ++ s ∷ []) saved (bytes ++ more)
      (synced_by states saved bytes ++ replicate BLOCK BLANK)
      (length-append (synced_by states saved bytes) (replicate BLOCK BLANK)
      ∙ omega (arith, synced_long states saved bytes, length-replicate BLOCK BLANK, all))
      (λ k below. elim (cases_lt k (length bytes)) [
        | inl lt ↦ get_or_append_left (synced_by states saved bytes) (replicate BLOCK BLANK) 0 k
            (omega (arith, synced_long states saved bytes))
            ∙ synced_there states saved bytes k lt
            ∙ sym (
            ap (λ (t : BlockState). synced_in t (get_or (bytes ++ more) k 0) (get_or saved k 0))
            (old_state k lt)
            ∙ ap (λ (x : ℕ). synced_in (state_at states k) x (get_or saved k 0))
            (get_or_append_left bytes more 0 k lt)
            )
        | inr from ↦ get_or-append_right (synced_by states saved bytes) (replicate BLOCK BLANK)
            (length bytes) k 0 (synced_long states saved bytes) from
            ∙ get_or-replicate BLOCK (k - length bytes) BLANK 0 (omega (arith, all))
            ∙ sym (
            ap (λ (t : BlockState). synced_in t (get_or (bytes ++ more) k 0) (get_or saved k 0))
            (new_state k from (omega (arith, all)))
            ∙ ap (λ (x : ℕ). synced_in s x (get_or saved k 0))
            (get_or-append_right bytes more (length bytes) k 0 refl from)
            ∙ blank (k - length bytes) (get_or saved k 0) (omega (arith, all))
            )
      ])

  pub marks_further : (m : Bool) → ((x : Bool) → mark_in s x ≡ m)
      → marks_by (states ++ s ∷ []) marks (length (bytes ++ more))
      ≡ marks_by states marks (length bytes) ++ replicate BLOCK m
  marks_further m is =
      let all : length (bytes ++ more) ≡ length bytes + BLOCK =
      length-append bytes more ∙ ap (λ (n : ℕ). length bytes + n) whole in
      let front : length (marks_by states marks (length bytes)) ≡ length bytes =
      marks_long states marks (length bytes) in
      marks_is (states ++ s ∷ []) marks (length (bytes ++ more))
      (marks_by states marks (length bytes) ++ replicate BLOCK m)
      (length-append (marks_by states marks (length bytes)) (replicate BLOCK m)
      ∙ omega (arith, front, length-replicate BLOCK m, all))
      (λ k below. elim (cases_lt k (length bytes)) [
        | inl lt ↦ get_or_append_left (marks_by states marks (length bytes)) (replicate BLOCK m)
            false k (omega (arith, front))
            ∙ marks_there states marks (length bytes) k lt
            ∙ sym (ap (λ (t : BlockState). mark_in t (get_or marks k false)) (old_state k lt))
        | inr from ↦ get_or-append_right (marks_by states marks (length bytes)) (replicate BLOCK m)
            (length bytes) k false front from
            ∙ get_or-replicate BLOCK (k - length bytes) m false (omega (arith, all))
            ∙ sym (
            ap (λ (t : BlockState). mark_in t (get_or marks k false))
            (new_state k from (omega (arith, all)))
            ∙ is (get_or marks k false)
            )
      ])

-- what is put over the end of a list takes its place
pub overlaid_end : {A : Type 0} (xs ys zs : List A) (n : ℕ) → length xs ≡ n → length ys ≡ length zs
    → overlaid n ys (xs ++ zs) ≡ xs ++ ys
overlaid_end xs ys zs n is same =
    same_lists (overlaid n ys (xs ++ zs)) (xs ++ ys)
    (search (Rattle.std.proofs.Common.rules, places))
    (λ k d h. grind (arith, places))

-- ---- a sync

pub clean_synced : (n : ℕ) (saved bytes : List ℕ)
    → synced_by (replicate n Clean) saved bytes ≡ bytes
clean_synced n saved bytes =
    synced_is (replicate n Clean) saved bytes bytes refl
    (λ k below. sym (ap (λ (s : BlockState). synced_in s (get_or bytes k 0) (get_or saved k 0))
    (same_everywhere n (k / BLOCK) Clean)))

pub clean_marks : (n : ℕ) (marks : List Bool) (size : ℕ)
    → marks_by (replicate n Clean) marks size ≡ replicate size false
clean_marks n marks size =
    marks_is (replicate n Clean) marks size (replicate size false) (length-replicate size false)
    (λ k below. same_everywhere size k false
    ∙ sym (ap (λ (s : BlockState). mark_in s (get_or marks k false))
    (same_everywhere n (k / BLOCK) Clean)))

-- ---- the whole room

-- what a room keeps
abbrev pub kept_by : List BlockState → List ℕ → List Bool → List ℕ → RegionValue
kept_by states saved marks bytes = record {
  bytes = bytes;
  synced = synced_by states saved bytes;
  marks = marks_by states marks (length bytes);
}

pub IsRegion-kept : (states : List BlockState) (saved : List ℕ) (marks : List Bool)
    (bytes : List ℕ) → IsRegion (kept_by states saved marks bytes)
IsRegion-kept states saved marks bytes = record {
  synced = synced_long states saved bytes;
  marks = marks_long states marks (length bytes);
}

pub no_blocks : (saved : List ℕ) (marks : List Bool) → kept_by [] saved marks [] ≡ no_region
unfolding synced_by marks_by
no_blocks saved marks = refl

pub kept_clean : (n : ℕ) (saved : List ℕ) (marks : List Bool) (bytes : List ℕ)
    → kept_by (replicate n Clean) saved marks bytes ≡ stable_region bytes
kept_clean n saved marks bytes =
    let synced = clean_synced n saved bytes in
    let all = clean_marks n marks (length bytes) in
    λ i. record { bytes = bytes; synced = synced i; marks = all i }

module _ (states : List BlockState) (saved : List ℕ) (marks : List Bool) (bytes : List ℕ)
    (long : length bytes ≡ length states * BLOCK) where
  pub kept_lengthened : kept_by (states ++ Clean ∷ []) saved marks (bytes ++ replicate BLOCK BLANK)
      ≡ lengthened BLOCK (kept_by states saved marks bytes)
  kept_lengthened =
      let whole : length (replicate BLOCK BLANK) ≡ BLOCK = length-replicate BLOCK BLANK in
      let synced = synced_further states saved marks Clean bytes (replicate BLOCK BLANK) long whole
      (λ j x below. get_or-replicate BLOCK j BLANK 0 below) in
      let all = marks_further states saved marks Clean bytes (replicate BLOCK BLANK) long whole false
      (λ x. refl) in
      λ i. record { bytes = bytes ++ replicate BLOCK BLANK; synced = synced i; marks = all i }

  pub kept_appended : (block : List ℕ) → length block ≡ BLOCK
      → kept_by (states ++ Fresh ∷ []) saved marks (bytes ++ block)
      ≡ written (length bytes) block (lengthened BLOCK (kept_by states saved marks bytes))
  kept_appended block whole =
      let put = sym (overlaid_end bytes block (replicate BLOCK BLANK) (length bytes) refl
      (whole ∙ sym (length-replicate BLOCK BLANK))) in
      let synced = synced_further states saved marks Fresh bytes block long whole
      (λ j x below. refl) in
      let all = marks_further states saved marks Fresh bytes block long whole true (λ x. refl)
      ∙ sym (overlaid_end (marks_by states marks (length bytes)) (replicate BLOCK true)
      (replicate BLOCK false) (length bytes) (marks_long states marks (length bytes))
      (length-replicate BLOCK true ∙ sym (length-replicate BLOCK false)))
      ∙ ap (λ (n : ℕ). overlaid (length bytes) (replicate n true)
      (marks_by states marks (length bytes) ++ replicate BLOCK false)) (sym whole) in
      λ i. record { bytes = put i; synced = synced i; marks = all i }

  -- bytes that are put where their places were made dirty
  pub kept_written : (states2 : List BlockState) (saved2 : List ℕ) (marks2 : List Bool)
      (items : List ℕ) (at : ℕ) → at + length items ≤ length bytes
      → at % BLOCK + length items ≤ BLOCK
      → state_at states2 at ≢ Clean
      → synced_by states2 saved2 bytes ≡ synced_by states saved bytes
      → marks_by states2 marks2 (length bytes)
      ≡ overlaid at (replicate (length items) true) (marks_by states marks (length bytes))
      → kept_by states2 saved2 marks2 (overlaid at items bytes)
      ≡ written at items (kept_by states saved marks bytes)
  kept_written states2 saved2 marks2 items at fits inside not same dirty =
      let synced = put_synced states2 saved2 bytes items at fits inside not ∙ same in
      let all = ap (λ (n : ℕ). marks_by states2 marks2 n) (overlaid_long bytes at items fits)
      ∙ dirty in
      λ i. record { bytes = overlaid at items bytes; synced = synced i; marks = all i }

  pub chosen_whole : (choice : Choice) (left : List ℕ) → length left ≡ length bytes
      → ((k : ℕ) → k < length bytes → get_or left k 0 ≡ (if mark_at states marks k
      then byte_after choice k (synced_at states saved bytes k) (get_or bytes k 0)
      else get_or bytes k 0))
      → IsCut choice (kept_by states saved marks bytes) left
  chosen_whole choice left same each = record {
    long = same;
    each = λ k below.
        rw (marks_there states marks (length bytes) k below, synced_there states saved bytes k below)
        (each k below);
  }
