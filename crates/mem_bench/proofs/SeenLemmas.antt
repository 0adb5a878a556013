-- A region by its blocks, as a region: blank, and after a write, a sync, a cut and a further block.
use Rattle.std.proofs.Common.{◌≡◌, inl, inr, ℕ, ◌+◌, ◌-◌, ◌*◌, ◌/◌, ◌%◌, ◌<◌, ◌≤◌, true, false}
use Rattle.std.proofs.Common.{List, ◌++◌, length, get_or, take, drop, replicate, refl, sym, ◌∙◌, ap}
use Rattle.std.proofs.Common.{arith, length-append, length-drop, if◌then◌else◌, rules}
use Rattle.std.proofs.lemmas.List.{ext_get_or, get_or-drop, get_or-take, get_or_default}
use Rattle.std.proofs.lemmas.List.{get_or-set_same}
use Rattle.std.proofs.lemmas.List.{drop-drop, length-replicate, length-take-le, places}
use Rattle.std.proofs.lemmas.Slice.{take-put_mid}
use Rattle.std.proofs.Math.Seq.{take-add}
use borrow.Rule.Slice.PartMut.{put_mid}
use Rattle.std.proofs.Math.ListN.{set}
use Rattle.std.proofs.Math.Nat.{eq-zero-or-pos}
use Rattle.bench_model.specs.declared.choice.Choice.{Choice}
use Rattle.bench_model.specs.declared.choice.Choice.TheVariants.{New, Old, Mix, Fill}
use Rattle.cu_base.specs.Fields.{field}
use Rattle.mem_bench.specs.declared.room.TheConstants.{BLANK, BLOCK}
use Rattle.mem_bench.specs.Regions.{IsCut, IsRegion, RegionValue, byte_after, lengthened, no_region}
use Rattle.mem_bench.specs.Regions.{overlaid, stable_region, written}
use Rattle.mem_bench.specs.Tables.{IsTable, item_at, item_in, seen_through, through}
use Rattle.mem_bench.proofs.BlockLemmas.{IsTable-set, block_kept, item_blank, item_kept, piece_written}
use Rattle.mem_bench.proofs.BlockLemmas.{through_at, through_is, through_long}
use Rattle.mem_bench.proofs.RegionLemmas.{written_more}
use Rattle.mem_bench.proofs.RoomLemmas.{same_everywhere}

-- blocks of which none is kept are blank
none_kept : {A : Type 0} (blank : A) (size blocks : ℕ) (items : List A)
    → through blank size (replicate blocks 0) items ≡ replicate size blank
none_kept blank size blocks items =
    through_is blank size (replicate blocks 0) items (replicate size blank) blank
    (length-replicate size blank)
    (λ k below. same_everywhere size k blank
    ∙ sym (item_blank blank items (get_or (replicate blocks 0) (k / BLOCK) 0) (k % BLOCK)
    (same_everywhere blocks (k / BLOCK) 0)))

pub blank_seen : (size blocks : ℕ)
    → seen_through size (replicate blocks 0) no_region ≡ stable_region (replicate size BLANK)
blank_seen size blocks =
    let bytes : through BLANK size (replicate blocks 0) no_region.bytes ≡ replicate size BLANK =
    none_kept BLANK size blocks no_region.bytes in
    let marks : through false size (replicate blocks 0) no_region.marks
    ≡ replicate (length (replicate size BLANK)) false =
    none_kept false size blocks no_region.marks
    ∙ ap (λ (n : ℕ). replicate n false) (sym (length-replicate size BLANK)) in
    λ i. record { bytes = bytes i; synced = bytes i; marks = marks i }

-- no place is dirty where none of what is kept is
none_dirty : (n m inside : ℕ) → item_in false (replicate n false) m inside ≡ false
none_dirty n m inside =
    elim (eq-zero-or-pos m) [
      | inl none ↦ item_blank false (replicate n false) m inside none
      | inr there ↦ item_kept false (replicate n false) m inside there
          ∙ same_everywhere n ((m - 1) * BLOCK + inside) false
    ]

pub stable_seen : (size : ℕ) (table bytes : List ℕ)
    → seen_through size table (stable_region bytes) ≡ stable_region (through BLANK size table bytes)
stable_seen size table bytes =
    let marks : through false size table (replicate (length bytes) false)
    ≡ replicate (length (through BLANK size table bytes)) false =
    through_is false size table (replicate (length bytes) false)
    (replicate (length (through BLANK size table bytes)) false) false
    (length-replicate (length (through BLANK size table bytes)) false
    ∙ through_long BLANK size table bytes)
    (λ k below. same_everywhere (length (through BLANK size table bytes)) k false
    ∙ sym (none_dirty (length bytes) (get_or table (k / BLOCK) 0) (k % BLOCK))) in
    λ i. record {
      bytes = through BLANK size table bytes;
      synced = through BLANK size table bytes;
      marks = marks i;
    }

-- what a cut leaves depends on whether a place is even, which its address in the room tells
byte_after_even : (choice : Choice) (a k synced read : ℕ) → a % 2 ≡ k % 2
    → byte_after choice a synced read ≡ byte_after choice k synced read
byte_after_even New a k synced read even = refl
byte_after_even Old a k synced read even = refl
byte_after_even Mix a k synced read even = rw even refl
byte_after_even (Fill byte) a k synced read even = refl

module _ (choice : Choice) (size : ℕ) (table : List ℕ) (made : ℕ) (rule : IsTable table made)
    (kept : RegionValue) (whole : IsRegion kept) (long : length kept.bytes ≡ made * BLOCK)
    (left : List ℕ) (cut : IsCut choice kept left) where
  -- the byte that is left of a place whose block has this number
  cut_item : (k m : ℕ) → m ≤ made → item_in BLANK left m (k % BLOCK)
      ≡ (if item_in false kept.marks m (k % BLOCK) then byte_after choice k
      (item_in BLANK kept.synced m (k % BLOCK)) (item_in BLANK kept.bytes m (k % BLOCK))
      else item_in BLANK kept.bytes m (k % BLOCK))
  cut_item k m le =
      elim (eq-zero-or-pos m) [
        | inl none ↦ rw none refl
        | inr there ↦ (
            let a : ℕ = (m - 1) * BLOCK + k % BLOCK in
            let within : (m - 1) * BLOCK + k % BLOCK < length kept.bytes = omega arith in
            let even : ((m - 1) * BLOCK + k % BLOCK) % 2 ≡ k % 2 = omega arith in
            rw (
              item_kept BLANK left m (k % BLOCK) there,
              item_kept false kept.marks m (k % BLOCK) there,
              item_kept BLANK kept.synced m (k % BLOCK) there,
              item_kept BLANK kept.bytes m (k % BLOCK) there,
              get_or_default left ((m - 1) * BLOCK + k % BLOCK) BLANK 0 (omega (arith, cut.long)),
              get_or_default kept.synced ((m - 1) * BLOCK + k % BLOCK) BLANK 0
                  (omega (arith, whole.synced)),
              get_or_default kept.bytes ((m - 1) * BLOCK + k % BLOCK) BLANK 0 within,
              ← byte_after_even choice ((m - 1) * BLOCK + k % BLOCK) k
                  (get_or kept.synced ((m - 1) * BLOCK + k % BLOCK) 0)
                  (get_or kept.bytes ((m - 1) * BLOCK + k % BLOCK) 0) even,
            ) (cut.each ((m - 1) * BLOCK + k % BLOCK) within)
            )
      ]

  pub cut_seen : IsCut choice (seen_through size table kept) (through BLANK size table left)
  cut_seen = record {
    long = through_long BLANK size table left ∙ sym (through_long BLANK size table kept.bytes);
    each = λ k below.
        let inside : k < size = omega (arith, through_long BLANK size table kept.bytes) in
        rw (
          through_at BLANK size table left k 0 inside,
          through_at false size table kept.marks k false inside,
          through_at BLANK size table kept.synced k 0 inside,
          through_at BLANK size table kept.bytes k 0 inside,
        ) (cut_item k (get_or table (k / BLOCK) 0) (rule.within (k / BLOCK)));
  }

-- a write within one block that is kept
pub piece_seen : (size : ℕ) (table : List ℕ) (made : ℕ) → IsTable table made → (kept : RegionValue)
    → IsRegion kept → length kept.bytes ≡ made * BLOCK → (place a : ℕ) (piece : List ℕ)
    → 0 < get_or table (place / BLOCK) 0
    → a ≡ (get_or table (place / BLOCK) 0 - 1) * BLOCK + place % BLOCK
    → place % BLOCK + length piece ≤ BLOCK → place + length piece ≤ size
    → seen_through size table (written a piece kept) ≡ written place piece
    (seen_through size table kept)
piece_seen size table made rule kept whole long place a piece some is inside within =
    let n : length (replicate (length piece) true) ≡ length piece =
    length-replicate (length piece) true in
    let bytes : through BLANK size table (overlaid a piece kept.bytes)
    ≡ overlaid place piece (through BLANK size table kept.bytes) =
    piece_written BLANK size table made rule kept.bytes (overlaid a piece kept.bytes) piece place
    (get_or table (place / BLOCK) 0) refl some long inside within
    (ap (λ (x : ℕ). overlaid x piece kept.bytes) is) in
    let marks : through false size table (overlaid a (replicate (length piece) true) kept.marks)
    ≡ overlaid place (replicate (length piece) true) (through false size table kept.marks) =
    piece_written false size table made rule kept.marks
    (overlaid a (replicate (length piece) true) kept.marks) (replicate (length piece) true) place
    (get_or table (place / BLOCK) 0) refl some (whole.marks ∙ long) (omega (arith, n))
    (omega (arith, n))
    (ap (λ (x : ℕ). overlaid x (replicate (length piece) true) kept.marks) is) in
    λ i. record {
      bytes = bytes i;
      synced = through BLANK size table kept.synced;
      marks = marks i;
    }

-- a block that is kept first changes nothing
pub keep_seen : (size : ℕ) (table : List ℕ) (made block : ℕ) → IsTable table made
    → block < length table → get_or table block 0 ≡ 0 → (kept : RegionValue) → IsRegion kept
    → length kept.bytes ≡ made * BLOCK
    → seen_through size (set table block (made + 1)) (lengthened BLOCK kept)
    ≡ seen_through size table kept
keep_seen size table made block rule there none kept whole long =
    let bytes : through BLANK size (set table block (made + 1))
    (kept.bytes ++ replicate BLOCK BLANK)
    ≡ through BLANK size table kept.bytes =
    block_kept table made block rule there none BLANK size kept.bytes long in
    let synced : through BLANK size (set table block (made + 1))
    (kept.synced ++ replicate BLOCK BLANK) ≡ through BLANK size table kept.synced =
    block_kept table made block rule there none BLANK size kept.synced (whole.synced ∙ long) in
    let marks : through false size (set table block (made + 1))
    (kept.marks ++ replicate BLOCK false)
    ≡ through false size table kept.marks =
    block_kept table made block rule there none false size kept.marks (whole.marks ∙ long) in
    λ i. record { bytes = bytes i; synced = synced i; marks = marks i }

-- a block that is kept first, and is written whole
pub whole_seen : (size : ℕ) (table : List ℕ) (made block : ℕ) → IsTable table made
    → block < length table → get_or table block 0 ≡ 0 → (kept : RegionValue) → IsRegion kept
    → length kept.bytes ≡ made * BLOCK → (piece : List ℕ) → length piece ≡ BLOCK
    → block * BLOCK + BLOCK ≤ size
    → seen_through size (set table block (made + 1))
    (written (length kept.bytes) piece (lengthened BLOCK kept))
    ≡ written (block * BLOCK) piece (seen_through size table kept)
whole_seen size table made block rule there none kept whole long piece full fits =
    let more : length (kept.bytes ++ replicate BLOCK BLANK) ≡ length kept.bytes + BLOCK =
    length-append kept.bytes (replicate BLOCK BLANK)
    ∙ ap (λ (n : ℕ). length kept.bytes + n) (length-replicate BLOCK BLANK) in
    let all : IsRegion (lengthened BLOCK kept) = record {
      synced = omega (
        arith,
        more,
        length-append kept.synced (replicate BLOCK BLANK),
        length-replicate BLOCK BLANK,
        whole.synced,
      );
      marks = omega (
        arith,
        more,
        length-append kept.marks (replicate BLOCK false),
        length-replicate BLOCK false,
        whole.marks,
      );
    } in
    let same : block * BLOCK / BLOCK ≡ block = omega arith in
    let number : get_or (set table block (made + 1)) (block * BLOCK / BLOCK) 0 ≡ made + 1 =
    ap (λ (b : ℕ). get_or (set table block (made + 1)) b 0) same
    ∙ get_or-set_same table block (made + 1) 0 there in
    piece_seen size (set table block (made + 1)) (made + 1)
    (IsTable-set table made block rule there none) (lengthened BLOCK kept) all
    (omega (arith, more, long)) (block * BLOCK) (length kept.bytes) piece (omega (arith, number))
    (omega (arith, number, long)) (omega (arith, full)) (omega (arith, full, fits))
    ∙ ap (λ (r : RegionValue). written (block * BLOCK) piece r)
    (keep_seen size table made block rule there none kept whole long)

-- bytes that are those of the places from `place` on are the field there
field_is : (size : ℕ) (table bytes xs : List ℕ) (place n : ℕ) → length xs ≡ n → place + n ≤ size
    → ((j : ℕ) → j < n → get_or xs j 0 ≡ item_at BLANK table bytes (place + j))
    → xs ≡ field (through BLANK size table bytes) place n
field_is size table bytes xs place n long within each =
    let all : List ℕ = through BLANK size table bytes in
    let cut : length (take n (drop place (through BLANK size table bytes))) ≡ n =
    length-take-le n (drop place (through BLANK size table bytes))
    (omega (
      arith,
      length-drop place (through BLANK size table bytes),
      through_long BLANK size table bytes,
    )) in
    ext_get_or 0 xs (take n (drop place (through BLANK size table bytes))) (long ∙ sym cut)
    (λ j below. each j (omega arith)
    ∙ sym (get_or-take n (drop place (through BLANK size table bytes)) j 0 (omega arith)
    ∙ get_or-drop place (through BLANK size table bytes) j 0
    ∙ through_at BLANK size table bytes (place + j) 0 (omega arith)))

module _ (size : ℕ) (table bytes : List ℕ) (place n : ℕ) (inside : place % BLOCK + n ≤ BLOCK)
    (within : place + n ≤ size) where
  number_there : (j : ℕ) → j < n
      → get_or table ((place + j) / BLOCK) 0 ≡ get_or table (place / BLOCK) 0
  number_there j below = ap (λ (b : ℕ). get_or table b 0) (omega arith)

  pub blank_read : get_or table (place / BLOCK) 0 ≡ 0
      → replicate n BLANK ≡ field (through BLANK size table bytes) place n
  blank_read none =
      field_is size table bytes (replicate n BLANK) place n (length-replicate n BLANK) within
      (λ j below. get_or_default (replicate n BLANK) j 0 BLANK (omega (
        arith,
        length-replicate n BLANK,
      ))
      ∙ same_everywhere n j BLANK
      ∙ sym (item_blank BLANK bytes (get_or table ((place + j) / BLOCK) 0) ((place + j) % BLOCK)
      (number_there j below ∙ none)))

  pub kept_read : (made : ℕ) → IsTable table made → length bytes ≡ made * BLOCK
      → 0 < get_or table (place / BLOCK) 0
      → field bytes ((get_or table (place / BLOCK) 0 - 1) * BLOCK + place % BLOCK) n
      ≡ field (through BLANK size table bytes) place n
  kept_read made rule long some =
      let m : ℕ = get_or table (place / BLOCK) 0 in
      let least : get_or table (place / BLOCK) 0 ≤ made = rule.within (place / BLOCK) in
      let start : ℕ = (get_or table (place / BLOCK) 0 - 1) * BLOCK + place % BLOCK in
      let ends : (get_or table (place / BLOCK) 0 - 1) * BLOCK + place % BLOCK + n ≤ length bytes =
      omega (arith, least, long) in
      field_is size table bytes
      (field bytes ((get_or table (place / BLOCK) 0 - 1) * BLOCK + place % BLOCK) n) place n
      (length-take-le n (drop ((get_or table (place / BLOCK) 0 - 1) * BLOCK + place % BLOCK) bytes)
      (omega (
        arith,
        length-drop ((get_or table (place / BLOCK) 0 - 1) * BLOCK + place % BLOCK) bytes,
        ends,
      ))) within
      (λ j below.
      let same : get_or table ((place + j) / BLOCK) 0 ≡ get_or table (place / BLOCK) 0 =
      number_there j below in
      get_or-take n (drop ((get_or table (place / BLOCK) 0 - 1) * BLOCK + place % BLOCK) bytes) j 0
      below
      ∙ get_or-drop ((get_or table (place / BLOCK) 0 - 1) * BLOCK + place % BLOCK) bytes j 0
      ∙ get_or_default bytes ((get_or table (place / BLOCK) 0 - 1) * BLOCK + place % BLOCK + j) 0
      BLANK (omega (arith, ends, below))
      ∙ ap (λ (x : ℕ). get_or bytes x BLANK) (omega (arith, inside, below, same))
      ∙ sym (item_kept BLANK bytes (get_or table ((place + j) / BLOCK) 0) ((place + j) % BLOCK)
      (omega (arith, same, some))))

pub seen_long : (size : ℕ) (table : List ℕ) (kept : RegionValue)
    → length (seen_through size table kept).bytes ≡ size
seen_long size table kept = through_long BLANK size table kept.bytes

pub IsRegion-seen : (size : ℕ) (table : List ℕ) (kept : RegionValue)
    → IsRegion (seen_through size table kept)
IsRegion-seen size table kept = record {
  synced = through_long BLANK size table kept.synced
      ∙ sym (through_long BLANK size table kept.bytes);
  marks = through_long false size table kept.marks ∙ sym (through_long BLANK size table kept.bytes);
}

-- a write goes on by `n` bytes behind those that are done
pub write_more : (size at done n m : ℕ) (table : List ℕ) (kept : RegionValue) (bytes : List ℕ)
    → m ≡ n → done + n ≤ length bytes → at + length bytes ≤ size
    → written (at + done) (take m (drop done bytes))
    (written at (take done bytes) (seen_through size table kept))
    ≡ written at (take (done + n) bytes) (seen_through size table kept)
write_more size at done n m table kept bytes is within fits =
    let old : RegionValue = seen_through size table kept in
    let front : length (take done bytes) ≡ done = length-take-le done bytes (omega arith) in
    let piece : length (take m (drop done bytes)) ≡ n =
    length-take-le m (drop done bytes) (omega (arith, length-drop done bytes)) ∙ is in
    let long : length (through BLANK size table kept.bytes) ≡ size =
    through_long BLANK size table kept.bytes in
    ap (λ (d : ℕ). written (at + d) (take m (drop done bytes))
    (written at (take done bytes) (seen_through size table kept))) (sym front)
    ∙ written_more (seen_through size table kept) at (take done bytes) (take m (drop done bytes))
    (IsRegion-seen size table kept) (omega (arith, front, piece, long))
    ∙ ap (λ (xs : List ℕ). written at xs (seen_through size table kept))
    (ap (λ (j : ℕ). take done bytes ++ take j (drop done bytes)) is
    ∙ sym (take-add done n bytes))

pub mid_long : (a k : ℕ) (xs ys : List ℕ) → a + k ≤ length xs → length ys ≡ k
    → length (put_mid a k xs ys) ≡ length xs
mid_long a k xs ys fits is = search (rules, places)

-- a read goes on by the bytes `piece` behind those that are done
pub read_more : (all out piece : List ℕ) (at done n k : ℕ) → k ≡ n → length piece ≡ n
    → done + n ≤ length out → take done out ≡ field all at done → piece ≡ field all (at + done) n
    → take (done + n) (put_mid done k out piece) ≡ field all at (done + n)
read_more all out piece at done n k k_is long fits front is =
    take-put_mid done k out piece (done + n) (omega arith) (omega arith)
    ∙ ap (λ (xs : List ℕ). xs ++ piece) front
    ∙ ap (λ (xs : List ℕ). take done (drop at all) ++ xs) is
    ∙ ap (λ (xs : List ℕ). take done (drop at all) ++ take n xs) (sym (drop-drop done at all))
    ∙ sym (take-add done n (drop at all))
