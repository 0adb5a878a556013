-- The table of ESRT entries: what is written is read again, and what is read is written back.
use Rattle.std.proofs.Common.{◌≡◌, ℕ, zero, suc, ◌+◌, ◌*◌, ◌-◌, ◌^◌, ◌<◌, ◌≤◌, List, [], ◌∷◌, ◌++◌}
use Rattle.std.proofs.Common.{length, take, drop, map, flat_map, None, refl, sym, ap, subst, ◌∙◌, arith}
use Rattle.std.proofs.Common.{append_assoc, length-append, length-drop}
use Rattle.std.specs.List.{AllByRecursion, range_with_len}
use Rattle.std.proofs.lemmas.Bool.{le-ltb, ltb-false, eq-eqb, eqb-true, not_from_true, not-false}
use Rattle.std.proofs.lemmas.List.{drop-drop, drop_at, take_all, take-append-drop}
use Rattle.std.proofs.lemmas.List.FromFn.{length-map-range_with_len}
use Rattle.cu_base.specs.Bytes.{IsBytes}
use Rattle.cu_base.specs.Fields.{number, field, number_at, bytes_of}
use Rattle.cu_base.specs.Refusals.{first_refusal}
use Rattle.cu_base.proofs.Fields.{IsBytes-drop, length-bytes_of, field_in, number_at_in}
use Rattle.cu_base.proofs.Fields.{bytes_of-number_at, next_number, take_field}
use Rattle.cu_base.proofs.Rows.{passed, none_refused}
use Rattle.report_tables.specs.Esrt.{entry_bytes, esrt_bytes, esrt_rows, entry_at, entries_in}
use Rattle.report_tables.specs.Esrt.{entry_count, IsEntry, AreEntries}
use Rattle.report_tables.specs.declared.esrt.EsrtEntry.{EsrtEntry}

-- ---- one entry

abbrev made : List ℕ → ℕ → ℕ → ℕ → ℕ → ℕ → ℕ → EsrtEntry
made class fw_type version lowest flags last_version last_status = record {
  class = record { bytes = class };
  fw_type = fw_type;
  version = version;
  lowest = lowest;
  flags = flags;
  last_version = last_version;
  last_status = last_status;
}

same_made : (g g' : List ℕ) (a a' b b' c c' d d' f f' h h' : ℕ) → g ≡ g' → a ≡ a' → b ≡ b'
    → c ≡ c' → d ≡ d' → f ≡ f' → h ≡ h' → made g a b c d f h ≡ made g' a' b' c' d' f' h'
same_made g g' a a' b b' c c' d d' f f' h h' eg ea eb ec ed ef eh =
    rw (eg, ea, eb, ec, ed, ef, eh) refl

pub number_moved : (bytes : List ℕ) (at k size : ℕ)
    → number_at bytes (at + k) size ≡ number_at (drop at bytes) k size
number_moved bytes at k size = ap (λ l. number (take size l)) (sym (drop-drop k at bytes))

-- an entry at a place is the one at the front of what stands from there on
entry_moved : (bytes : List ℕ) (at : ℕ) → entry_at bytes at ≡ entry_at (drop at bytes) 0
entry_moved bytes at =
    same_made (field bytes at 16) (field (drop at bytes) 0 16) _ _ _ _ _ _ _ _ _ _ _ _ refl
    (number_moved bytes at 16 4) (number_moved bytes at 20 4) (number_moved bytes at 24 4)
    (number_moved bytes at 28 4) (number_moved bytes at 32 4) (number_moved bytes at 36 4)

entry_parts : (w g a b c d f h rest : List ℕ) (e : EsrtEntry) → IsEntry e
    → w ≡ (g ++ a ++ b ++ c ++ d ++ f ++ h) ++ rest → g ≡ e.class.bytes
    → a ≡ bytes_of 4 e.fw_type → b ≡ bytes_of 4 e.version → c ≡ bytes_of 4 e.lowest
    → d ≡ bytes_of 4 e.flags → f ≡ bytes_of 4 e.last_version → h ≡ bytes_of 4 e.last_status
    → entry_at w 0 ≡ e
entry_parts w g a b c d f h rest e is whole eg ea eb ec ed ef eh =
    let lg : length g ≡ 16 = ap length eg ∙ is.class in
    let la : length a ≡ 4 = ap length ea ∙ length-bytes_of 4 e.fw_type in
    let lb : length b ≡ 4 = ap length eb ∙ length-bytes_of 4 e.version in
    let lc : length c ≡ 4 = ap length ec ∙ length-bytes_of 4 e.lowest in
    let ld : length d ≡ 4 = ap length ed ∙ length-bytes_of 4 e.flags in
    let lf : length f ≡ 4 = ap length ef ∙ length-bytes_of 4 e.last_version in
    same_made (field w 0 16) e.class.bytes _ _ _ _ _ _ _ _ _ _ _ _
    (field_in w [] g (a ++ (b ++ (c ++ (d ++ (f ++ (h ++ rest)))))) 0 16
    (whole ∙ simp append_assoc) refl lg ∙ eg)
    (number_at_in w g a e.fw_type (b ++ (c ++ (d ++ (f ++ (h ++ rest))))) 16 4
    (whole ∙ simp append_assoc) ea lg is.fw_type)
    (number_at_in w (g ++ a) b e.version (c ++ (d ++ (f ++ (h ++ rest)))) 20 4
    (whole ∙ simp append_assoc) eb (simp length-append (omega arith)) is.version)
    (number_at_in w (g ++ a ++ b) c e.lowest (d ++ (f ++ (h ++ rest))) 24 4
    (whole ∙ simp append_assoc) ec (simp length-append (omega arith)) is.lowest)
    (number_at_in w (g ++ a ++ b ++ c) d e.flags (f ++ (h ++ rest)) 28 4
    (whole ∙ simp append_assoc) ed (simp length-append (omega arith)) is.flags)
    (number_at_in w (g ++ a ++ b ++ c ++ d) f e.last_version (h ++ rest) 32 4
    (whole ∙ simp append_assoc) ef (simp length-append (omega arith)) is.last_version)
    (number_at_in w (g ++ a ++ b ++ c ++ d ++ f) h e.last_status rest 36 4
    (whole ∙ simp append_assoc) eh (simp length-append (omega arith)) is.last_status)

entry_again : (e : EsrtEntry) (rest : List ℕ) → IsEntry e
    → entry_at (entry_bytes e ++ rest) 0 ≡ e
entry_again e rest is =
    entry_parts (entry_bytes e ++ rest) e.class.bytes (bytes_of 4 e.fw_type)
    (bytes_of 4 e.version) (bytes_of 4 e.lowest) (bytes_of 4 e.flags)
    (bytes_of 4 e.last_version) (bytes_of 4 e.last_status) rest e is
    refl refl refl refl refl refl refl refl

seven_size : (g a b c d f h : List ℕ)
    → length (g ++ a ++ b ++ c ++ d ++ f ++ h)
    ≡ length g + length a + length b + length c + length d + length f + length h
seven_size g a b c d f h = simp length-append (omega arith)

entry_size : (e : EsrtEntry) → IsEntry e → length (entry_bytes e) ≡ 40
entry_size e is =
    seven_size e.class.bytes (bytes_of 4 e.fw_type) (bytes_of 4 e.version)
    (bytes_of 4 e.lowest) (bytes_of 4 e.flags) (bytes_of 4 e.last_version)
    (bytes_of 4 e.last_status)
    ∙ ap (λ n. n + 4 + 4 + 4 + 4 + 4 + 4) is.class

entry_back : (b : List ℕ) → IsBytes b → 40 ≤ length b → entry_bytes (entry_at b 0) ≡ take 40 b
entry_back b is long =
    next_number b _ 36 4 is long
    (next_number b _ 32 4 is (omega arith)
    (next_number b _ 28 4 is (omega arith)
    (next_number b _ 24 4 is (omega arith)
    (next_number b _ 20 4 is (omega arith)
    (next_number b _ 16 4 is (omega arith) refl)))))

-- ---- several entries

entries_size : (es : List EsrtEntry) → AllByRecursion IsEntry es
    → length (flat_map entry_bytes es) ≡ 40 * length es
entries_size [] all = refl
entries_size (e ∷ es) all =
    let rest : length (flat_map entry_bytes es) ≡ 40 * length es = entries_size es all.1 in
    let here : length (entry_bytes e) ≡ 40 = entry_size e all.0 in
    length-append (entry_bytes e) (flat_map entry_bytes es) ∙ omega (arith, rest, here)

entries_from : (whole : List ℕ) (es : List EsrtEntry) (k : ℕ)
    → drop (16 + 40 * k) whole ≡ flat_map entry_bytes es → AllByRecursion IsEntry es
    → map (λ j. entry_at whole (16 + 40 * j)) (range_with_len k (length es)) ≡ es
entries_from whole [] k e all = refl
entries_from whole (x ∷ xs) k e all =
    let here : entry_at whole (16 + 40 * k) ≡ x =
    entry_moved whole (16 + 40 * k) ∙ ap (λ l. entry_at l 0) e
    ∙ entry_again x (flat_map entry_bytes xs) all.0 in
    let next : drop (16 + 40 * (k + 1)) whole ≡ flat_map entry_bytes xs =
    ap (λ n. drop n whole) (omega arith) ∙ sym (drop-drop 40 (16 + 40 * k) whole)
    ∙ ap (drop 40) e
    ∙ drop_at (entry_bytes x) (flat_map entry_bytes xs) 40 (entry_size x all.0) in
    ap (λ y. y ∷ map (λ j. entry_at whole (16 + 40 * j)) (range_with_len (k + 1) (length xs))) here
    ∙ ap (λ ys. x ∷ ys) (entries_from whole xs (k + 1) next all.1)

-- a part of forty bytes and what follows it
two_parts : (b : List ℕ) (at n : ℕ)
    → take 40 (drop at b) ++ take n (drop (at + 40) b) ≡ take (40 + n) (drop at b)
two_parts b at n =
    ap (λ l. take 40 (drop at b) ++ take n l) (sym (drop-drop 40 at b))
    ∙ take_field (drop at b) 40 n

entries_back : (b : List ℕ) (k n : ℕ) → IsBytes b → 16 + 40 * (k + n) ≤ length b
    → flat_map entry_bytes (map (λ j. entry_at b (16 + 40 * j)) (range_with_len k n))
    ≡ take (40 * n) (drop (16 + 40 * k) b)
entries_back b k zero is long = refl
entries_back b k (suc n) is long =
    let at = 16 + 40 * k in
    let here : entry_bytes (entry_at b at) ≡ take 40 (drop at b) =
    ap entry_bytes (entry_moved b at)
    ∙ entry_back (drop at b) (IsBytes-drop at b is) (omega (arith, length-drop at b)) in
    let rest : flat_map entry_bytes (map (λ j. entry_at b (16 + 40 * j)) (range_with_len (k + 1) n))
    ≡ take (40 * n) (drop (at + 40) b) =
    entries_back b (k + 1) n is (omega arith)
    ∙ ap (λ m. take (40 * n) (drop m b)) (omega arith) in
    ap (λ l. l ++ flat_map entry_bytes
    (map (λ j. entry_at b (16 + 40 * j)) (range_with_len (k + 1) n))) here
    ∙ ap (λ l. take 40 (drop at b) ++ l) rest
    ∙ two_parts b at (40 * n)
    ∙ ap (λ m. take m (drop at b)) (omega arith)

-- ---- the table

-- the header of a table by its fields, and what its rows make of it
table_parts : (w c m v e : List ℕ) (n : ℕ) → w ≡ c ++ m ++ v ++ e → c ≡ bytes_of 4 n
    → m ≡ bytes_of 4 n → v ≡ bytes_of 8 1 → n < 2 ^ 32 → length e ≡ 40 * n
    → (first_refusal (esrt_rows w) ≡ None) × (entry_count w ≡ n)
table_parts w c m v e n whole ec em ev fits size =
    let lc : length c ≡ 4 = ap length ec ∙ length-bytes_of 4 n in
    let lm : length m ≡ 4 = ap length em ∙ length-bytes_of 4 n in
    let lv : length v ≡ 8 = ap length ev ∙ length-bytes_of 8 1 in
    let long : length w ≡ 16 + 40 * n =
    ap length whole ∙ simp length-append (omega arith) in
    let count : number_at w 0 4 ≡ n =
    number_at_in w [] c n (m ++ (v ++ e)) 0 4 (whole ∙ simp append_assoc) ec refl fits in
    let most : number_at w 4 4 ≡ n =
    number_at_in w c m n (v ++ e) 4 4 (whole ∙ simp append_assoc) em lc fits in
    let version : number_at w 8 8 ≡ 1 =
    number_at_in w (c ++ m) v 1 e 8 8 (whole ∙ simp append_assoc) ev
    (simp length-append (omega arith)) (omega arith) in (
      none_refused (esrt_rows w) (
        le-ltb _ _ (omega (arith, long)),
        (
          not_from_true _ (eq-eqb _ _ (count ∙ sym most)),
          (
            not_from_true _ (eq-eqb _ _ version),
            (not_from_true _ (eq-eqb _ _ (omega (arith, long, count))), tt),
          ),
        ),
      ),
      count,
    )

pub table_accepted : (es : List EsrtEntry) → AreEntries es
    → (first_refusal (esrt_rows (esrt_bytes es)) ≡ None) × (entry_count (esrt_bytes es) ≡ length es)
table_accepted es is =
    table_parts (esrt_bytes es) (bytes_of 4 (length es)) (bytes_of 4 (length es)) (bytes_of 8 1)
    (flat_map entry_bytes es) (length es) refl refl refl refl is.count (entries_size es is.each)

table_front : (c m v e : List ℕ) → length c ≡ 4 → length m ≡ 4 → length v ≡ 8
    → drop 16 (c ++ m ++ v ++ e) ≡ e
table_front c m v e lc lm lv = drop_at (c ++ m ++ v) e 16 (simp length-append (omega arith))

pub table_again : (es : List EsrtEntry) → AreEntries es → entries_in (esrt_bytes es) ≡ es
table_again es is =
    let whole = esrt_bytes es in
    ap (λ n. map (λ j. entry_at whole (16 + 40 * j)) (range_with_len 0 n)) (table_accepted es is).1
    ∙ entries_from whole es 0
    (table_front (bytes_of 4 (length es)) (bytes_of 4 (length es)) (bytes_of 8 1)
    (flat_map entry_bytes es) (length-bytes_of 4 (length es)) (length-bytes_of 4 (length es))
    (length-bytes_of 8 1))
    is.each

-- the bytes of a table by its fields
header_back : (b : List ℕ) (n : ℕ) → IsBytes b → 16 ≤ length b → number_at b 0 4 ≡ n
    → number_at b 4 4 ≡ n → number_at b 8 8 ≡ 1
    → bytes_of 4 n ++ bytes_of 4 n ++ bytes_of 8 1 ≡ take 16 b
header_back b n is long count most version =
    ap (λ x. bytes_of 4 x ++ bytes_of 4 n ++ bytes_of 8 1) (sym count)
    ∙ ap (λ x. bytes_of 4 (number_at b 0 4) ++ bytes_of 4 x ++ bytes_of 8 1) (sym most)
    ∙ ap (λ x. bytes_of 4 (number_at b 0 4) ++ bytes_of 4 (number_at b 4 4) ++ bytes_of 8 x)
    (sym version)
    ∙ next_number b _ 8 8 is long
    (next_number b _ 4 4 is (omega arith) (bytes_of-number_at b 0 4 is (omega arith)))

pub table_back : (b : List ℕ) → IsBytes b → first_refusal (esrt_rows b) ≡ None
    → esrt_bytes (entries_in b) ≡ b
table_back b is none =
    let rows = passed (esrt_rows b) none in
    let n = entry_count b in
    let long : 16 ≤ length b = ltb-false _ _ rows.0 in
    let most : number_at b 0 4 ≡ number_at b 4 4 = eqb-true _ _ (not-false _ rows.1.0) in
    let version : number_at b 8 8 ≡ 1 = eqb-true _ _ (not-false _ rows.1.1.0) in
    let size : length b ≡ 16 + 40 * n = eqb-true _ _ (not-false _ rows.1.1.1.0) in
    let count : length (entries_in b) ≡ n =
    length-map-range_with_len (λ k. entry_at b (16 + 40 * k)) 0 n in
    ap (λ m. bytes_of 4 m ++ bytes_of 4 m ++ bytes_of 8 1 ++ flat_map entry_bytes (entries_in b))
    count
    ∙ ap (λ l. l ++ flat_map entry_bytes (entries_in b))
    (header_back b n is long refl (sym most) version)
    ∙ ap (λ l. take 16 b ++ l)
    (entries_back b 0 n is (omega (arith, size))
    ∙ take_all (40 * n) (drop 16 b) (omega (arith, size, length-drop 16 b)))
    ∙ take-append-drop 16 b
