-- Progress: what is written is read again, and nothing else is read.
use Rattle.std.proofs.Common.{◌≡◌, ℕ, zero, suc, ◌+◌, ◌*◌, ◌/◌, ◌%◌, ◌≤◌, ◌==◌, Bool, true}
use Rattle.std.proofs.Common.{false, ◌&&◌, cond, List, [], ◌∷◌, ◌++◌, length, take, drop, map, flat_map}
use Rattle.std.proofs.Common.{Some, None, refl, sym, ap, ◌∙◌, arith, length-append, length-drop}
use Rattle.std.specs.List.{AllByRecursion, range_with_len}
use Rattle.std.proofs.lemmas.Bool.{eqb-true, eq-eqb}
use Rattle.std.proofs.lemmas.List.{drop-drop, drop_at, take_all}
use Rattle.cu_base.specs.Bytes.{IsBytes}
use Rattle.cu_base.specs.Fields.{number, number_at}
use Rattle.cu_base.proofs.Fields.{IsBytes-drop, number-bytes_of, bytes_of-number_at, next_number}
use Rattle.cu_base.proofs.Fields.{take_field}
use Rattle.stored_vars.specs.Progress.{are_rising, entries_at, entry_at, entry_bytes, is_progress}
use Rattle.stored_vars.specs.Progress.{progress_bytes, progress_in, IsEntry, IsProgress}
use Rattle.stored_vars.specs.declared.progress.ProgressEntry.{ProgressEntry}
use Rattle.stored_vars.proofs.LastLemmas.{and_first}

-- ---- one entry

same_entry : (a a' b b' : ℕ) → a ≡ a' → b ≡ b'
    → ◌≡◌ {A = ProgressEntry} (record { serial = a; units = b }) (record { serial = a'; units = b' })
same_entry a a' b b' ea eb = rw (ea, eb) refl

number_moved : (bytes : List ℕ) (at k size : ℕ)
    → number_at bytes (at + k) size ≡ number_at (drop at bytes) k size
number_moved bytes at k size = ap (λ l. number (take size l)) (sym (drop-drop k at bytes))

-- an entry at a place is the one at the front of what stands from there on
entry_moved : (bytes : List ℕ) (k : ℕ) → entry_at bytes k ≡ entry_at (drop (12 * k) bytes) 0
entry_moved bytes k =
    same_entry _ _ _ _ refl (number_moved bytes (12 * k) 8 4)

entry_again : (e : ProgressEntry) (rest : List ℕ) → IsEntry e
    → entry_at (entry_bytes e ++ rest) 0 ≡ e
entry_again e rest is =
    same_entry _ e.serial _ e.units (number-bytes_of 8 e.serial is.serial)
    (number-bytes_of 4 e.units is.units)

entry_back : (b : List ℕ) → IsBytes b → 12 ≤ length b → entry_bytes (entry_at b 0) ≡ take 12 b
entry_back b is long =
    next_number b _ 8 4 is long (bytes_of-number_at b 0 8 is (omega arith))

-- ---- several entries

entries_size : (es : List ProgressEntry) → length (flat_map entry_bytes es) ≡ 12 * length es
entries_size [] = refl
entries_size (e ∷ es) =
    let rest : length (flat_map entry_bytes es) ≡ 12 * length es = entries_size es in
    length-append (entry_bytes e) (flat_map entry_bytes es) ∙ omega (arith, rest)

entries_from : (whole : List ℕ) (es : List ProgressEntry) (k : ℕ)
    → drop (12 * k) whole ≡ flat_map entry_bytes es → AllByRecursion IsEntry es
    → map (entry_at whole) (range_with_len k (length es)) ≡ es
entries_from whole [] k e all = refl
entries_from whole (x ∷ xs) k e all =
    let here : entry_at whole k ≡ x =
    entry_moved whole k ∙ ap (λ l. entry_at l 0) e
    ∙ entry_again x (flat_map entry_bytes xs) all.0 in
    let next : drop (12 * (k + 1)) whole ≡ flat_map entry_bytes xs =
    ap (λ n. drop n whole) (omega arith) ∙ sym (drop-drop 12 (12 * k) whole)
    ∙ ap (drop 12) e ∙ drop_at (entry_bytes x) (flat_map entry_bytes xs) 12 refl in
    ap (λ y. y ∷ map (entry_at whole) (range_with_len (k + 1) (length xs))) here
    ∙ ap (λ ys. x ∷ ys) (entries_from whole xs (k + 1) next all.1)

-- a part of twelve bytes and what follows it
two_parts : (b : List ℕ) (at n : ℕ)
    → take 12 (drop at b) ++ take n (drop (at + 12) b) ≡ take (12 + n) (drop at b)
two_parts b at n =
    ap (λ l. take 12 (drop at b) ++ take n l) (sym (drop-drop 12 at b))
    ∙ take_field (drop at b) 12 n

entries_back : (b : List ℕ) (k n : ℕ) → IsBytes b → 12 * (k + n) ≤ length b
    → flat_map entry_bytes (map (entry_at b) (range_with_len k n))
    ≡ take (12 * n) (drop (12 * k) b)
entries_back b k zero is long = refl
entries_back b k (suc n) is long =
    let at = 12 * k in
    let here : entry_bytes (entry_at b k) ≡ take 12 (drop at b) =
    ap entry_bytes (entry_moved b k)
    ∙ entry_back (drop at b) (IsBytes-drop at b is) (omega (arith, length-drop at b)) in
    let rest : flat_map entry_bytes (map (entry_at b) (range_with_len (k + 1) n))
    ≡ take (12 * n) (drop (at + 12) b) =
    entries_back b (k + 1) n is (omega arith)
    ∙ ap (λ m. take (12 * n) (drop m b)) (omega arith) in
    ap (λ l. l ++ flat_map entry_bytes (map (entry_at b) (range_with_len (k + 1) n))) here
    ∙ ap (λ l. take 12 (drop at b) ++ l) rest
    ∙ two_parts b at (12 * n)
    ∙ ap (λ m. take m (drop at b)) (omega arith)

-- ---- the whole

entries_again : (es : List ProgressEntry) → AllByRecursion IsEntry es
    → entries_at (progress_bytes es) ≡ es
entries_again es each =
    let count : length (progress_bytes es) / 12 ≡ length es =
    omega (arith, entries_size es) in
    ap (λ n. map (entry_at (progress_bytes es)) (range_with_len 0 n)) count
    ∙ entries_from (progress_bytes es) es 0 refl each

pub progress_again : (es : List ProgressEntry) → IsProgress es
    → progress_in (progress_bytes es) ≡ Some es
progress_again es is =
    let w = progress_bytes es in
    let whole : (length w % 12 == 0) ≡ true = eq-eqb _ _ (omega (arith, entries_size es)) in
    let test : is_progress w ≡ true =
    ap (λ z. z && are_rising (entries_at w)) whole ∙ ap are_rising (entries_again es is.each)
    ∙ is.rising in
    ap (λ z. cond z (Some (entries_at w)) None) test ∙ ap Some (entries_again es is.each)

pub progress_back : (b : List ℕ) (es : List ProgressEntry) → IsBytes b → progress_in b ≡ Some es
    → progress_bytes es ≡ b
progress_back b es is read = by_test (is_progress b) refl
  where
    by_test : (z : Bool) → is_progress b ≡ z → progress_bytes es ≡ b
    by_test false e =
        let none : progress_in b ≡ None = ap (λ z. cond z (Some (entries_at b)) None) e in
        absurd cc
    by_test true e =
        let some : progress_in b ≡ Some (entries_at b) =
        ap (λ z. cond z (Some (entries_at b)) None) e in
        let same : entries_at b ≡ es = cc in
        let even : length b % 12 ≡ 0 = eqb-true _ _ (and_first (length b % 12 == 0) _ e) in
        ap progress_bytes (sym same)
        ∙ entries_back b 0 (length b / 12) is (omega arith)
        ∙ take_all (12 * (length b / 12)) b (omega (arith, even))
