-- What is kept of the bytes behind the authentication data is their front, and grows with them.
use Rattle.std.proofs.Common.{◌≡◌, ℕ, ◌+◌, ◌-◌, ◌<◌, ◌≤◌, min, inl, inr, Bool, true, false}
use Rattle.std.proofs.Common.{cond, ◌&&◌, ◌||◌, ◌==◌, List, [], ◌∷◌, ◌++◌, length, take, drop, refl}
use Rattle.std.proofs.Common.{sym, ap, ◌∙◌, arith, nat_le}
use Rattle.std.specs.List.{list_any}
use Rattle.std.proofs.lemmas.List.{append-nil, drop-take, take-take, take-append-le, length-take}
use Rattle.std.proofs.lemmas.List.{length-drop, length-append, take_all, drop_all, take_min, drop_min}
use Rattle.std.proofs.lemmas.List.Folds.{list_any-append}
use Rattle.std.proofs.lemmas.Bool.{cases_lt, le-leb, lt-leb}
use Rattle.image_parts.specs.declared.payload_header.TheConstants.{FIELD_BYTES}
use Rattle.image_parts.specs.declared.window.TheConstants.{SECTION_REACH}
use Rattle.image_parts.specs.Scan.{is_marked, later_zero, window_of, window_size}
use Rattle.image_parts.proofs.Lists.{take_append, drop_append}

-- the zero byte, where one is due
abbrev pub mark : Bool → List ℕ
mark z = cond z (0 ∷ []) []

abbrev pub has_zero : List ℕ → Bool
has_zero bytes = list_any (λ b. b == 0) bytes

-- ---- fronts

later_none : (n : ℕ) (rest : List ℕ) → length rest ≤ n → later_zero (drop n rest) ≡ []
later_none n rest short = rw (drop_all n rest short) refl

marked_front : (m n : ℕ) (rest z : List ℕ) → n ≤ m → (length rest ≤ m → z ≡ [])
    → take n (take m rest ++ z) ≡ take n rest
marked_front m n rest z low none =
    elim (cases_lt m (length rest)) [
      | inl long ↦ take-append-le n (take m rest) z (omega (arith, length-take m rest))
          ∙ take-take n m rest low
      | inr short ↦ ap (λ (l : List ℕ). take n (take m rest ++ l)) (none short)
          ∙ ap (take n) (append-nil (take m rest)) ∙ take-take n m rest low
    ]

pub window_front : (due : Bool) (rest : List ℕ) (n : ℕ) → n ≤ window_size due
    → take n (window_of due rest) ≡ take n rest
window_front true rest n low =
    marked_front SECTION_REACH n rest (later_zero (drop SECTION_REACH rest)) low
    (later_none SECTION_REACH rest)
window_front false rest n low = take-take n FIELD_BYTES rest low

-- the bytes of a window behind a section
pub window_field : (due : Bool) (rest : List ℕ) (at : ℕ) → at + FIELD_BYTES ≤ window_size due
    → take FIELD_BYTES (drop at (window_of due rest)) ≡ take FIELD_BYTES (drop at rest)
window_field due rest at low =
    sym (drop-take at FIELD_BYTES (window_of due rest))
    ∙ ap (drop at) (window_front due rest (at + FIELD_BYTES) low) ∙ drop-take at FIELD_BYTES rest

-- ---- lengths

mark_length : (z : Bool) → length (mark z) ≤ 1
mark_length true = omega arith
mark_length false = omega arith

later_length : (bytes : List ℕ) → length (later_zero bytes) ≤ min 1 (length bytes)
later_length [] = omega arith
later_length (b ∷ bytes) = omega (arith, mark_length (has_zero (b ∷ bytes)))

-- how long a window is
pub record IsLong (due : Bool) (rest window : List ℕ) : Type 0 where
  pub low : min (window_size due) (length rest) ≤ length window
  pub high : length window ≤ length rest
  pub most : length window ≤ SECTION_REACH + 1

pub window_long : (due : Bool) (rest : List ℕ) → IsLong due rest (window_of due rest)
window_long true rest =
    let sum = length-append (take SECTION_REACH rest) (later_zero (drop SECTION_REACH rest)) in
    let front = length-take SECTION_REACH rest in
    let last = later_length (drop SECTION_REACH rest) in
    let behind = length-drop SECTION_REACH rest in
    record {
      low = omega (arith, sum, front);
      high = omega (arith, sum, front, last, behind);
      most = omega (arith, sum, front, last);
    }
window_long false rest =
    let front = length-take FIELD_BYTES rest in
    record { low = omega (arith, front); high = omega (arith, front); most = omega (arith, front) }

-- ---- further bytes

-- what a window becomes by further bytes
abbrev pub grown : Bool → List ℕ → List ℕ → List ℕ
grown due window more =
    let added = min (window_size due - length window) (length more) in
    window ++ take added more ++ mark (is_marked due (length window) (drop added more))

-- the same by the room
abbrev grown_by : Bool → List ℕ → List ℕ → ℕ → List ℕ
grown_by due window more room =
    window ++ take room more ++ mark (is_marked due (length window) (drop room more))

by_room : (due : Bool) (window more : List ℕ) → grown due window more ≡ grown_by due window more
    (window_size due - length window)
by_room due window more =
    let room = window_size due - length window in
    rw (take_min room more, drop_min room more) refl

marked_once : (m : ℕ) (a z : Bool) (t : List ℕ) → length t ≡ m
    → (t ++ mark a) ++ [] ++ mark (true && (nat_le (length (t ++ mark a)) m && z)) ≡ t
    ++ mark (a || z)
marked_once m true z t e =
    let more : nat_le (length (t ++ 0 ∷ [])) m ≡ false =
    lt-leb _ _ (omega (arith, length-append t (0 ∷ []))) in
    rw more (append-nil ((t ++ 0 ∷ []) ++ []) ∙ append-nil (t ++ 0 ∷ []))
marked_once m false z t e =
    let same : nat_le (length (t ++ [])) m ≡ true =
    le-leb _ _ (omega (arith, length-append t [])) in
    rw same (ap (λ (l : List ℕ). l ++ mark z) (append-nil (t ++ []) ∙ append-nil t))

-- a window of fewer bytes than it may have
open_more : (m : ℕ) (rest more : List ℕ) → length rest ≤ m
    → rest ++ take (m - length rest) more
    ++ mark (true && (nat_le (length rest) m && has_zero (drop (m - length rest) more)))
    ≡ take m (rest ++ more) ++ later_zero (drop m (rest ++ more))
open_more m rest more short =
    let low : nat_le (length rest) m ≡ true = le-leb _ _ short in
    rw (
      low,
      take_append m rest more,
      drop_append m rest more,
      take_all m rest short,
      drop_all m rest short,
    ) refl

-- a window that has all the bytes that it may have
full_more : (m : ℕ) (rest more : List ℕ) → m < length rest
    → (take m rest ++ later_zero (drop m rest)) ++ take 0 more
    ++ mark (true && (nat_le (length (take m rest ++ later_zero (drop m rest))) m
    && has_zero (drop 0 more)))
    ≡ take m (rest ++ more) ++ later_zero (drop m (rest ++ more))
full_more m rest more long =
    let none : m - length rest ≡ 0 = omega arith in
    let t = take m rest in
    let d = drop m rest in
    let size : length t ≡ m = omega (arith, length-take m rest) in
    marked_once m (has_zero d) (has_zero more) t size
    ∙ rw (take-append-le m rest more (omega arith), drop_append m rest more, none)
    (ap (λ (z : Bool). t ++ mark z) (sym (list_any-append (λ b. b == 0) d more)))

due_more : (m : ℕ) (rest more window : List ℕ)
    → window ≡ take m rest ++ later_zero (drop m rest)
    → window ++ take (m - length window) more
    ++ mark (true && (nat_le (length window) m && has_zero (drop (m - length window) more)))
    ≡ take m (rest ++ more) ++ later_zero (drop m (rest ++ more))
due_more m rest more window is =
    elim (cases_lt m (length rest)) [
      | inl long ↦
          let size : m - length window ≡ 0 = omega (
            arith,
            ap length is,
            length-append (take m rest) (later_zero (drop m rest)),
            length-take m rest,
          ) in
          rw (size, is) (full_more m rest more long)
      | inr short ↦
          let all : window ≡ rest = is ∙ rw (take_all m rest short, later_none m rest short)
          (append-nil rest) in
          rw all (open_more m rest more short)
    ]

pub window_more : (due : Bool) (rest more window : List ℕ) → window ≡ window_of due rest
    → grown due window more ≡ window_of due (rest ++ more)
window_more true rest more window is =
    by_room true window more ∙ due_more SECTION_REACH rest more window is
window_more false rest more window is =
    let size : FIELD_BYTES - length window ≡ FIELD_BYTES - length rest =
    omega (arith, ap length is, length-take FIELD_BYTES rest) in
    by_room false window more
    ∙ rw (size, is) (append-nil (take FIELD_BYTES rest ++ take (FIELD_BYTES - length rest) more))
    ∙ sym (take_append FIELD_BYTES rest more)

pub window_pushed : (due marks : Bool) (rest more window now : List ℕ) (added : ℕ)
    → window ≡ window_of due rest → added ≡ min (window_size due - length window) (length more)
    → marks ≡ is_marked due (length window) (drop added more)
    → now ≡ window ++ take added more ++ mark marks → now ≡ window_of due (rest ++ more)
window_pushed due marks rest more window now added is ea em en =
    en ∙ ap (λ (z : Bool). window ++ take added more ++ mark z) em
    ∙ ap (λ (n : ℕ). window ++ take n more ++ mark (is_marked due (length window) (drop n more))) ea
    ∙ window_more due rest more window is
