-- Texts of CHAR16: what their units are, and how many bytes they take.
use Rattle.std.proofs.Common.{◌≡◌, ℕ, zero, suc, ◌+◌, ◌*◌, ◌<◌, ◌≤◌, ◌==◌, nat_le, Bool, true, false}
use Rattle.std.proofs.Common.{cond, List, [], ◌∷◌, ◌++◌, length, get_or, take, drop, flat_map, Option}
use Rattle.std.proofs.Common.{Some, None, option_map, unwrap_or, refl, sym, ap, ◌∙◌, arith}
use Rattle.std.proofs.Common.{length-append, length-drop, ◌&&◌, ◌≢◌, drop-cons, add-one, inl, inr}
use Rattle.std.proofs.Math.Dec.{eqb-suc-zero}
use Rattle.std.proofs.lemmas.Bool.{eq-eqb, le-leb, lt-leb, leb-true}
use Rattle.std.proofs.lemmas.List.Folds.{list_all_at}
use Rattle.std.proofs.lemmas.List.{drop-drop, drop_all, get_or-drop, get_or_past}
use Rattle.std.proofs.lemmas.Bool.{cases_lt}
use Rattle.std.specs.Str.{IsAscii}
use Rattle.std.specs.List.{list_all}
use Rattle.cu_base.specs.Fields.{number, number_at}
use Rattle.report_tables.specs.Units.{units_at_front, text_at_front, unit_bytes}

-- a unit, and the units behind it unless it is zero
abbrev pub unit_then : ℕ → Option (List ℕ) → Option (List ℕ)
unit_then n more = cond (n == 0) (Some []) (option_map (λ us. n ∷ us) more)

pub front_step : (bytes : List ℕ) → 2 ≤ length bytes
    → units_at_front bytes ≡ unit_then (number_at bytes 0 2) (units_at_front (drop 2 bytes))
front_step [] h = absurd (omega arith)
front_step (a ∷ []) h = absurd (omega arith)
front_step (a ∷ b ∷ rest) h = refl

pub front_short : (bytes : List ℕ) → length bytes < 2 → units_at_front bytes ≡ None
front_short [] h = refl
front_short (a ∷ []) h = refl
front_short (a ∷ b ∷ rest) h = absurd (omega arith)

-- the same at a place
front_at : (bytes : List ℕ) (k : ℕ) → 2 * k + 2 ≤ length bytes
    → units_at_front (drop (2 * k) bytes)
    ≡ unit_then (number_at bytes (2 * k) 2) (units_at_front (drop (2 * (k + 1)) bytes))
front_at bytes k h =
    let next : 2 * k + 2 ≡ 2 * (k + 1) = omega arith in
    front_step (drop (2 * k) bytes) (omega (arith, length-drop (2 * k) bytes))
    ∙ ap (λ rest. unit_then (number_at bytes (2 * k) 2) (units_at_front rest))
    (drop-drop 2 (2 * k) bytes ∙ ap (λ n. drop n bytes) next)

-- ---- counting the units before a zero

-- how many units stand before the first zero, where so many were passed
abbrev pub count_from : ℕ → Option (List ℕ) → Option ℕ
count_from k units = option_map (λ n. k + n) (option_map length units)

pub count_none : (units : Option (List ℕ)) → option_map length units ≡ count_from 0 units
count_none None = refl
count_none (Some us) = ap Some (omega arith)

count_shift : (n k : ℕ) (b : Bool) (more : Option (List ℕ)) → b ≡ false
    → count_from k (cond b (Some []) (option_map (λ us. n ∷ us) more)) ≡ count_from (k + 1) more
count_shift n k true more e = absurd cc
count_shift n k false None e = refl
count_shift n k false (Some us) e = ap Some (omega arith)

count_stop : (n k : ℕ) (b : Bool) (more : Option (List ℕ)) → b ≡ true
    → count_from k (cond b (Some []) (option_map (λ us. n ∷ us) more)) ≡ Some k
count_stop n k true more e = ap Some (omega arith)
count_stop n k false more e = absurd cc

pub not_zero : (n : ℕ) → n ≢ 0 → (n == 0) ≡ false
not_zero zero h = absurd (h refl)
not_zero (suc n) h = eqb-suc-zero n

pub count_step : (bytes : List ℕ) (k : ℕ) → 2 * k + 2 ≤ length bytes
    → number_at bytes (2 * k) 2 ≢ 0
    → count_from k (units_at_front (drop (2 * k) bytes))
    ≡ count_from (k + 1) (units_at_front (drop (2 * (k + 1)) bytes))
count_step bytes k h e =
    ap (count_from k) (front_at bytes k h)
    ∙ count_shift (number_at bytes (2 * k) 2) k _ (units_at_front (drop (2 * (k + 1)) bytes))
    (not_zero _ e)

pub count_here : (bytes : List ℕ) (k : ℕ) → 2 * k + 2 ≤ length bytes
    → number_at bytes (2 * k) 2 ≡ 0
    → count_from k (units_at_front (drop (2 * k) bytes)) ≡ Some k
count_here bytes k h e =
    ap (count_from k) (front_at bytes k h)
    ∙ count_stop (number_at bytes (2 * k) 2) k _ (units_at_front (drop (2 * (k + 1)) bytes))
    (eq-eqb _ _ e)

pub count_gone : (bytes : List ℕ) (k : ℕ) → length bytes < 2 * k + 2
    → count_from k (units_at_front (drop (2 * k) bytes)) ≡ None
count_gone bytes k h =
    ap (count_from k)
    (front_short (drop (2 * k) bytes) (omega (arith, length-drop (2 * k) bytes)))

-- ---- the units of a text that is ended

-- what holds of a text that has a zero behind so many units
pub record IsEnded (bytes : List ℕ) (n : ℕ) : Type 0 where
  pub count : length (text_at_front bytes) ≡ n
  pub room : 2 * n + 2 ≤ length bytes
  pub unit : (k : ℕ) → k < n → get_or (text_at_front bytes) k 0 ≡ number_at bytes (2 * k) 2

behind_unit : (a b : ℕ) (rest : List ℕ) (k : ℕ)
    → number_at (a ∷ b ∷ rest) (2 * suc k) 2 ≡ number_at rest (2 * k) 2
behind_unit a b rest k =
    let e : 2 * suc k ≡ suc (suc (2 * k)) = omega arith in
    ap (λ n. number (take 2 (drop n (a ∷ b ∷ rest)))) e

unit_in : (a b : ℕ) (rest us : List ℕ)
    → ((k : ℕ) → k < length us → get_or us k 0 ≡ number_at rest (2 * k) 2) → (k : ℕ)
    → k < suc (length us)
    → get_or (number (a ∷ b ∷ []) ∷ us) k 0 ≡ number_at (a ∷ b ∷ rest) (2 * k) 2
unit_in a b rest us behind zero h = refl
unit_in a b rest us behind (suc k) h =
    behind k (omega arith) ∙ sym (behind_unit a b rest k)

made : (bytes us : List ℕ) (n : ℕ) → units_at_front bytes ≡ Some us → length us ≡ n
    → 2 * n + 2 ≤ length bytes → ((k : ℕ) → k < n → get_or us k 0 ≡ number_at bytes (2 * k) 2)
    → IsEnded bytes n
made bytes us n e count room unit =
    let same : text_at_front bytes ≡ us = ap (λ o. unwrap_or o []) e in
    record {
      count = ap length same ∙ count;
      room = room;
      unit = λ k h. ap (λ (t : List ℕ). get_or t k 0) same ∙ unit k h;
    }

pub ended : (bytes : List ℕ) (n : ℕ) → option_map length (units_at_front bytes) ≡ Some n
    → IsEnded bytes n
ended [] n e = absurd cc
ended (a ∷ []) n e = absurd cc
ended (a ∷ b ∷ rest) n e =
    by_unit (number (a ∷ b ∷ []) == 0) refl (units_at_front rest) refl e (λ m. ended rest m)
  where
    first : ℕ
    first = number (a ∷ b ∷ [])

    by_unit : (z : Bool) → (first == 0) ≡ z → (more : Option (List ℕ))
        → units_at_front rest ≡ more
        → option_map length (cond z (Some []) (option_map (λ us. first ∷ us) more)) ≡ Some n
        → ((m : ℕ) → option_map length (units_at_front rest) ≡ Some m → IsEnded rest m)
        → IsEnded (a ∷ b ∷ rest) n
    by_unit true is more same e later =
        let none : 0 ≡ n = cc in
        made (a ∷ b ∷ rest) [] n
        (ap (λ z. cond z (Some []) (option_map (λ us. first ∷ us) (units_at_front rest))) is)
        none (omega arith) (λ k h. absurd (omega arith))
    by_unit false is None same e later = absurd cc
    by_unit false is (Some us) same e later =
        let count : suc (length us) ≡ n = cc in
        let behind : IsEnded rest (length us) =
        later (length us) (ap (option_map length) same) in
        let text : text_at_front rest ≡ us = ap (λ o. unwrap_or o []) same in
        made (a ∷ b ∷ rest) (first ∷ us) n
        (ap (λ z. cond z (Some []) (option_map (λ us. first ∷ us) (units_at_front rest))) is
        ∙ ap (option_map (λ us. first ∷ us)) same)
        count (omega (arith, behind.room))
        (λ k h. unit_in a b rest us
        (λ j lt. sym (ap (λ (t : List ℕ). get_or t j 0) text) ∙ behind.unit j lt) k
        (omega arith))

-- ---- ASCII

-- a unit is at most 0x7F
abbrev pub is_ascii_unit : ℕ → Bool
is_ascii_unit unit = nat_le unit 0x7F

-- what is left of a text begins with the unit at its place
drop_at_place : (text : List ℕ) (k : ℕ) → k < length text
    → drop k text ≡ get_or text k 0 ∷ drop (k + 1) text
drop_at_place text k h =
    drop-cons text k 0 h ∙ ap (λ n. get_or text k 0 ∷ drop n text) (sym (add-one k))

pub ascii_step : (text : List ℕ) (k : ℕ) → k < length text → get_or text k 0 ≤ 0x7F
    → list_all is_ascii_unit (drop k text) ≡ list_all is_ascii_unit (drop (k + 1) text)
ascii_step text k h le =
    let at : drop k text ≡ get_or text k 0 ∷ drop (k + 1) text = drop_at_place text k h in
    ap (list_all is_ascii_unit) at
    ∙ ap (λ b. b && list_all is_ascii_unit (drop (k + 1) text)) (le-leb _ _ le)

pub ascii_stop : (text : List ℕ) (k : ℕ) → k < length text → 0x7F < get_or text k 0
    → list_all is_ascii_unit (drop k text) ≡ false
ascii_stop text k h lt =
    let at : drop k text ≡ get_or text k 0 ∷ drop (k + 1) text = drop_at_place text k h in
    ap (list_all is_ascii_unit) at
    ∙ ap (λ b. b && list_all is_ascii_unit (drop (k + 1) text)) (lt-leb _ _ lt)

pub ascii_done : (text : List ℕ) (k : ℕ) → length text ≤ k
    → list_all is_ascii_unit (drop k text) ≡ true
ascii_done text k h = ap (list_all is_ascii_unit) (drop_all k text h)

-- each unit of an ASCII text is at most 0x7F
pub ascii_at : (text : List ℕ) (k : ℕ) → list_all is_ascii_unit text ≡ true → k < length text
    → get_or text k 0 ≤ 0x7F
ascii_at text k e h = by_test (is_ascii_unit (get_or text k 0)) refl
  where
    by_test : (b : Bool) → is_ascii_unit (get_or text k 0) ≡ b → get_or text k 0 ≤ 0x7F
    by_test true is = leb-true _ _ is
    by_test false is =
        let no : list_all is_ascii_unit text ≡ false = list_all_at is_ascii_unit text k 0 h is in
        absurd cc

-- the number of two bytes that is at most 0x7F is that of the first
low_of : (bytes : List ℕ) (n : ℕ) → 2 ≤ length bytes → number (take 2 bytes) ≡ n → n ≤ 0x7F
    → get_or bytes 0 0 ≡ n
low_of [] n h e le = absurd (omega arith)
low_of (a ∷ []) n h e le = absurd (omega arith)
low_of (a ∷ b ∷ rest) n h e le = omega (arith, e, le)

pub low_byte : (bytes : List ℕ) (k n : ℕ) → 2 * k + 2 ≤ length bytes
    → number_at bytes (2 * k) 2 ≡ n → n ≤ 0x7F → get_or bytes (2 * k) 0 ≡ n
low_byte bytes k n h e le =
    let here : get_or (drop (2 * k) bytes) 0 0 ≡ get_or bytes (2 * k) 0 =
    get_or-drop (2 * k) bytes 0 0 ∙ ap (λ n. get_or bytes n 0) (omega arith) in
    sym here ∙ low_of (drop (2 * k) bytes) n (omega (arith, length-drop (2 * k) bytes)) e le

-- how many bytes a text takes
pub length-unit_bytes : (text : List ℕ) → length (unit_bytes text) ≡ 2 * length text + 2
length-unit_bytes [] = refl
length-unit_bytes (c ∷ cs) = omega (arith, length-unit_bytes cs)

-- the units of an ASCII text are ASCII bytes
pub ascii_bytes : (text : List ℕ) → list_all is_ascii_unit text ≡ true → IsAscii text
ascii_bytes text e i =
    elim (cases_lt i (length text)) [
      | inl lt ↦ omega (arith, ascii_at text i e lt)
      | inr le ↦ rw (get_or_past text i 0 le) (omega arith)
    ]
