-- Texts of CHAR16: what is written is read again, and what is read is written back.
use Rattle.std.proofs.Common.{◌≡◌, ℕ, zero, suc, ◌+◌, ◌*◌, ◌<◌, ◌≤◌, ◌==◌, ◌&&◌, Bool, true, false, cond}
use Rattle.std.proofs.Common.{List, [], ◌∷◌, ◌++◌, length, take, drop, Option, Some, None, option_map}
use Rattle.std.proofs.Common.{unwrap_or, refl, sym, ap, subst, ◌∙◌, arith, append-nil, not}
use Rattle.std.specs.List.{AllByRecursion, list_all}
use Rattle.std.specs.Option.{is_none}
use Rattle.std.proofs.lemmas.Bool.{le-leb, and_parts, leb-true, not-false, eqb-true}
use Rattle.cu_base.specs.Bytes.{IsBytes}
use Rattle.cu_base.specs.Fields.{number}
use Rattle.cu_base.specs.Refusals.{first_refusal}
use Rattle.cu_base.proofs.Fields.{IsBytes-rest}
use Rattle.cu_base.proofs.Rows.{passed, none_refused}
use Rattle.report_tables.specs.Units.{units_at_front, text_at_front, unit_bytes, text_rows, text_size}
use Rattle.report_tables.specs.Units.{IsPlain}
use Rattle.report_tables.proofs.UnitLemmas.{not_zero, is_ascii_unit, ended}

-- ---- what is written is read again

pub front_of : (t rest : List ℕ) → AllByRecursion IsPlain t
    → units_at_front (unit_bytes t ++ rest) ≡ Some t
front_of [] rest all = refl
front_of (c ∷ cs) rest all =
    let unit = number (c ∷ 0 ∷ []) in
    let same : number (c ∷ 0 ∷ []) ≡ c = omega arith in
    let some : (unit == 0) ≡ false = not_zero unit (λ e. absurd (omega (arith, all.0.some, e))) in
    ap (λ b. cond b (Some [])
    (option_map (λ us. unit ∷ us) (units_at_front (unit_bytes cs ++ rest)))) some
    ∙ ap (option_map (λ us. unit ∷ us)) (front_of cs rest all.1)
    ∙ ap (λ x. Some (x ∷ cs)) same

pub text_of : (t rest : List ℕ) → AllByRecursion IsPlain t
    → text_at_front (unit_bytes t ++ rest) ≡ t
text_of t rest all = ap (λ o. unwrap_or o []) (front_of t rest all)

plain_ascii : (t : List ℕ) → AllByRecursion IsPlain t → list_all is_ascii_unit t ≡ true
plain_ascii [] all = refl
plain_ascii (c ∷ cs) all =
    ap (λ b. b && list_all is_ascii_unit cs) (le-leb _ _ all.0.ascii) ∙ plain_ascii cs all.1

pub text_accepted : (t rest : List ℕ) → AllByRecursion IsPlain t
    → first_refusal (text_rows (unit_bytes t ++ rest)) ≡ None
text_accepted t rest all =
    none_refused (text_rows (unit_bytes t ++ rest)) (
      ap is_none (front_of t rest all),
      (ap not (ap (list_all is_ascii_unit) (text_of t rest all) ∙ plain_ascii t all), tt),
    )

-- ---- what is read is written back

units_back : (b us : List ℕ) → IsBytes b → units_at_front b ≡ Some us
    → list_all is_ascii_unit us ≡ true → take (text_size us) b ≡ unit_bytes us
units_back [] us is e ascii = absurd cc
units_back (x ∷ []) us is e ascii = absurd cc
units_back (x ∷ y ∷ rest) us is e ascii =
    by_unit (number (x ∷ y ∷ []) == 0) refl (units_at_front rest) refl e
    (λ more. units_back rest more (IsBytes-rest y rest (IsBytes-rest x (y ∷ rest) is)))
  where
    unit : ℕ
    unit = number (x ∷ y ∷ [])

    zeros : unit ≡ 0 → (x ∷ y ∷ []) ≡ 0 ∷ 0 ∷ []
    zeros e =
        let ex : x ≡ 0 = omega (arith, e) in
        let ey : y ≡ 0 = omega (arith, e) in
        rw (ex, ey) refl

    low : unit ≤ 0x7F → (x ∷ y ∷ []) ≡ unit ∷ 0 ∷ []
    low le =
        let ey : y ≡ 0 = omega (arith, le) in
        let ex : x ≡ unit = omega (arith, ey) in
        ap (λ a. a ∷ y ∷ []) ex ∙ ap (λ a. unit ∷ a ∷ []) ey

    by_unit : (z : Bool) → (unit == 0) ≡ z → (more : Option (List ℕ))
        → units_at_front rest ≡ more
        → cond z (Some []) (option_map (λ xs. unit ∷ xs) more) ≡ Some us
        → ((xs : List ℕ) → units_at_front rest ≡ Some xs → list_all is_ascii_unit xs ≡ true
        → take (text_size xs) rest ≡ unit_bytes xs)
        → take (text_size us) (x ∷ y ∷ rest) ≡ unit_bytes us
    by_unit true is_zero more same e later =
        let none : [] ≡ us = cc in
        subst (λ xs. take (text_size xs) (x ∷ y ∷ rest) ≡ unit_bytes xs) none
        (zeros (eqb-true _ _ is_zero))
    by_unit false is_zero None same e later = absurd cc
    by_unit false is_zero (Some xs) same e later =
        let here : unit ∷ xs ≡ us = cc in
        let test : (is_ascii_unit unit && list_all is_ascii_unit xs) ≡ true =
        ap (list_all is_ascii_unit) here ∙ ascii in
        let parts = and_parts _ _ test in
        let size : text_size (unit ∷ xs) ≡ suc (suc (text_size xs)) = omega arith in
        subst (λ ys. take (text_size ys) (x ∷ y ∷ rest) ≡ unit_bytes ys) here
        (ap (λ n. take n (x ∷ y ∷ rest)) size
        ∙ ap (λ l. l ++ take (text_size xs) rest) (low (leb-true _ _ parts.0))
        ∙ ap (λ l. unit ∷ 0 ∷ l) (later xs same parts.1))

-- the bytes of a text that is not refused
pub text_back : (b : List ℕ) → IsBytes b → first_refusal (text_rows b) ≡ None
    → take (text_size (text_at_front b)) b ≡ unit_bytes (text_at_front b)
text_back b is none = by_front (units_at_front b) refl
  where
    by_front : (o : Option (List ℕ)) → units_at_front b ≡ o
        → take (text_size (text_at_front b)) b ≡ unit_bytes (text_at_front b)
    by_front None e =
        let no : is_none (units_at_front b) ≡ true = ap is_none e in
        let yes : is_none (units_at_front b) ≡ false = (passed (text_rows b) none).0 in
        absurd cc
    by_front (Some us) e =
        let same : text_at_front b ≡ us = ap (λ x. unwrap_or x []) e in
        let ascii : list_all is_ascii_unit us ≡ true =
        ap (list_all is_ascii_unit) (sym same) ∙ not-false _ (passed (text_rows b) none).1.0 in
        subst (λ t. take (text_size t) b ≡ unit_bytes t) (sym same) (units_back b us is e ascii)

-- how long a text is that is not refused
pub text_room : (b : List ℕ) → first_refusal (text_rows b) ≡ None
    → text_size (text_at_front b) ≤ length b
text_room b none = by_front (units_at_front b) refl
  where
    by_front : (o : Option (List ℕ)) → units_at_front b ≡ o
        → text_size (text_at_front b) ≤ length b
    by_front None e =
        let no : is_none (units_at_front b) ≡ true = ap is_none e in
        let yes : is_none (units_at_front b) ≡ false = (passed (text_rows b) none).0 in
        absurd cc
    by_front (Some us) e =
        let is = ended b (length us) (ap (option_map length) e) in
        omega (arith, is.room, is.count)
