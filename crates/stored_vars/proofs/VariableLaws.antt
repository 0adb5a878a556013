-- The variables of the platform: different ones have different names.
use Rattle.std.proofs.Common.{◌≡◌, ℕ, ◌+◌, ◌*◌, ◌/◌, ◌%◌, ◌<◌, ◌≤◌, ◌^◌, ◌==◌, true, false, cond}
use Rattle.std.proofs.Common.{List, get_or, refl, sym, ap, ◌∙◌, inl, inr, arith}
use Rattle.std.specs.Fmt.{digit_glyph}
use Rattle.std.proofs.lemmas.Bool.{cases_lt, eqb-true, false_from_ne_true, le-ltb, lt-ltb, ltb-true}
use Rattle.stored_vars.specs.Last.{digit_in}
use Rattle.stored_vars.specs.Variables.{is_variable, name_of}
use Rattle.stored_vars.specs.declared.variable.StoredVar.{StoredVar}
use Rattle.stored_vars.specs.declared.variable.StoredVar.TheVariants.{Device, Progress, Serial}
use Rattle.stored_vars.specs.declared.variable.StoredVar.TheVariants.{Stage, OsIndications}
use Rattle.stored_vars.specs.declared.variable.StoredVar.TheVariants.{CapsuleMax, CapsuleLast}
use Rattle.stored_vars.specs.declared.variable.StoredVar.TheVariants.{Outcome}
use Rattle.stored_vars.proofs.OtherLaws.{digit_again}

-- the result of the number in a name
outcome_named : List ℕ → StoredVar
outcome_named name =
    Outcome (4096 * digit_in (get_or name 7 0) + 256 * digit_in (get_or name 8 0)
    + 16 * digit_in (get_or name 9 0) + digit_in (get_or name 10 0))

-- the variable of a name by some of its letters
var_named : List ℕ → StoredVar
var_named name =
    cond (get_or name 0 0 == 68) (Device (digit_in (get_or name 3 0)))
    (cond (get_or name 0 0 == 80) Progress
    (cond (get_or name 0 0 == 79) OsIndications
    (cond (get_or name 0 0 == 83)
    (cond (get_or name 1 0 == 101) Serial (Stage (digit_in (get_or name 5 0))))
    (cond (get_or name 7 0 == 77) CapsuleMax
    (cond (get_or name 7 0 == 76) CapsuleLast (outcome_named name))))))

glyph_low : (d : ℕ) → d < 16 → digit_glyph true d ≤ 70
glyph_low d fits = elim (cases_lt d 10) [
  | inl low ↦
      let e : digit_glyph true d ≡ 48 + d = ap (λ z. cond z (48 + d) (55 + d)) (lt-ltb d 10 low) in
      omega (arith, e, low)
  | inr high ↦
      let e : digit_glyph true d ≡ 55 + d = ap (λ z. cond z (48 + d) (55 + d)) (le-ltb d 10 high) in
      omega (arith, e, fits)
]

other_letter : (c k : ℕ) → c ≤ 70 → 70 < k → (c == k) ≡ false
other_letter c k low high =
    false_from_ne_true _ (λ e. let same = eqb-true c k e in absurd (omega (arith, same)))

outcome_again : (n : ℕ) → n < 2 ^ 16 → var_named (name_of (Outcome n)) ≡ Outcome n
unfolding var_named outcome_named
outcome_again n fits =
    let name = name_of (Outcome n) in
    let low : digit_glyph true (n / 256 / 16) ≤ 70 = glyph_low (n / 256 / 16) (omega arith) in
    let a = digit_again (n / 256 / 16) (omega arith) in
    let b = digit_again (n / 256 % 16) (omega arith) in
    let c = digit_again (n % 256 / 16) (omega arith) in
    let d = digit_again (n % 256 % 16) (omega arith) in
    ap (λ z. cond z CapsuleMax
    (cond (digit_glyph true (n / 256 / 16) == 76) CapsuleLast (outcome_named name)))
    (other_letter (digit_glyph true (n / 256 / 16)) 77 low (omega arith))
    ∙ ap (λ z. cond z CapsuleLast (outcome_named name))
    (other_letter (digit_glyph true (n / 256 / 16)) 76 low (omega arith))
    ∙ ap Outcome (omega (arith, a, b, c, d))

named_again : (v : StoredVar) → is_variable v ≡ true → var_named (name_of v) ≡ v
unfolding var_named
named_again (Device d) is = ap Device (digit_again d (ltb-true _ _ is))
named_again Progress is = refl
named_again Serial is = refl
named_again (Stage k) is =
    let low : k < 8 = ltb-true _ _ is in ap Stage (digit_again k (omega (arith, low)))
named_again OsIndications is = refl
named_again CapsuleMax is = refl
named_again CapsuleLast is = refl
named_again (Outcome n) is = outcome_again n (ltb-true _ _ is)

pub names_apart : (v w : StoredVar) → is_variable v ≡ true → is_variable w ≡ true
    → name_of v ≡ name_of w → v ≡ w
names_apart v w is_v is_w e =
    sym (named_again v is_v) ∙ ap var_named e ∙ named_again w is_w
