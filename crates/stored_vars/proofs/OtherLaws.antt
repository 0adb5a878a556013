-- Numbers, staged deliveries and the names of results: what is written is read again, and nothing
-- else is read.
use Rattle.std.proofs.Common.{◌≡◌, ℕ, ◌+◌, ◌/◌, ◌%◌, ◌<◌, ◌^◌, ◌==◌, Bool, true, false, cond}
use Rattle.std.proofs.Common.{List, length, Some, None, refl, sym, ap, ◌∙◌}
use Rattle.std.proofs.Common.{arith, inl, inr, nat_lt, ◌-◌}
use Rattle.std.specs.Fmt.{digit_glyph}
use Rattle.std.specs.Str.{bytes_eq}
use Rattle.std.proofs.lemmas.Bool.{eqb-true, cases_lt, lt-ltb, le-ltb, le-leb, lt-leb}
use Rattle.std.proofs.lemmas.List.{take_all}
use Rattle.std.proofs.lemmas.Slice.Eq.{bytes_eq-Decides}
use Rattle.cu_base.specs.Bytes.{IsBytes}
use Rattle.cu_base.specs.Fields.{number_at, bytes_of}
use Rattle.cu_base.proofs.Fields.{number-bytes_of, bytes_of-number_at, next_number}
use Rattle.reference_machine.specs.declared.snapshot.StagedPair.{StagedPair}
use Rattle.stored_vars.specs.Last.{digit_in, is_last, last_bytes, last_in, number_named}
use Rattle.stored_vars.specs.Numbers.{IsPair, number_bytes, number_in, pair_at_front, pair_bytes}
use Rattle.stored_vars.specs.Numbers.{pair_in}
use Rattle.stored_vars.proofs.LastLemmas.{and_second, last_named}

-- ---- one number

pub number_again : (n : ℕ) → n < 2 ^ 64 → number_in (number_bytes n) ≡ Some n
number_again n fits = ap Some (number-bytes_of 8 n fits)

pub number_back : (b : List ℕ) (n : ℕ) → IsBytes b → number_in b ≡ Some n → number_bytes n ≡ b
number_back b n is read = by_test (length b == 8) refl
  where
    by_test : (z : Bool) → (length b == 8) ≡ z → number_bytes n ≡ b
    by_test false e =
        let none : number_in b ≡ None = ap (λ z. cond z (Some (number_at b 0 8)) None) e in
        absurd cc
    by_test true e =
        let long : length b ≡ 8 = eqb-true _ _ e in
        let some : number_in b ≡ Some (number_at b 0 8) =
        ap (λ z. cond z (Some (number_at b 0 8)) None) e in
        let same : number_at b 0 8 ≡ n = cc in
        ap (bytes_of 8) (sym same) ∙ bytes_of-number_at b 0 8 is (omega (arith, long))
        ∙ take_all 8 b (omega (arith, long))

-- ---- a staged delivery

same_pair : (a a' b b' : ℕ) → a ≡ a' → b ≡ b'
    → ◌≡◌ {A = StagedPair} (record { serial = a; address = b }) (record { serial = a'; address = b' })
same_pair a a' b b' ea eb = rw (ea, eb) refl

pub pair_again : (p : StagedPair) → IsPair p → pair_in (pair_bytes p) ≡ Some p
pair_again p is =
    ap Some (same_pair _ p.serial _ p.address (number-bytes_of 8 p.serial is.serial)
    (number-bytes_of 8 p.address is.address))

pub pair_back : (b : List ℕ) (p : StagedPair) → IsBytes b → pair_in b ≡ Some p → pair_bytes p ≡ b
pair_back b p is read = by_test (length b == 16) refl
  where
    by_test : (z : Bool) → (length b == 16) ≡ z → pair_bytes p ≡ b
    by_test false e =
        let none : pair_in b ≡ None = ap (λ z. cond z (Some (pair_at_front b)) None) e in
        absurd cc
    by_test true e =
        let long : length b ≡ 16 = eqb-true _ _ e in
        let some : pair_in b ≡ Some (pair_at_front b) =
        ap (λ z. cond z (Some (pair_at_front b)) None) e in
        let same : pair_at_front b ≡ p = cc in
        ap pair_bytes (sym same)
        ∙ next_number b _ 8 8 is (omega (arith, long))
        (bytes_of-number_at b 0 8 is (omega (arith, long)))
        ∙ take_all 16 b (omega (arith, long))

-- ---- the name of a result

pub digit_again : (d : ℕ) → d < 16 → digit_in (digit_glyph true d) ≡ d
digit_again d fits = elim (cases_lt d 10) [
  | inl low ↦ ap digit_in (ap (λ z. cond z (48 + d) (55 + d)) (lt-ltb d 10 low))
      ∙ ap (λ z. cond z (48 + d - 55) (48 + d - 48)) (lt-leb 65 (48 + d) (omega (arith, low)))
      ∙ omega arith
  | inr high ↦ ap digit_in (ap (λ z. cond z (48 + d) (55 + d)) (le-ltb d 10 high))
      ∙ ap (λ z. cond z (55 + d - 55) (55 + d - 48)) (le-leb 65 (55 + d) (omega (arith, high)))
      ∙ omega arith
]

number_named_again : (n : ℕ) → n < 2 ^ 16 → number_named (last_bytes n) ≡ n
number_named_again n fits =
    let a = digit_again (n / 256 / 16) (omega arith) in
    let b = digit_again (n / 256 % 16) (omega arith) in
    let c = digit_again (n % 256 / 16) (omega arith) in
    let d = digit_again (n % 256 % 16) (omega arith) in
    omega (arith, a, b, c, d)

pub last_again : (n : ℕ) → n < 2 ^ 16 → last_in (last_bytes n) ≡ Some n
last_again n fits =
    let named : number_named (last_bytes n) ≡ n = number_named_again n fits in
    last_named (last_bytes n) true (omega (arith, named))
    (ap (λ k. bytes_eq (last_bytes k) (last_bytes n)) named
    ∙ (bytes_eq-Decides (last_bytes n) (last_bytes n)).1 refl)
    ∙ ap Some named

pub last_back : (b : List ℕ) (n : ℕ) → last_in b ≡ Some n → last_bytes n ≡ b
last_back b n read = by_test (is_last b) refl
  where
    by_test : (z : Bool) → is_last b ≡ z → last_bytes n ≡ b
    by_test false e =
        let none : last_in b ≡ None = ap (λ z. cond z (Some (number_named b)) None) e in
        absurd cc
    by_test true e =
        let some : last_in b ≡ Some (number_named b) =
        ap (λ z. cond z (Some (number_named b)) None) e in
        let same : number_named b ≡ n = cc in
        ap last_bytes (sym same)
        ∙ (bytes_eq-Decides (last_bytes (number_named b)) b).0
        (and_second (nat_lt (number_named b) (2 ^ 16)) _ e)
