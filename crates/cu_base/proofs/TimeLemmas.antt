-- The bytes and the text of a moment.
use Rattle.std.proofs.Common.{◌≡◌, ℕ, ◌+◌, ◌-◌, ◌*◌, ◌/◌, ◌%◌, ◌<◌, ◌≤◌, true, ◌&&◌, if◌then◌else◌}
use Rattle.std.proofs.Common.{IsTrue, List, [], ◌∷◌, ◌++◌, length, get_or, Some, None, Ok, refl}
use Rattle.std.proofs.Common.{sym, ap, subst, ◌∙◌, arith}
use Rattle.std.proofs.Math.Nat.{le_trans}
use Rattle.std.specs.Char.{is_ascii_digit}
use Rattle.std.specs.Int.{w16, cast_signed, cast_unsigned}
use Rattle.std.proofs.lemmas.Bool.{and_parts, leb-true}
use Rattle.std.proofs.lemmas.Bool.Decides.{nat_tests}
use Rattle.std.proofs.lemmas.Int.{of_z-to_z}
use Rattle.cu_base.specs.Bytes.{IsBytes}
use Rattle.cu_base.specs.Fields.{number, bytes_of}
use Rattle.cu_base.specs.declared.time.EfiTime.{EfiTime}
use Rattle.cu_base.specs.Times.{days_in, is_in_calendar, moment, time_at_front, time_bytes}
use Rattle.cu_base.specs.Times.{time_of_text, time_text}
use Rattle.cu_base.proofs.Fields.{IsBytes-from, bytes_of-number}
use Rattle.cu_base.proofs.Sixteen.{sixteen}

-- two bytes, and four
two : (a b : ℕ) → a < 256 → b < 256 → bytes_of 2 (number (a ∷ b ∷ [])) ≡ a ∷ b ∷ []
two a b fits_a fits_b =
    let bytes : List ℕ = a ∷ b ∷ [] in
    bytes_of-number bytes (IsBytes-from bytes (fits_a, (fits_b, tt)))

four : (a b c d : ℕ) → a < 256 → b < 256 → c < 256 → d < 256
    → bytes_of 4 (number (a ∷ b ∷ c ∷ d ∷ [])) ≡ a ∷ b ∷ c ∷ d ∷ []
four a b c d fits_a fits_b fits_c fits_d =
    let bytes : List ℕ = a ∷ b ∷ c ∷ d ∷ [] in
    bytes_of-number bytes (IsBytes-from bytes (fits_a, (fits_b, (fits_c, (fits_d, tt)))))

zone : (a b : ℕ) → a < 256 → b < 256
    → cast_unsigned w16 (cast_signed w16 (number (a ∷ b ∷ []))) ≡ number (a ∷ b ∷ [])
zone a b fits_a fits_b = of_z-to_z w16 (number (a ∷ b ∷ [])) (omega arith)

pub writes_back : (bytes : List ℕ) → length bytes ≡ 16 → IsBytes bytes
    → time_bytes (time_at_front bytes) ≡ bytes
writes_back bytes long is =
    let at : ℕ → ℕ = λ k. get_or bytes k 0 in
    let year = two (at 0) (at 1) (is 0) (is 1) in
    let nano = four (at 8) (at 9) (at 10) (at 11) (is 8) (is 9) (is 10) (is 11) in
    let away = two (at 12) (at 13) (is 12) (is 13) in
    let same = zone (at 12) (at 13) (is 12) (is 13) in
    let P : List ℕ → Type 0 = λ b. time_bytes (time_at_front b) ≡ b in
    let join : List ℕ → List ℕ → List ℕ → List ℕ = λ y n z.
    y ++ at 2 ∷ at 3 ∷ at 4 ∷ at 5 ∷ at 6 ∷ at 7 ∷ [] ++ n ++ z ++ at 14 ∷ at 15 ∷ [] in
    let nano_bytes : List ℕ = bytes_of 4 (number (at 8 ∷ at 9 ∷ at 10 ∷ at 11 ∷ [])) in
    let zone_bytes : List ℕ =
    bytes_of 2 (cast_unsigned w16 (cast_signed w16 (number (at 12 ∷ at 13 ∷ [])))) in
    subst P (sym (sixteen bytes long))
    (ap (λ (l : List ℕ). join l nano_bytes zone_bytes) year
    ∙ ap (λ (l : List ℕ). join (at 0 ∷ at 1 ∷ []) l zone_bytes) nano
    ∙ ap (λ (l : List ℕ). join (at 0 ∷ at 1 ∷ []) (at 8 ∷ at 9 ∷ at 10 ∷ at 11 ∷ []) l)
    (ap (λ (n : ℕ). bytes_of 2 n) same ∙ away))

-- the digits of a number below a hundred show it
digits : (n : ℕ) → n < 100
    → (if is_ascii_digit (48 + n / 10) && is_ascii_digit (48 + n % 10)
    then Some (10 * (48 + n / 10 - 48) + (48 + n % 10 - 48)) else None) ≡ Some n
digits n small = grind (arith, nat_tests)

century : (year : ℕ) → 100 * (year / 100) + year % 100 ≡ year
century year = omega arith

-- the longest month
pub most_days : (year month : ℕ) → days_in year month ≤ 31
most_days year month = grind (arith, nat_tests)

-- the greatest number of each part of a moment of the calendar
pub record AreParts (time : EfiTime) : Type 0 where
  pub year : time.year ≤ 9999
  pub month : time.month ≤ 12
  pub day : time.day ≤ 31
  pub hour : time.hour ≤ 23
  pub minute : time.minute ≤ 59
  pub second : time.second ≤ 59

pub parts_of : (time : EfiTime) → is_in_calendar time ≡ true → AreParts time
parts_of time holds =
    let p1 = and_parts _ _ holds in
    let p2 = and_parts _ _ p1.0 in
    let p3 = and_parts _ _ p2.0 in
    let p4 = and_parts _ _ p3.0 in
    let p5 = and_parts _ _ p4.0 in
    let p6 = and_parts _ _ p5.0 in
    let p7 = and_parts _ _ p6.0 in
    let p8 = and_parts _ _ p7.0 in
    let day : time.day ≤ days_in time.year time.month = leb-true _ _ p4.1 in
    let longest = most_days time.year time.month in
    let least : time.day ≤ 31 = le_trans day longest in
    record {
      year = leb-true _ _ p8.1;
      month = leb-true _ _ p6.1;
      day = least;
      hour = leb-true _ _ p3.1;
      minute = leb-true _ _ p2.1;
      second = leb-true _ _ p1.1;
    }

pub shows_back : (year month day hour minute second : ℕ)
    → IsTrue (is_in_calendar (moment year month day hour minute second))
    → time_of_text (time_text (moment year month day hour minute second))
    ≡ Ok (moment year month day hour minute second)
shows_back year month day hour minute second in_calendar =
    let years = century year in
    let parts = parts_of (moment year month day hour minute second) in_calendar in
    let y : year ≤ 9999 = parts.year in
    let m : month ≤ 12 = parts.month in
    let d : day ≤ 31 = parts.day in
    let h : hour ≤ 23 = parts.hour in
    let i : minute ≤ 59 = parts.minute in
    let s : second ≤ 59 = parts.second in
    let high = digits (year / 100) (omega (arith, y)) in
    let low = digits (year % 100) (omega arith) in
    let months = digits month (omega (arith, m)) in
    let days = digits day (omega (arith, d)) in
    let hours = digits hour (omega (arith, h)) in
    let minutes = digits minute (omega (arith, i)) in
    let seconds = digits second (omega (arith, s)) in
    rw (high, low, months, days, hours, minutes, seconds, years, in_calendar) refl
