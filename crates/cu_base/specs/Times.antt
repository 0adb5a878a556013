-- A moment, EFI_TIME (UEFI 2.10, 8.3): its 16 bytes, its text and the Gregorian calendar.
use Rattle.std.specs.Prelude.{ℕ, ◌+◌, ◌-◌, ◌*◌, ◌/◌, ◌%◌, Bool, ◌&&◌, ◌||◌, not, ◌==◌}
use Rattle.std.specs.Prelude.{if◌then◌else◌, nat_le, List, [], ◌∷◌, ◌++◌, length, slice_index, pos}
use Rattle.std.specs.Prelude.{Option, Some, None, Result, Err, ok_or, option_and_then}
use Rattle.std.specs.Char.{is_ascii_digit}
use Rattle.std.specs.Int.{w16, cast_signed, cast_unsigned}
use Rattle.cu_base.specs.Fields.{number_at, bytes_of}
use Rattle.cu_base.specs.declared.faults.BaseFault.{BaseFault}
use Rattle.cu_base.specs.declared.faults.BaseFault.TheVariants.{BadTime}
use Rattle.cu_base.specs.declared.time.EfiTime.{EfiTime}

-- the bytes of a moment, TimeZone in two's complement
abbrev pub time_bytes : EfiTime → List ℕ
time_bytes time =
    bytes_of 2 time.year
    ++ time.month ∷ time.day ∷ time.hour ∷ time.minute ∷ time.second ∷ time.pad1 ∷ []
    ++ bytes_of 4 time.nanosecond ++ bytes_of 2 (cast_unsigned w16 time.zone)
    ++ time.daylight ∷ time.pad2 ∷ []

-- the moment at the front of bytes
abbrev pub time_at_front : List ℕ → EfiTime
time_at_front bytes = record {
  year = number_at bytes 0 2;
  month = slice_index bytes 2;
  day = slice_index bytes 3;
  hour = slice_index bytes 4;
  minute = slice_index bytes 5;
  second = slice_index bytes 6;
  nanosecond = number_at bytes 8 4;
  zone = cast_signed w16 (number_at bytes 12 2);
  daylight = slice_index bytes 14;
  pad1 = slice_index bytes 7;
  pad2 = slice_index bytes 15;
}

-- a year of 366 days: every fourth, but of the full centuries only every fourth
abbrev pub is_leap : ℕ → Bool
is_leap year = (year % 4 == 0) && (not (year % 100 == 0) || (year % 400 == 0))

-- how many days a month has
abbrev pub days_in : ℕ → ℕ → ℕ
days_in year month =
    if month == 2 then (if is_leap year then 29 else 28)
    else if (month == 4) || (month == 6) || (month == 9) || (month == 11) then 30
    else 31

-- years 1900 to 9999, a day of the Gregorian calendar, hours to 23, minutes and seconds to 59
abbrev pub is_in_calendar : EfiTime → Bool
is_in_calendar time =
    nat_le 1900 time.year && nat_le time.year 9999
    && nat_le 1 time.month && nat_le time.month 12
    && nat_le 1 time.day && nat_le time.day (days_in time.year time.month)
    && nat_le time.hour 23 && nat_le time.minute 59 && nat_le time.second 59

-- the marks between the numbers of YYYY-MM-DDThh:mm:ss
abbrev pub has_form : List ℕ → Bool
has_form text =
    (length text == 19) && (slice_index text 4 == 45) && (slice_index text 7 == 45)
    && (slice_index text 10 == 84)
    && (slice_index text 13 == 58) && (slice_index text 16 == 58)

-- the number that two decimal digits show
abbrev pub two_digits : List ℕ → ℕ → Option ℕ
two_digits text at =
    if is_ascii_digit (slice_index text at) && is_ascii_digit (slice_index text (at + 1))
    then Some (10 * (slice_index text at - 48) + (slice_index text (at + 1) - 48))
    else None

-- a moment of whole seconds in no stated time zone
abbrev pub moment : ℕ → ℕ → ℕ → ℕ → ℕ → ℕ → EfiTime
moment year month day hour minute second = record {
  year = year;
  month = month;
  day = day;
  hour = hour;
  minute = minute;
  second = second;
  nanosecond = 0;
  zone = pos 0x07FF;
  daylight = 0;
  pad1 = 0;
  pad2 = 0;
}

-- what the second makes of the first, where that is there
infixl 10 ◌>>=◌
abbrev pub ◌>>=◌ : {A B : Type 0} → Option A → (A → Option B) → Option B
o >>= f = option_and_then f o

-- the moment of the numbers in the form, whatever they are
abbrev pub moment_shown : List ℕ → Option EfiTime
moment_shown text = do
  century ← two_digits text 0
  year ← two_digits text 2
  month ← two_digits text 5
  day ← two_digits text 8
  hour ← two_digits text 11
  minute ← two_digits text 14
  second ← two_digits text 17
  Some (moment (100 * century + year) month day hour minute second)

-- the moment, where it is of the calendar
abbrev pub where_in_calendar : EfiTime → Option EfiTime
where_in_calendar time = if is_in_calendar time then Some time else None

-- the moment that a text shows, where it has the form and the moment is of the calendar
abbrev pub time_of_text : List ℕ → Result EfiTime BaseFault
time_of_text text =
    if has_form text
    then ok_or (option_and_then where_in_calendar (moment_shown text)) BadTime
    else Err BadTime

-- two decimal digits, and the text of a moment by them
abbrev pub digits_of : ℕ → List ℕ
digits_of n = (48 + n / 10) ∷ (48 + n % 10) ∷ []

-- the text YYYY-MM-DDThh:mm:ss of a moment
abbrev pub time_text : EfiTime → List ℕ
time_text time =
    digits_of (time.year / 100) ++ digits_of (time.year % 100)
    ++ 45 ∷ digits_of time.month ++ 45 ∷ digits_of time.day
    ++ 84 ∷ digits_of time.hour ++ 58 ∷ digits_of time.minute ++ 58 ∷ digits_of time.second
