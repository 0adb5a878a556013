-- A script that is written is read again.
use Rattle.std.proofs.Common.{◌≡◌, ℕ, zero, suc, ◌+◌, ◌-◌, ◌*◌, ◌/◌, ◌%◌, ◌^◌, ◌<◌, ◌≤◌, Bool, true}
use Rattle.std.proofs.Common.{false, not, ◌||◌, ◌==◌, codes, decimal, IsTrue, List, [], ◌∷◌, ◌++◌}
use Rattle.std.proofs.Common.{length, slice_index, All, Some, Result, Ok, Err, nat_le, nat_lt}
use Rattle.std.proofs.Common.{length-append, append_assoc, refl, sym, ap, ◌∙◌, ⊎_elim, ok_or}
use Rattle.std.proofs.Common.{option_map, lit<, arith}
use Rattle.std.proofs.Math.Nat.{pow-suc, div-lt_iff_lt-mul}
use Rattle.std.proofs.lemmas.Bool.{true≢false, and_parts, and_from, cases_Bool, cases_lt, eq-eqb}
use Rattle.std.proofs.lemmas.Bool.{ne_eqb, not_from_false, or_from, or_parts, or_left, or_right}
use Rattle.std.proofs.lemmas.Bool.{le-leb, leb-true, lt-ltb}
use Rattle.std.proofs.lemmas.Bool.Decides.{nat_tests}
use Rattle.std.proofs.lemmas.Fmt.{decimal_by_steps}
use Rattle.std.proofs.lemmas.List.Elements.{All-from_recursion}
use Rattle.std.proofs.lemmas.List.Folds.{list_all-append}
use Rattle.std.proofs.lemmas.List.Splits.{slice_split_at, slice_split_none}
use Rattle.std.specs.Char.{is_ascii_digit}
use Rattle.std.specs.Fmt.{digit_glyph}
use Rattle.std.specs.Result.{result_ok}
use Rattle.std.specs.List.{AllByRecursion, join_with_byte, list_all}
use Rattle.bench_model.specs.declared.choice.Choice.{Choice}
use Rattle.bench_model.specs.declared.choice.Choice.TheVariants.{New, Old, Mix, Fill}
use Rattle.cu_base.proofs.TimeLemmas.{most_days}
use Rattle.cu_base.proofs.TimeLemmas.{shows_back}
use Rattle.cu_base.specs.Times.{days_in, is_in_calendar, moment, time_text}
use Rattle.cu_base.specs.declared.faults.BaseFault.{BaseFault}
use Rattle.cu_base.specs.declared.time.EfiTime.{EfiTime}
use Rattle.reference_machine.specs.declared.event.Event.{Event}
use Rattle.reference_machine.specs.declared.event.Event.TheVariants.{Time, Drop, Signal, Lay, Poke}
use Rattle.reference_machine.specs.declared.event.Event.TheVariants.{Stage, Boot, Arm, Fail, Reset}
use Rattle.reference_machine.specs.declared.event.Event.TheVariants.{Show}
use Rattle.reset_play.specs.declared.script.faults.ScriptKind.{ScriptKind}
use Rattle.reset_play.specs.declared.script.faults.ScriptKind.TheVariants.{BadOperand, BadText}
use Rattle.reset_play.specs.declared.script.limits.TheConstants.{MAX_COUNT, MAX_EVENTS}
use Rattle.reset_play.specs.declared.script.limits.TheConstants.{MAX_POKE_BYTES}
use Rattle.reset_play.specs.ScriptEvents.{choice}
use Rattle.reset_play.specs.ScriptText.{ScriptSaid, event_of_words, is_plain, is_skipped, line_said}
use Rattle.reset_play.specs.ScriptText.{lines_said, script_said, with_line}
use Rattle.reset_play.specs.ScriptWords.{parts, is_within, is_name_byte, is_decimal, decimal_behind}
use Rattle.reset_play.specs.ScriptWords.{number_within, is_hex_digit, hex_value, hex_behind}
use Rattle.reset_play.specs.ScriptWords.{hex_number, hex_pairs, address, is_hex_bytes, hex_bytes}
use Rattle.reset_play.specs.ScriptWords.{is_file_name, is_input_name}
use Rattle.reset_play.specs.ScriptSpelling.{hex_text, pairs_text, choice_words, event_words}
use Rattle.reset_play.specs.ScriptSpelling.{event_line, script_text, Fits, FitsChoice}

-- a word of visible bytes
abbrev Visible : List ℕ → Type 0
Visible word = list_all (is_within 0x21 0x7E) word ≡ true

-- what passes a test passes a weaker one
weaker : (p q : ℕ → Bool) → ((b : ℕ) → p b ≡ true → q b ≡ true) → (word : List ℕ)
    → list_all p word ≡ true → list_all q word ≡ true
weaker p q so [] all = refl
weaker p q so (b ∷ bs) all =
    let both = and_parts (p b) (list_all p bs) all in
    and_from (q b) (list_all q bs) (so b both.0) (weaker p q so bs both.1)

-- a byte from a least one on is no lesser one
no_mark : (low mark : ℕ) → mark < low → (word : List ℕ) → list_all (is_within low 0x7E) word ≡ true
    → AllByRecursion (λ b. (b == mark) ≡ false) word
no_mark low mark below [] all = tt
no_mark low mark below (b ∷ bs) all =
    let both = and_parts (is_within low 0x7E b) (list_all (is_within low 0x7E) bs) all in
    let least = leb-true low b (and_parts (nat_le low b) (nat_le b 0x7E) both.0).0 in
    (ne_eqb b mark (λ same. omega arith), no_mark low mark below bs both.1)

-- words that are joined by a mark that none has are the parts between the marks
parts_back : (mark : ℕ) (word : List ℕ) (more : List (List ℕ))
    → AllByRecursion (λ w. All (λ b. (b == mark) ≡ false) w) (word ∷ more)
    → parts mark (join_with_byte mark (word ∷ more)) ≡ word ∷ more
parts_back mark word [] (none, rest) = slice_split_none (λ b. b == mark) word none
parts_back mark word (next ∷ more) (none, rest) =
    slice_split_at (λ b. b == mark) word mark (join_with_byte mark (next ∷ more)) none
    (eq-eqb mark mark refl)
    ∙ ap (λ (l : List (List ℕ)). word ∷ l) (parts_back mark next more rest)

-- digits
glyph_hex : (d : ℕ) → d < 16
    → (is_hex_digit (digit_glyph false d) ≡ true) × (hex_value (digit_glyph false d) ≡ d)
glyph_hex d small = (grind (arith, nat_tests), grind (arith, nat_tests))

hex_append : (n c : ℕ) (digits : List ℕ)
    → hex_behind n (digits ++ c ∷ []) ≡ 16 * hex_behind n digits + hex_value c
hex_append n c [] = refl
hex_append n c (d ∷ ds) = hex_append (16 * n + hex_value d) c ds

decimal_append : (n c : ℕ) (digits : List ℕ)
    → decimal_behind n (digits ++ c ∷ []) ≡ 10 * decimal_behind n digits + (c - 48)
decimal_append n c [] = refl
decimal_append n c (d ∷ ds) = decimal_append (10 * n + (d - 48)) c ds

record IsHex (k n : ℕ) (text : List ℕ) : Type 0 where
  long : length text ≡ k
  digits : list_all is_hex_digit text ≡ true
  value : hex_behind 0 text ≡ n

hex_back : (k n : ℕ) → n < 16 ^ k → IsHex k n (hex_text k n)
hex_back zero n small = record { long = refl; digits = refl; value = omega arith }
hex_back (suc k) n small =
    let below : n < 16 ^ k * 16 = rw (← pow-suc 16 k) small in
    let front = hex_back k (n / 16) ((div-lt_iff_lt-mul (lit< tt)).1 below) in
    let digit = glyph_hex (n % 16) (omega arith) in
    record {
      long = length-append (hex_text k (n / 16)) (digit_glyph false (n % 16) ∷ [])
          ∙ omega (arith, front.long);
      digits = list_all-append is_hex_digit (hex_text k (n / 16)) (digit_glyph false (n % 16) ∷ [])
          ∙ rw (front.digits, digit.0) refl;
      value = hex_append 0 (digit_glyph false (n % 16)) (hex_text k (n / 16))
          ∙ rw (front.value, digit.1) (omega arith);
    }

record IsPairs (bytes text : List ℕ) : Type 0 where
  long : length text ≡ 2 * length bytes
  digits : list_all is_hex_digit text ≡ true
  value : hex_pairs text ≡ bytes

pairs_back : (bytes : List ℕ) → AllByRecursion (λ b. b < 256) bytes
    → IsPairs bytes (pairs_text bytes)
pairs_back [] small = record { long = refl; digits = refl; value = refl }
pairs_back (b ∷ bs) (fits, small) =
    let rest = pairs_back bs small in
    let high = glyph_hex (b / 16) (omega arith) in
    let low = glyph_hex (b % 16) (omega arith) in
    let whole : 16 * (b / 16) + b % 16 ≡ b = omega arith in
    record {
      long = omega (arith, rest.long);
      digits = rw (high.0, low.0) rest.digits;
      value = rw (high.1, low.1, whole) (ap (λ (l : List ℕ). b ∷ l) rest.value);
    }

record IsDecimal (n : ℕ) (text : List ℕ) : Type 0 where
  some : 1 ≤ length text
  digits : list_all is_ascii_digit text ≡ true
  first : 0 < n → 48 < slice_index text 0
  zero_alone : n < 10 → length text ≡ 1
  value : decimal_behind 0 text ≡ n

decimal_one : (n : ℕ) → n < 10 → IsDecimal n ((48 + n) ∷ [])
decimal_one n small = record {
  some = omega arith;
  digits = grind (arith, nat_tests);
  first = λ positive. omega arith;
  zero_alone = λ below. refl;
  value = omega arith;
}

decimal_more : (n : ℕ) (digits : List ℕ) → 10 ≤ n → IsDecimal (n / 10) digits
    → IsDecimal n (digits ++ (48 + n % 10) ∷ [])
decimal_more n [] large front = absurd (omega (arith, front.some))
decimal_more n (d ∷ ds) large front = record {
  some = omega arith;
  digits = list_all-append is_ascii_digit (d ∷ ds) ((48 + n % 10) ∷ [])
      ∙ rw front.digits (grind (arith, nat_tests));
  first = λ positive. front.first (omega arith);
  zero_alone = λ below. absurd (omega arith);
  value = decimal_append 0 (48 + n % 10) (d ∷ ds) ∙ rw front.value (omega arith);
}

decimal_back : (n : ℕ) → n < 2 ^ 64 → IsDecimal n (decimal n)
decimal_back n small = decimal_by_steps IsDecimal decimal_one decimal_more n small

-- operands that are written are read
address_back : (at : ℕ) (text : List ℕ) → IsHex 16 at text → address text ≡ Some at
address_back at text is = rw (is.long, is.digits, is.value) refl

byte_back : (n : ℕ) (text : List ℕ) → IsHex 2 n text → hex_number 2 2 text ≡ Some n
byte_back n text is = rw (is.long, is.digits, is.value) refl

bytes_back : (bytes text : List ℕ) → IsPairs bytes text → 1 ≤ length bytes
    → length bytes ≤ MAX_POKE_BYTES → hex_bytes text ≡ Some bytes
bytes_back bytes text is some few =
    let even : (length text % 2 == 0) ≡ true = eq-eqb _ _ (omega (arith, is.long)) in
    let within : is_within 2 (2 * MAX_POKE_BYTES) (length text) ≡ true =
    and_from _ _ (le-leb 2 (length text) (omega (arith, is.long)))
    (le-leb (length text) 8192 (omega (arith, is.long))) in
    let test : is_hex_bytes text ≡ true = and_from _ _ (and_from _ _ even within) is.digits in
    rw (test, is.value) refl

number_back : (low high n : ℕ) (text : List ℕ) → IsDecimal n text → low ≤ n → n ≤ high
    → number_within low high text ≡ Some n
number_back low high n text is least most =
    let lone : ((length text == 1) || not (slice_index text 0 == 48)) ≡ true =
    ⊎_elim {A = n < 10} {B = 10 ≤ n}
    (λ small. or_left _ _ (eq-eqb _ _ (is.zero_alone small)))
    (λ large.
    let other : slice_index text 0 ≡ 48 → ⊥ = λ same. omega (arith, is.first (omega arith)) in
    or_right _ _ (not_from_false _ (ne_eqb _ _ other)))
    (cases_lt n 10) in
    let test : is_decimal text ≡ true =
    and_from _ _ (and_from _ _ (le-leb 1 (length text) is.some) lone) is.digits in
    let within : is_within low high n ≡ true =
    and_from _ _ (le-leb low n least) (le-leb n high most) in
    rw (test, is.value, within) refl

-- events that are written are read
time_back : (now : EfiTime) → IsTrue (is_in_calendar now)
    → now ≡ moment now.year now.month now.day now.hour now.minute now.second
    → event_of_words (codes "time" ∷ time_text now ∷ []) ≡ Ok (Time now)
time_back now in_calendar is =
    let read : Result EfiTime BaseFault → Result Event ScriptKind =
    λ r. ok_or (option_map Time (result_ok r)) BadOperand in
    let as_time : EfiTime → Result Event ScriptKind = λ t. Ok (Time t) in
    ap read (shows_back now.year now.month now.day now.hour now.minute now.second in_calendar)
    ∙ ap as_time (sym is)

drop_back : (file input : List ℕ) → IsTrue (is_file_name file) → IsTrue (is_input_name input)
    → event_of_words (codes "drop" ∷ file ∷ input ∷ []) ≡ Ok (Drop file input)
drop_back file input is_file is_input = rw (is_file, is_input) refl

lay_back : (place input : List ℕ) (at : ℕ) → address place ≡ Some at → IsTrue (is_input_name input)
    → event_of_words (codes "lay" ∷ place ∷ input ∷ []) ≡ Ok (Lay at input)
lay_back place input at is_at is_input = rw (is_at, is_input) refl

poke_back : (place digits bytes : List ℕ) (at : ℕ) → address place ≡ Some at
    → hex_bytes digits ≡ Some bytes
    → event_of_words (codes "poke" ∷ place ∷ digits ∷ []) ≡ Ok (Poke at bytes)
poke_back place digits bytes at is_at is_bytes = rw (is_at, is_bytes) refl

stage_back : (place : List ℕ) (at : ℕ) → address place ≡ Some at
    → event_of_words (codes "stage" ∷ place ∷ []) ≡ Ok (Stage at)
stage_back place at is_at = rw is_at refl

arm_back : (count : List ℕ) (more : List (List ℕ)) (after : ℕ) (left : Choice)
    → number_within 0 MAX_COUNT count ≡ Some after → choice more ≡ Some left
    → event_of_words (codes "arm" ∷ count ∷ more) ≡ Ok (Arm after left)
arm_back count more after left is_after is_left = rw (is_after, is_left) refl

fail_back : (count : List ℕ) (nth : ℕ) → number_within 1 MAX_COUNT count ≡ Some nth
    → event_of_words (codes "fail" ∷ count ∷ []) ≡ Ok (Fail nth)
fail_back count nth is_nth = rw is_nth refl

fill_back : (digits : List ℕ) (byte : ℕ) → hex_number 2 2 digits ≡ Some byte
    → choice (codes "fill" ∷ digits ∷ []) ≡ Some (Fill byte)
fill_back digits byte is_byte = rw is_byte refl

choice_back : (left : Choice) → FitsChoice left → choice (choice_words left) ≡ Some left
choice_back New fits = refl
choice_back Old fits = refl
choice_back Mix fits = refl
choice_back (Fill byte) fits =
    fill_back (hex_text 2 byte) byte (byte_back byte (hex_text 2 byte) (hex_back 2 byte fits))

event_back : (event : Event) → Fits event → event_of_words (event_words event) ≡ Ok event
event_back (Time now) (in_calendar, is) = time_back now in_calendar is
event_back (Drop file input) (is_file, is_input) = drop_back file input is_file is_input
event_back Signal fits = refl
event_back (Lay at input) (below, is_input) =
    lay_back (hex_text 16 at) input at
    (address_back at (hex_text 16 at) (hex_back 16 at below)) is_input
event_back (Poke at bytes) fits =
    poke_back (hex_text 16 at) (pairs_text bytes) bytes at
    (address_back at (hex_text 16 at) (hex_back 16 at fits.0))
    (bytes_back bytes (pairs_text bytes) (pairs_back bytes fits.3) fits.1 fits.2)
event_back (Stage at) below =
    stage_back (hex_text 16 at) at (address_back at (hex_text 16 at) (hex_back 16 at below))
event_back Boot fits = refl
event_back (Arm after left) (most, fits) =
    arm_back (decimal after) (choice_words left) after left
    (number_back 0 MAX_COUNT after (decimal after) (decimal_back after (omega arith))
    (omega arith) most) (choice_back left fits)
event_back (Fail nth) (least, most) =
    fail_back (decimal nth) nth
    (number_back 1 MAX_COUNT nth (decimal nth) (decimal_back nth (omega arith)) least most)
event_back (Reset true) fits = refl
event_back (Reset false) fits = refl
event_back Show fits = refl

-- bytes of one kind are of a wider kind
within_is : (low high n : ℕ) → low ≤ n → n ≤ high → is_within low high n ≡ true
within_is low high n least most = and_from _ _ (le-leb low n least) (le-leb n high most)

name_byte : (b : ℕ) → is_name_byte b ≡ true → is_within 0x21 0x7E b ≡ true
name_byte b is = grind (arith, nat_tests)

hex_byte : (b : ℕ) → is_hex_digit b ≡ true → is_within 0x21 0x7E b ≡ true
hex_byte b is = grind (arith, nat_tests)

digit_byte : (b : ℕ) → is_ascii_digit b ≡ true → is_within 0x21 0x7E b ≡ true
digit_byte b is = grind (arith, nat_tests)

plain_byte : (b : ℕ) → is_within 0x21 0x7E b ≡ true → is_within 0x20 0x7E b ≡ true
plain_byte b is = grind (arith, nat_tests)

line_from : (line : List ℕ) (its_words : List (List ℕ)) (event : Event) → is_plain line ≡ true
    → is_skipped line ≡ false
    → parts 32 line ≡ its_words → event_of_words its_words ≡ Ok event
    → line_said line ≡ Ok (Some event)
line_from line its_words event plain starts are reads = rw (plain, starts, are, reads) refl

-- the bytes of words that are written are visible
visible_name : (file : List ℕ) → IsTrue (is_file_name file) → Visible file
visible_name file ok =
    weaker is_name_byte (is_within 0x21 0x7E) (λ b is. name_byte b is) file (and_parts _ _ ok).1

visible_hex : (text : List ℕ) → list_all is_hex_digit text ≡ true → Visible text
visible_hex text all = weaker is_hex_digit (is_within 0x21 0x7E) (λ b is. hex_byte b is) text all

visible_decimal : (text : List ℕ) → list_all is_ascii_digit text ≡ true → Visible text
visible_decimal text all =
    weaker is_ascii_digit (is_within 0x21 0x7E) (λ b is. digit_byte b is) text all

two_visible : (n : ℕ) → n < 100
    → (is_within 0x21 0x7E (48 + n / 10) ≡ true) × (is_within 0x21 0x7E (48 + n % 10) ≡ true)
two_visible n small = (
  within_is 0x21 0x7E (48 + n / 10) (omega arith) (omega arith),
  within_is 0x21 0x7E (48 + n % 10) (omega arith) (omega arith),
)

visible_time : (now : EfiTime) → IsTrue (is_in_calendar now) → Visible (time_text now)
visible_time now in_calendar =
    let p1 = and_parts _ _ in_calendar in
    let p2 = and_parts _ _ p1.0 in
    let p3 = and_parts _ _ p2.0 in
    let p4 = and_parts _ _ p3.0 in
    let p5 = and_parts _ _ p4.0 in
    let p6 = and_parts _ _ p5.0 in
    let p7 = and_parts _ _ p6.0 in
    let p8 = and_parts _ _ p7.0 in
    let year : now.year ≤ 9999 = leb-true now.year 9999 p8.1 in
    let month : now.month ≤ 12 = leb-true now.month 12 p6.1 in
    let day : now.day ≤ days_in now.year now.month =
    leb-true now.day (days_in now.year now.month) p4.1 in
    let hour : now.hour ≤ 23 = leb-true now.hour 23 p3.1 in
    let minute : now.minute ≤ 59 = leb-true now.minute 59 p2.1 in
    let second : now.second ≤ 59 = leb-true now.second 59 p1.1 in
    let long : days_in now.year now.month ≤ 31 = most_days now.year now.month in
    let early : now.day ≤ 31 = omega (arith, day, long) in
    let v1 = two_visible (now.year / 100) (omega arith) in
    let v2 = two_visible (now.year % 100) (omega arith) in
    let v3 = two_visible now.month (omega arith) in
    let v4 = two_visible now.day (omega arith) in
    let v5 = two_visible now.hour (omega arith) in
    let v6 = two_visible now.minute (omega arith) in
    let v7 = two_visible now.second (omega arith) in
    rw (v1.0, v1.1, v2.0, v2.1, v3.0, v3.1, v4.0, v4.1, v5.0, v5.1, v6.0, v6.1, v7.0, v7.1) refl

visible_choice : (left : Choice) → FitsChoice left → AllByRecursion Visible (choice_words left)
visible_choice New fits = (refl, tt)
visible_choice Old fits = (refl, tt)
visible_choice Mix fits = (refl, tt)
visible_choice (Fill byte) fits =
    (refl, (visible_hex (hex_text 2 byte) (hex_back 2 byte fits).digits, tt))

visible_event : (event : Event) → Fits event → AllByRecursion Visible (event_words event)
visible_event (Time now) (in_calendar, is) = (refl, (visible_time now in_calendar, tt))
visible_event (Drop file input) (is_file, is_input) =
    (refl, (visible_name file is_file, ((and_parts _ _ is_input).1, tt)))
visible_event Signal fits = (refl, tt)
visible_event (Lay at input) (below, is_input) = (
  refl,
  (
    visible_hex (hex_text 16 at) (hex_back 16 at below).digits,
    ((and_parts _ _ is_input).1, tt),
  ),
)
visible_event (Poke at bytes) fits = (
  refl,
  (
    visible_hex (hex_text 16 at) (hex_back 16 at fits.0).digits,
    (visible_hex (pairs_text bytes) (pairs_back bytes fits.3).digits, tt),
  ),
)
visible_event (Stage at) below =
    (refl, (visible_hex (hex_text 16 at) (hex_back 16 at below).digits, tt))
visible_event Boot fits = (refl, tt)
visible_event (Arm after left) (most, fits) = (
  refl,
  (
    visible_decimal (decimal after) (decimal_back after (omega arith)).digits,
    visible_choice left fits,
  ),
)
visible_event (Fail nth) (least, most) =
    (refl, (visible_decimal (decimal nth) (decimal_back nth (omega arith)).digits, tt))
visible_event (Reset true) fits = (refl, (refl, tt))
visible_event (Reset false) fits = (refl, (refl, tt))
visible_event Show fits = (refl, tt)

-- a line of visible words is plain, and has those words
plain_line : (word : List ℕ) (more : List (List ℕ)) → AllByRecursion Visible (word ∷ more)
    → is_plain (join_with_byte 32 (word ∷ more)) ≡ true
plain_line word [] (here, rest) =
    weaker (is_within 0x21 0x7E) (is_within 0x20 0x7E) (λ b is. plain_byte b is) word here
plain_line word (next ∷ more) (here, rest) =
    list_all-append (is_within 0x20 0x7E) word (32 ∷ join_with_byte 32 (next ∷ more))
    ∙ and_from _ _
    (weaker (is_within 0x21 0x7E) (is_within 0x20 0x7E) (λ b is. plain_byte b is) word here)
    (plain_line next more rest)

no_spaces : (words : List (List ℕ)) → AllByRecursion Visible words
    → AllByRecursion (λ w. All (λ b. (b == 32) ≡ false) w) words
no_spaces [] visible = tt
no_spaces (word ∷ more) (here, rest) = (
  All-from_recursion (λ b. (b == 32) ≡ false) word (no_mark 0x21 32 (lit< tt) word here),
  no_spaces more rest,
)

-- a line whose first word begins with no `#` is not skipped
begins : (word : List ℕ) (more : List (List ℕ)) → is_skipped word ≡ false
    → is_skipped (join_with_byte 32 (word ∷ more)) ≡ false
begins word [] starts = starts
begins [] (next ∷ more) starts = absurd (true≢false starts)
begins (b ∷ bs) (next ∷ more) starts =
    let line = (b ∷ bs) ++ 32 ∷ join_with_byte 32 (next ∷ more) in
    let some : length line ≡ 0 → ⊥ = λ none. omega arith in
    or_from _ _ (ne_eqb (length line) 0 some) (or_parts _ _ starts).1

line_of_words : (word : List ℕ) (more : List (List ℕ)) (event : Event)
    → AllByRecursion Visible (word ∷ more)
    → is_skipped word ≡ false → event_of_words (word ∷ more) ≡ Ok event
    → line_said (join_with_byte 32 (word ∷ more)) ≡ Ok (Some event)
line_of_words word more event visible starts reads =
    let plain = plain_line word more visible in
    let parts_are = parts_back 32 word more (no_spaces (word ∷ more) visible) in
    line_from (join_with_byte 32 (word ∷ more)) (word ∷ more) event plain
    (begins word more starts) parts_are reads

refused : (line : List ℕ) (event : Event) → is_plain line ≡ false
    → line_said line ≡ Ok (Some event) → ⊥
refused line event other said =
    let bad : line_said line ≡ Err BadText = rw other refl in
    let clash : Err BadText ≡ Ok (Some event) = sym bad ∙ said in
    cc

with_event : (number before : ℕ) (line : List ℕ) (event : Event) (skipped taken : ScriptSaid)
    (events : List Event)
    → line_said line ≡ Ok (Some event) → nat_lt before MAX_EVENTS ≡ true → taken ≡ Ok events
    → with_line number before (line_said line) skipped taken ≡ Ok (event ∷ events)
with_event number before line event skipped taken events said room is = rw (said, room, is) refl

line_back : (event : Event) → Fits event → line_said (event_line event) ≡ Ok (Some event)
line_back (Time now) fits =
    line_of_words (codes "time") (time_text now ∷ []) (Time now)
    (visible_event (Time now) fits) refl (event_back (Time now) fits)
line_back (Drop file input) fits =
    line_of_words (codes "drop") (file ∷ input ∷ []) (Drop file input)
    (visible_event (Drop file input) fits) refl (event_back (Drop file input) fits)
line_back Signal fits =
    line_of_words (codes "signal") [] Signal (visible_event Signal fits) refl
    (event_back Signal fits)
line_back (Lay at input) fits =
    line_of_words (codes "lay") (hex_text 16 at ∷ input ∷ []) (Lay at input)
    (visible_event (Lay at input) fits) refl (event_back (Lay at input) fits)
line_back (Poke at bytes) fits =
    line_of_words (codes "poke") (hex_text 16 at ∷ pairs_text bytes ∷ []) (Poke at bytes)
    (visible_event (Poke at bytes) fits) refl (event_back (Poke at bytes) fits)
line_back (Stage at) fits =
    line_of_words (codes "stage") (hex_text 16 at ∷ []) (Stage at)
    (visible_event (Stage at) fits) refl (event_back (Stage at) fits)
line_back Boot fits =
    line_of_words (codes "boot") [] Boot (visible_event Boot fits) refl (event_back Boot fits)
line_back (Arm after left) fits =
    line_of_words (codes "arm") (decimal after ∷ choice_words left) (Arm after left)
    (visible_event (Arm after left) fits) refl (event_back (Arm after left) fits)
line_back (Fail nth) fits =
    line_of_words (codes "fail") (decimal nth ∷ []) (Fail nth) (visible_event (Fail nth) fits) refl
    (event_back (Fail nth) fits)
line_back (Reset true) fits =
    line_of_words (codes "reset") (codes "cold" ∷ []) (Reset true)
    (visible_event (Reset true) fits) refl (event_back (Reset true) fits)
line_back (Reset false) fits =
    line_of_words (codes "reset") (codes "warm" ∷ []) (Reset false)
    (visible_event (Reset false) fits) refl (event_back (Reset false) fits)
line_back Show fits =
    line_of_words (codes "show") [] Show (visible_event Show fits) refl (event_back Show fits)

-- a line that says an event has no line feed
one_line : (line : List ℕ) (event : Event) → line_said line ≡ Ok (Some event)
    → All (λ b. (b == 10) ≡ false) line
one_line line event said = ⊎_elim {A = is_plain line ≡ true} {B = is_plain line ≡ false}
    (λ plain. All-from_recursion (λ b. (b == 10) ≡ false) line
    (no_mark 0x20 10 (lit< tt) line plain))
    (λ other. absurd (refused line event other said))
    (cases_Bool (is_plain line))

-- the lines of a script that is written: that of each event, and an empty one behind the last line
-- feed
abbrev lines_of : List Event → List (List ℕ)
lines_of [] = [] ∷ []
lines_of (event ∷ events) = event_line event ∷ lines_of events

lines_back : (events : List Event) → AllByRecursion Fits events
    → parts 10 (script_text events) ≡ lines_of events
lines_back [] fits = refl
lines_back (event ∷ events) (here, rest) =
    ap (parts 10) (append_assoc (event_line event) (10 ∷ []) (script_text events))
    ∙ slice_split_at (λ b. b == 10) (event_line event) 10 (script_text events)
    (one_line (event_line event) event (line_back event here)) refl
    ∙ ap (λ (l : List (List ℕ)). event_line event ∷ l) (lines_back events rest)

said_back : (number before : ℕ) (events : List Event) → AllByRecursion Fits events
    → before + length events ≤ MAX_EVENTS
    → lines_said number before (lines_of events) ≡ Ok events
said_back number before [] fits few = refl
said_back number before (event ∷ events) (here, rest) few =
    let room : nat_lt before MAX_EVENTS ≡ true = lt-ltb before MAX_EVENTS (omega arith) in
    let more = said_back (number + 1) (before + 1) events rest (omega arith) in
    with_event number before (event_line event) event
    (lines_said (number + 1) before (lines_of events))
    (lines_said (number + 1) (before + 1) (lines_of events)) events
    (line_back event here) room more

pub script_back : (events : List Event) → AllByRecursion Fits events → length events ≤ MAX_EVENTS
    → script_said (script_text events) ≡ Ok events
script_back events fits few =
    ap (lines_said 1 0) (lines_back events fits) ∙ said_back 1 0 events fits (omega arith)
