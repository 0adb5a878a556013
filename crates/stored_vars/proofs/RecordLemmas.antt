-- The record of a device: what was written of it, and when bytes are one.
use Rattle.std.proofs.Common.{◌≡◌, ℕ, zero, suc, ◌+◌, ◌-◌, ◌<◌, ◌≤◌, ◌==◌, true, false}
use Rattle.std.proofs.Common.{◌&&◌, cond, nat_le, List, [], ◌∷◌, ◌++◌, length, take, drop, min}
use Rattle.std.proofs.Common.{replicate, Some, None, refl, sym, ap, ◌∙◌, arith, inl, inr}
use Rattle.std.proofs.Common.{append_assoc, length-append}
use Rattle.std.specs.List.{list_all, All}
use Rattle.std.specs.Str.{bytes_eq, IsUtf8}
use Rattle.std.proofs.lemmas.Bool.{eqb-true, leb-true, or_cases, cases_Bool, cases_lt}
use Rattle.std.proofs.lemmas.List.{take_all, length-replicate, length-drop, drop-replicate}
use Rattle.std.proofs.lemmas.Slice.Eq.{bytes_eq-Decides}
use Rattle.std.proofs.lemmas.Str.{IsUtf8-from_ascii}
use Rattle.std.proofs.lemmas.Str.Ascii.{IsAscii-from_all}
use Rattle.cu_base.specs.declared.device_state.DevState.{DevState}
use Rattle.bench_model.specs.declared.outside_limits.TheConstants.{MAX_FILE_NAME}
use Rattle.bench_model.specs.Files.{is_file_name}
use Rattle.bench_model.specs.Names.{is_name_byte}
use Rattle.stored_vars.specs.Records.{claim_at, claim_front, claim_spelled, is_claim_named}
use Rattle.stored_vars.specs.Records.{is_flagged, is_key_name, is_record, name_at, name_bytes}
use Rattle.stored_vars.specs.Records.{numbers_at, record_bytes, state_at_front, state_bytes}
use Rattle.stored_vars.specs.declared.record.ClaimNumbers.{ClaimNumbers}
use Rattle.stored_vars.proofs.LastLemmas.{and_first, and_second}

-- ---- names

name_byte_below : (b : ℕ) → is_name_byte b ≡ true → b < 128
name_byte_below b is = elim (cases_Bool (nat_le b 127)) [
  | inl low ↦ omega (arith, leb-true _ _ low)
  | inr high ↦ absurd (grind arith)
]

key_name_short : (name : List ℕ) → is_key_name name ≡ true → length name ≤ 40
key_name_short name is = elim (or_cases (length name == 0) (is_file_name name) is) [
  | inl empty ↦ omega (arith, eqb-true _ _ empty)
  | inr file ↦ leb-true _ _ (and_second (nat_le 1 (length name)) _
      (and_first (nat_le 1 (length name) && nat_le (length name) MAX_FILE_NAME) _ file))
]

each_below : (b : ℕ) (name : List ℕ) → b < 128 → All (λ x. x < 128) name
    → All (λ x. x < 128) (b ∷ name)
each_below b name low rest zero d within = low
each_below b name low rest (suc k) d within = rest k d (omega arith)

ascii_bytes : (name : List ℕ) → list_all is_name_byte name ≡ true → All (λ b. b < 128) name
ascii_bytes [] is = λ k d within. absurd (omega arith)
ascii_bytes (b ∷ name) is =
    each_below b name (name_byte_below b (and_first (is_name_byte b) _ is))
    (ascii_bytes name (and_second (is_name_byte b) _ is))

no_bytes : (name : List ℕ) → length name ≡ 0 → All (λ b. b < 128) name
no_bytes name e k d within = absurd (omega (arith, e))

-- a name that may stand in a key is text
pub key_name_is_text : (name : List ℕ) → is_key_name name ≡ true → IsUtf8 name
key_name_is_text name is =
    IsUtf8-from_ascii name (IsAscii-from_all name
    (elim (or_cases (length name == 0) (is_file_name name) is) [
      | inl empty ↦ no_bytes name (eqb-true _ _ empty)
      | inr file ↦ ascii_bytes name (and_second
          (nat_le 1 (length name) && nat_le (length name) MAX_FILE_NAME)
          (list_all is_name_byte name) file)
    ]))

-- the name of a claim, cut where the record ends
pub name_cut : (bytes : List ℕ) (m n : ℕ) → length bytes ≡ 96 → m ≡ min n 48
    → take (48 + m - 48) (drop 48 bytes) ≡ take n (drop 48 bytes)
name_cut bytes m n long e = elim (cases_lt n 48) [
  | inl low ↦ ap (λ k. take k (drop 48 bytes)) (omega (arith, e))
  | inr high ↦
      take_all (48 + m - 48) (drop 48 bytes) (omega (arith, e, length-drop 48 bytes))
      ∙ sym (take_all n (drop 48 bytes) (omega (arith, length-drop 48 bytes)))
]

-- ---- what was written

-- bytes whose front to some place behind their end is this are this
pub whole_front : (bytes all : List ℕ) (n : ℕ) → length bytes ≤ n → take n bytes ≡ all
    → bytes ≡ all
whole_front bytes all n short e = sym (take_all n bytes short) ∙ e

pub name_put : (b0 b1 b2 b3 name zeros : List ℕ) (n : ℕ) → length b3 ≤ n
    → take 48 b1 ≡ take 44 b0 ++ (length name ∷ 0 ∷ 0 ∷ 0 ∷ [])
    → take (48 + length name) b2 ≡ take 48 b1 ++ name
    → take n b3 ≡ take (48 + length name) b2 ++ zeros
    → zeros ≡ replicate (48 - length name) 0
    → b3 ≡ take 44 b0 ++ name_bytes name
name_put b0 b1 b2 b3 name zeros n short e1 e2 e3 ez =
    whole_front b3 _ n short (e3 ∙ ap (λ l. l ++ zeros) (e2 ∙ ap (λ l. l ++ name) e1)
    ∙ ap (λ l. take 44 b0 ++ (length name ∷ 0 ∷ 0 ∷ 0 ∷ []) ++ name ++ l) ez
    ∙ simp append_assoc)

-- what is left of zeros
pub zeros_left : (n : ℕ)
    → take (48 - n) (drop n (replicate {A = ℕ} 48 0)) ≡ replicate {A = ℕ} (48 - n) 0
zeros_left n =
    let zeros : drop n (replicate {A = ℕ} 48 0) ≡ replicate {A = ℕ} (48 - n) 0 =
    drop-replicate n 48 0 in
    let long : length (replicate {A = ℕ} (48 - n) 0) ≡ 48 - n = length-replicate (48 - n) 0 in
    ap (take (48 - n)) zeros
    ∙ take_all (48 - n) (replicate {A = ℕ} (48 - n) 0) (omega (arith, long))

-- ---- when bytes are a record

pub record_bare : (bytes : List ℕ) → is_flagged bytes ≡ false
    → is_record bytes
    ≡ bytes_eq (state_bytes (state_at_front bytes) ++ replicate 80 0) bytes
record_bare bytes e =
    ap (λ z. is_claim_named (cond z (Some (claim_at 0 bytes)) None)
    && bytes_eq (record_bytes (record {
      state = state_at_front bytes;
      claim = cond z (Some (claim_at 0 bytes)) None;
    })) bytes) e

pub record_flagged : (bytes : List ℕ) → is_flagged bytes ≡ true
    → is_record bytes
    ≡ (is_key_name (name_at bytes)
    && bytes_eq (state_bytes (state_at_front bytes)
    ++ claim_spelled (numbers_at bytes) (name_at bytes)) bytes)
record_flagged bytes e =
    ap (λ z. is_claim_named (cond z (Some (claim_at 0 bytes)) None)
    && bytes_eq (record_bytes (record {
      state = state_at_front bytes;
      claim = cond z (Some (claim_at 0 bytes)) None;
    })) bytes) e

bare_size : (s : DevState) → length (state_bytes s ++ replicate 80 0) ≡ 96
bare_size s = refl

name_size : (name : List ℕ) → length name ≤ 40 → length (name_bytes name) ≡ 52
name_size name short =
    length-append (length name ∷ 0 ∷ 0 ∷ 0 ∷ name) (replicate (48 - length name) 0)
    ∙ ap (λ n. length (length name ∷ 0 ∷ 0 ∷ 0 ∷ name) + n)
    (length-replicate (48 - length name) 0)
    ∙ omega arith

claimed_size : (s : DevState) (n : ClaimNumbers) (name : List ℕ) → length name ≤ 40
    → length (state_bytes s ++ claim_spelled n name) ≡ 96
claimed_size s n name short =
    length-append (state_bytes s ++ claim_front n) (name_bytes name)
    ∙ ap (λ m. 44 + m) (name_size name short)

-- a record has 96 bytes
pub record_size : (bytes : List ℕ) → is_record bytes ≡ true → length bytes ≡ 96
record_size bytes is = elim (cases_Bool (is_flagged bytes)) [
  | inl flag ↦
      let both = sym (record_flagged bytes flag) ∙ is in
      let name = and_first (is_key_name (name_at bytes)) _ both in
      let same = (bytes_eq-Decides (state_bytes (state_at_front bytes)
      ++ claim_spelled (numbers_at bytes) (name_at bytes)) bytes).0
      (and_second (is_key_name (name_at bytes)) _ both) in
      ap length (sym same)
      ∙ claimed_size (state_at_front bytes) (numbers_at bytes) (name_at bytes)
      (key_name_short (name_at bytes) name)
  | inr flag ↦
      let same = (bytes_eq-Decides (state_bytes (state_at_front bytes) ++ replicate 80 0) bytes).0
      (sym (record_bare bytes flag) ∙ is) in
      ap length (sym same) ∙ bare_size (state_at_front bytes)
]

-- a record that is flagged has a name that may stand in it
pub record_name : (bytes : List ℕ) → is_record bytes ≡ true → is_flagged bytes ≡ true
    → is_key_name (name_at bytes) ≡ true
record_name bytes is flag =
    and_first (is_key_name (name_at bytes)) _ (sym (record_flagged bytes flag) ∙ is)
