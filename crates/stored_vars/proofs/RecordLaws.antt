-- The record of a device: what is written is read again, and nothing else is read.
use Rattle.std.proofs.Common.{◌≡◌, ℕ, Bool, true, false, ◌&&◌, cond, List, ◌++◌, length}
use Rattle.std.proofs.Common.{replicate, Option, Some, None, IfSome, option_map, is_some}
use Rattle.std.proofs.Common.{option_and_then, refl, sym, ap, subst, ◌∙◌, arith}
use Rattle.std.specs.Str.{bytes_eq}
use Rattle.std.proofs.lemmas.List.{take_at}
use Rattle.std.proofs.lemmas.Slice.Eq.{bytes_eq-Decides}
use Rattle.cu_base.specs.Bytes.{IsBytes}
use Rattle.cu_base.proofs.Fields.{number-bytes_of, number_at-below}
use Rattle.cu_base.specs.declared.device_state.DevState.{DevState}
use Rattle.stored_vars.specs.Records.{claim_at, claim_bytes, claim_spelled, claim_with, is_claim_named}
use Rattle.stored_vars.specs.Records.{is_flagged, is_key_name, is_record, name_at, numbers_at}
use Rattle.stored_vars.specs.Records.{has_claim, numbers_of, record_at, record_bytes, record_in, state_in}
use Rattle.stored_vars.specs.Records.{state_at_front, state_bytes, IsClaim, IsRecord, IsState}
use Rattle.stored_vars.specs.declared.claim.Claim.{Claim}
use Rattle.stored_vars.specs.declared.claim.DevRec.{DevRec}
use Rattle.stored_vars.specs.declared.record.ClaimNumbers.{ClaimNumbers}
use Rattle.stored_vars.proofs.LastLemmas.{and_second}
use Rattle.stored_vars.proofs.RecordLemmas.{record_flagged, record_bare, record_name, record_size}

abbrev made_state : ℕ → ℕ → ℕ → ℕ → DevState
made_state version floor last_version last_status = record {
  version = version;
  floor = floor;
  last_version = last_version;
  last_status = last_status;
}

same_state : (a a' b b' c c' d d' : ℕ) → a ≡ a' → b ≡ b' → c ≡ c' → d ≡ d'
    → made_state a b c d ≡ made_state a' b' c' d'
same_state a a' b b' c c' d d' ea eb ec ed = rw (ea, eb, ec, ed) refl

-- the state in front of whatever follows
state_again : (s : DevState) (rest : List ℕ) → IsState s
    → state_at_front (state_bytes s ++ rest) ≡ s
state_again s rest is =
    same_state _ s.version _ s.floor _ s.last_version _ s.last_status
    (number-bytes_of 4 s.version is.version) (number-bytes_of 4 s.floor is.floor)
    (number-bytes_of 4 s.last_version is.last_version)
    (number-bytes_of 4 s.last_status is.last_status)

abbrev made_numbers : ℕ → ℕ → ℕ → ℕ → ℕ → ℕ → ℕ → ℕ → ClaimNumbers
made_numbers route capsule item serial unit version floor size = record {
  ticket = record { route = route; capsule = capsule; item = item; serial = serial };
  unit = unit;
  version = version;
  floor = floor;
  size = size;
}

same_numbers : (r c i s s' u u' v v' f f' n n' : ℕ) → s ≡ s' → u ≡ u' → v ≡ v' → f ≡ f' → n ≡ n'
    → made_numbers r c i s u v f n ≡ made_numbers r c i s' u' v' f' n'
same_numbers r c i s s' u u' v v' f f' n n' es eu ev ef en = rw (es, eu, ev, ef, en) refl

-- the spelling of a record with a claim
abbrev spelled : DevState → Claim → List ℕ
spelled s c = state_bytes s ++ claim_spelled (numbers_of c) c.key.name

numbers_again : (d : ℕ) (s : DevState) (c : Claim) → IsClaim d c
    → numbers_at (spelled s c) ≡ numbers_of c
numbers_again d s c is =
    same_numbers c.key.ticket.route c.key.ticket.capsule c.key.ticket.item
    _ c.key.ticket.serial _ c.key.unit _ c.version _ c.floor _ c.length
    (number-bytes_of 8 c.key.ticket.serial is.serial) (number-bytes_of 4 c.key.unit is.unit)
    (number-bytes_of 4 c.version is.version) (number-bytes_of 4 c.floor is.floor)
    (number-bytes_of 4 c.length is.size)

name_again : (s : DevState) (c : Claim) → name_at (spelled s c) ≡ c.key.name
name_again s c = take_at c.key.name _ (length c.key.name) refl

itself : (l : List ℕ) → bytes_eq l l ≡ true
itself l = (bytes_eq-Decides l l).1 refl

-- ---- what is written is read again

none_is : (s : DevState) → IsState s → is_record (state_bytes s ++ replicate 80 0) ≡ true
none_is s is =
    let w = state_bytes s ++ replicate 80 0 in
    record_bare w refl
    ∙ ap (λ x. bytes_eq (state_bytes x ++ replicate 80 0) w) (state_again s (replicate 80 0) is)
    ∙ itself w

claim_is : (d : ℕ) (s : DevState) (c : Claim) → IsState s → IsClaim d c
    → is_record (spelled s c) ≡ true
claim_is d s c state is =
    let w = spelled s c in
    record_flagged w refl
    ∙ ap (λ x. is_key_name (name_at w)
    && bytes_eq (state_bytes x ++ claim_spelled (numbers_at w) (name_at w)) w)
    (state_again s (claim_spelled (numbers_of c) c.key.name) state)
    ∙ ap (λ x. is_key_name (name_at w)
    && bytes_eq (state_bytes s ++ claim_spelled x (name_at w)) w) (numbers_again d s c is)
    ∙ ap (λ x. is_key_name x && bytes_eq (state_bytes s ++ claim_spelled (numbers_of c) x) w)
    (name_again s c)
    ∙ ap (λ z. z && bytes_eq w w) is.name ∙ itself w

abbrev made_record : DevState → Option Claim → DevRec
made_record s c = record { state = s; claim = c }

device_is : (d : ℕ) (c : Claim) → c.key.device ≡ d
    → claim_with d (numbers_of c) c.key.name ≡ c
device_is d c e = ap (λ x. claim_with x (numbers_of c) c.key.name) (sym e)

by_claim : (d : ℕ) (s : DevState) (o : Option Claim) → IsState s → IfSome o (IsClaim d)
    → record_in d (record_bytes (made_record s o)) ≡ Some (made_record s o)
by_claim d s None state is =
    let w = state_bytes s ++ replicate 80 0 in
    ap (λ z. cond z (Some (record_at d w)) None) (none_is s state)
    ∙ ap (λ x. Some (made_record x None)) (state_again s (replicate 80 0) state)
by_claim d s (Some c) state is =
    let w = spelled s c in
    ap (λ z. cond z (Some (record_at d w)) None) (claim_is d s c state is)
    ∙ ap (λ x. Some (made_record x (Some (claim_at d w))))
    (state_again s (claim_spelled (numbers_of c) c.key.name) state)
    ∙ ap (λ x. Some (made_record s (Some (claim_with d x (name_at w)))))
    (numbers_again d s c is)
    ∙ ap (λ x. Some (made_record s (Some (claim_with d (numbers_of c) x)))) (name_again s c)
    ∙ ap (λ x. Some (made_record s (Some x))) (device_is d c is.device)

pub record_again : (d : ℕ) (r : DevRec) → IsRecord d r → record_in d (record_bytes r) ≡ Some r
record_again d r is = by_claim d r.state r.claim is.state is.claim

-- ---- nothing else is read

-- the device is not in the bytes
no_device : (d : ℕ) (b : List ℕ) → record_bytes (record_at d b) ≡ record_bytes (record_at 0 b)
no_device d b = by_flag (is_flagged b)
  where
    by_flag : (z : Bool)
        → state_bytes (state_at_front b) ++ claim_bytes (cond z (Some (claim_at d b)) None)
        ≡ state_bytes (state_at_front b) ++ claim_bytes (cond z (Some (claim_at 0 b)) None)
    by_flag true = refl
    by_flag false = refl

pub record_back : (d : ℕ) (b : List ℕ) (r : DevRec) → record_in d b ≡ Some r → record_bytes r ≡ b
record_back d b r read = by_test (is_record b) refl
  where
    by_test : (z : Bool) → is_record b ≡ z → record_bytes r ≡ b
    by_test false e =
        let none : record_in d b ≡ None = ap (λ z. cond z (Some (record_at d b)) None) e in
        absurd cc
    by_test true e =
        let some : record_in d b ≡ Some (record_at d b) =
        ap (λ z. cond z (Some (record_at d b)) None) e in
        let same : record_at d b ≡ r = cc in
        ap record_bytes (sym same) ∙ no_device d b
        ∙ (bytes_eq-Decides (record_bytes (record_at 0 b)) b).0
        (and_second (is_claim_named (record_at 0 b).claim) _ e)

-- ---- what else is read

-- the state and the claim of a record
pub state_read : (d : ℕ) (b : List ℕ)
    → state_in b ≡ option_map (λ (r : DevRec). r.state) (record_in d b)
state_read d b = by_test (is_record b)
  where
    by_test : (z : Bool) → cond z (Some (state_at_front b)) None
        ≡ option_map (λ (r : DevRec). r.state) (cond z (Some (record_at d b)) None)
    by_test true = refl
    by_test false = refl

pub claim_read : (d : ℕ) (b : List ℕ)
    → has_claim b ≡ is_some (option_and_then (λ (r : DevRec). r.claim) (record_in d b))
claim_read d b = by_test (is_record b) (is_flagged b)
  where
    by_test : (z f : Bool) → (z && f)
        ≡ is_some (option_and_then (λ (r : DevRec). r.claim)
        (cond z (Some (made_record (state_at_front b) (cond f (Some (claim_at d b)) None))) None))
    by_test true true = refl
    by_test true false = refl
    by_test false f = refl

-- what is read of bytes is a record of the device
state_width : (b : List ℕ) → IsBytes b → length b ≡ 96 → IsState (state_at_front b)
state_width b is long = record {
  version = number_at-below b 0 4 is (omega (arith, long));
  floor = number_at-below b 4 4 is (omega (arith, long));
  last_version = number_at-below b 8 4 is (omega (arith, long));
  last_status = number_at-below b 12 4 is (omega (arith, long));
}

claim_width : (d : ℕ) (b : List ℕ) → IsBytes b → length b ≡ 96
    → is_key_name (name_at b) ≡ true → IsClaim d (claim_at d b)
claim_width d b is long name = record {
  route = is 17;
  capsule = is 18;
  item = is 19;
  serial = number_at-below b 24 8 is (omega (arith, long));
  unit = number_at-below b 20 4 is (omega (arith, long));
  device = refl;
  name = name;
  version = number_at-below b 32 4 is (omega (arith, long));
  floor = number_at-below b 36 4 is (omega (arith, long));
  size = number_at-below b 40 4 is (omega (arith, long));
}

pub record_width : (d : ℕ) (b : List ℕ) (r : DevRec) → IsBytes b → record_in d b ≡ Some r
    → IsRecord d r
record_width d b r is read = by_test (is_record b) refl
  where
    claimed : is_record b ≡ true → (z : Bool) → is_flagged b ≡ z
        → IfSome (cond z (Some (claim_at d b)) None) (IsClaim d)
    claimed here true e = claim_width d b is (record_size b here) (record_name b here e)
    claimed here false e = tt

    by_test : (z : Bool) → is_record b ≡ z → IsRecord d r
    by_test false e =
        let none : record_in d b ≡ None = ap (λ z. cond z (Some (record_at d b)) None) e in
        absurd cc
    by_test true e =
        let some : record_in d b ≡ Some (record_at d b) =
        ap (λ z. cond z (Some (record_at d b)) None) e in
        let same : record_at d b ≡ r = cc in
        subst (IsRecord d) same (record {
          state = state_width b is (record_size b e);
          claim = claimed e (is_flagged b) refl;
        })
