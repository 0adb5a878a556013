-- The claim that is open in a store: there is one where a device is claimed, and it is of a device
-- of the board.
use Rattle.std.proofs.Common.{◌≡◌, ℕ, zero, suc, ◌+◌, ◌<◌, ◌≤◌, Bool, true, false, cond, List}
use Rattle.std.proofs.Common.{length, find, Option, Some, None, refl, sym, ap, ◌∙◌, subst, arith}
use Rattle.std.proofs.Common.{◌&&◌}
use Rattle.std.specs.Prelude.{is_some, option_and_then, option_map, unwrap_or}
use Rattle.std.specs.List.{range_with_len}
use Rattle.bench_model.specs.Boards.{BoardValue, IsBoard}
use Rattle.bench_model.specs.declared.limits.TheConstants.{MAX_DEVICES}
use Rattle.dev_claims.specs.Claimed.{open_claim_of}
use Rattle.stored_vars.specs.Holds.{bytes_in, claim_of, is_claimed, open_device_of}
use Rattle.stored_vars.specs.Records.{claim_at, has_claim, is_flagged, is_key_name, is_record}
use Rattle.stored_vars.specs.Records.{record_in, state_at_front}
use Rattle.stored_vars.specs.declared.claim.Claim.{Claim}
use Rattle.stored_vars.specs.declared.claim.DevRec.{DevRec}
use Rattle.stored_vars.specs.declared.variable.StoredVar.TheVariants.{Device}
use Rattle.stored_vars.proofs.RecordLemmas.{record_name}
use Rattle.var_log.specs.Changes.{Variables}

-- a number that was found is one of the range, and does
pub record IsFound (p : ℕ → Bool) (end d : ℕ) : Type 0 where
  pub low : d < end
  pub does : p d ≡ true

pub found_is : (p : ℕ → Bool) (n k d : ℕ) → find p (range_with_len k n) ≡ Some d
    → IsFound p (k + n) d
found_is p zero k d e = absurd cc
found_is p (suc n) k d e = by_test (p k) refl e (found_is p n (k + 1) d)
  where
    by_test : (t : Bool) → p k ≡ t
        → cond t (Some k) (find p (range_with_len (k + 1) n)) ≡ Some d
        → (find p (range_with_len (k + 1) n) ≡ Some d → IsFound p (k + 1 + n) d)
        → IsFound p (k + suc n) d
    by_test true is e later =
        let same : k ≡ d = cc in
        record { low = omega (arith, same); does = ap p (sym same) ∙ is }
    by_test false is e later =
        let f = later e in
        let low : d < k + 1 + n = f.low in
        record { low = omega (arith, low); does = f.does }

-- a claim is of a device, and its name may stand in it
pub record IsOf (d : ℕ) (c : Claim) : Type 0 where
  pub device : c.key.device ≡ d
  pub name : is_key_name c.key.name ≡ true

-- the record that these tests tell
abbrev pub record_by : ℕ → List ℕ → Bool → Bool → Option DevRec
record_by d bytes is flagged =
    cond is (Some (record {
      state = state_at_front bytes;
      claim = cond flagged (Some (claim_at d bytes)) None;
    })) None

claim_is : (d : ℕ) (o : Option (List ℕ)) (c : Claim)
    → option_and_then (λ r. r.claim) (option_and_then (record_in d) o) ≡ Some c → IsOf d c
claim_is d None c e = absurd cc
claim_is d (Some bytes) c e = by_tests (is_record bytes) (is_flagged bytes) refl refl e
  where
    by_tests : (r f : Bool) → is_record bytes ≡ r → is_flagged bytes ≡ f
        → option_and_then (λ x. x.claim) (record_by d bytes r f) ≡ Some c → IsOf d c
    by_tests true true er ef h =
        let same : claim_at d bytes ≡ c = cc in
        record {
          device = ap (λ x. x.key.device) (sym same);
          name = ap (λ x. is_key_name x.key.name) (sym same) ∙ record_name bytes er ef;
        }
    by_tests true false er ef h = absurd cc
    by_tests false f er ef h = absurd cc

claim_there : (d : ℕ) (o : Option (List ℕ)) → unwrap_or (option_map has_claim o) false ≡ true
    → is_some (option_and_then (λ r. r.claim) (option_and_then (record_in d) o)) ≡ true
claim_there d None e = absurd cc
claim_there d (Some bytes) e = by_tests (is_record bytes) (is_flagged bytes) refl refl e
  where
    by_tests : (r f : Bool) → is_record bytes ≡ r → is_flagged bytes ≡ f → (r && f) ≡ true
        → is_some (option_and_then (λ x. x.claim) (record_by d bytes r f)) ≡ true
    by_tests true true er ef h = refl
    by_tests true false er ef h = absurd cc
    by_tests false f er ef h = absurd cc

-- a claim is there exactly where a device is claimed
pub as_open : (board : BoardValue) (variables : Variables)
    → is_some (open_claim_of board variables) ≡ is_some (open_device_of board variables)
as_open board variables = by_device (open_device_of board variables) refl
  where
    by_device : (o : Option ℕ) → open_device_of board variables ≡ o
        → is_some (option_and_then (claim_of variables) o) ≡ is_some o
    by_device None e = refl
    by_device (Some d) e =
        claim_there d (bytes_in variables (Device d))
        (found_is (is_claimed variables) (length board.devices) 0 d e).does

-- an open claim is of a device of the board
pub record IsOpenClaim (board : BoardValue) (variables : Variables) (c : Claim) : Type 0 where
  pub device : c.key.device < length board.devices
  pub first : open_device_of board variables ≡ Some c.key.device
  pub name : is_key_name c.key.name ≡ true

pub open_claim_is : (board : BoardValue) (variables : Variables) (c : Claim)
    → open_claim_of board variables ≡ Some c → IsOpenClaim board variables c
open_claim_is board variables c is = by_device (open_device_of board variables) refl is
  where
    by_device : (o : Option ℕ) → open_device_of board variables ≡ o
        → option_and_then (claim_of variables) o ≡ Some c → IsOpenClaim board variables c
    by_device None e h = absurd cc
    by_device (Some d) e h =
        let of = claim_is d (bytes_in variables (Device d)) c h in
        let found : d < 0 + length board.devices =
        (found_is (is_claimed variables) (length board.devices) 0 d e).low in
        let low : d < length board.devices = omega (arith, found) in
        record {
          device = subst (λ (k : ℕ). k < length board.devices) (sym of.device) low;
          first = e ∙ ap Some (sym of.device);
          name = of.name;
        }

-- the device of an open claim has a number of its own
pub open_low : (board : BoardValue) (variables : Variables) (d : ℕ) → IsBoard board
    → open_device_of board variables ≡ Some d → d < MAX_DEVICES
open_low board variables d rule e =
    let low : d < 0 + length board.devices =
    (found_is (is_claimed variables) (length board.devices) 0 d e).low in
    let most : length board.devices ≤ MAX_DEVICES = rule.devices in
    omega (arith, low, most)
