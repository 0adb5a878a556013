-- The record of a device with an open claim has its widths.
use Rattle.std.proofs.Common.{◌≡◌, ℕ, true, false, Bool, List, Option, None, Some, IfSome, cond}
use Rattle.std.proofs.Common.{option_map, refl, sym, ap, ◌∙◌, subst, ◌&&◌}
use Rattle.std.specs.Prelude.{option_and_then}
use Rattle.bench_model.specs.Boards.{BoardValue}
use Rattle.cu_base.specs.declared.device_state.DevState.{DevState}
use Rattle.dev_claims.specs.Claimed.{IsWide}
use Rattle.stored_vars.specs.Holds.{bytes_in, claim_of, device_of, factory_state}
use Rattle.stored_vars.specs.Records.{IsClaim, IsRecord, IsState, has_claim, is_flagged, is_record}
use Rattle.stored_vars.specs.Records.{record_at, record_in, state_in}
use Rattle.stored_vars.specs.declared.claim.Claim.{Claim}
use Rattle.stored_vars.specs.declared.claim.DevRec.{DevRec}
use Rattle.stored_vars.specs.declared.variable.StoredVar.TheVariants.{Device}
use Rattle.var_log.specs.Changes.{Variables}

pub wide_of : (board : BoardValue) (variables : Variables) (d : ℕ) (bytes : List ℕ)
    → bytes_in variables (Device d) ≡ Some bytes → has_claim bytes ≡ true
    → ((r : DevRec) → record_in d bytes ≡ Some r → IsRecord d r) → IsWide board variables d
wide_of board variables d bytes there claimed fits = by_record (is_record bytes) refl claimed
  where
    by_record : (b : Bool) → is_record bytes ≡ b → (b && is_flagged bytes) ≡ true
        → IsWide board variables d
    by_record false e k = absurd (let z : false ≡ true = k in cc)
    by_record true e k =
        let read : record_in d bytes ≡ Some (record_at d bytes) =
        ap (λ b. cond b (Some (record_at d bytes)) None) e in
        let wide : IsRecord d (record_at d bytes) = fits (record_at d bytes) read in
        let state_is : device_of board variables d ≡ (record_at d bytes).state =
        ap (λ (o : Option (List ℕ)).
        Rattle.std.specs.Prelude.unwrap_or (option_and_then state_in o) (factory_state board d)) there
        ∙ ap (λ b. Rattle.std.specs.Prelude.unwrap_or
        (cond b (Some (record_at d bytes).state) None) (factory_state board d)) e in
        let claim_is : claim_of variables d ≡ (record_at d bytes).claim =
        ap (λ (o : Option (List ℕ)).
        option_and_then (λ (r : DevRec). r.claim) (option_and_then (record_in d) o)) there
        ∙ ap (λ (o : Option DevRec). option_and_then (λ (r : DevRec). r.claim) o) read in
        record {
          state = subst IsState (sym state_is) wide.state;
          claim = subst (λ (o : Option Claim). IfSome o (IsClaim d)) (sym claim_is) wide.claim;
        }
