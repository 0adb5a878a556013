-- What the settlement of an open claim asks of the bench.
use Rattle.std.proofs.Common.{◌≡◌, ℕ, ◌+◌, ◌<◌, ◌∙◌, List, length, arith, sym, true, true≢false}
use Rattle.std.proofs.Common.{Option, None, Some}
use Rattle.std.specs.Prelude.{is_some}
use Rattle.bench_model.specs.Bench.{BenchValue, region_of}
use Rattle.bench_model.specs.Boards.{BoardValue}
use Rattle.cu_base.specs.declared.time.EfiTime.{EfiTime}
use Rattle.dev_claims.specs.Claimed.{element_claimed, open_claim_of}
use Rattle.dev_claims.specs.Ended.{end_read, open_settled, settled_by}
use Rattle.dev_claims.proofs.OpenClaims.{as_open, found_is}
use Rattle.fmp_slot.specs.Held.{HeldSlot, IsToldStable}
use Rattle.reference_machine.specs.Spent.Standing.{Closed}
use Rattle.stored_vars.specs.Holds.{is_claimed, open_device_of}
use Rattle.stored_vars.specs.declared.claim.Claim.{Claim}
use Rattle.var_log.specs.Changes.{Variables}
use Rattle.var_store.specs.Stores.{HeldStore, variables_of}
use Rattle.cap_boot.specs.Stands.{HasRegions, IsClean}
use Rattle.cap_boot.proofs.Commitments.{closing_is_some}

-- an open claim is of a device of the board
pub open_device_low : (board : BoardValue) (variables : Variables) (d : ℕ)
    → open_device_of board variables ≡ Some d → d < length board.devices
open_device_low board variables d is =
    let found = found_is (is_claimed variables) (length board.devices) 0 d is in
    let low : d < 0 + length board.devices = found.low in
    omega (arith, low)

pub stable_slot : (size_of : ℕ → ℕ) (board : BoardValue) (b : BenchValue)
    → HasRegions size_of board b → (b.contents.told ≡ true → IsClean b.contents)
    → (d : ℕ) → d < length board.devices → IsToldStable d b
stable_slot size_of board b h clean d low told =
    clean told (region_of d) (omega (arith, h.count, low))

-- an open claim is settled by some changes
pub settled_is_some : (slot_of : List ℕ → Option HeldSlot) (board : BoardValue) (now : EfiTime)
    (s : HeldStore) (b : BenchValue) → is_some (open_device_of board (variables_of s)) ≡ true
    → 0 < length (open_settled slot_of board now s b)
settled_is_some slot_of board now s b claimed =
    by_claim (open_claim_of board (variables_of s)) (as_open board (variables_of s) ∙ claimed)
  where
    by_claim : (o : Option Claim) → is_some o ≡ true
        → 0 < length (settled_by board (variables_of s) now (end_read slot_of b.contents) o)
    by_claim None some = absurd (true≢false (sym some))
    by_claim (Some c) some =
        closing_is_some board (variables_of s)
        (record (element_claimed board c) {
          standing = Closed (Some (end_read slot_of b.contents c)) now;
        })
