-- The batch that settles the open claim, and what it leaves where the slot was looked at first.
use Rattle.std.proofs.Common.{◌≡◌, ℕ, true, List, Option, Some, None, Ok, refl, sym, ap, ◌∙◌, subst}
use Rattle.std.proofs.Common.{Bool, false, cond, get_or, length, min, nat_le, ◌+◌, ◌-◌, ◌^◌, ◌≤◌}
use Rattle.std.proofs.Common.{[], ◌∷◌, arith}
use Rattle.std.specs.Prelude.{◌⊎◌}
use Rattle.bench_model.proofs.ImageLemmas.{image_of_stable}
use Rattle.bench_model.specs.Bench.{AreImages, BenchValue, ChangesCounts, Contents, region_of}
use Rattle.bench_model.specs.Boards.{BoardValue}
use Rattle.bench_model.specs.Regions.{IsImage}
use Rattle.cu_base.specs.declared.ticket.Ticket.{Ticket}
use Rattle.cu_base.specs.declared.time.EfiTime.{EfiTime}
use Rattle.dev_claims.specs.Claimed.{open_claim_of, ids_on}
use Rattle.dev_claims.specs.ClosedBy.{element_with}
use Rattle.dev_claims.specs.Committing.{LeavesStore, moves_of_commit}
use Rattle.dev_claims.specs.Ended.{claim_settled, end_read, end_shown, open_settled, settled_by}
use Rattle.dev_claims.specs.Ended.{IsAttemptEnd, is_same_ticket, line_ended}
use Rattle.dev_claims.specs.Units.{close_changes}
use Rattle.dev_claims.specs.declared.closing.UnitIds.{UnitIds}
use Rattle.fmp_slot.specs.Held.{HeldSlot, region_in, shown, IsToldStable}
use Rattle.fmp_slot.specs.declared.slot.Slot.{Slot}
use Rattle.fmp_slot.specs.declared.slot.Slot.TheVariants as slots
use Rattle.reference_machine.specs.declared.unit.End.{End}
use Rattle.reference_machine.specs.declared.unit.End.TheVariants.{Sealed, Kept}
use Rattle.reference_machine.specs.declared.unit.Kind.TheVariants.{Try}
use Rattle.reference_machine.specs.declared.unit.UnitLine.{UnitLine}
use Rattle.stored_vars.specs.declared.claim.Claim.{Claim}
use Rattle.var_log.proofs.Reclaims.{unmoved}
use Rattle.var_log.specs.Banks.{store_of}
use Rattle.var_log.specs.Changes.{Variables}
use Rattle.var_log.specs.Counts.{raised}
use Rattle.var_log.specs.Logs.{ChangesBanks, LiesOn, LogValue, free_of, store_as_read}
use Rattle.var_log.specs.declared.change.Change.{Change}
use Rattle.var_store.specs.Stores.{prepared_of, HeldStore, variables_of}
use Rattle.var_store.specs.Writes.{HasIn, HasWritten, IsOrReclaims, MayHaveWritten}

-- the end that a slot shows is that of a SetImage
pub shown_end : (ticket : Ticket) (slot : Slot) → IsAttemptEnd (end_shown ticket slot)
shown_end ticket (slots.Sealed head) = by_test (is_same_ticket head.ticket ticket)
  where
    by_test : (t : Bool) → IsAttemptEnd (cond t Sealed Kept)
    by_test true = tt
    by_test false = tt
shown_end ticket slots.Unsealed = tt

-- the batch that settles the open claim is that of its end, where the slot was told
pub settled_is : (slot_of : List ℕ → Option HeldSlot) (board : BoardValue) (now : EfiTime)
    (s : HeldStore) (b : BenchValue) (c : Claim) (slot : Slot) (end : End)
    → open_claim_of board (variables_of s) ≡ Some c
    → slot ≡ shown (slot_of (region_in c.key.device b).bytes)
    → end ≡ end_shown c.key.ticket slot
    → claim_settled board (variables_of s) now c end ≡ open_settled slot_of board now s b
settled_is slot_of board now s b c slot end is same e =
    ap (claim_settled board (variables_of s) now c) (e ∙ ap (end_shown c.key.ticket) same)
    ∙ sym (ap (settled_by board (variables_of s) now (end_read slot_of b.contents)) is)

-- what was written after the contents stayed was written
pub written_past : (changes : List Change) (old mid new : BenchValue)
    → mid.contents ≡ old.contents → HasWritten changes mid new → HasWritten changes old new
written_past changes old mid new same h =
    subst (λ (s : Contents). (image : ℕ → List ℕ) → AreImages new.contents image
    → HasIn changes (store_of s.bytes) (store_of image)) same h

-- what may have been written after the contents stayed may have been written
pub may_past : (changes : List Change) (pending : Option ℕ) (old mid new : BenchValue)
    → mid.contents ≡ old.contents → MayHaveWritten changes pending mid new
    → MayHaveWritten changes pending old new
may_past changes None old mid new same h =
    subst (λ (s : Contents). (image : ℕ → List ℕ) → AreImages new.contents image
    → IsOrReclaims (store_of s.bytes) (store_of image)) same h
may_past changes (Some number) old mid new same h =
    subst (λ (s : Contents). (image : ℕ → List ℕ) → AreImages new.contents image
    → IsOrReclaims (store_of s.bytes) (store_of image)
    ⊎ HasIn changes (store_of s.bytes) (store_of image)) same h

-- nothing was written where the contents stayed
pub unmoved_past : (changes : List Change) (pending : Option ℕ) (log : LogValue)
    (old new : BenchValue) → new.contents ≡ old.contents → pending ≡ None → LiesOn log old
    → MayHaveWritten changes pending old new
unmoved_past changes pending log old new same none lies =
    subst (λ (p : Option ℕ). MayHaveWritten changes p old new) (sym none)
    (subst (λ (s : Contents). (image : ℕ → List ℕ) → AreImages s image
    → IsOrReclaims (store_as_read old) (store_of image)) (sym same) (unmoved log old lies))

-- what changes counts alone changes no device
pub counts_then : (a b c : BenchValue) → ChangesCounts a b → ChangesBanks b c → ChangesBanks a c
counts_then a b c first second = record {
  told = second.told ∙ ap (λ s. s.told) first.contents;
  regions = second.regions ∙ ap (λ s. s.regions) first.contents;
  long = λ k low. second.long k low ∙ ap (λ s. length (s.bytes k)) first.contents;
  bytes = λ k high. second.bytes k high ∙ ap (λ s. s.bytes k) first.contents;
  dirty = λ k high. second.dirty k high ∙ ap (λ s. s.dirty k) first.contents;
  rest = second.rest ∙ ap (λ s. s.rest) first.contents;
  spare = second.spare ∙ first.spare;
  orders = second.orders ∙ first.orders;
}

-- what is left of the store is the same, whatever was told
pub leaves_told : {T V : Type 0} (changes : List Change) (old new : HeldStore) (x : T) (y : V)
    → LeavesStore changes old new (Ok x) → LeavesStore changes old new (Ok y)
leaves_told [] old new x y h = h
leaves_told (c ∷ rest) old new x y h = h

-- looks make no moves
pub moves_past : (changes : List Change) (s : HeldStore) (old mid new : ℕ)
    → (changes ≡ [] → ⊥) → min (old + 0) (2 ^ 64 - 1) ≤ mid → mid ≤ old + 0
    → new ≡ moves_of_commit changes s mid → new ≡ moves_of_commit changes s old
moves_past [] s old mid new some least most is = absurd (some refl)
moves_past (c ∷ rest) s old mid new some least most is =
    by_test (nat_le (prepared_of (c ∷ rest)).size (free_of s.log)) is
  where
    by_test : (t : Bool) → new ≡ raised (cond t mid (raised mid 6)) 4
        → new ≡ raised (cond t old (raised old 6)) 4
    by_test true h = omega (arith, h, least, most)
    by_test false h = omega (arith, h, least, most)

-- a settlement changes something
pub settled_some : (board : BoardValue) (variables : Variables) (now : EfiTime) (c : Claim)
    (end : End) → claim_settled board variables now c end ≡ [] → ⊥
settled_some board variables now c end e = subst IsSome e tt
  where
    IsSome : List Change → Type 0
    IsSome [] = ⊥
    IsSome (x ∷ rest) = Unit {0}

-- a line of a claim and its item's GUIDs make the batch that settles it
pub settled_made : (board : BoardValue) (variables : Variables) (now : EfiTime) (c : Claim)
    (end : End) (line : UnitLine) (floor : ℕ) (ids : UnitIds) (batch : List Change)
    → line ≡ line_ended board variables Try c end → floor ≡ c.floor
    → ids ≡ ids_on board c.key.device
    → batch ≡ close_changes board variables (element_with line floor ids now)
    → batch ≡ claim_settled board variables now c end
settled_made board variables now c end line floor ids batch line_is floor_is ids_are made =
    made
    ∙ ap (λ (l : UnitLine). close_changes board variables (element_with l floor ids now)) line_is
    ∙ ap (λ (f : ℕ). close_changes board variables
    (element_with (line_ended board variables Try c end) f ids now)) floor_is
    ∙ ap (λ (i : UnitIds). close_changes board variables
    (element_with (line_ended board variables Try c end) c.floor i now)) ids_are

-- every image of a device without dirty places holds what was read, and no change of banks changes
-- it
pub slot_kept : (slot_of : List ℕ → Option HeldSlot) (d : ℕ) (old new : BenchValue)
    → ChangesBanks old new → IsToldStable d old → (image : List ℕ)
    → IsImage (region_in d new) image → slot_of image ≡ slot_of (region_in d old).bytes
slot_kept slot_of d old new same stable image is =
    let high : 2 ≤ region_of d = omega arith in
    let told : old.contents.told ≡ true = sym same.told ∙ is.told in
    let bytes : new.contents.bytes (region_of d) ≡ old.contents.bytes (region_of d) =
    same.bytes (region_of d) high in
    ap slot_of (image_of_stable (region_in d old) image (stable told) (record {
      told = told;
      long = is.long ∙ ap length bytes;
      same = λ k clean.
          is.same k (ap (λ (f : ℕ → Bool). f k) (same.dirty (region_of d) high) ∙ clean)
          ∙ ap (λ (b : List ℕ). get_or b k 0) bytes;
    }))

-- banks that stay are changed no more than banks
pub banks_same : (b : BenchValue) → ChangesBanks b b
banks_same b = record {
  told = refl;
  regions = refl;
  long = λ k low. refl;
  bytes = λ k high. refl;
  dirty = λ k high. refl;
  rest = refl;
  spare = refl;
  orders = refl;
}
