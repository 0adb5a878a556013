-- How a claim ends by what the slot of its device holds, and the batch and the line of it.
use Rattle.std.specs.Prelude.{ℕ, Bool, ◌==◌, ◌&&◌, List, [], Option, None, Some}
use Rattle.std.specs.Prelude.{option_map, if◌then◌else◌}
use Rattle.bench_model.specs.Bench.{BenchValue, Contents, region_of}
use Rattle.bench_model.specs.Boards.{BoardValue}
use Rattle.cu_base.specs.declared.ticket.Ticket.{Ticket}
use Rattle.cu_base.specs.declared.time.EfiTime.{EfiTime}
use Rattle.dev_claims.specs.Claimed.{element_claimed, open_claim_of}
use Rattle.dev_claims.specs.Units.{next_result, settle_changes}
use Rattle.fmp_slot.specs.Held.{HeldSlot, shown}
use Rattle.fmp_slot.specs.declared.slot.Slot.{Slot}
use Rattle.fmp_slot.specs.declared.slot.Slot.TheVariants as slots
use Rattle.reference_machine.specs.Results.{status_with}
use Rattle.reference_machine.specs.declared.unit.End.{End}
use Rattle.reference_machine.specs.declared.unit.End.TheVariants.{Refused, Sealed, Kept, Lost}
use Rattle.reference_machine.specs.declared.unit.Kind.{Kind}
use Rattle.reference_machine.specs.declared.unit.Kind.TheVariants.{Heal, Try}
use Rattle.reference_machine.specs.declared.unit.UnitLine.{UnitLine}
use Rattle.stored_vars.specs.declared.claim.Claim.{Claim}
use Rattle.var_log.specs.Changes.{Variables}
use Rattle.var_log.specs.declared.change.Change.{Change}
use Rattle.var_store.specs.Stores.{HeldStore, variables_of}

-- two tickets are equal
abbrev pub is_same_ticket : Ticket → Ticket → Bool
is_same_ticket a b =
    a.route == b.route && a.capsule == b.capsule && a.item == b.item && a.serial == b.serial

-- how an attempt of a ticket ended whose device shows this: Sealed where it is sealed with that
-- ticket, Kept where it is sealed with another, Lost where it is unsealed
abbrev pub end_shown : Ticket → Slot → End
end_shown ticket (slots.Sealed head) = if is_same_ticket head.ticket ticket then Sealed else Kept
end_shown ticket slots.Unsealed = Lost

-- the same by what the device holds
abbrev pub end_by : Ticket → Option HeldSlot → End
end_by ticket slot = end_shown ticket (shown slot)

-- how a claim ended, by the bytes of its device as read
abbrev pub end_read : (List ℕ → Option HeldSlot) → Contents → Claim → End
end_read slot_of s c = end_by c.key.ticket (slot_of (s.bytes (region_of c.key.device)))

-- a SetImage may end so
abbrev pub IsAttemptEnd : End → Type 0
IsAttemptEnd (Refused status) = ⊥
IsAttemptEnd Sealed = Unit {0}
IsAttemptEnd Kept = Unit {0}
IsAttemptEnd Lost = Unit {0}

-- the line of a claim that ended
abbrev pub line_ended : BoardValue → Variables → Kind → Claim → End → UnitLine
line_ended board variables kind c end = record {
  kind = kind;
  key = c.key;
  version = c.version;
  end = Some end;
  status = status_with Try (Some end);
  result = next_result board variables;
}

-- the batch that settles a claim
abbrev pub claim_settled : BoardValue → Variables → EfiTime → Claim → End → List Change
claim_settled board variables now c end =
    settle_changes board variables (element_claimed board c) end now

-- the same where a claim is open, by the end of each; none where no claim is open
abbrev pub settled_by : BoardValue → Variables → EfiTime → (Claim → End) → Option Claim
    → List Change
settled_by board variables now end None = []
settled_by board variables now end (Some c) = claim_settled board variables now c (end c)

-- the batch that settles the open claim of a store by the slots of a bench, and none where no claim
-- is open
abbrev pub open_settled : (List ℕ → Option HeldSlot) → BoardValue → EfiTime → HeldStore
    → BenchValue → List Change
open_settled slot_of board now s b =
    settled_by board (variables_of s) now (end_read slot_of b.contents)
    (open_claim_of board (variables_of s))

-- the line of that settlement
abbrev pub open_line : (List ℕ → Option HeldSlot) → BoardValue → HeldStore → BenchValue
    → Option UnitLine
open_line slot_of board s b =
    option_map (λ c. line_ended board (variables_of s) Heal c (end_read slot_of b.contents c))
    (open_claim_of board (variables_of s))
