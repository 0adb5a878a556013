-- What is prepared of a settlement before its claim is right after it: the claim changes nothing
-- that a settlement reads.
use Rattle.std.proofs.Common.{◌≡◌, ℕ, ◌+◌, ◌-◌, ◌^◌, ◌<◌, ◌==◌, min, List, [], ◌∷◌, ◌++◌, length}
use Rattle.std.proofs.Common.{map, ap, ◌∙◌, Option, None, Some, cond, refl, sym, true}
use Rattle.bench_model.specs.Boards.{BoardValue, IsBoard}
use Rattle.cu_base.specs.declared.device_state.DevState.{DevState}
use Rattle.cu_base.specs.declared.time.EfiTime.{EfiTime}
use Rattle.dev_claims.proofs.CloseLaws.{record_set}
use Rattle.dev_claims.specs.Units.{claim_changes, greatest_changes, result_changes, settle_changes}
use Rattle.dev_claims.specs.Units.{state_after, with_units}
use Rattle.reference_machine.specs.Results.{result_at}
use Rattle.reference_machine.specs.Spent.{Element}
use Rattle.reference_machine.specs.Spent.Standing.{Closed}
use Rattle.reference_machine.specs.declared.unit.End.{End}
use Rattle.report_tables.specs.Names.{number_behind}
use Rattle.stored_vars.proofs.Alike.{entries_alike, last_alike}
use Rattle.stored_vars.proofs.Frames.{AreVariables, Edit, change_of, is_itself, read_after, told}
use Rattle.stored_vars.proofs.Frames.Edit.{Sets}
use Rattle.stored_vars.proofs.Kept.{device_within}
use Rattle.stored_vars.specs.Edits.{set_of}
use Rattle.stored_vars.specs.Holds.{bytes_in, device_of, last_result_of, progress_of}
use Rattle.stored_vars.specs.Last.{last_bytes}
use Rattle.stored_vars.specs.Progress.{progress_bytes}
use Rattle.stored_vars.specs.Records.{IsClaim, IsState, record_bytes}
use Rattle.stored_vars.specs.Variables.{is_variable}
use Rattle.stored_vars.specs.declared.claim.Claim.{Claim}
use Rattle.stored_vars.specs.declared.claim.DevRec.{DevRec}
use Rattle.stored_vars.specs.declared.progress.ProgressEntry.{ProgressEntry}
use Rattle.stored_vars.specs.declared.variable.StoredVar.{StoredVar}
use Rattle.stored_vars.specs.declared.variable.StoredVar.TheVariants.{Device, Progress}
use Rattle.stored_vars.specs.declared.variable.StoredVar.TheVariants.{CapsuleLast, CapsuleMax}
use Rattle.var_log.specs.Changes.{Variables, after}
use Rattle.var_log.specs.declared.change.Change.{Change}

-- a claim may be stored: its device is on the board, and all that is stored has its width
pub record MayStore (board : BoardValue) (variables : Variables) (c : Claim) : Type 0 where
  pub board_is : IsBoard board
  pub device : c.key.device < length board.devices
  pub claim : IsClaim c.key.device c
  pub state : IsState (device_of board variables c.key.device)

-- the changes of a settlement by what it reads
abbrev settled_from : BoardValue → Element → End → EfiTime → DevState → Option ℕ
    → Option (List ℕ) → List ProgressEntry → List Change
settled_from board e end now state last greatest entries =
    (set_of (Device e.key.device) (record_bytes (record {
      state = state_after (record e { standing = Closed (Some end) now }) end state;
      claim = None;
    })) ∷ [])
    ++ (result_changes (result_at board (number_behind last board.result_max)
    (record e { standing = Closed (Some end) now }) (Closed (Some end) now))
    ++ (greatest_changes board greatest
    ++ (set_of CapsuleLast (last_bytes (number_behind last board.result_max))
    ∷ cond (e.key.ticket.route == 1) (set_of Progress (progress_bytes
    (with_units entries e.key.ticket.serial (min (e.key.unit + 1) (2 ^ 32 - 1)))) ∷ []) [])))

module _ (board : BoardValue) (variables : Variables) (c : Claim)
    (may : MayStore board variables c) where
  abbrev claimed : DevRec
  claimed = record { state = device_of board variables c.key.device; claim = Some c }

  abbrev es : List Edit
  es = Sets (Device c.key.device) (record_bytes claimed) ∷ []

  abbrev new : Variables
  new = after variables (map change_of es)

  within : AreVariables es
  within = (device_within board c.key.device may.board_is may.device, tt)

  read : (w : StoredVar) → is_variable w ≡ true
      → bytes_in new w ≡ told es w (bytes_in variables w)
  read w is = read_after variables es w within is

  -- the state of the device stays
  pub state_stays : device_of board (after variables (claim_changes board variables c))
      c.key.device ≡ device_of board variables c.key.device
  state_stays =
      (record_set board new c.key.device claimed (record { state = may.state; claim = may.claim })
      (read (Device c.key.device) (device_within board c.key.device may.board_is may.device)
      ∙ ap (λ b. cond b (Some (record_bytes claimed)) (bytes_in variables (Device c.key.device)))
      (is_itself (Device c.key.device)))).0

  -- a settlement is the same before the claim and after it
  pub settle_changes_later : (e : Element) (end : End) (now : EfiTime)
      → e.key.device ≡ c.key.device
      → settle_changes board (after variables (claim_changes board variables c)) e end now
      ≡ settle_changes board variables e end now
  settle_changes_later e end now on =
      let state : device_of board new e.key.device ≡ device_of board variables e.key.device =
      ap (device_of board new) on ∙ state_stays ∙ sym (ap (device_of board variables) on) in
      let last : last_result_of new ≡ last_result_of variables =
      last_alike new variables (read CapsuleLast refl) in
      let greatest : bytes_in new CapsuleMax ≡ bytes_in variables CapsuleMax =
      read CapsuleMax refl in
      let entries : progress_of new ≡ progress_of variables =
      entries_alike new variables (read Progress refl) in
      λ i. settled_from board e end now (state i) (last i) (greatest i) (entries i)
