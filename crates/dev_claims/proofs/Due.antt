-- What is due in a reached machine is next for the batches of a boot.
use Rattle.std.proofs.Common.{◌<◌, ◌≤◌, ◌^◌, inl, inr, arith, length, subst, sym}
use Rattle.bench_model.specs.Boards.{BoardValue, IsBoard}
use Rattle.dev_claims.specs.Next.{IsNext}
use Rattle.dev_claims.proofs.Serials.{serials_low}
use Rattle.reference_machine.specs.Formats.{Formats}
use Rattle.reference_machine.specs.Laws.{IsDue, IsGiven, IsReached, KeepsLimits}
use Rattle.reference_machine.specs.Machine.{Machine}
use Rattle.reference_machine.specs.Results.{state_of}
use Rattle.reference_machine.specs.Spent.{Element, spent}
use Rattle.reference_machine.specs.declared.unit.UnitKey.{UnitKey}
use Rattle.reference_machine.proofs.Apart.{all_imply}
use Rattle.reference_machine.proofs.Few.{spent_few}
use Rattle.reference_machine.proofs.Reached.{given, open_last, same_board}
use Rattle.stored_vars.specs.Records.{IsState}
use Rattle.stored_vars.specs.Stands.{ProgressFits}

-- serials and numbers of stored progress have their width
pub progress_fits : (f : Formats) (board : BoardValue) (m : Machine) → KeepsLimits f
    → IsBoard board → IsReached f board m → ProgressFits m
progress_fits f board m limits is r =
    let low = serials_low f board m r in
    all_imply (λ s. s ≤ m.last_file) (λ s. (s < 2 ^ 64) × (spent m.list s < 2 ^ 32))
    (λ s h. let few : spent m.list s ≤ 2048 = spent_few f board m limits is r s in
    (omega (arith, low.file), omega arith)) m.in_progress (given f board m r).in_progress

low_serial : (m : Machine) (key : UnitKey) → m.last_file < 2 ^ 64 → m.last_staged < 2 ^ 64
    → IsGiven m key → key.ticket.serial < 2 ^ 64
low_serial m key file staged (inl g) = omega (arith, g.1)
low_serial m key file staged (inr g) = omega (arith, g.1)

pub due_is_next : (f : Formats) (board : BoardValue) (m : Machine) (e : Element) → KeepsLimits f
    → IsBoard board → IsReached f board m → IsDue m e.key
    → e.version < 2 ^ 32 → e.floor < 2 ^ 32
    → (e.key.device < length m.board.devices → IsState (state_of m.board m.list e.key.device))
    → IsNext m e
due_is_next f board m e limits is r due version floor state = record {
  board = subst IsBoard (sym (same_board f board m r)) is;
  open_last = open_last f board m r;
  progress = progress_fits f board m limits is r;
  unit = due.unit;
  few = omega (arith, due.few);
  serial =
      low_serial m e.key (serials_low f board m r).file (serials_low f board m r).staged due.given;
  version = version;
  floor = floor;
  state = state;
}
