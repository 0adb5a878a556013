-- A unit that a boot of a reached machine comes to: its number is the next one of its delivery, and
-- what is stored of it has its width.
use Rattle.std.specs.Prelude.{◌≡◌, ◌+◌, ◌<◌, ◌≤◌, ◌^◌, length, Option, None, Some}
use Rattle.bench_model.specs.Boards.{BoardValue, IsBoard}
use Rattle.reference_machine.specs.Laws.{OpenIsLast}
use Rattle.reference_machine.specs.Machine.{Machine}
use Rattle.reference_machine.specs.Results.{attempt_status, state_of}
use Rattle.reference_machine.specs.Spent.{Element, spent}
use Rattle.reference_machine.specs.declared.unit.End.{End}
use Rattle.stored_vars.specs.Records.{IsState}
use Rattle.stored_vars.specs.Stands.{ProgressFits}

-- an element is of the next unit of its delivery, or is the one that is open: as many units of its
-- file are spent as its number says
pub record IsNext (m : Machine) (e : Element) : Type 0 where
  pub board : IsBoard m.board
  pub open_last : OpenIsLast m.list
  pub progress : ProgressFits m
  pub unit : e.key.ticket.route ≡ 1 → e.key.unit ≡ spent m.list e.key.ticket.serial
  pub few : e.key.unit + 1 < 2 ^ 32
  pub serial : e.key.ticket.serial < 2 ^ 64
  pub version : e.version < 2 ^ 32
  pub floor : e.floor < 2 ^ 32
  pub state : e.key.device < length m.board.devices
      → IsState (state_of m.board m.list e.key.device)

-- an element may have this end: it is on a device of the board and the status has its width, or it
-- tried nothing and has no device
abbrev pub MayEnd : BoardValue → Element → Option End → Type 0
MayEnd board e None = length board.devices ≤ e.key.device
MayEnd board e (Some end) = (e.key.device < length board.devices) × (attempt_status end < 2 ^ 32)
