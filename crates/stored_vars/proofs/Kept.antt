-- Batches that name no record of a device and no result keep what is read of the spent units.
use Rattle.std.proofs.Common.{◌≡◌, ℕ, ◌<◌, ◌≤◌, ◌^◌, Bool, true, false, List, map, length}
use Rattle.std.proofs.Common.{refl, ◌∙◌, arith}
use Rattle.std.specs.List.{AllByRecursion}
use Rattle.std.proofs.lemmas.Bool.{lt-ltb}
use Rattle.bench_model.specs.Boards.{BoardValue, IsBoard}
use Rattle.reference_machine.specs.Machine.{Machine}
use Rattle.reference_machine.specs.Results.{last_result, state_of}
use Rattle.reference_machine.specs.Spent.{Element}
use Rattle.stored_vars.specs.Holds.{bytes_in, claim_of, device_of, last_result_of, result_of}
use Rattle.stored_vars.specs.Stands.{Holds, claim_on, greatest_on, result_on}
use Rattle.stored_vars.specs.Variables.{is_variable}
use Rattle.stored_vars.specs.declared.variable.StoredVar.{StoredVar}
use Rattle.stored_vars.specs.declared.variable.StoredVar.TheVariants.{Device, Progress, Serial}
use Rattle.stored_vars.specs.declared.variable.StoredVar.TheVariants.{Stage, OsIndications}
use Rattle.stored_vars.specs.declared.variable.StoredVar.TheVariants.{CapsuleMax, CapsuleLast}
use Rattle.stored_vars.specs.declared.variable.StoredVar.TheVariants.{Outcome}
use Rattle.stored_vars.proofs.Alike.{claim_alike, device_alike, last_alike}
use Rattle.stored_vars.proofs.Frames.{AreVariables, Edit, change_of, edited, read_after}
use Rattle.stored_vars.proofs.Frames.{told_beside}
use Rattle.var_log.specs.Changes.{Variables, after}

-- ---- names within their limits

pub device_within : (board : BoardValue) (d : ℕ) → IsBoard board → d < length board.devices
    → is_variable (Device d) ≡ true
device_within board d is h = lt-ltb d 16 (omega (arith, is.devices, h))

pub result_low : (board : BoardValue) (n : ℕ) → IsBoard board → n ≤ board.result_max → n < 2 ^ 16
result_low board n is h = omega (arith, is.results, is.bank_high, h)

pub result_within : (board : BoardValue) (n : ℕ) → IsBoard board → n ≤ board.result_max
    → is_variable (Outcome n) ≡ true
result_within board n is h = lt-ltb n (2 ^ 16) (result_low board n is h)

pub stage_within : (k : ℕ) → k < 8 → is_variable (Stage k) ≡ true
stage_within k h = lt-ltb k 8 h

-- ---- what is read of the spent units, but for progress

-- records of devices and results tell of spent units
abbrev pub tells_units : StoredVar → Bool
tells_units (Device d) = true
tells_units Progress = false
tells_units Serial = false
tells_units (Stage k) = false
tells_units OsIndications = false
tells_units CapsuleMax = true
tells_units CapsuleLast = true
tells_units (Outcome n) = true

-- variables hold the states, the claim and the results of a list
pub record HoldsUnits (variables : Variables) (board : BoardValue)
    (list : List Element) : Type 0 where
  pub devices : (d : ℕ) → d < length board.devices
      → device_of board variables d ≡ state_of board list d
  pub claims : (d : ℕ) → d < length board.devices → claim_of variables d ≡ claim_on list d
  pub results : (n : ℕ) → n ≤ board.result_max → result_of variables n ≡ result_on board list n
  pub greatest : bytes_in variables CapsuleMax ≡ greatest_on board list
  pub last : last_result_of variables ≡ last_result board list

pub units_stay : (variables : Variables) (m : Machine) (es : List Edit) → IsBoard m.board
    → AreVariables es → AllByRecursion (λ e. tells_units (edited e) ≡ false) es
    → Holds variables m → HoldsUnits (after variables (map change_of es)) m.board m.list
units_stay variables m es is are others h = record {
  devices = λ d within.
      device_alike m.board new variables d
      (read (Device d) refl (device_within m.board d is within))
      ∙ h.devices d within;
  claims = λ d within.
      claim_alike new variables d (read (Device d) refl (device_within m.board d is within))
      ∙ h.claims d within;
  results = λ n within.
      read (Outcome n) refl (result_within m.board n is within) ∙ h.results n within;
  greatest = read CapsuleMax refl refl ∙ h.greatest;
  last = last_alike new variables (read CapsuleLast refl refl) ∙ h.last;
}
  where
    new : Variables
    new = after variables (map change_of es)

    read : (w : StoredVar) → tells_units w ≡ true → is_variable w ≡ true
        → bytes_in (after variables (map change_of es)) w ≡ bytes_in variables w
    read w told_of is_w =
        read_after variables es w are is_w
        ∙ told_beside tells_units es w (bytes_in variables w) others told_of
