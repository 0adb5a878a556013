-- What calls of a boot keep between the machine before them and the machine after them.
use Rattle.std.specs.Prelude.{◌≡◌, ◌≢◌, ℕ, false}
use Rattle.reference_machine.specs.Machine.{Machine}
use Rattle.reference_machine.specs.Spent.{is_of, spent}
use Rattle.reference_machine.specs.declared.unit.UnitKey.{UnitKey}
use Rattle.bench_model.specs.Bench.{Contents}
use Rattle.cap_boot.specs.Stands.{Setting}
use Rattle.cap_boot.specs.Tasks.{file_of, healed}

-- nothing is kept that all steps do not keep
abbrev pub KeepsNothing : Machine → Machine → Type 0
KeepsNothing old new = Unit {0}

-- the open element was closed by what its device holds
abbrev pub IsHealed : Setting → Contents → Machine → Machine → Type 0
IsHealed x s old new = new ≡ healed x s old

-- the work on the folder stays: what was asked for, files, stored progress and spent units
pub record KeepsFolder (old new : Machine) : Type 0 where
  pub asked : new.is_signalled ≡ old.is_signalled
  pub files : new.files ≡ old.files
  pub progress : new.in_progress ≡ old.in_progress
  pub spent : (serial : ℕ) → spent new.list serial ≡ spent old.list serial

-- files and spent units stay
pub record KeepsFiles (old new : Machine) : Type 0 where
  pub files : new.files ≡ old.files
  pub spent : (serial : ℕ) → spent new.list serial ≡ spent old.list serial

-- all other files, and how much of them is spent, stay
pub record KeepsOthers (serial : ℕ) (old new : Machine) : Type 0 where
  pub files : (s : ℕ) → s ≢ serial → file_of new s ≡ file_of old s
  pub spent : (s : ℕ) → s ≢ serial → spent new.list s ≡ spent old.list s

-- all files, and how much of all others but one is spent, stay
pub record KeepsFileThere (serial : ℕ) (old new : Machine) : Type 0 where
  pub files : new.files ≡ old.files
  pub spent : (s : ℕ) → s ≢ serial → spent new.list s ≡ spent old.list s

-- a unit is done: what was asked for and all files stay, and so does what is spent of other files
-- than that of the unit; of a delivery by memory no progress is stored
pub record KeepsUnit (key : UnitKey) (old new : Machine) : Type 0 where
  pub asked : new.is_signalled ≡ old.is_signalled
  pub files : new.files ≡ old.files
  pub progress : key.ticket.route ≢ 1 → new.in_progress ≡ old.in_progress
  pub spent : (serial : ℕ) → is_of 1 serial key ≡ false
      → spent new.list serial ≡ spent old.list serial
