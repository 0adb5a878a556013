-- Batches of variables of the platform, one behind another in the order of their places.
use Rattle.std.specs.Prelude.{◌≡◌, ◌<◌, ℕ, true, List}
use Rattle.std.specs.List.{AllByRecursion}
use Rattle.stored_vars.specs.Variables.{guid_of, is_variable, name_of}
use Rattle.stored_vars.specs.declared.variable.StoredVar.{StoredVar}
use Rattle.stored_vars.specs.declared.variable.StoredVar.TheVariants.{Device, Progress, Serial}
use Rattle.stored_vars.specs.declared.variable.StoredVar.TheVariants.{Stage, OsIndications}
use Rattle.stored_vars.specs.declared.variable.StoredVar.TheVariants.{CapsuleMax, CapsuleLast}
use Rattle.stored_vars.specs.declared.variable.StoredVar.TheVariants.{Outcome}
use Rattle.var_log.specs.Changes as changes
use Rattle.var_log.specs.declared.change.Change.{Change}

-- the place of a variable in a batch: that in which closing a unit writes it, and others behind
abbrev pub place_of : StoredVar → ℕ
place_of (Device d) = 0
place_of (Outcome n) = 1
place_of CapsuleMax = 2
place_of CapsuleLast = 3
place_of Progress = 4
place_of Serial = 5
place_of (Stage k) = 5
place_of OsIndications = 5

-- a change is of a variable before a place
pub record IsBefore (place : ℕ) (c : Change) : Type 0 where
  pub variable : StoredVar
  pub within : is_variable variable ≡ true
  pub name_is : changes.name_of c ≡ name_of variable
  pub guid_is : changes.guid_of c ≡ guid_of variable
  pub before : place_of variable < place

-- all changes are of variables before a place
abbrev pub AreBefore : ℕ → List Change → Type 0
AreBefore place batch = AllByRecursion (IsBefore place) batch
