-- What a call of a boot does: it takes the boot on from one piece of work to another.
use Rattle.std.specs.Prelude.{◌≡◌, ℕ, List, [], ◌++◌, IsTrue, Result, MatchResult}
use Rattle.std.specs.List.{list_all}
use Rattle.reference_machine.specs.Boots.{BootState, BootTask, after_steps}
use Rattle.reference_machine.specs.Machine.{Machine}
use Rattle.reference_machine.specs.Stops.{is_folder_task, is_removal}
use Rattle.cap_boot.specs.declared.fault.BootFault.{BootFault}
use Rattle.cap_boot.specs.Situations.{IsAt, IsStopped, IsUnderWay, Situation}
use Rattle.cap_boot.specs.Stands.{Setting}

-- work, by the machine that it is to be done at
abbrev pub Tasks : Type 0
Tasks = Machine → List BootTask

-- no work
abbrev pub nothing : Tasks
nothing m = []

-- anything may come behind, whatever machine the boot started from
abbrev pub IsAny : Machine → List BootTask → Type 0
IsAny start rest = Unit {0}

-- work of the folder alone may come behind, and it was asked for
abbrev pub IsFolder : Machine → List BootTask → Type 0
IsFolder start rest = IsTrue start.is_signalled × IsTrue (list_all is_folder_task rest)

-- the removal of a file comes behind, and then work of the folder alone may
abbrev pub IsThenRemoved : Machine → List BootTask → Type 0
IsThenRemoved start rest = IsFolder start rest × IsTrue (is_removal rest)

-- nothing comes behind
abbrev pub IsNone : Machine → List BootTask → Type 0
IsNone start rest = rest ≡ []

-- the boot came on by some steps to a machine at which this work is left
pub record IsCome (x : Setting) (Keeps : Machine → Machine → Type 0) (more : Tasks)
    (rest : List BootTask) (b : BootState) (y : Situation) : Type 0 where
  pub steps : ℕ
  pub left : (after_steps x.formats steps b).left
      ≡ more (after_steps x.formats steps b).machine ++ rest
  pub at : IsAt x (after_steps x.formats steps b) y
  pub keeps : Keeps b.machine (after_steps x.formats steps b).machine

-- the boot came on by some steps, and was then stopped
pub record IsStoppedLater (x : Setting) (fault : BootFault) (start : Machine) (b : BootState)
    (y : Situation) : Type 0 where
  pub steps : ℕ
  pub stopped : IsStopped x fault start (after_steps x.formats steps b) y

-- a call takes each boot that comes to this work on to other work, whatever comes behind that may,
-- and keeps this between the machines; or the boot is stopped on the way
pub record Goes {T : Type 0} (x : Setting) (Behind : Machine → List BootTask → Type 0)
    (Keeps : Machine → Machine → Type 0) (work more : Tasks) (old : Situation)
    (result : Result T BootFault) (new : Situation) : Type 0 where
  pub from : (b : BootState) (rest : List BootTask) (way : IsUnderWay x b)
      → Behind way.start rest
      → b.left ≡ work b.machine ++ rest → IsAt x b old
      → MatchResult result (λ _. IsCome x Keeps more rest b new)
      (λ fault. IsStoppedLater x fault way.start b new)
