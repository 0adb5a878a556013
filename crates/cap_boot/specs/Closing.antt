-- A unit that starts no SetImage, as a boot comes to it.
use Rattle.std.specs.Prelude.{◌≡◌, ◌<◌, ◌^◌, [], ◌∷◌}
use Rattle.dev_claims.specs.ClosedBy.{ids_of}
use Rattle.dev_claims.specs.Next.{MayEnd}
use Rattle.dev_claims.specs.declared.closing.UnitIds.{UnitIds}
use Rattle.reference_machine.specs.Boots.{BootState, course_of, element_of}
use Rattle.reference_machine.specs.Boots.BootBatch.{Does}
use Rattle.reference_machine.specs.Boots.BootTask.{Commits}
use Rattle.reference_machine.specs.Boots.Course.{Close}
use Rattle.reference_machine.specs.Deliveries.{BootUnit}
use Rattle.reference_machine.specs.Spent.Standing.{Open}
use Rattle.reference_machine.specs.declared.unit.UnitLine.{UnitLine}
use Rattle.cap_boot.specs.Going.{Tasks}
use Rattle.cap_boot.specs.Situations.{IsAt, IsUnderWay, Situation}
use Rattle.cap_boot.specs.Stands.{Setting}

-- the work on a unit
abbrev pub unit_work : BootUnit → Tasks
unit_work u m = Commits (Does u) ∷ []

-- a unit is closed as a line tells with the GUIDs and the index of its item, wherever a boot comes
-- to it in this situation
pub record IsClosedBy (x : Setting) (u : BootUnit) (line : UnitLine) (ids : UnitIds)
    (y : Situation) : Type 0 where
  pub kind : line.kind ≡ u.kind
  pub key : line.key ≡ u.key
  pub version : line.version ≡ (element_of x.formats u Open).version
  pub ids_are : ids ≡ ids_of (element_of x.formats u Open)
  pub course : (b : BootState) → IsUnderWay x b → IsAt x b y
      → course_of x.formats b.machine u u.kind ≡ Close line.end
  pub ends : MayEnd x.board (element_of x.formats u Open) line.end
  pub version_fits : (element_of x.formats u Open).version < 2 ^ 32
  pub floor_fits : (element_of x.formats u Open).floor < 2 ^ 32
