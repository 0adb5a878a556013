-- A unit that starts no SetImage, by what a list of units tells of it.
use Rattle.std.proofs.Common.{◌≡◌, ◌≤◌, ℕ, None, Option, ap, arith, length, refl, subst, sym}
use Rattle.bench_model.specs.Boards.{BoardValue, IsBoard}
use Rattle.cu_base.specs.declared.guid.Guid.{Guid}
use Rattle.dev_claims.specs.Next.{MayEnd}
use Rattle.dev_claims.specs.declared.closing.UnitIds.{UnitIds}
use Rattle.reference_machine.specs.Boots.{element_of}
use Rattle.reference_machine.specs.Boots.Course.{Close}
use Rattle.reference_machine.specs.Deliveries.{BootUnit, Delivery}
use Rattle.reference_machine.specs.Spent.Standing.{Open}
use Rattle.reference_machine.specs.declared.unit.End.{End}
use Rattle.reference_machine.specs.declared.unit.UnitLine.{UnitLine}
use Rattle.cap_boot.specs.declared.unit_list.Matter.{Matter}
use Rattle.cap_boot.specs.declared.unit_list.Matter.TheVariants.{Bad, Skip, NoTarget, Try}
use Rattle.cap_boot.specs.Closing.{IsClosedBy}
use Rattle.cap_boot.specs.Situations.{Situation}
use Rattle.cap_boot.specs.Stands.{Setting}
use Rattle.cap_boot.specs.Units.{IsUntried, ids_of, kind_of, listed_unit}

-- no device of a board has the number 255
pub no_device : (board : BoardValue) → IsBoard board → length board.devices ≤ 255
no_device board rule = let few = rule.devices in omega (arith, few)

-- the unit of this place in a capsule of a delivery
abbrev unit_at : Delivery → ℕ → ℕ → ℕ → Guid → Matter → BootUnit
unit_at d n capsule item guid matter =
    listed_unit d n (record { capsule = capsule; item = item; guid = guid; matter = matter })

-- a unit that starts nothing may end so
untried_ends : (x : Setting) (u : BootUnit) (end : Option End) → IsBoard x.board
    → u.key.device ≡ 255 → end ≡ None → MayEnd x.board (element_of x.formats u Open) end
untried_ends x u end rule device is =
    let few = no_device x.board rule in
    subst (λ (o : Option End). MayEnd x.board (element_of x.formats u Open) o) (sym is)
    (omega (arith, few, device))

pub closed_untried : (x : Setting) (y : Situation) (d : Delivery) (n capsule item : ℕ)
    (guid : Guid) (matter : Matter) (line : UnitLine) (ids : UnitIds) → IsBoard x.board
    → IsUntried matter → line.kind ≡ kind_of matter
    → line.key ≡ (unit_at d n capsule item guid matter).key → line.version ≡ 0
    → line.end ≡ None → ids ≡ ids_of guid matter
    → IsClosedBy x (unit_at d n capsule item guid matter) line ids y
closed_untried x y d n capsule item guid Bad line ids rule un kind key version end is = record {
  kind = kind;
  key = key;
  version = version;
  ids_are = is;
  course = λ b way at. ap Close (sym end);
  ends = untried_ends x (unit_at d n capsule item guid Bad) line.end rule refl end;
  version_fits = omega arith;
  floor_fits = omega arith;
}
closed_untried x y d n capsule item guid Skip line ids rule un kind key version end is = record {
  kind = kind;
  key = key;
  version = version;
  ids_are = is;
  course = λ b way at. ap Close (sym end);
  ends = untried_ends x (unit_at d n capsule item guid Skip) line.end rule refl end;
  version_fits = omega arith;
  floor_fits = omega arith;
}
closed_untried x y d n capsule item guid (NoTarget image) line ids rule un kind key version end
    is = record {
      kind = kind;
      key = key;
      version = version;
      ids_are = is;
      course = λ b way at. ap Close (sym end);
      ends = untried_ends x (unit_at d n capsule item guid (NoTarget image)) line.end rule refl end;
      version_fits = omega arith;
      floor_fits = omega arith;
    }
closed_untried x y d n capsule item guid (Try image device) line ids rule un kind key version
    end is = absurd un
