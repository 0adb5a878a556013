use Rattle.std.proofs.Common.{refl}
use Rattle.reference_machine.proofs.Reading.{admission_fails, capacity_fails, version_fails}
use Rattle.reference_machine.proofs.Reading.{last_decides}
use Rattle.reference_machine.proofs.laws.the_checks_stand_in_order.Goals as goal

pub returns : goal.returns
returns c = record {
  format = λ f m u. refl;
  admission = admission_fails;
  capacity = capacity_fails;
  version = version_fails;
  dependencies = last_decides;
}
