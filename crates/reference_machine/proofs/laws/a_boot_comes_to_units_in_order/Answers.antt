use Rattle.reference_machine.proofs.Coming.{unit_due, settlement_due}
use Rattle.reference_machine.proofs.laws.a_boot_comes_to_units_in_order.Goals as goal

pub returns : goal.returns
returns c = record {
  unit = λ f board m limits is r h j u rest held e.
      unit_due f board m limits is r h j held u rest e;
  settlement = λ f board m limits is r h j kind end rest held e.
      settlement_due f board m limits is r h j held kind end rest e;
}
