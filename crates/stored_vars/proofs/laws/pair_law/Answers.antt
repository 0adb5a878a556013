use Rattle.stored_vars.specs.Numbers.{pair_bytes, pair_in}
use Rattle.stored_vars.proofs.OtherLaws.{pair_again, pair_back}
use Rattle.stored_vars.proofs.Same.{one_spelling}
use Rattle.stored_vars.proofs.laws.pair_law.Goals as goal

pub returns : goal.returns
returns c = record {
  again = pair_again;
  back = pair_back;
  one = λ p q is_p is_q. one_spelling pair_bytes pair_in p q (pair_again p is_p)
      (pair_again q is_q);
}
