use Rattle.stored_vars.specs.Numbers.{number_bytes, number_in}
use Rattle.stored_vars.proofs.OtherLaws.{number_again, number_back}
use Rattle.stored_vars.proofs.Same.{one_spelling}
use Rattle.stored_vars.proofs.laws.number_law.Goals as goal

pub returns : goal.returns
returns c = record {
  again = number_again;
  back = number_back;
  one = λ n m fits_n fits_m. one_spelling number_bytes number_in n m (number_again n fits_n)
      (number_again m fits_m);
}
