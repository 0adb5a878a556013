use Rattle.stored_vars.specs.Last.{last_bytes, last_in}
use Rattle.stored_vars.proofs.OtherLaws.{last_again, last_back}
use Rattle.stored_vars.proofs.Same.{one_spelling}
use Rattle.stored_vars.proofs.laws.last_law.Goals as goal

pub returns : goal.returns
returns c = record {
  again = last_again;
  back = last_back;
  one = λ n m fits_n fits_m. one_spelling last_bytes last_in n m (last_again n fits_n)
      (last_again m fits_m);
}
