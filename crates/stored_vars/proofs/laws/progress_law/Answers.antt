use Rattle.stored_vars.specs.Progress.{progress_bytes, progress_in}
use Rattle.stored_vars.proofs.ProgressLaws.{progress_again, progress_back}
use Rattle.stored_vars.proofs.Same.{one_spelling}
use Rattle.stored_vars.proofs.laws.progress_law.Goals as goal

pub returns : goal.returns
returns c = record {
  again = progress_again;
  back = progress_back;
  one = λ es xs is_e is_x. one_spelling progress_bytes progress_in es xs (progress_again es is_e)
      (progress_again xs is_x);
}
