use Rattle.report_tables.proofs.ResultLaws.{result_accepted, result_again, result_back}
use Rattle.report_tables.proofs.laws.result_law.Goals as goal

pub returns : goal.returns
returns c = record {
  accepted = result_accepted;
  again = result_again;
  back = result_back;
}
