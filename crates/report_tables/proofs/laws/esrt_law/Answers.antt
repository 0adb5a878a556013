use Rattle.report_tables.proofs.EsrtLemmas.{table_accepted, table_again, table_back}
use Rattle.report_tables.proofs.laws.esrt_law.Goals as goal

pub returns : goal.returns
returns c = record {
  accepted = λ es is. (table_accepted es is).0;
  again = table_again;
  back = table_back;
}
