use Rattle.fmp_headers.proofs.Headers.{fmp_header_again, fmp_header_kept, fmp_header_back}
use Rattle.fmp_headers.proofs.laws.fmp_header_law.Goals as goal

pub returns-clause-again : goal.returns-clause-again
returns-clause-again c = fmp_header_again

pub returns-clause-kept : goal.returns-clause-kept
returns-clause-kept c = fmp_header_kept

pub returns-clause-back : goal.returns-clause-back
returns-clause-back c = fmp_header_back
