use Rattle.fmp_headers.proofs.Headers.{capsule_header_again, capsule_header_kept}
use Rattle.fmp_headers.proofs.Headers.{capsule_header_back}
use Rattle.fmp_headers.proofs.laws.capsule_header_law.Goals as goal

pub returns-clause-again : goal.returns-clause-again
returns-clause-again c = capsule_header_again

pub returns-clause-kept : goal.returns-clause-kept
returns-clause-kept c = capsule_header_kept

pub returns-clause-back : goal.returns-clause-back
returns-clause-back c = capsule_header_back
