use Rattle.fmp_headers.proofs.Images.{image_header_again, image_header_kept, image_header_back}
use Rattle.fmp_headers.proofs.laws.image_header_law.Goals as goal

pub returns-clause-again : goal.returns-clause-again
returns-clause-again c = image_header_again

pub returns-clause-kept : goal.returns-clause-kept
returns-clause-kept c = image_header_kept

pub returns-clause-back : goal.returns-clause-back
returns-clause-back c = image_header_back
