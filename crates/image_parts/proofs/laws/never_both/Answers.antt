use Rattle.image_parts.proofs.Apart.{cut_not_refused}
use Rattle.image_parts.proofs.Read.{parts_are_cut}
use Rattle.image_parts.proofs.laws.never_both.Goals as goal

pub returns : goal.returns
returns c = λ image support p at why h r. cut_not_refused image support p at why
    (parts_are_cut image support p h) r
