use Rattle.image_parts.proofs.Apart.{one_cut}
use Rattle.image_parts.proofs.Read.{parts_are_cut}
use Rattle.image_parts.proofs.laws.one_list_of_parts.Goals as goal

pub returns : goal.returns
returns c = λ image support p q h k. one_cut image support p q (parts_are_cut image support p h)
    (parts_are_cut image support q k)
