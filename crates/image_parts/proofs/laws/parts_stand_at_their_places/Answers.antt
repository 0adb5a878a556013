use Rattle.image_parts.proofs.Read.{parts_are_cut}
use Rattle.image_parts.proofs.Spelled.{cut_is_parts}
use Rattle.image_parts.proofs.laws.parts_stand_at_their_places.Goals as goal

pub returns-clause-cut : goal.returns-clause-cut
returns-clause-cut c = parts_are_cut

pub returns-clause-spelled : goal.returns-clause-spelled
returns-clause-spelled c = cut_is_parts
