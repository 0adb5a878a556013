use Rattle.image_parts.proofs.Kept.{kept_decides}
use Rattle.image_parts.proofs.laws.what_is_kept_decides.Goals as goal

pub returns : goal.returns
returns c = kept_decides
