use Rattle.image_parts.proofs.Decided.{decided}
use Rattle.image_parts.proofs.laws.parts_or_refused.Goals as goal

pub returns : goal.returns
returns c = decided
