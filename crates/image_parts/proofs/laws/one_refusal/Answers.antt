use Rattle.image_parts.proofs.Apart.{refused_once}
use Rattle.image_parts.proofs.laws.one_refusal.Goals as goal

pub returns : goal.returns
returns c = refused_once
