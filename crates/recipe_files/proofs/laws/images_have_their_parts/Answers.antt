use Rattle.recipe_files.proofs.PartLemmas.{parts_are}
use Rattle.recipe_files.proofs.laws.images_have_their_parts.Goals as goal

pub returns : goal.returns
returns c = parts_are
