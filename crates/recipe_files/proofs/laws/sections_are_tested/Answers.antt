use Rattle.recipe_files.proofs.SectionLemmas.{is_section_of, section_is}
use Rattle.recipe_files.proofs.laws.sections_are_tested.Goals as goal

pub returns : goal.returns
returns c = λ bytes is. (section_is bytes is, is_section_of bytes is)
