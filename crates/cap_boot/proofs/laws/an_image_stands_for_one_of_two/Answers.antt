use Rattle.cap_boot.proofs.Imaged.{one_of_two}
use Rattle.cap_boot.proofs.laws.an_image_stands_for_one_of_two.Goals as goal

pub returns : goal.returns
returns c = one_of_two
