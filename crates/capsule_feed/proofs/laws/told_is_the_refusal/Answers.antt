use Rattle.capsule_feed.proofs.ToldLemmas.{told_is_right}
use Rattle.capsule_feed.proofs.laws.told_is_the_refusal.Goals as goal

pub returns : goal.returns
returns c = told_is_right
