use Rattle.reset_play.proofs.ThinLaws.{thin_is_spelled, spelled_is_thin, thin_is_seen}
use Rattle.reset_play.proofs.laws.thin_deliveries_are_capsules.Goals as goal

pub returns-clause-read : goal.returns-clause-read
returns-clause-read c = thin_is_spelled

pub returns-clause-spelled : goal.returns-clause-spelled
returns-clause-spelled c = spelled_is_thin

pub returns-clause-seen : goal.returns-clause-seen
returns-clause-seen c = thin_is_seen
