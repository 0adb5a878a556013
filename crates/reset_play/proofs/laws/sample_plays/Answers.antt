use Rattle.reset_play.proofs.SampleTexts.{redelivery_text, lower_version_text, refusals_text}
use Rattle.reset_play.proofs.SampleTexts.{wrapping_text}
use Rattle.reset_play.proofs.laws.sample_plays.Goals as goal

pub returns : goal.returns
returns c = record {
  redelivery = redelivery_text;
  lower_version = lower_version_text;
  refusals = refusals_text;
  wrapping = wrapping_text;
}
