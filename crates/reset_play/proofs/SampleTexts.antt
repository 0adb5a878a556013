-- The texts of the sample plays, computed.
use Rattle.std.proofs.Common.{◌≡◌, refl}
use Rattle.sha2.specs.Sha256.{sha256, digest_bytes, hash_after, compress, rounds, schedule}
use Rattle.sha2.specs.Sha256.{first_words}
use Rattle.std.specs.Fmt.{digits}
use Rattle.capsule_grammar.specs.CapsulesOf.{capsules_within}
use Rattle.uuid.specs.Text.{by_index}
use Rattle.reset_play.specs.Samples.{sample_text, text_of, redelivery, lower_version, refusals}
use Rattle.reset_play.specs.Samples.{wrapping, redelivery_lines, lower_version_lines}
use Rattle.reset_play.specs.Samples.{refusals_lines, wrapping_lines}

pub redelivery_text : sample_text 15 redelivery ≡ text_of redelivery_lines
unfolding capsules_within sha256 digest_bytes hash_after compress rounds schedule first_words digits by_index
redelivery_text = refl

pub lower_version_text : sample_text 15 lower_version ≡ text_of lower_version_lines
unfolding capsules_within sha256 digest_bytes hash_after compress rounds schedule first_words digits by_index
lower_version_text = refl

pub refusals_text : sample_text 15 refusals ≡ text_of refusals_lines
unfolding capsules_within sha256 digest_bytes hash_after compress rounds schedule first_words digits by_index
refusals_text = refl

pub wrapping_text : sample_text 1 wrapping ≡ text_of wrapping_lines
unfolding capsules_within sha256 digest_bytes hash_after compress rounds schedule first_words digits by_index
wrapping_text = refl
