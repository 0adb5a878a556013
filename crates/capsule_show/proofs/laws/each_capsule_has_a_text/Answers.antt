use Rattle.capsule_show.proofs.OneText.{has_text}
use Rattle.capsule_show.proofs.ReadBytes.{has_read_text}
use Rattle.capsule_show.proofs.laws.each_capsule_has_a_text.Goals as goal

pub returns-clause-any : goal.returns-clause-any
returns-clause-any c = has_text

pub returns-clause-read : goal.returns-clause-read
returns-clause-read c = has_read_text
