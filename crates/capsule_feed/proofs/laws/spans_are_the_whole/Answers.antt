use Rattle.capsule_feed.proofs.SpanLemmas.{whole_joined, whole_size}
use Rattle.capsule_feed.proofs.laws.spans_are_the_whole.Goals as goal

pub returns-clause-joined : goal.returns-clause-joined
returns-clause-joined c = whole_joined

pub returns-clause-size : goal.returns-clause-size
returns-clause-size c = whole_size
