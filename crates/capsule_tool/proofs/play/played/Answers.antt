use Rattle.std.proofs.Common.{◌∙◌}
use Rattle.capsule_tool.proofs.PlayLaws.{played_is}
use Rattle.capsule_tool.proofs.play.played.Goals as goal

pub returns : goal.returns
returns c = played_is _ _ _ c.play.new.trace.items c.bytes.result
    (rw c.new-trace.ensures at c.in_ok-play.ensures.ok)
    (c.bytes.ensures ∙ c.in_ok-from_slice.ensures ∙ (c.as_bytes.ensures.value
    ∙ (c.as_str.ensures ∙ c.in_ok-text.ensures.value)))
