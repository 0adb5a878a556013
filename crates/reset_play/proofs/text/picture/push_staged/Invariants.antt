use Rattle.std.proofs.Common.{◌≡◌, ◌++◌, flat_map, drop}
use Rattle.reset_play.specs.Texts.{staged_text}
use Rattle.reset_play.proofs.text.picture.push_staged.Given as goal

-- what was written, and the text of what is left, are the whole text
abbrev pub invariant-loop-pair : goal.invariant-loop-pair
invariant-loop-pair l =
    l.out ++ flat_map staged_text (drop l.pair-index l.staged)
    ≡ l.fn.out ++ flat_map staged_text l.staged
