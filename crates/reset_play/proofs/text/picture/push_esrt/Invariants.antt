use Rattle.std.proofs.Common.{◌≡◌, ◌++◌, flat_map, drop}
use Rattle.reset_play.specs.Texts.{esrt_text}
use Rattle.reset_play.proofs.text.picture.push_esrt.Given as goal

-- what was written, and the text of what is left, are the whole text
abbrev pub invariant-loop-entry : goal.invariant-loop-entry
invariant-loop-entry l =
    l.out ++ flat_map esrt_text (drop l.entry-index l.entries)
    ≡ l.fn.out ++ flat_map esrt_text l.entries
