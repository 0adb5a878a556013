use Rattle.std.proofs.Common.{◌≡◌, ◌++◌, flat_map, drop}
use Rattle.reset_play.specs.Texts.{unit_text}
use Rattle.reset_play.proofs.text.units.push_units.Given as goal

-- what was written, and the text of what is left, are the whole text
abbrev pub invariant-loop-line : goal.invariant-loop-line
invariant-loop-line l =
    l.out ++ flat_map (unit_text l.board) (drop l.line-index l.lines)
    ≡ l.fn.out ++ flat_map (unit_text l.board) l.lines
