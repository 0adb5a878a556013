use Rattle.std.proofs.Common.{◌≡◌, ◌+◌, ◌++◌, map, drop}
use Rattle.reference_machine.specs.TraceValues.{answer_value}
use Rattle.reset_play.specs.Texts.{entries_text}
use Rattle.reset_play.proofs.text.entries.push_entries.Given as goal

-- what was written, and the lines of what is left, are all lines
abbrev pub invariant-loop-i : goal.invariant-loop-i
invariant-loop-i l =
    l.out ++ entries_text l.board (l.i + 1) (drop l.i l.script)
    (map (λ e. answer_value e.answer) (drop l.i l.trace))
    ≡ l.fn.out ++ entries_text l.board 1 l.script (map (λ e. answer_value e.answer) l.trace)
