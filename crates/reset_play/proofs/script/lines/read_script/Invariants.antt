use Rattle.std.proofs.Common.{◌≡◌, ◌+◌, ◌≤◌, ◌<◌, ◌^◌, length}
use Rattle.reset_play.specs.declared.script.limits.TheConstants.{MAX_EVENTS}
use Rattle.reset_play.specs.ScriptText.{lines_said, script_said, behind}
use Rattle.reset_play.specs.ScriptWords.{parts}
use Rattle.reset_play.proofs.script.lines.read_script.Given as goal

-- the events so far and what the lines that are left say are what all lines say
abbrev pub invariant-lines : goal.invariant-lines
invariant-lines l = record {
  said : behind l.script.items (lines_said l.number (length l.script.items) (parts 10 l.text))
      ≡ script_said l.fn.bytes;
  number : l.number + length l.text ≤ length l.fn.bytes + 1;
  short : length l.fn.bytes < 2 ^ 32;
  few : length l.script.items ≤ MAX_EVENTS;
}

abbrev pub decreases-lines : goal.decreases-lines
decreases-lines l = length l.text
