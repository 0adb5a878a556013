use Rattle.std.proofs.Common.{◌≡◌, ◌*◌, ◌++◌, drop}
use Rattle.reset_play.specs.ScriptWords.{hex_pairs}
use Rattle.reset_play.proofs.script.numbers.bytes_of_hex.Given as goal

-- the bytes so far and those of the digits that are left are those of all
abbrev pub invariant-loop-at : goal.invariant-loop-at
invariant-loop-at l = l.bytes ++ hex_pairs (drop (2 * l.at) l.word) ≡ hex_pairs l.word
