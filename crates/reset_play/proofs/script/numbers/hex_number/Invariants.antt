use Rattle.std.proofs.Common.{◌≡◌, ◌^◌, ◌<◌, true, drop, take}
use Rattle.std.specs.List.{list_all}
use Rattle.reset_play.specs.ScriptWords.{hex_behind, is_hex_digit}
use Rattle.reset_play.proofs.script.numbers.hex_number.Given as goal

-- so far all are digits, and those that are left make of the number so far what all make of 0
abbrev pub invariant-loop-digit : goal.invariant-loop-digit
invariant-loop-digit l = record {
  fits : l.number < 16 ^ l.digit-index;
  digits : list_all is_hex_digit (take l.digit-index l.word) ≡ true;
  same : hex_behind l.number (drop l.digit-index l.word) ≡ hex_behind 0 l.word;
}
