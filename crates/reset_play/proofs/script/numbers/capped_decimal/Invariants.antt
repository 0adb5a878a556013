use Rattle.std.proofs.Common.{◌≡◌, ◌-◌, ◌^◌, ◌≤◌, min, drop}
use Rattle.reset_play.specs.ScriptWords.{decimal_behind}
use Rattle.reset_play.proofs.script.numbers.capped_decimal.Given as goal

-- the digits that are left make of the number so far what all digits make of 0
abbrev pub invariant-loop-digit : goal.invariant-loop-digit
invariant-loop-digit l = record {
  fits : l.number ≤ 2 ^ 32 - 1;
  same : min (decimal_behind l.number (drop l.digit-index l.digits)) (2 ^ 32 - 1)
      ≡ min (decimal_behind 0 l.digits) (2 ^ 32 - 1);
}
