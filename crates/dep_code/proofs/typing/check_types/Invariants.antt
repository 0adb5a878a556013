use Rattle.std.proofs.Common.{◌≡◌, ℕ, ◌+◌, ◌<◌, true, [], take, Some}
use Rattle.dep_code.specs.Sections.{ops_of}
use Rattle.dep_code.specs.Typing.{is_typed, stack_after}
use Rattle.dep_code.proofs.typing.check_types.Given as goal

abbrev pub invariant-loop-item : goal.invariant-loop-item
invariant-loop-item l = record {
  stack : stack_after [] (take l.item-index (ops_of l.ops)) ≡ Some l.stack;
  typed : (k : ℕ) → k < l.item-index → is_typed (take (k + 1) (ops_of l.ops)) ≡ true;
}
