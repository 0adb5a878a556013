use Rattle.std.proofs.Common.{◌≡◌, ◌*◌, ◌≤◌, ◌<◌, length}
use Rattle.cu_base.specs.declared.limits.TheConstants.{MAX_CAPSULE_BYTES}
use Rattle.capsule_grammar.proofs.BackLemmas.{Before}
use Rattle.capsule_grammar.proofs.all.decode_all.Given as goal

abbrev pub invariant-loop : goal.invariant-loop
invariant-loop l = record {
  before : Before l.capsules.items l.at l.bytes;
  count : length l.capsules.items ≡ l.counter;
  more : 0 < l.counter → l.at < length l.bytes;
  place : l.at ≤ MAX_CAPSULE_BYTES * l.counter;
}
