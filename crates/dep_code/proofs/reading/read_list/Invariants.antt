use Rattle.std.proofs.Common.{◌≡◌, ◌-◌, length, drop}
use Rattle.dep_code.specs.declared.limits.TheConstants.{MAX_SECTION_BYTES}
use Rattle.dep_code.specs.Operations.{section_bytes}
use Rattle.dep_code.specs.Refusals.{IsFront}
use Rattle.dep_code.specs.Sections.{ops_of, placed}
use Rattle.dep_code.proofs.reading.read_list.Given as goal

abbrev pub invariant-loop-list : goal.invariant-loop-list
invariant-loop-list l = record {
  front : IsFront (ops_of l.list.items) (drop l.at l.bytes) l.bytes;
  place : l.at ≡ length (section_bytes (ops_of l.list.items));
  places : l.list.items ≡ placed 0 (ops_of l.list.items);
}

abbrev pub decreases-loop-list : goal.decreases-loop-list
decreases-loop-list l = MAX_SECTION_BYTES - l.at
