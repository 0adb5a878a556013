use Rattle.std.proofs.Common.{◌-◌, length}
use Rattle.image_parts.proofs.Walks.{IsWithin}
use Rattle.image_parts.proofs.section.section_length.Given as goal

abbrev pub invariant-loop-at : goal.invariant-loop-at
invariant-loop-at l = IsWithin l.bytes l.at

abbrev pub decreases-loop-at : goal.decreases-loop-at
decreases-loop-at l = length l.bytes - l.at
