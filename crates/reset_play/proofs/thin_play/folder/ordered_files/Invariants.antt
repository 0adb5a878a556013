use Rattle.std.proofs.Common.{◌≡◌, ◌≤◌, drop, length}
use Rattle.reference_machine.specs.Names.{is_taken_before}
use Rattle.reference_machine.specs.Order.{in_order}
use Rattle.reset_play.proofs.thin_play.folder.ordered_files.Given as goal

-- the files behind those that are left stand in order
abbrev pub invariant-files : goal.invariant-files
invariant-files l = record {
  ordered : l.ordered.items ≡ in_order (λ a b. is_taken_before a.name b.name) (drop l.left l.files);
  left : l.left ≤ length l.files;
}

abbrev pub decreases-files : goal.decreases-files
decreases-files l = l.left
