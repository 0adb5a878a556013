use Rattle.std.proofs.Common.{◌≡◌, take, filter}
use Rattle.reference_machine.specs.Boots.{is_file}
use Rattle.reset_play.proofs.thin_play.platform.folder_work.with_files.Given as goal

abbrev pub invariant-loop-serial : goal.invariant-loop-serial
invariant-loop-serial l =
    l.left.items ≡ filter (is_file l.files) (take l.serial-index l.in_progress)
