use Rattle.std.proofs.Common.{◌≡◌, take}
use Rattle.cap_boot.specs.Tasks.{serials_of}
use Rattle.cap_boot.proofs.folder.serials_of.Given as goal

abbrev pub invariant-loop-file : goal.invariant-loop-file
invariant-loop-file l = record { items : l.serials.items ≡ serials_of (take l.file-index l.files) }
