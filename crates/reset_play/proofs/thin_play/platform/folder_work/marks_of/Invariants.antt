use Rattle.std.proofs.Common.{◌≡◌, take}
use Rattle.reset_play.specs.Whole.{marks_of}
use Rattle.reset_play.proofs.thin_play.platform.folder_work.marks_of.Given as goal

abbrev pub invariant-loop-file : goal.invariant-loop-file
invariant-loop-file l = l.marks.items ≡ marks_of l.list (take l.file-index l.files)
