use Rattle.std.proofs.Common.{◌≡◌, take}
use Rattle.update_inbox.proofs.folder.copies_of.Given as goal

-- the files before this one are copied
abbrev pub invariant-loop-file : goal.invariant-loop-file
invariant-loop-file l = l.copies.items ≡ take l.file-index l.files
