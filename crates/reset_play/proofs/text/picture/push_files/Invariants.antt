use Rattle.std.proofs.Common.{◌≡◌, ◌++◌, flat_map, drop}
use Rattle.reset_play.specs.Texts.{file_text}
use Rattle.reset_play.proofs.text.picture.push_files.Given as goal

-- what was written, and the text of what is left, are the whole text
abbrev pub invariant-loop-file : goal.invariant-loop-file
invariant-loop-file l =
    l.out ++ flat_map file_text (drop l.file-index l.files) ≡ l.fn.out ++ flat_map file_text l.files
