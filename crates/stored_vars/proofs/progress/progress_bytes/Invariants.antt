use Rattle.std.proofs.Common.{◌≡◌, ◌++◌, flat_map, drop}
use Rattle.stored_vars.specs.Progress.{entry_bytes}
use Rattle.stored_vars.proofs.progress.progress_bytes.Given as goal

-- what was written, and the spelling of what is left, are the whole
abbrev pub invariant-loop-entry : goal.invariant-loop-entry
invariant-loop-entry l =
    l.out ++ flat_map entry_bytes (drop l.entry-index l.entries) ≡ flat_map entry_bytes l.entries
