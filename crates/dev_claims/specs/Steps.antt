-- The machine after a batch of a boot that closes no unit.
use Rattle.std.specs.Prelude.{ℕ, ◌+◌, ◌==◌, false, not, [], filter}
use Rattle.reference_machine.specs.Boots.{is_file}
use Rattle.reference_machine.specs.Machine.{Machine}

-- the machine once the staged delivery of a serial was taken out
abbrev pub unstaged : Machine → ℕ → Machine
unstaged m serial = record m {
  staged = filter (λ p. not (p.serial == serial)) m.staged;
  batches = m.batches + 1;
}

-- the machine once the progress of files that are gone was dropped
abbrev pub pruned : Machine → Machine
pruned m = record m {
  in_progress = filter (is_file m.files) m.in_progress;
  batches = m.batches + 1;
}

-- the machine once the capsule files are taken: they are not asked for, and no progress is stored
abbrev pub cleared : Machine → Machine
cleared m = record m { is_signalled = false; in_progress = []; batches = m.batches + 1 }
