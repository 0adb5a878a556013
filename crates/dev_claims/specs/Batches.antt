-- The batches that claims commit.
use Rattle.std.specs.Prelude.{ℕ, ◌==◌, Bool, false, List, [], ◌∷◌, length, filter, map}
use Rattle.std.specs.Prelude.{bit_and, Option, Some, None, option_map, unwrap_or, if◌then◌else◌}
use Rattle.std.specs.List.{list_any, range_with_len}
use Rattle.stored_vars.specs.Progress.{progress_bytes}
use Rattle.stored_vars.specs.Edits.{delete_of, set_of}
use Rattle.stored_vars.specs.declared.progress.ProgressEntry.{ProgressEntry}
use Rattle.stored_vars.specs.declared.limits.TheConstants.{MAX_STAGE_VARIABLES}
use Rattle.stored_vars.specs.declared.variable.StoredVar.TheVariants.{OsIndications, Progress}
use Rattle.stored_vars.specs.declared.variable.StoredVar.TheVariants.{Stage}
use Rattle.var_log.specs.declared.change.Change.{Change}
use Rattle.var_log.specs.Changes.{Variables}
use Rattle.stored_vars.specs.Holds.{bytes_in, indications_of, progress_of, staged_at}
use Rattle.stored_vars.specs.Numbers.{number_bytes}

-- the serial is one of these
abbrev pub has_serial : List ℕ → ℕ → Bool
has_serial serials serial = list_any (λ s. s == serial) serials

-- the entries of these serials alone
abbrev pub entries_of : List ProgressEntry → List ℕ → List ProgressEntry
entries_of entries serials = filter (λ e. has_serial serials e.serial) entries

-- the change that leaves just these entries as progress
abbrev pub progress_change : List ProgressEntry → Change
progress_change [] = delete_of Progress
progress_change (e ∷ rest) = set_of Progress (progress_bytes (e ∷ rest))

-- the change from entries to those of them that stay, none where all stay
abbrev pub dropping : List ProgressEntry → List ProgressEntry → List Change
dropping entries kept =
    if length kept == length entries then [] else progress_change kept ∷ []

-- the batch that drops the progress of all other serials
abbrev pub prune_changes : Variables → List ℕ → List Change
prune_changes variables serials =
    dropping (progress_of variables) (entries_of (progress_of variables) serials)

-- a variable of this number keeps a delivery of the serial
abbrev pub keeps_serial : Variables → ℕ → ℕ → Bool
keeps_serial variables serial k =
    unwrap_or (option_map (λ p. p.serial == serial) (staged_at variables k)) false

-- the batch that takes a staged delivery out: it deletes what keeps one of the serial
abbrev pub unstage_changes : Variables → ℕ → List Change
unstage_changes variables serial =
    map (λ k. delete_of (Stage k))
    (filter (keeps_serial variables serial) (range_with_len 0 MAX_STAGE_VARIABLES))

-- the change that drops all progress, none where none is stored
abbrev pub progress_dropped : Option (List ℕ) → List Change
progress_dropped None = []
progress_dropped (Some bytes) = delete_of Progress ∷ []

-- the batch once the capsule files are taken: OsIndications without bit 0x04 (UEFI 2.10, 8.5.4),
-- and no progress
abbrev pub clear_changes : Variables → List Change
clear_changes variables =
    set_of OsIndications (number_bytes (bit_and (indications_of variables) 0xFFFFFFFFFFFFFFFB))
    ∷ progress_dropped (bytes_in variables Progress)
