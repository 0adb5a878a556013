-- A folder in memory keeps the limits of its files.
use Rattle.std.specs.Prelude.{◌≢◌, ℕ, ◌≤◌, length, IsTrue, All, AllPairs}
use Rattle.std.specs.Str.{str_to_ascii_uppercase}
use Rattle.bench_model.specs.declared.outside_limits.TheConstants.{MAX_FILE_BYTES, MAX_FILES}
use Rattle.bench_model.specs.declared.outside_limits.TheConstants.{MAX_FOLDER_BYTES}
use Rattle.bench_model.specs.Files.{File, FolderValue, bytes_in, is_file_name}

-- a file keeps the limits of names and sizes, and its serial was drawn
pub record IsFile (last_serial : ℕ) (x : File) : Type 0 where
  pub name : IsTrue (is_file_name x.name)
  pub size : length x.bytes ≤ MAX_FILE_BYTES
  pub drawn : x.serial ≤ last_serial

-- two files have names that differ in more than case
abbrev pub DifferInName : File → File → Type 0
DifferInName a b = str_to_ascii_uppercase a.name ≢ str_to_ascii_uppercase b.name

-- two files have different serials
abbrev pub DifferInSerial : File → File → Type 0
DifferInSerial a b = a.serial ≢ b.serial

-- the folder keeps its limits, and its names and serials are distinct
pub record IsFolder (f : FolderValue) : Type 0 where
  pub each : All (IsFile f.last_serial) f.files
  pub names : AllPairs DifferInName f.files
  pub serials : AllPairs DifferInSerial f.files
  pub most : length f.files ≤ MAX_FILES
  pub bytes : bytes_in f.files ≤ MAX_FOLDER_BYTES
