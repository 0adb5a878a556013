-- The folder of capsule files of a volume. Two names are one file where they differ in case alone.
use Rattle.std.specs.Prelude.{◌≢◌, ℕ, ◌+◌, ◌-◌, ◌^◌, ◌≤◌, ◌==◌, ◌&&◌, ◌||◌, Bool, not, nat_le}
use Rattle.std.specs.Prelude.{nat_lt, List, [], ◌∷◌, ◌++◌, length, map, filter, find, sum_by}
use Rattle.std.specs.Prelude.{IsTrue, All, AllPairs, option_map, unwrap_or}
use Rattle.std.specs.List.{list_all, list_any}
use Rattle.std.specs.Str.{bytes_eq, str_to_ascii_uppercase}
use Rattle.bench_model.specs.declared.outside_limits.TheConstants.{MAX_FILE_BYTES, MAX_FILE_NAME}
use Rattle.bench_model.specs.declared.outside_limits.TheConstants.{MAX_FILES, MAX_FOLDER_BYTES}
use Rattle.bench_model.specs.Names.{is_name_byte}

-- a file of the folder; its bytes never change under one serial
pub record File : Type 0 where
  pub name : List ℕ
  pub serial : ℕ
  pub bytes : List ℕ

-- the files of a volume, and the last serial that was drawn
pub record FolderValue : Type 0 where
  pub files : List File
  pub last_serial : ℕ

-- what a listing tells of a file
pub record ListedFile : Type 0 where
  pub name : List ℕ
  pub serial : ℕ
  pub size : ℕ

-- what a listing tells of these files, in their order
abbrev pub listed : List File → List ListedFile
listed files = map (λ x. record { name = x.name; serial = x.serial; size = length x.bytes }) files

-- 1 to 40 of ASCII letters, digits, '.', '_' and '-'
abbrev pub is_file_name : List ℕ → Bool
is_file_name name =
    nat_le 1 (length name) && nat_le (length name) MAX_FILE_NAME && list_all is_name_byte name

-- the names are those of one file
abbrev pub is_same_name : List ℕ → List ℕ → Bool
is_same_name a b = bytes_eq (str_to_ascii_uppercase a) (str_to_ascii_uppercase b)

-- a file has this name
abbrev pub has_file : List ℕ → List File → Bool
has_file name files = list_any (λ x. is_same_name x.name name) files

-- a file has this serial
abbrev pub has_serial : ℕ → List File → Bool
has_serial serial files = list_any (λ x. x.serial == serial) files

-- the bytes of the file of this serial, or none where there is none
abbrev pub file_bytes : ℕ → List File → List ℕ
file_bytes serial files =
    unwrap_or (option_map (λ x. x.bytes) (find (λ x. x.serial == serial) files)) []

-- the files of all other names
abbrev pub others_than : List ℕ → List File → List File
others_than name files = filter (λ x. not (is_same_name x.name name)) files

-- all bytes of the files
abbrev pub bytes_in : List File → ℕ
bytes_in files = sum_by (λ x. length x.bytes) files

-- the folder takes no further file of this name and size: 64 files are there and the name is new,
-- or the bytes of all would pass their limit, or no serial is left
abbrev pub is_folder_full : FolderValue → List ℕ → ℕ → Bool
is_folder_full folder name size =
    nat_le MAX_FILES (length folder.files) && not (has_file name folder.files)
    || nat_lt MAX_FOLDER_BYTES (bytes_in (others_than name folder.files) + size)
    || nat_le (2 ^ 64 - 1) folder.last_serial

-- the folder with a file put into it: it takes the place of one of the same name, and has the next
-- serial
abbrev pub with_put : FolderValue → List ℕ → List ℕ → FolderValue
with_put folder name bytes = record {
  files = others_than name folder.files
      ++ record { name = name; serial = folder.last_serial + 1; bytes = bytes } ∷ [];
  last_serial = folder.last_serial + 1;
}

-- the folder without the file of this serial
abbrev pub without_serial : FolderValue → ℕ → FolderValue
without_serial folder serial =
    record folder { files = filter (λ x. not (x.serial == serial)) folder.files }

-- a file in a listing keeps the limits of names and sizes
pub record IsListedFile (x : ListedFile) : Type 0 where
  pub name : IsTrue (is_file_name x.name)
  pub size : x.size ≤ MAX_FILE_BYTES

-- two files have names that differ in more than case
abbrev pub HaveOtherNames : ListedFile → ListedFile → Type 0
HaveOtherNames a b = str_to_ascii_uppercase a.name ≢ str_to_ascii_uppercase b.name

-- two files have different serials
abbrev pub HaveOtherSerials : ListedFile → ListedFile → Type 0
HaveOtherSerials a b = a.serial ≢ b.serial

-- a listing keeps the limits of the folder, and its names and serials are distinct
pub record IsListing (files : List ListedFile) : Type 0 where
  pub each : All IsListedFile files
  pub names : AllPairs HaveOtherNames files
  pub serials : AllPairs HaveOtherSerials files
  pub most : length files ≤ MAX_FILES
  pub bytes : sum_by (λ x. x.size) files ≤ MAX_FOLDER_BYTES
