-- The reference machine: what a platform is between two events. Nothing of banks, records, slots or
-- gates is in it.
use Rattle.std.specs.Prelude.{ℕ, Bool, false, List, [], pos}
use Rattle.cu_base.specs.declared.time.EfiTime.{EfiTime}
use Rattle.reference_machine.specs.declared.snapshot.StagedPair.{StagedPair}
use Rattle.bench_model.specs.Boards.{BoardValue}
use Rattle.bench_model.specs.Files.{File, FolderValue}
use Rattle.bench_model.specs.declared.segment.Segment.{Segment}
use Rattle.reference_machine.specs.Spent.{Element}

-- what a platform is between two events
pub record Machine : Type 0 where
  pub board : BoardValue
  pub now : EfiTime
  pub files : List File
  pub last_file : ℕ  -- the last serial of a file
  pub memory : List Segment  -- what is laid into memory; a later segment hides earlier ones
  pub staged : List StagedPair  -- the deliveries that wait in memory
  pub last_staged : ℕ  -- the last serial of a delivery by memory
  pub is_signalled : Bool  -- whether the capsule files were asked for (bit 0x04 of OsIndications, UEFI 2.10, 8.5.4)
  pub list : List Element  -- all spent units, in order
  pub in_progress : List ℕ  -- the serials of the files whose progress is stored
  pub batches : ℕ  -- how many batches the store took
  pub failed : Bool  -- whether an event since the last reset answered a fault

-- the machine's folder
abbrev pub folder_of : Machine → FolderValue
folder_of m = record { files = m.files; last_serial = m.last_file }

-- the machine with another folder
abbrev pub with_folder : Machine → FolderValue → Machine
with_folder m folder = record m { files = folder.files; last_file = folder.last_serial }

-- 2000-01-01T00:00:00, of no time zone
abbrev pub first_moment : EfiTime
first_moment = record {
  year = 2000;
  month = 1;
  day = 1;
  hour = 0;
  minute = 0;
  second = 0;
  nanosecond = 0;
  zone = pos 2047;
  daylight = 0;
  pad1 = 0;
  pad2 = 0;
}

-- a board as it leaves the factory
abbrev pub fresh : BoardValue → Machine
fresh board = record {
  board = board;
  now = first_moment;
  files = [];
  last_file = 0;
  memory = [];
  staged = [];
  last_staged = 0;
  is_signalled = false;
  list = [];
  in_progress = [];
  batches = 0;
  failed = false;
}
