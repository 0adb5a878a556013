-- What a store stands for: its variables are those of the reference machine, and no others.
use Rattle.std.specs.Prelude.{◌≡◌, ℕ, ◌<◌, ◌≤◌, ◌==◌, ◌^◌, ◌&&◌, true, List, length, find}
use Rattle.std.specs.Prelude.{Option, None, Some, option_map, is_some, if◌then◌else◌}
use Rattle.std.specs.List.{AllByRecursion, list_any}
use Rattle.bench_model.specs.Boards.{BoardValue}
use Rattle.reference_machine.specs.Boots.{staged_in_order}
use Rattle.reference_machine.specs.Machine.{Machine}
use Rattle.reference_machine.specs.Results.{last_result, results_of, state_of}
use Rattle.reference_machine.specs.Spent.{Element, is_closed, is_on, is_open, spent}
use Rattle.report_tables.specs.Results.{result_bytes}
use Rattle.stored_vars.specs.Last.{last_bytes}
use Rattle.stored_vars.specs.Variables.{guid_of, is_variable, name_of}
use Rattle.stored_vars.specs.declared.claim.Claim.{Claim}
use Rattle.stored_vars.specs.declared.variable.StoredVar.{StoredVar}
use Rattle.stored_vars.specs.declared.variable.StoredVar.TheVariants.{CapsuleMax}
use Rattle.var_log.specs.Banks.{StoreValue}
use Rattle.var_log.specs.Changes.{Variables}
use Rattle.stored_vars.specs.Holds.{bytes_in, claim_of, device_of, indications_of, last_result_of}
use Rattle.stored_vars.specs.Holds.{last_staged_of, progress_of, result_of, staged_of}

-- the claim of an element: its key, version and floor, and the length of its payload
abbrev pub claim_for : Element → Claim
claim_for e = record {
  key = e.key;
  version = e.version;
  floor = e.floor;
  length = length e.payload;
}

-- the claim of the open element on a device
abbrev pub claim_on : List Element → ℕ → Option Claim
claim_on list d = option_map claim_for (find (λ e. is_open e && is_on d e) list)

-- the bytes of the result of a number
abbrev pub result_on : BoardValue → List Element → ℕ → Option (List ℕ)
result_on board list n =
    option_map (λ r. result_bytes r.variable)
    (find (λ r. r.number == n) (results_of board list))

-- the name of the greatest result, as soon as there is one
abbrev pub greatest_on : BoardValue → List Element → Option (List ℕ)
greatest_on board list =
    if list_any is_closed list then Some (last_bytes board.result_max) else None

-- how many units of a file are spent, where its progress is stored
abbrev pub units_on : Machine → ℕ → Option ℕ
units_on m serial =
    if list_any (λ s. s == serial) m.in_progress then Some (spent m.list serial) else None

-- the same by the progress that variables hold
abbrev pub units_kept : Variables → ℕ → Option ℕ
units_kept variables serial =
    option_map (λ e. e.units) (find (λ e. e.serial == serial) (progress_of variables))

-- what is stored of progress has its width: serials below 2^64, fewer than 2^32 spent units of each
abbrev pub ProgressFits : Machine → Type 0
ProgressFits m = AllByRecursion (λ s. (s < 2 ^ 64) × (spent m.list s < 2 ^ 32)) m.in_progress

-- a variable of the platform has this GUID and name
pub record IsPlatforms (guid name : List ℕ) : Type 0 where
  pub variable : StoredVar
  pub within : is_variable variable ≡ true
  pub guid_is : (guid_of variable).bytes ≡ guid
  pub name_is : name_of variable ≡ name

-- the variables hold what the machine is
pub record Holds (variables : Variables) (m : Machine) : Type 0 where
  pub devices : (d : ℕ) → d < length m.board.devices
      → device_of m.board variables d ≡ state_of m.board m.list d
  pub claims : (d : ℕ) → d < length m.board.devices → claim_of variables d ≡ claim_on m.list d
  pub results : (n : ℕ) → n ≤ m.board.result_max
      → result_of variables n ≡ result_on m.board m.list n
  pub greatest : bytes_in variables CapsuleMax ≡ greatest_on m.board m.list
  pub last : last_result_of variables ≡ last_result m.board m.list
  pub staged : staged_of variables ≡ staged_in_order m
  pub serial : last_staged_of variables ≡ m.last_staged
  pub asked : indications_of variables ≡ (if m.is_signalled then 4 else 0)
  pub progress : (serial : ℕ) → units_kept variables serial ≡ units_on m serial
  pub others : (guid name : List ℕ) → is_some (variables guid name) ≡ true
      → IsPlatforms guid name

-- the store is that of the machine: its variables hold what the machine is, and its last batch has
-- the number of batches that the machine took
pub record Stores (s : StoreValue) (m : Machine) : Type 0 where
  pub variables : Holds s.variables m
  pub number : s.seq ≡ m.batches
