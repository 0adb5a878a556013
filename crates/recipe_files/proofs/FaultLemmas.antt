-- First faults: of tables one behind another, and along a list that `toml` read.
use Rattle.std.proofs.Common.{◌≡◌, ℕ, ◌+◌, ◌<◌, arith, List, [], ◌∷◌, ◌++◌, length, get_or, drop}
use Rattle.std.proofs.Common.{◌-◌, map, Option, None, Some, refl, ◌∙◌}
use Rattle.std.specs.List.{flat_map}
use Rattle.std.proofs.lemmas.List.{drop_more}
use Rattle.std.proofs.lemmas.List.Sums.{sum_by-append}
use Rattle.toml.specs.Data.{Data, Members, as_table}
use Rattle.toml.specs.View.{view}
use Rattle.toml.specs.declared.value.Value.{Value}
use Rattle.cu_base.specs.Refusals.{Row, first_refusal}
use Rattle.cu_base.proofs.Rows.{first-none, first-some}
use Rattle.recipe_files.specs.declared.faults.Fault.{Fault}
use Rattle.bench_model.specs.Devices.{DeviceValue, capacity_of}
use Rattle.bench_model.specs.Boards.{most_capacity}
use Rattle.bench_model.specs.Devices.{has_name, has_triple}
use Rattle.recipe_files.specs.declared.faults.BadKind.TheVariants.{Repeated}
use Rattle.recipe_files.specs.declared.keys.Key.TheVariants.{Bank, Store, Layout, ResultMax}
use Rattle.recipe_files.specs.declared.keys.Key.TheVariants.{Digests, Device, Name, TypeId, Index}
use Rattle.recipe_files.specs.declared.keys.Key.TheVariants.{Instance, FwType, Capacity, Version}
use Rattle.recipe_files.specs.declared.keys.Key.TheVariants.{Floor, Flags}
use Rattle.recipe_files.specs.Boards.{bank_test, board_tables, board_test, has_two_banks, some_test}
use Rattle.recipe_files.specs.Devices.{Adds, device_of, device_tables, entries_test, entry_test}
use Rattle.recipe_files.specs.Devices.{entry_rows}
use Rattle.recipe_files.specs.Devices.{factory_tables, factory_test, room_test, rows_or_kind}
use Rattle.recipe_files.specs.Devices.{table_test}
use Rattle.recipe_files.specs.Faults.{fault_row}
use Rattle.recipe_files.specs.Tests.{digest_rows, digest_test, digests_test, key_test}
use Rattle.recipe_files.specs.Values.{entries_in, guid_in, number_in, text_in}

-- ---- tables one behind another

-- the first of these that is there
abbrev pub first_there : {R : Type 0} → List (Option R) → Option R
first_there [] = None
first_there (None ∷ later) = first_there later
first_there (Some r ∷ later) = Some r

one-behind : {R : Type 0} (rows more : List (Row R)) (r later : Option R)
    → first_refusal rows ≡ r → first_refusal more ≡ later
    → first_refusal (rows ++ more) ≡ first_there (r ∷ later ∷ [])
one-behind rows more None None here then = first-none rows more here ∙ then
one-behind rows more None (Some fault) here then = first-none rows more here ∙ then
one-behind rows more (Some fault) later here then = first-some rows more fault here

there-alone : {R : Type 0} (r : Option R) → first_there (r ∷ []) ≡ r
there-alone None = refl
there-alone (Some fault) = refl

there-behind : {R : Type 0} (r : Option R) (later : List (Option R))
    → first_there (r ∷ first_there later ∷ []) ≡ first_there (r ∷ later)
there-behind None later = there-alone (first_there later)
there-behind (Some fault) later = refl

pub of_tables : {R : Type 0} (tables : List (List (Row R)))
    → first_refusal (flat_map (λ rows. rows) tables) ≡ first_there (map first_refusal tables)
of_tables [] = refl
of_tables (rows ∷ tables) =
    one-behind rows (flat_map (λ rows. rows) tables) (first_refusal rows)
    (first_there (map first_refusal tables)) refl (of_tables tables)
    ∙ there-behind (first_refusal rows) (map first_refusal tables)

pub board_test_is : (table : Members) → board_test table ≡ first_there (
    key_test Bank table
    ∷ key_test Store table
    ∷ key_test Layout table
    ∷ key_test ResultMax table
    ∷ key_test Digests table
    ∷ digests_test (entries_in Digests table)
    ∷ key_test Device table
    ∷ some_test (entries_in Device table)
    ∷ entries_test (most_capacity (has_two_banks table)) (entries_in Device table)
    ∷ bank_test (number_in Bank table) (number_in ResultMax table)
    ∷ [])
unfolding board_test key_test some_test bank_test digests_test entries_test
board_test_is table = of_tables (board_tables table)

pub factory_test_is : (room : ℕ) (table : Members) → factory_test room table ≡ first_there (
    key_test FwType table
    ∷ key_test Capacity table
    ∷ room_test room (number_in Capacity table)
    ∷ key_test Version table
    ∷ key_test Floor table
    ∷ key_test Flags table
    ∷ [])
unfolding factory_test key_test room_test
factory_test_is room table = of_tables (factory_tables room table)

pub table_test_is : (room : ℕ) (earlier : List DeviceValue) (table : Members)
    → table_test room earlier table ≡ first_there (
    key_test Name table
    ∷ first_refusal (fault_row (has_name (text_in Name table) earlier) Repeated Name ∷ [])
    ∷ key_test TypeId table
    ∷ key_test Index table
    ∷ key_test Instance table
    ∷ first_refusal (fault_row
    (has_triple
    (guid_in TypeId table) (number_in Index table) (number_in Instance table) earlier)
    Repeated Instance ∷ [])
    ∷ factory_test room table
    ∷ [])
unfolding table_test factory_test key_test
table_test_is room earlier table = of_tables (device_tables room earlier table)

-- ---- along a list

-- the first fault of the values from one on
abbrev pub fault_from : (Data → Option Fault) → List Value → ℕ → Option Fault
fault_from test vs i = first_there (map test (map view (drop i vs)))

pub fault_from-past : (test : Data → Option Fault) (vs : List Value) (i : ℕ) (v : Value)
    → i < length vs
    → test (view (get_or vs i v)) ≡ None → fault_from test vs i ≡ fault_from test vs (i + 1)
fault_from-past test vs i v within none = rw (drop_more vs i v within, none)

pub fault_from-here : (test : Data → Option Fault) (vs : List Value) (i : ℕ) (v : Value)
    (fault : Fault)
    → i < length vs
    → test (view (get_or vs i v)) ≡ Some fault → fault_from test vs i ≡ Some fault
fault_from-here test vs i v fault within some = rw (drop_more vs i v within, some)

rows_behind : (rows : Data → List (Row Fault)) (ds : List Data)
    → first_refusal (flat_map rows ds) ≡ first_there (map (λ d. first_refusal (rows d)) ds)
rows_behind rows [] = refl
rows_behind rows (d ∷ ds) =
    let test : Data → Option Fault = λ d. first_refusal (rows d) in
    one-behind (rows d) (flat_map rows ds) (test d) (first_there (map test ds)) refl
    (rows_behind rows ds)
    ∙ there-behind (test d) (map test ds)

-- the first fault of a list whose entries have rows of their own
pub along_is : (rows : Data → List (Row Fault)) (vs : List Value)
    → first_refusal (flat_map rows (map view vs)) ≡ fault_from (λ d. first_refusal (rows d)) vs 0
along_is rows vs = rows_behind rows (map view vs)

pub digests_test_is : (vs : List Value)
    → digests_test (map view vs) ≡ fault_from digest_test vs 0
unfolding digests_test digest_test
digests_test_is vs = along_is digest_rows vs

-- the tests of the entries behind those of these devices, in order; each takes of what is left
abbrev pub entry_tests : ℕ → List DeviceValue → List Data → List (Option Fault)
entry_tests room earlier [] = []
entry_tests room earlier (d ∷ ds) =
    entry_test room earlier d
    ∷ entry_tests (room - (device_of d).capacity) (earlier ++ device_of d ∷ []) ds

-- the first fault of the entries from one on, behind these devices, where so much capacity is left
abbrev pub entry_fault_from : ℕ → List DeviceValue → List Value → ℕ → Option Fault
entry_fault_from room earlier vs i = first_there (entry_tests room earlier (map view (drop i vs)))

pub entry_fault_from-past : (room left : ℕ) (earlier later : List DeviceValue) (vs : List Value)
    (i : ℕ) (v : Value)
    → i < length vs → entry_test room earlier (view (get_or vs i v)) ≡ None
    → Adds earlier (device_of (view (get_or vs i v))) later room left
    → entry_fault_from room earlier vs i ≡ entry_fault_from left later vs (i + 1)
entry_fault_from-past room left earlier later vs i v within none more =
    rw (drop_more vs i v within, none, more.items, more.rest)

pub entry_fault_from-here : (room : ℕ) (earlier : List DeviceValue) (vs : List Value) (i : ℕ)
    (v : Value) (fault : Fault)
    → i < length vs → entry_test room earlier (view (get_or vs i v)) ≡ Some fault
    → entry_fault_from room earlier vs i ≡ Some fault
entry_fault_from-here room earlier vs i v fault within some = rw (drop_more vs i v within, some)

entries_behind : (room : ℕ) (earlier : List DeviceValue) (ds : List Data)
    → first_refusal (entry_rows room earlier ds) ≡ first_there (entry_tests room earlier ds)
unfolding entry_test
entries_behind room earlier [] = refl
entries_behind room earlier (d ∷ ds) =
    let left = room - (device_of d).capacity in
    let later = earlier ++ device_of d ∷ [] in
    let rows = rows_or_kind room earlier (as_table d) in
    one-behind rows (entry_rows left later ds) (first_refusal rows)
    (first_there (entry_tests left later ds)) refl (entries_behind left later ds)
    ∙ there-behind (first_refusal rows) (entry_tests left later ds)

pub entries_test_is : (most : ℕ) (vs : List Value)
    → entries_test most (map view vs) ≡ entry_fault_from most [] vs 0
unfolding entries_test
entries_test_is most vs = entries_behind most [] (map view vs)

-- one device more takes of the capacity that is left
pub capacity_more : (most room left : ℕ) (old new : List DeviceValue) (d : DeviceValue)
    → capacity_of old + room ≡ most → Adds old d new room left → capacity_of new + left ≡ most
capacity_more most room left old new d so_far more =
    let one : capacity_of new ≡ capacity_of old + (0 + d.capacity) =
    rw more.items (sum_by-append (λ (e : DeviceValue). e.capacity) old (d ∷ [])) in
    omega (arith, one, so_far, more.rest, more.within)
