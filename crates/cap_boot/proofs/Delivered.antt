-- The units of a delivery, as those of what its bytes decode to.
use Rattle.std.proofs.Common.{◌≡◌, ◌≤◌, ◌∙◌, ℕ, List, [], None, Option, Result, Some, ap, arith}
use Rattle.std.proofs.Common.{drop}
use Rattle.std.proofs.Common.{◌<◌, ◌^◌, Bor, length, map, refl, subst, sym}
use Rattle.std.proofs.lemmas.List.{length-map}
use Rattle.std.proofs.lemmas.List.FromFn.{length-enumerate_from}
use Rattle.std.specs.List.{enumerate_from}
use Rattle.std.specs.Prelude.{IfSome, option_and_then, option_copied, option_map}
use Rattle.bench_model.specs.Boards.{BoardValue, IsBoard}
use Rattle.bench_model.specs.declared.segment.Segment.{Segment}
use Rattle.reference_machine.specs.Boots.{memory_delivery, unit_tasks}
use Rattle.reference_machine.specs.Deliveries.{BootUnit, Delivery, decoded_units, numbered, units}
use Rattle.reference_machine.specs.Formats.{Capsule, Formats}
use Rattle.reference_machine.specs.Machine.{Machine}
use Rattle.reference_machine.proofs.Short.{units_few}
use Rattle.reference_machine.specs.declared.snapshot.StagedPair.{StagedPair}
use Rattle.cap_boot.specs.declared.fault.BootFault.{BootFault}
use Rattle.cap_boot.specs.Going.{Goes, IsAny, nothing}
use Rattle.cap_boot.specs.Keeps.{KeepsFolder, KeepsUnit}
use Rattle.cap_boot.specs.Situations.{Situation}
use Rattle.cap_boot.specs.Stands.{Setting}
use Rattle.cap_boot.specs.Tasks.{memory_tasks}
use Rattle.cap_boot.specs.Units.{boot_unit, decoded_tasks, delivery_key, listed_tasks}
use Rattle.cap_boot.specs.declared.unit_list.DeliveryUnit.{DeliveryUnit}
use Rattle.cap_boot.proofs.Works.{keeps_less, works_as}

-- a delivery of these, of which only its units are asked
abbrev pub delivery_by : ℕ → ℕ → List ℕ → Option (List ℕ) → Delivery
delivery_by route serial name bytes =
    record { route = route; serial = serial; name = name; bytes = bytes }

-- units tell nothing of the bytes of their delivery
pub units_alike : (board : BoardValue) (route serial : ℕ) (name : List ℕ)
    (bytes other : Option (List ℕ)) (found : Option (List Capsule))
    → decoded_units board (delivery_by route serial name bytes) found
    ≡ decoded_units board (delivery_by route serial name other) found
units_alike board route serial name bytes other None = refl
units_alike board route serial name bytes other (Some capsules) = refl

-- what a delivery by memory keeps, keeps the work on the folder
keeps_folder : (serial : ℕ) (name : List ℕ) (a b : Machine)
    → KeepsUnit (delivery_key (delivery_by 0 serial name None)) a b → KeepsFolder a b
keeps_folder serial name a b k = record {
  asked = k.asked;
  files = k.files;
  progress = k.progress (λ is. let none : ⊥ = omega (arith, is) in none);
  spent = λ s. k.spent s refl;
}

-- the units of a staged delivery are those of the capsules behind its list
pub memory_done : {T : Type 0} (x : Setting) (p : StagedPair) (found : Option (List Capsule))
    {y z : Situation} {r : Result T BootFault}
    → found ≡ option_and_then x.formats.capsules
    (x.formats.coalesced y.bench.contents.rest.memory p.address)
    → Goes x IsAny (KeepsUnit (delivery_key (delivery_by 0 p.serial [] None)))
    (decoded_tasks (delivery_by 0 p.serial [] None) found 0) nothing y r z
    → Goes x IsAny KeepsFolder (memory_tasks x.formats p) nothing y r z
memory_done x p found {y = y} is goes =
    let f : Formats = x.formats in
    keeps_less x (keeps_folder p.serial []) (works_as x (λ b way at.
    let m : Machine = b.machine in
    let same : option_and_then f.capsules (f.coalesced m.memory p.address) ≡ found =
    ap (λ (memory : List Segment). option_and_then f.capsules (f.coalesced memory p.address))
    (sym at.outside.memory) ∙ sym is in
    ap (λ (us : List BootUnit). unit_tasks (map numbered (enumerate_from 0 us)))
    (ap (decoded_units m.board (memory_delivery f m p)) same
    ∙ units_alike m.board 0 p.serial [] (f.coalesced m.memory p.address) None found)) goes)

-- ---- how many units there are

-- formats that read these capsules of any bytes
abbrev formats_of : Formats → Option (List Capsule) → Formats
formats_of f found = record f { capsules = λ bytes. found }

pub few_units : (f : Formats) (board : BoardValue) (d : Delivery) (found : Option (List Capsule))
    → IsBoard board → ((capsules : List Capsule) → found ≡ Some capsules → length capsules ≤ 8)
    → length (decoded_units board d found) ≤ 2048
few_units f board d found rule few =
    let most : length (units (formats_of f found) (record d { bytes = Some [] }) board) ≤ 2048 =
    units_few (formats_of f found) (record { capsules = λ bytes capsules is. few capsules is })
    (record d { bytes = Some [] }) board rule.devices in
    let us : List BootUnit = decoded_units board (record d { bytes = Some [] }) found in
    let all : length (enumerate_from 0 us) ≡ length us = length-enumerate_from 0 us in
    let same : length (map numbered (enumerate_from 0 us)) ≡ length (enumerate_from 0 us) =
    length-map (enumerate_from 0 us) numbered in
    let alike : length us ≡ length (decoded_units board d found) =
    ap length (units_alike board d.route d.serial d.name (Some []) d.bytes found) in
    omega (arith, most, all, same, alike)

few_mapped : {X Y Z : Type 0} (items : X → List Y) (see : Y → Z) (o : Option X) (n : ℕ)
    → IfSome o (λ c. length (items c) ≤ n)
    → IfSome (option_map (λ c. map see (items c)) o) (λ zs. length zs ≤ n)
few_mapped items see None n few = tt
few_mapped items see (Some c) n few =
    let same : length (map see (items c)) ≡ length (items c) = length-map (items c) see in
    omega (arith, few, same)

-- so many at most are those that were found, as they are seen
pub few_found : {X Y Z : Type 0} (items : X → List Y) (see : Y → Z) (o : Option X) (n : ℕ)
    → IfSome o (λ c. length (items c) ≤ n) → (zs : List Z)
    → option_map (λ c. map see (items c)) o ≡ Some zs → length zs ≤ n
few_found {Z = Z} items see o n few zs is =
    subst (λ (p : Option (List Z)). IfSome p (λ ys. length ys ≤ n)) is
    (few_mapped items see o n few)

pub few_listed : (f : Formats) (board : BoardValue) (d : Delivery) (us : List DeliveryUnit)
    (found : Option (List Capsule)) → IsBoard board
    → ((capsules : List Capsule) → found ≡ Some capsules → length capsules ≤ 8)
    → map (boot_unit d) us ≡ decoded_units board d found → length us < 2 ^ 32
few_listed f board d us found rule few is =
    let most : length (decoded_units board d found) ≤ 2048 = few_units f board d found rule few in
    let same : length us ≡ length (decoded_units board d found) =
    sym (length-map us (boot_unit d)) ∙ ap length is in
    omega (arith, most, same)

-- the work on a list of units is that on what was decoded
pub decoded_done : {T : Type 0} (x : Setting) (board : BoardValue) (d : Delivery)
    (us : List DeliveryUnit) (found : Option (List Capsule)) (from : ℕ)
    {Keeps : Machine → Machine → Type 0} {y z : Situation} {r : Result T BootFault}
    → x.board ≡ board → map (boot_unit d) us ≡ decoded_units board d found
    → Goes x IsAny Keeps (listed_tasks d us from) nothing y r z
    → Goes x IsAny Keeps (decoded_tasks d found from) nothing y r z
decoded_done x board d us found from on_board is goes =
    works_as x (λ b way at.
    ap (λ (vs : List BootUnit). unit_tasks (drop from (map numbered (enumerate_from 0 vs))))
    (ap (λ (c : BoardValue). decoded_units c d found) (at.outside.board ∙ on_board) ∙ sym is)) goes

-- what was borrowed of is seen as what it is
pub seen_by : {X Z : Type 0} (o : Option (Bor X)) (p : Option X) (f : X → Z)
    → option_copied o ≡ p → option_map (λ r. f r.now) o ≡ option_map f p
seen_by None p f is = ap (option_map f) is
seen_by (Some r) p f is = ap (option_map f) is
