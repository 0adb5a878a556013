-- The units of a list, done one after another.
use Rattle.std.proofs.Common.{◌≡◌, ℕ, zero, suc, ◌+◌, ◌<◌, ◌≤◌, List, [], ◌∷◌, Result, Ok}
use Rattle.std.proofs.Common.{ap, arith, drop, flat_map, get_or, length, refl, subst, sym}
use Rattle.std.proofs.Common.{◌∙◌, ◌==◌, ◌&&◌}
use Rattle.cu_base.specs.declared.guid.Guid.{Guid}
use Rattle.reference_machine.specs.Boots.{BootTask, unit_tasks}
use Rattle.reference_machine.specs.Boots.BootBatch.{Does}
use Rattle.reference_machine.specs.Boots.BootTask.{Commits}
use Rattle.reference_machine.specs.Deliveries.{BootUnit, Delivery, numbered}
use Rattle.reference_machine.specs.Machine.{Machine}
use Rattle.reference_machine.specs.declared.unit.UnitKey.{UnitKey}
use Rattle.capsule_grammar.specs.declared.value.Image.{Image}
use Rattle.cap_boot.specs.declared.fault.BootFault.{BootFault}
use Rattle.cap_boot.specs.declared.unit_list.DeliveryUnit.{DeliveryUnit}
use Rattle.cap_boot.specs.declared.unit_list.Matter.{Matter}
use Rattle.cap_boot.specs.declared.unit_list.Matter.TheVariants.{Bad, Skip, NoTarget, Try}
use Rattle.cap_boot.specs.Closing.{unit_work}
use Rattle.cap_boot.specs.Going.{Goes, IsAny, Tasks, nothing}
use Rattle.cap_boot.specs.Keeps.{KeepsUnit}
use Rattle.cap_boot.specs.Situations.{Situation}
use Rattle.cap_boot.specs.Stands.{Setting}
use Rattle.cap_boot.specs.Units.{delivery_key, listed_tasks, listed_unit, numbered_from}
use Rattle.cap_boot.specs.Units.{try_unit, unit_of}
use Rattle.cap_boot.proofs.Works.{loop_next, loop_out, works_as}

-- ---- one unit

-- the unit of a list that is tried
pub tries_listed : {T : Type 0} (x : Setting) (d : Delivery) (n : ℕ) (u : DeliveryUnit)
    (matter : Matter) (image : Image) (key : UnitKey) {y z : Situation} {r : Result T BootFault}
    → u.matter ≡ matter → key ≡ (listed_unit d n u).key
    → try_unit (numbered (n, unit_of d u.capsule u.item u.guid matter)).key u.guid image
    ≡ numbered (n, unit_of d u.capsule u.item u.guid matter)
    → Goes x IsAny (KeepsUnit key) (unit_work (try_unit key u.guid image)) nothing y r z
    → Goes x IsAny (KeepsUnit (listed_unit d n u).key) (unit_work (listed_unit d n u)) nothing y r z
tries_listed x d n u matter image key {y = y} {z = z} {r = r} is key_is tried goes =
    let at : Matter → BootUnit = λ m. numbered (n, unit_of d u.capsule u.item u.guid m) in
    let same : try_unit key u.guid image ≡ listed_unit d n u =
    ap (λ (k : UnitKey). try_unit k u.guid image) (key_is ∙ ap (λ (m : Matter). (at m).key) is)
    ∙ tried ∙ sym (ap at is) in
    subst (λ (v : BootUnit). Goes x IsAny (KeepsUnit v.key) (unit_work v) nothing y r z) same goes

-- ---- a list

-- the work on the units of a list from a number on, unit by unit
abbrev pub each_tasks : Delivery → List DeliveryUnit → ℕ → Tasks
each_tasks d us i m = flat_map (λ u. unit_work u m) (drop i (numbered_from 0 d us))

tasks_flat : (us : List BootUnit) → unit_tasks us ≡ flat_map (λ u. Commits (Does u) ∷ []) us
tasks_flat [] = refl
tasks_flat (u ∷ us) = ap (λ (w : List BootTask). Commits (Does u) ∷ w) (tasks_flat us)

pub as_listed : {T : Type 0} (x : Setting) (d : Delivery) (us : List DeliveryUnit) (from : ℕ)
    {Keeps : Machine → Machine → Type 0} {y z : Situation} {r : Result T BootFault}
    → Goes x IsAny Keeps (each_tasks d us from) nothing y r z
    → Goes x IsAny Keeps (listed_tasks d us from) nothing y r z
as_listed x d us from goes =
    works_as x (λ b way at. tasks_flat (drop from (numbered_from 0 d us))) goes

pub listed_long : (n : ℕ) (d : Delivery) (us : List DeliveryUnit)
    → length (numbered_from n d us) ≡ length us
listed_long n d [] = refl
listed_long n d (u ∷ us) = ap suc (listed_long (n + 1) d us)

pub listed_at : (n : ℕ) (d : Delivery) (us : List DeliveryUnit) (i : ℕ) (e : BootUnit)
    (u : DeliveryUnit) → i < length us
    → get_or (numbered_from n d us) i e ≡ listed_unit d (n + i) (get_or us i u)
listed_at n d [] i e u lt = absurd (omega arith)
listed_at n d (v ∷ us) zero e u lt = ap (λ (k : ℕ). listed_unit d k v) (omega arith)
listed_at n d (v ∷ us) (suc i) e u lt =
    listed_at (n + 1) d us i e u (omega arith)
    ∙ ap (λ (k : ℕ). listed_unit d k (get_or us i u)) (omega arith)

-- the route and the serial of a unit are those of its delivery
record IsOf (d : Delivery) (key : UnitKey) : Type 0 where
  route : key.ticket.route ≡ d.route
  serial : key.ticket.serial ≡ d.serial

of_delivery : (d : Delivery) (n capsule item : ℕ) (guid : Guid) (matter : Matter)
    → IsOf d (numbered (n, unit_of d capsule item guid matter)).key
of_delivery d n capsule item guid Bad = record { route = refl; serial = refl }
of_delivery d n capsule item guid Skip = record { route = refl; serial = refl }
of_delivery d n capsule item guid (NoTarget image) = record { route = refl; serial = refl }
of_delivery d n capsule item guid (Try image device) = record { route = refl; serial = refl }

-- what a unit keeps, its delivery keeps
keeps_of : (d : Delivery) (key : UnitKey) (a b : Machine) → IsOf d key → KeepsUnit key a b
    → KeepsUnit (delivery_key d) a b
keeps_of d key a b of k = record {
  asked = k.asked;
  files = k.files;
  progress = λ memory. k.progress (λ is. memory (sym of.route ∙ is));
  spent = λ serial other. k.spent serial
      (ap (λ (r : ℕ). r == 1 && key.ticket.serial == serial) of.route
      ∙ ap (λ (s : ℕ). d.route == 1 && s == serial) of.serial ∙ other);
}

pub keeps_then : (key : UnitKey) (a b c : Machine) → KeepsUnit key a b → KeepsUnit key b c
    → KeepsUnit key a c
keeps_then key a b c p q = record {
  asked = q.asked ∙ p.asked;
  files = q.files ∙ p.files;
  progress = λ memory. q.progress memory ∙ p.progress memory;
  spent = λ serial other. q.spent serial other ∙ p.spent serial other;
}

pub keeps_all : (key : UnitKey) (m : Machine) → KeepsUnit key m m
keeps_all key m = record {
  asked = refl;
  files = refl;
  progress = λ memory. refl;
  spent = λ serial other. refl;
}

-- the next unit of a list
pub unit_next : {T U : Type 0} (x : Setting) (d : Delivery) (us : List DeliveryUnit) (from i : ℕ)
    (u : DeliveryUnit) {y z v : Situation} {w : T} {r : Result U BootFault} → i < length us
    → u ≡ get_or us i u
    → Goes x IsAny (KeepsUnit (delivery_key d)) (each_tasks d us from) (each_tasks d us i) y (Ok w)
    z
    → Goes x IsAny (KeepsUnit (listed_unit d i u).key) (unit_work (listed_unit d i u)) nothing z r v
    → Goes x IsAny (KeepsUnit (delivery_key d)) (each_tasks d us from) (each_tasks d us (i + 1)) y r
    v
unit_next x d us from i u {z = z} {v = v} {r = r} lt is before goes =
    let xs : List BootUnit = numbered_from 0 d us in
    let e : BootUnit = listed_unit d i u in
    let long : length xs ≡ length us = listed_long 0 d us in
    let here : e ≡ get_or xs i e =
    ap (listed_unit d i) is ∙ ap (λ (k : ℕ). listed_unit d k (get_or us i u)) (omega arith)
    ∙ sym (listed_at 0 d us i e u lt) in
    let each : BootUnit → Tasks = unit_work in
    loop_next x {One = KeepsUnit e.key} each xs i e (λ start m rest may. tt)
    (λ b k way kept. refl)
    (λ a b c p q. keeps_then (delivery_key d) a b c p
    (keeps_of d e.key b c (of_delivery d i u.capsule u.item u.guid u.matter) q))
    (omega (arith, lt, long)) before
    (subst (λ (f : BootUnit). Goes x IsAny (KeepsUnit e.key) (unit_work f) nothing z r v) here goes)

-- the list is done
pub units_out : {T : Type 0} (x : Setting) (d : Delivery) (us : List DeliveryUnit) (from i : ℕ)
    {y z : Situation} {w : T} → length us ≤ i
    → Goes x IsAny (KeepsUnit (delivery_key d)) (each_tasks d us from) (each_tasks d us i) y (Ok w)
    z
    → Goes x IsAny (KeepsUnit (delivery_key d)) (listed_tasks d us from) nothing y (Ok w) z
units_out x d us from i le goes =
    let long : length (numbered_from 0 d us) ≡ length us = listed_long 0 d us in
    as_listed x d us from
    (loop_out x unit_work (numbered_from 0 d us) i (omega (arith, le, long)) goes)
