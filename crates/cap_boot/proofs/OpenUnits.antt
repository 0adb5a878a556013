-- What is known of the open unit of a reached machine: it is a try for its device, of another ticket
-- than what the device held before it, and its claim is the one that the store has.
use Rattle.std.proofs.Common.{◌≡◌, ◌≢◌, inl, inr, ℕ, zero, suc, ◌<◌, ◌==◌, ◌&&◌, Bool}
use Rattle.std.proofs.Common.{true, false, cond, List, [], ◌∷◌, ◌++◌, filter, filter_map, length}
use Rattle.std.proofs.Common.{refl, sym, ap, ◌∙◌, subst, arith, Option, Some, None, option_map}
use Rattle.std.proofs.Common.{slice_get, unwrap_or, true≢false}
use Rattle.std.specs.Prelude.{is_some, option_and_then}
use Rattle.std.specs.List.{AllByRecursion, cons_option, last_or, range_with_len}
use Rattle.std.specs.Str.{bytes_eq}
use Rattle.std.proofs.lemmas.Bool.{eqb-true}
use Rattle.std.proofs.lemmas.Bool.Decides.{nat_tests}
use Rattle.std.proofs.lemmas.Slice.Eq.{bytes_eq-Decides}
use Rattle.bench_model.specs.Boards.{BoardValue}
use Rattle.bench_model.specs.Devices.{DeviceValue}
use Rattle.cu_base.specs.declared.guid.Guid.{Guid}
use Rattle.cu_base.specs.declared.ticket.Ticket.{Ticket}
use Rattle.dev_claims.proofs.SettledAlike.{IsOfDevice}
use Rattle.reference_machine.specs.Deliveries.{fmp_guid, is_same_guid}
use Rattle.reference_machine.specs.Formats.{Formats, ItemHead}
use Rattle.reference_machine.specs.Laws.{Distinct, IsGiven, IsReached}
use Rattle.reference_machine.specs.Machine.{Machine}
use Rattle.reference_machine.specs.Spent.{Element, Image, end_of, factory_image, image_left}
use Rattle.reference_machine.specs.Spent.{image_of, image_tried, is_on, left_by}
use Rattle.reference_machine.specs.Stops.{is_try}
use Rattle.reference_machine.specs.declared.unit.End.{End}
use Rattle.reference_machine.specs.declared.unit.End.TheVariants.{Refused, Sealed, Kept, Lost}
use Rattle.reference_machine.specs.declared.unit.Kind.{Kind}
use Rattle.reference_machine.specs.declared.unit.Kind.TheVariants.{Try, Heal, Skip, NoTarget, Bad}
use Rattle.reference_machine.specs.declared.unit.UnitKey.{UnitKey}
use Rattle.reference_machine.proofs.Keys.{keys_append, keys_of}
use Rattle.reference_machine.proofs.Reached.{given}
use Rattle.cap_boot.specs.Tasks.{is_same_ticket}
use Rattle.cap_boot.proofs.Aimed.{IsAimedElement}
use Rattle.cap_boot.proofs.AimedLaws.{reached_aimed}
use Rattle.cap_boot.proofs.Settled.{IsLastOpen, IsOfOther, attempt_was, image_was}
use Rattle.cap_boot.proofs.UnitTargets.{IsAimed, same_place}

-- ---- it is for its device

same_guid : (a b : Guid) → is_same_guid a b ≡ true → a ≡ b
same_guid a b h =
    let bytes : a.bytes ≡ b.bytes = (bytes_eq-Decides a.bytes b.bytes).0 h in
    λ i. record { bytes = bytes i }

try_kind : (k : Kind) → is_try k ≡ true → k ≡ Try
try_kind Try h = refl
try_kind Heal h = absurd (let e : false ≡ true = h in cc)
try_kind Skip h = absurd (let e : false ≡ true = h in cc)
try_kind NoTarget h = absurd (let e : false ≡ true = h in cc)
try_kind Bad h = absurd (let e : false ≡ true = h in cc)

there_low : (ds : List DeviceValue) (k : ℕ) (d : DeviceValue) → slice_get ds k ≡ Some d
    → k < length ds
there_low [] k d h = absurd cc
there_low (x ∷ xs) zero d h = omega arith
there_low (x ∷ xs) (suc k) d h = omega (arith, there_low xs k d h)

pub record IsOpenUnit (board : BoardValue) (e : Element) : Type 0 where
  pub device : e.key.device < length board.devices
  pub is_for : IsOfDevice board e

all_last : (P : Element → Type 0) (front : List Element) (e : Element)
    → AllByRecursion P (front ++ e ∷ []) → P e
all_last P [] e all = all.0
all_last P (x ∷ xs) e all = all_last P xs e all.1

pub open_unit : (f : Formats) (board : BoardValue) (m : Machine) (e : Element)
    → IsReached f board m → IsLastOpen m.list e → IsOpenUnit board e
open_unit f board m e r at =
    let known : IsAimedElement board e =
    all_last (IsAimedElement board) at.front e
    (subst (AllByRecursion (IsAimedElement board)) at.parts (reached_aimed f board m r).each) in
    let tried : is_try e.kind ≡ true =
    known.tried (attempt_was board at.front e Sealed m.now at.none at.is_it) in
    let a : IsAimed board e.capsule e.head e.key.device = known.aimed tried in
    let guid_test : (is_same_guid e.head.type_id a.target.type_id ≡ true) ×
    ((e.head.index == a.target.index) ≡ true) = parts_of e.head a.target a.aimed in
    record {
      device = there_low board.devices e.key.device a.target a.there;
      is_for = record {
        kind = try_kind e.kind tried;
        capsule = same_guid e.capsule fmp_guid a.guid;
        type_id = same_guid e.head.type_id a.target.type_id guid_test.0
            ∙ sym (ap (λ (o : Option DeviceValue).
            unwrap_or (option_map (λ (x : DeviceValue). x.type_id) o)
            (record { bytes = Rattle.std.specs.Prelude.replicate 16 0 })) a.there);
        index = eqb-true e.head.index a.target.index guid_test.1
            ∙ sym (ap (λ (o : Option DeviceValue).
            unwrap_or (option_map (λ (x : DeviceValue). x.index) o) 0) a.there);
      };
    }
  where
    parts_of : (h : ItemHead) (d : DeviceValue)
        → Rattle.reference_machine.specs.Deliveries.is_target h d ≡ true
        → (is_same_guid h.type_id d.type_id ≡ true) × ((h.index == d.index) ≡ true)
    parts_of h d is = by_tests (is_same_guid h.type_id d.type_id) (h.index == d.index) _ is
      where
        by_tests : (a b c : Bool) → (a && b && c) ≡ true → (a ≡ true) × (b ≡ true)
        by_tests true true c k = (refl, refl)
        by_tests true false c k = absurd (let e : false ≡ true = k in cc)
        by_tests false b c k = absurd (let e : false ≡ true = k in cc)

-- ---- what its device held is of another ticket

pub same_ticket_self : (t : Ticket) → is_same_ticket t t ≡ true
same_ticket_self t =
    ap (λ b. b && t.capsule == t.capsule && t.item == t.item && t.serial == t.serial) (same t.route)
    ∙ ap (λ b. b && t.item == t.item && t.serial == t.serial) (same t.capsule)
    ∙ ap (λ b. b && t.serial == t.serial) (same t.item) ∙ same t.serial
  where
    same : (n : ℕ) → (n == n) ≡ true
    same n = grind (arith, nat_tests)

left_other : (e x : Element) (d : ℕ) (o : Option Image) → is_on d e ≡ true → is_on d x ≡ true
    → same_place x.key e.key ≡ false → image_left x ≡ Some o → IsOfOther e o
left_other e x d o on at apart left = by_end (end_of x) left
  where
    tickets : x.key.ticket ≡ e.key.ticket → ⊥
    tickets is =
        let device : x.key.device ≡ e.key.device =
        eqb-true x.key.device d at ∙ sym (eqb-true e.key.device d on) in
        let same : same_place x.key e.key ≡ true =
        ap (λ (t : Ticket). is_same_ticket x.key.ticket t && x.key.device == e.key.device) (sym is)
        ∙ ap (λ b. b && x.key.device == e.key.device) (same_ticket_self x.key.ticket)
        ∙ ap (λ (k : ℕ). x.key.device == k) (sym device) ∙ same_number x.key.device in
        true≢false (sym same ∙ apart)
      where
        same_number : (n : ℕ) → (n == n) ≡ true
        same_number n = grind (arith, nat_tests)

    by_end : (end : Option End) → left_by (image_tried x) end ≡ Some o → IsOfOther e o
    by_end None k = absurd (let z : None ≡ Some o = k in cc)
    by_end (Some (Refused status)) k = absurd (let z : None ≡ Some o = k in cc)
    by_end (Some Kept) k = absurd (let z : None ≡ Some o = k in cc)
    by_end (Some Lost) k =
        let is : None ≡ o = let z : Some None ≡ Some o = k in cc in
        subst (IsOfOther e) is tt
    by_end (Some Sealed) k =
        let is : Some (image_tried x) ≡ o = let z : Some (Some (image_tried x)) ≡ Some o = k in cc in
        subst (IsOfOther e) is tickets

all_left : (e : Element) (d : ℕ) (list : List Element) → is_on d e ≡ true
    → AllByRecursion (λ (x : Element). same_place x.key e.key ≡ false) list
    → AllByRecursion (IsOfOther e) (filter_map image_left (filter (is_on d) list))
all_left e d [] on all = tt
all_left e d (x ∷ xs) on all = by_on (is_on d x) refl (all_left e d xs on all.1)
  where
    by_left : (o : Option (Option Image)) → image_left x ≡ o → is_on d x ≡ true
        → AllByRecursion (IsOfOther e) (filter_map image_left (filter (is_on d) xs))
        → AllByRecursion (IsOfOther e)
        (cons_option o (filter_map image_left (filter (is_on d) xs)))
    by_left None k at rest = rest
    by_left (Some o) k at rest = (left_other e x d o on at all.0 k, rest)

    by_on : (b : Bool) → is_on d x ≡ b
        → AllByRecursion (IsOfOther e) (filter_map image_left (filter (is_on d) xs))
        → AllByRecursion (IsOfOther e)
        (filter_map image_left (cond b (x ∷ filter (is_on d) xs) (filter (is_on d) xs)))
    by_on false k rest = rest
    by_on true k rest = by_left (image_left x) refl k rest

last_all : {X : Type 0} (P : X → Type 0) (o : Option X) (xs : List X) (d : X) → P d
    → ((x : X) → o ≡ Some x → P x) → AllByRecursion P xs → P (unwrap_or (last_or o xs) d)
last_all P None [] d base first all = base
last_all P (Some x) [] d base first all = first x refl
last_all P o (y ∷ ys) d base first all =
    last_all P (Some y) ys d base (λ x is. subst P (let e : y ≡ x = cc in e) all.0) all.1

factory_other : (board : BoardValue) (d : ℕ) (e : Element) → e.key.ticket.route ≢ 255
    → IsOfOther e (option_map factory_image (slice_get board.devices d))
factory_other board d e low = by_device (slice_get board.devices d)
  where
    by_device : (o : Option DeviceValue) → IsOfOther e (option_map factory_image o)
    by_device None = tt
    by_device (Some x) = λ is. low (ap (λ (t : Ticket). t.route) (sym is))

others_before : (front : List UnitKey) (k : UnitKey) → Distinct same_place (front ++ k ∷ [])
    → AllByRecursion (λ l. same_place l k ≡ false) front
others_before [] k d = tt
others_before (l ∷ ls) k d = (last_of ls d.0, others_before ls k d.1)
  where
    last_of : (ks : List UnitKey) → AllByRecursion (λ j. same_place l j ≡ false) (ks ++ k ∷ [])
        → same_place l k ≡ false
    last_of [] all = all.0
    last_of (j ∷ js) all = last_of js all.1

of_keys : (list : List Element) (k : UnitKey)
    → AllByRecursion (λ l. same_place l k ≡ false) (keys_of list)
    → AllByRecursion (λ (x : Element). same_place x.key k ≡ false) list
of_keys [] k all = tt
of_keys (x ∷ xs) k all = (all.0, of_keys xs k all.1)

given_route : (m : Machine) (k : UnitKey) → IsGiven m k → k.ticket.route ≢ 255
given_route m k (inl g) is = omega (arith, g.0, is)
given_route m k (inr g) is = omega (arith, g.0, is)

pub held_other : (f : Formats) (board : BoardValue) (m : Machine) (e : Element)
    → IsReached f board m → IsLastOpen m.list e
    → IsOfOther e (image_of m.board m.list e.key.device)
held_other f board m e r at =
    let keys : keys_of m.list ≡ keys_of at.front ++ e.key ∷ [] =
    ap keys_of at.parts ∙ keys_append at.front (e ∷ []) in
    let apart : AllByRecursion (λ (x : Element). same_place x.key e.key ≡ false) at.front =
    of_keys at.front e.key (others_before (keys_of at.front) e.key
    (subst (Distinct same_place) keys (reached_aimed f board m r).apart)) in
    let route : e.key.ticket.route ≢ 255 =
    given_route m e.key (all_last (λ (x : Element). IsGiven m x.key) at.front e
    (subst (AllByRecursion (λ (x : Element). IsGiven m x.key)) at.parts
    (given f board m r).elements)) in
    let on : is_on e.key.device e ≡ true = same_number e.key.device in
    subst (IsOfOther e)
    (sym (ap (λ (l : List Element). image_of m.board l e.key.device) at.parts
    ∙ image_was m.board at.front e Sealed m.now at.none at.is_it e.key.device))
    (last_all (IsOfOther e) None
    (filter_map image_left (filter (is_on e.key.device) at.front))
    (option_map factory_image (slice_get m.board.devices e.key.device))
    (factory_other m.board e.key.device e route) (λ x is. absurd cc)
    (all_left e e.key.device at.front on apart))
  where
    same_number : (n : ℕ) → (n == n) ≡ true
    same_number n = grind (arith, nat_tests)
