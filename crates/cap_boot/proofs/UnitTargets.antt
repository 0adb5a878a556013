-- The units of a delivery: no two are of one ticket on one device, and each try is on a target.
use Rattle.std.proofs.Common.{◌≡◌, ℕ, suc, ◌+◌, ◌≤◌, ◌<◌, ◌==◌, ◌&&◌, ◌||◌, not, Bool, true}
use Rattle.std.proofs.Common.{false, cond, List, [], ◌∷◌, ◌++◌, filter, flat_map, length, map, refl}
use Rattle.std.proofs.Common.{sym, ap, ◌∙◌, arith, Option, Some, None, option_and_then}
use Rattle.std.proofs.Common.{slice_get}
use Rattle.std.specs.Prelude.{nat_lt}
use Rattle.std.specs.List.{AllByRecursion, enumerate_from}
use Rattle.std.proofs.lemmas.Bool.Decides.{nat_tests}
use Rattle.bench_model.specs.Boards.{BoardValue}
use Rattle.bench_model.specs.Devices.{DeviceValue}
use Rattle.cu_base.specs.declared.guid.Guid.{Guid}
use Rattle.reference_machine.specs.Deliveries.{BootUnit, Delivery, bare_unit, capsule_units}
use Rattle.reference_machine.specs.Deliveries.{decoded_units, fmp_guid, is_passed_over}
use Rattle.reference_machine.specs.Deliveries.{is_same_guid, is_target, item_unit, item_units}
use Rattle.reference_machine.specs.Deliveries.{numbered, targets, tries_on, units, unnumbered_key}
use Rattle.reference_machine.specs.Formats.{Capsule, Formats, Item, ItemHead}
use Rattle.reference_machine.specs.Laws.{Distinct}
use Rattle.reference_machine.specs.Stops.{is_try}
use Rattle.reference_machine.specs.declared.limits.TheConstants.{MAX_CAPSULE_ITEMS}
use Rattle.reference_machine.specs.declared.unit.Kind.TheVariants.{Skip, Try}
use Rattle.reference_machine.specs.declared.unit.UnitKey.{UnitKey}
use Rattle.reference_machine.proofs.Apart.{all_imply}
use Rattle.reference_machine.proofs.Keys.{unit_keys}
use Rattle.cap_boot.specs.Tasks.{is_same_ticket}

-- two keys are of one ticket on one device
abbrev pub same_place : UnitKey → UnitKey → Bool
same_place a b = is_same_ticket a.ticket b.ticket && a.device == b.device

-- ---- where one part differs, the places differ

route_off : (p q r s d : Bool) → p ≡ false → ((p && q && r && s) && d) ≡ false
route_off p q r s d h = ap (λ x. (x && q && r && s) && d) h

capsule_off : (p q r s d : Bool) → q ≡ false → ((p && q && r && s) && d) ≡ false
capsule_off p q r s d h = ap (λ x. (p && x && r && s) && d) h ∙ by_first p
  where
    by_first : (b : Bool) → ((b && false && r && s) && d) ≡ false
    by_first true = refl
    by_first false = refl

item_off : (p q r s d : Bool) → r ≡ false → ((p && q && r && s) && d) ≡ false
item_off p q r s d h = ap (λ x. (p && q && x && s) && d) h ∙ by_both p q
  where
    by_both : (b c : Bool) → ((b && c && false && s) && d) ≡ false
    by_both true true = refl
    by_both true false = refl
    by_both false true = refl
    by_both false false = refl

serial_off : (p q r s d : Bool) → s ≡ false → ((p && q && r && s) && d) ≡ false
serial_off p q r s d h = ap (λ x. (p && q && r && x) && d) h ∙ by_all p q r
  where
    by_all : (b c e : Bool) → ((b && c && e && false) && d) ≡ false
    by_all true true true = refl
    by_all true true false = refl
    by_all true false e = refl
    by_all false c e = refl

last_off : (t d : Bool) → d ≡ false → (t && d) ≡ false
last_off true d h = h
last_off false d h = refl

pub routes_differ : (a b : UnitKey) → (a.ticket.route == b.ticket.route) ≡ false
    → same_place a b ≡ false
routes_differ a b h = route_off _ _ _ _ _ h

pub serials_differ : (a b : UnitKey) → (a.ticket.serial == b.ticket.serial) ≡ false
    → same_place a b ≡ false
serials_differ a b h = serial_off (a.ticket.route == b.ticket.route) _ _ _ _ h

capsules_differ : (a b : UnitKey) → (a.ticket.capsule == b.ticket.capsule) ≡ false
    → same_place a b ≡ false
capsules_differ a b h = capsule_off (a.ticket.route == b.ticket.route) _ _ _ _ h

items_differ : (a b : UnitKey) → (a.ticket.item == b.ticket.item) ≡ false
    → same_place a b ≡ false
items_differ a b h = item_off (a.ticket.route == b.ticket.route) _ _ _ _ h

devices_differ : (a b : UnitKey) → (a.device == b.device) ≡ false → same_place a b ≡ false
devices_differ a b h = last_off (is_same_ticket a.ticket b.ticket) _ h

-- ---- lists

pub all_joined : {X : Type 0} (P : X → Type 0) (xs ys : List X) → AllByRecursion P xs
    → AllByRecursion P ys → AllByRecursion P (xs ++ ys)
all_joined P [] ys p q = q
all_joined P (x ∷ xs) ys p q = (p.0, all_joined P xs ys p.1 q)

pub distinct_joined : {X : Type 0} (same : X → X → Bool) (xs ys : List X) → Distinct same xs
    → Distinct same ys → AllByRecursion (λ x. AllByRecursion (λ y. same x y ≡ false) ys) xs
    → Distinct same (xs ++ ys)
distinct_joined same [] ys d e apart = e
distinct_joined same (x ∷ xs) ys d e apart =
    (all_joined (λ y. same x y ≡ false) xs ys d.0 apart.0, distinct_joined same xs ys d.1 e apart.1)

-- a place of a list whose items are told apart by a number
abbrev Tags : {X : Type 0} → (X → ℕ) → ℕ → List X → Type 0
Tags tag n xs = AllByRecursion (λ x. tag x ≡ n) xs

below : (m n : ℕ) → m < n → (m == n) ≡ false
below m n h = grind (arith, nat_tests)

module _ {X Y : Type 0} (tag : Y → ℕ) (same : Y → Y → Bool) (g : ℕ × X → List Y)
    (apart : (y z : Y) → (tag y == tag z) ≡ false → same y z ≡ false)
    (tagged : (p : ℕ × X) → Tags tag p.0 (g p)) (each : (p : ℕ × X) → Distinct same (g p)) where
  above : (n m : ℕ) → n ≤ m → (xs : List X)
      → AllByRecursion (λ y. n ≤ tag y) (flat_map g (enumerate_from m xs))
  above n m h [] = tt
  above n m h (x ∷ xs) =
      all_joined (λ y. n ≤ tag y) (g (m, x)) (flat_map g (enumerate_from (m + 1) xs))
      (all_imply (λ y. tag y ≡ m) (λ y. n ≤ tag y) (λ y e. omega (arith, e, h)) (g (m, x))
      (tagged (m, x)))
      (above n (m + 1) (omega arith) xs)

  distinct_flat : (n : ℕ) (xs : List X) → Distinct same (flat_map g (enumerate_from n xs))
  distinct_flat n [] = tt
  distinct_flat n (x ∷ xs) =
      let later : List Y = flat_map g (enumerate_from (n + 1) xs) in
      distinct_joined same (g (n, x)) later (each (n, x)) (distinct_flat (n + 1) xs)
      (all_imply (λ y. tag y ≡ n) (λ y. AllByRecursion (λ z. same y z ≡ false) later)
      (λ y e. all_imply (λ z. n + 1 ≤ tag z) (λ z. same y z ≡ false)
      (λ z h. apart y z (below (tag y) (tag z) (omega (arith, e, h)))) later
      (above (n + 1) (n + 1) (omega arith) xs))
      (g (n, x)) (tagged (n, x)))

-- ---- the targets of an item

-- an item's head is aimed at a device of the board
pub record IsAimed (board : BoardValue) (capsule : Guid) (head : ItemHead)
    (device : ℕ) : Type 0 where
  pub target : DeviceValue
  pub there : slice_get board.devices device ≡ Some target
  pub aimed : is_target head target ≡ true
  pub guid : is_same_guid capsule fmp_guid ≡ true

-- a unit that is tried is aimed
abbrev pub AimedUnit : BoardValue → BootUnit → Type 0
AimedUnit board u = is_try u.kind ≡ true → IsAimed board u.capsule u.head u.key.device

-- the numbers of the devices from one on that an item is aimed at
abbrev aimed_from : ItemHead → ℕ → List DeviceValue → List ℕ
aimed_from h n ds = map (λ p. p.0) (filter (λ p. is_target h p.1) (enumerate_from n ds))

targets_above : (h : ItemHead) (n m : ℕ) → n ≤ m → (ds : List DeviceValue)
    → AllByRecursion (λ t. n ≤ t) (aimed_from h m ds)
targets_above h n m low [] = tt
targets_above h n m low (x ∷ xs) = by_test (is_target h x) (targets_above h n (m + 1) (omega arith) xs)
  where
    by_test : (b : Bool) → AllByRecursion (λ t. n ≤ t) (aimed_from h (m + 1) xs)
        → AllByRecursion (λ t. n ≤ t)
        (map (λ (p : ℕ × DeviceValue). p.0)
        (cond b ((m, x) ∷ filter (λ p. is_target h p.1) (enumerate_from (m + 1) xs))
        (filter (λ p. is_target h p.1) (enumerate_from (m + 1) xs))))
    by_test true rest = (low, rest)
    by_test false rest = rest

targets_distinct : (h : ItemHead) (n : ℕ) (ds : List DeviceValue)
    → Distinct (λ a b. a == b) (aimed_from h n ds)
targets_distinct h n [] = tt
targets_distinct h n (x ∷ xs) = by_test (is_target h x) (targets_distinct h (n + 1) xs)
  where
    by_test : (b : Bool) → Distinct (λ a b. a == b) (aimed_from h (n + 1) xs)
        → Distinct (λ a b. a == b)
        (map (λ (p : ℕ × DeviceValue). p.0)
        (cond b ((n, x) ∷ filter (λ p. is_target h p.1) (enumerate_from (n + 1) xs))
        (filter (λ p. is_target h p.1) (enumerate_from (n + 1) xs))))
    by_test true rest = (
      all_imply (λ t. n + 1 ≤ t) (λ t. (n == t) ≡ false) (λ t e. below n t (omega (arith, e)))
          (aimed_from h (n + 1) xs) (targets_above h (n + 1) (n + 1) (omega arith) xs),
      rest,
    )
    by_test false rest = rest

-- a device that an item is aimed at, by its number
record IsOn (h : ItemHead) (devices : List DeviceValue) (t : ℕ) : Type 0 where
  target : DeviceValue
  there : slice_get devices t ≡ Some target
  aimed : is_target h target ≡ true

targets_on : (h : ItemHead) (devices : List DeviceValue) (n : ℕ) (ds : List DeviceValue)
    → ((k : ℕ) → slice_get ds k ≡ slice_get devices (n + k))
    → AllByRecursion (IsOn h devices) (aimed_from h n ds)
targets_on h devices n [] are = tt
targets_on h devices n (x ∷ xs) are =
    by_test (is_target h x) refl
    (targets_on h devices (n + 1) xs (λ k. are (suc k)
    ∙ ap (slice_get devices) (let e : n + suc k ≡ n + 1 + k = omega arith in e)))
  where
    by_test : (b : Bool) → is_target h x ≡ b → AllByRecursion (IsOn h devices)
        (aimed_from h (n + 1) xs)
        → AllByRecursion (IsOn h devices)
        (map (λ (p : ℕ × DeviceValue). p.0)
        (cond b ((n, x) ∷ filter (λ p. is_target h p.1) (enumerate_from (n + 1) xs))
        (filter (λ p. is_target h p.1) (enumerate_from (n + 1) xs))))
    by_test true e rest = (
      record {
        target = x;
        there = sym (are 0 ∙ ap (slice_get devices) (let z : n + 0 ≡ n = omega arith in z));
        aimed = e;
      },
      rest,
    )
    by_test false e rest = rest

-- ---- the units of an item, of a capsule and of a delivery

abbrev same_unit : BootUnit → BootUnit → Bool
same_unit u v = same_place u.key v.key

module _ (board : BoardValue) (d : Delivery) where
  tries_distinct : (n : ℕ) (guid : Guid) (p : ℕ × Item) (ts : List ℕ)
      → Distinct (λ a b. a == b) ts
      → Distinct same_unit (map (item_unit d n guid p Try) ts)
  tries_distinct n guid (k, item) [] h = tt
  tries_distinct n guid (k, item) (t ∷ ts) h =
      (apart_all ts h.0, tries_distinct n guid (k, item) ts h.1)
    where
      apart_all : (us : List ℕ) → AllByRecursion (λ u. (t == u) ≡ false) us
          → AllByRecursion
          (λ v. same_unit (item_unit d n guid (k, item) Try t) v ≡ false)
          (map (item_unit d n guid (k, item) Try) us)
      apart_all [] all = tt
      apart_all (u ∷ us) all = (
        devices_differ (unnumbered_key d n k t) (unnumbered_key d n k u) all.0,
        apart_all us all.1,
      )

  item_distinct : (n : ℕ) (guid : Guid) (p : ℕ × Item)
      → Distinct same_unit (item_units board d n guid p)
  item_distinct n guid (k, item) =
      by_targets (targets item.head board) (targets_distinct item.head 0 board.devices)
    where
      by_targets : (ts : List ℕ) → Distinct (λ a b. a == b) ts
          → Distinct same_unit (tries_on (item_unit d n guid (k, item)) ts)
      by_targets [] h = (tt, tt)
      by_targets (t ∷ ts) h = tries_distinct n guid (k, item) (t ∷ ts) h

  -- all units of an item have its number, and the number of its capsule
  item_tagged : (n : ℕ) (guid : Guid) (p : ℕ × Item)
      → AllByRecursion (λ (u : BootUnit). (u.key.ticket.item ≡ p.0) × (u.key.ticket.capsule ≡ n))
      (item_units board d n guid p)
  item_tagged n guid (k, item) = by_targets (targets item.head board)
    where
      tagged : (ts : List ℕ)
          → AllByRecursion (λ (u : BootUnit). (u.key.ticket.item ≡ k) × (u.key.ticket.capsule ≡ n))
          (map (item_unit d n guid (k, item) Try) ts)
      tagged [] = tt
      tagged (t ∷ ts) = ((refl, refl), tagged ts)

      by_targets : (ts : List ℕ)
          → AllByRecursion (λ (u : BootUnit). (u.key.ticket.item ≡ k) × (u.key.ticket.capsule ≡ n))
          (tries_on (item_unit d n guid (k, item)) ts)
      by_targets [] = ((refl, refl), tt)
      by_targets (t ∷ ts) = tagged (t ∷ ts)

  items_distinct : (n : ℕ) (guid : Guid) (k : ℕ) (items : List Item)
      → Distinct same_unit (flat_map (item_units board d n guid) (enumerate_from k items))
  items_distinct n guid k items =
      distinct_flat (λ (u : BootUnit). u.key.ticket.item) same_unit (item_units board d n guid)
      (λ u v h. items_differ u.key v.key h)
      (λ p. all_imply
      (λ (u : BootUnit). (u.key.ticket.item ≡ p.0) × (u.key.ticket.capsule ≡ n))
      (λ (u : BootUnit). u.key.ticket.item ≡ p.0) (λ u h. h.0) (item_units board d n guid p)
      (item_tagged n guid p)) (item_distinct n guid) k items

  items_tagged : (n : ℕ) (guid : Guid) (ps : List (ℕ × Item))
      → AllByRecursion (λ (u : BootUnit). u.key.ticket.capsule ≡ n)
      (flat_map (item_units board d n guid) ps)
  items_tagged n guid [] = tt
  items_tagged n guid (p ∷ ps) =
      all_joined (λ (u : BootUnit). u.key.ticket.capsule ≡ n) (item_units board d n guid p)
      (flat_map (item_units board d n guid) ps)
      (all_imply
      (λ (u : BootUnit). (u.key.ticket.item ≡ p.0) × (u.key.ticket.capsule ≡ n))
      (λ (u : BootUnit). u.key.ticket.capsule ≡ n) (λ u h. h.1) (item_units board d n guid p)
      (item_tagged n guid p))
      (items_tagged n guid ps)

  capsule_distinct : (p : ℕ × Capsule) → Distinct same_unit (capsule_units board d p)
  capsule_distinct (n, c) = by_test (is_passed_over c)
    where
      by_test : (b : Bool) → Distinct same_unit
          (cond b (bare_unit Skip (unnumbered_key d n 0 255) c.guid ∷ [])
          (flat_map (item_units board d n c.guid) (enumerate_from 0 c.items)))
      by_test true = (tt, tt)
      by_test false = items_distinct n c.guid 0 c.items

  capsule_tagged : (p : ℕ × Capsule)
      → Tags (λ (u : BootUnit). u.key.ticket.capsule) p.0 (capsule_units board d p)
  capsule_tagged (n, c) = by_test (is_passed_over c)
    where
      by_test : (b : Bool) → AllByRecursion (λ (u : BootUnit). u.key.ticket.capsule ≡ n)
          (cond b (bare_unit Skip (unnumbered_key d n 0 255) c.guid ∷ [])
          (flat_map (item_units board d n c.guid) (enumerate_from 0 c.items)))
      by_test true = (refl, tt)
      by_test false = items_tagged n c.guid (enumerate_from 0 c.items)

  decoded_distinct : (found : Option (List Capsule))
      → Distinct same_unit (decoded_units board d found)
  decoded_distinct None = (tt, tt)
  decoded_distinct (Some capsules) =
      distinct_flat (λ (u : BootUnit). u.key.ticket.capsule) same_unit (capsule_units board d)
      (λ u v h. capsules_differ u.key v.key h) capsule_tagged capsule_distinct 0 capsules

  -- each try is aimed
  tries_aimed : (n : ℕ) (guid : Guid) (p : ℕ × Item) → is_same_guid guid fmp_guid ≡ true
      → (ts : List ℕ) → AllByRecursion (IsOn p.1.head board.devices) ts
      → AllByRecursion (AimedUnit board) (map (item_unit d n guid p Try) ts)
  tries_aimed n guid (k, item) fmp [] all = tt
  tries_aimed n guid (k, item) fmp (t ∷ ts) all = (
    λ tried. record {
      target = all.0.target;
      there = all.0.there;
      aimed = all.0.aimed;
      guid = fmp;
    },
    tries_aimed n guid (k, item) fmp ts all.1,
  )

  item_aimed : (n : ℕ) (guid : Guid) → is_same_guid guid fmp_guid ≡ true → (p : ℕ × Item)
      → AllByRecursion (AimedUnit board) (item_units board d n guid p)
  item_aimed n guid fmp (k, item) =
      by_targets (targets item.head board)
      (targets_on item.head board.devices 0 board.devices
      (λ j. ap (slice_get board.devices) (let e : j ≡ 0 + j = omega arith in e)))
    where
      by_targets : (ts : List ℕ) → AllByRecursion (IsOn item.head board.devices) ts
          → AllByRecursion (AimedUnit board) (tries_on (item_unit d n guid (k, item)) ts)
      by_targets [] all = (λ tried. absurd (let e : false ≡ true = tried in cc), tt)
      by_targets (t ∷ ts) all = tries_aimed n guid (k, item) fmp (t ∷ ts) all

  items_aimed : (n : ℕ) (guid : Guid) → is_same_guid guid fmp_guid ≡ true
      → (ps : List (ℕ × Item))
      → AllByRecursion (AimedUnit board) (flat_map (item_units board d n guid) ps)
  items_aimed n guid fmp [] = tt
  items_aimed n guid fmp (p ∷ ps) =
      all_joined (AimedUnit board) (item_units board d n guid p)
      (flat_map (item_units board d n guid) ps) (item_aimed n guid fmp p)
      (items_aimed n guid fmp ps)

  taken_up : (a b : Bool) → (not a || b) ≡ false → a ≡ true
  taken_up true b h = refl
  taken_up false b h = absurd (let e : true ≡ false = h in cc)

  capsule_aimed : (p : ℕ × Capsule) → AllByRecursion (AimedUnit board) (capsule_units board d p)
  capsule_aimed (n, c) = by_test (is_passed_over c) refl
    where
      by_test : (b : Bool) → is_passed_over c ≡ b → AllByRecursion (AimedUnit board)
          (cond b (bare_unit Skip (unnumbered_key d n 0 255) c.guid ∷ [])
          (flat_map (item_units board d n c.guid) (enumerate_from 0 c.items)))
      by_test true h = (λ tried. absurd (let e : false ≡ true = tried in cc), tt)
      by_test false h =
          items_aimed n c.guid (fmp_of h) (enumerate_from 0 c.items)
        where
          fmp_of : is_passed_over c ≡ false → is_same_guid c.guid fmp_guid ≡ true
          fmp_of k = by_guid (is_same_guid c.guid fmp_guid) refl k
            where
              by_guid : (a : Bool) → is_same_guid c.guid fmp_guid ≡ a
                  → (not a || not (c.drivers == 0) || length c.items == 0
                  || nat_lt MAX_CAPSULE_ITEMS (length c.items)) ≡ false → a ≡ true
              by_guid true e z = refl
              by_guid false e z = absurd (let q : true ≡ false = z in cc)

  decoded_aimed : (found : Option (List Capsule))
      → AllByRecursion (AimedUnit board) (decoded_units board d found)
  decoded_aimed None = (λ tried. absurd (let e : false ≡ true = tried in cc), tt)
  decoded_aimed (Some capsules) = all_capsules (enumerate_from 0 capsules)
    where
      all_capsules : (ps : List (ℕ × Capsule))
          → AllByRecursion (AimedUnit board) (flat_map (capsule_units board d) ps)
      all_capsules [] = tt
      all_capsules (p ∷ ps) =
          all_joined (AimedUnit board) (capsule_units board d p)
          (flat_map (capsule_units board d) ps) (capsule_aimed p) (all_capsules ps)

-- ---- with their numbers

numbered_apart : (n : ℕ) (u : BootUnit) (m : ℕ) (us : List BootUnit)
    → AllByRecursion (λ v. same_unit u v ≡ false) us
    → AllByRecursion (λ v. same_unit (numbered (n, u)) v ≡ false)
    (map numbered (enumerate_from m us))
numbered_apart n u m [] all = tt
numbered_apart n u m (v ∷ vs) all = (all.0, numbered_apart n u (m + 1) vs all.1)

numbered_distinct : (n : ℕ) (us : List BootUnit) → Distinct same_unit us
    → Distinct same_unit (map numbered (enumerate_from n us))
numbered_distinct n [] d = tt
numbered_distinct n (u ∷ us) d =
    (numbered_apart n u (n + 1) us d.0, numbered_distinct (n + 1) us d.1)

numbered_aimed : (board : BoardValue) (n : ℕ) (us : List BootUnit)
    → AllByRecursion (AimedUnit board) us
    → AllByRecursion (AimedUnit board) (map numbered (enumerate_from n us))
numbered_aimed board n [] all = tt
numbered_aimed board n (u ∷ us) all = (
  λ tried. let a = all.0 tried in
      record { target = a.target; there = a.there; aimed = a.aimed; guid = a.guid },
  numbered_aimed board (n + 1) us all.1,
)

keys_apart : (k : UnitKey) (us : List BootUnit)
    → AllByRecursion (λ (v : BootUnit). same_place k v.key ≡ false) us
    → AllByRecursion (λ l. same_place k l ≡ false) (unit_keys us)
keys_apart k [] all = tt
keys_apart k (u ∷ us) all = (all.0, keys_apart k us all.1)

keys_distinct : (us : List BootUnit) → Distinct same_unit us → Distinct same_place (unit_keys us)
keys_distinct [] d = tt
keys_distinct (u ∷ us) d = (keys_apart u.key us d.0, keys_distinct us d.1)

pub units_apart : (f : Formats) (d : Delivery) (board : BoardValue)
    → Distinct same_place (unit_keys (units f d board))
units_apart f d board =
    keys_distinct (units f d board)
    (numbered_distinct 0 (decoded_units board d (option_and_then f.capsules d.bytes))
    (decoded_distinct board d (option_and_then f.capsules d.bytes)))

pub units_aimed : (f : Formats) (d : Delivery) (board : BoardValue)
    → AllByRecursion (AimedUnit board) (units f d board)
units_aimed f d board =
    numbered_aimed board 0 (decoded_units board d (option_and_then f.capsules d.bytes))
    (decoded_aimed board d (option_and_then f.capsules d.bytes))
