-- The units of one delivery stand in order without gaps, so no key stands twice.
use Rattle.std.proofs.Common.{◌≡◌, ℕ, zero, suc, ◌+◌, ◌≤◌, Bool, true, false, cond, not, ◌&&◌, ◌==◌}
use Rattle.std.proofs.Common.{List, [], ◌∷◌, ◌++◌, length, map, filter, flat_map, drop, refl, arith}
use Rattle.std.proofs.Common.{sym, ap, ◌∙◌, subst, append_assoc, append-nil, Option, Some, None}
use Rattle.std.proofs.Common.{option_and_then}
use Rattle.std.specs.List.{AllByRecursion, enumerate_from}
use Rattle.std.proofs.lemmas.Bool.Decides.{nat_tests}
use Rattle.cu_base.proofs.Lists.{filter_more}
use Rattle.bench_model.specs.Boards.{BoardValue}
use Rattle.cu_base.specs.declared.guid.Guid.{Guid}
use Rattle.cu_base.specs.declared.time.EfiTime.{EfiTime}
use Rattle.reference_machine.specs.declared.unit.End.{End}
use Rattle.reference_machine.specs.declared.unit.Kind.TheVariants.{Try, Skip}
use Rattle.reference_machine.specs.declared.unit.UnitKey.{UnitKey}
use Rattle.reference_machine.specs.Boots.{BootTask, closed_with, unit_tasks}
use Rattle.reference_machine.specs.Boots.BootTask.{Commits, Removes}
use Rattle.reference_machine.specs.Boots.BootBatch.{Settles, Unstages, Does, Prunes, Clears}
use Rattle.reference_machine.specs.Deliveries.{BootUnit, Delivery, units, numbered, tries_on}
use Rattle.reference_machine.specs.Deliveries.{item_unit, item_units, capsule_units, decoded_units}
use Rattle.reference_machine.specs.Deliveries.{is_passed_over, targets, bare_unit, unnumbered_key}
use Rattle.reference_machine.specs.Formats.{Capsule, Formats, Item}
use Rattle.reference_machine.specs.Laws.{StandInOrder, HaveDistinctKeys}
use Rattle.reference_machine.specs.Spent.{Element, is_of, is_open, is_closed, spent}
use Rattle.reference_machine.specs.Spent.Standing.{Closed}
use Rattle.reference_machine.proofs.Lists.{NoneOpen}

-- how many keys are of a delivery
abbrev pub count : ℕ → ℕ → List UnitKey → ℕ
count route serial keys = length (filter (is_of route serial) keys)

abbrev pub keys_of : List Element → List UnitKey
keys_of list = map (λ e. e.key) list

-- each key is preceded by as many of its delivery as its number says
abbrev pub Gapless : List UnitKey → List UnitKey → Type 0
Gapless before [] = Unit {0}
Gapless before (k ∷ ks) =
    (k.unit ≡ count k.ticket.route k.ticket.serial before) × Gapless (before ++ k ∷ []) ks

pub keys_append : (xs ys : List Element) → keys_of (xs ++ ys) ≡ keys_of xs ++ keys_of ys
keys_append [] ys = refl
keys_append (x ∷ xs) ys = ap (λ ks. x.key ∷ ks) (keys_append xs ys)

-- closing an element keeps its key
closed_key : (end : End) (now : EfiTime) (e : Element) → (closed_with end now e).key ≡ e.key
closed_key end now e = by_test (is_open e)
  where
    by_test : (b : Bool) → (cond b (record e { standing = Closed (Some end) now }) e).key ≡ e.key
    by_test true = refl
    by_test false = refl

pub keys_closed : (end : End) (now : EfiTime) (list : List Element)
    → keys_of (map (closed_with end now) list) ≡ keys_of list
keys_closed end now [] = refl
keys_closed end now (e ∷ es) =
    ap (λ k. k ∷ keys_of (map (closed_with end now) es)) (closed_key end now e)
    ∙ ap (λ ks. e.key ∷ ks) (keys_closed end now es)

-- one more key is one more of its delivery, and none of another
pub count_more : (r s : ℕ) (xs : List UnitKey) (k : UnitKey) → is_of r s k ≡ true
    → count r s (xs ++ k ∷ []) ≡ count r s xs + 1
count_more r s xs k h = filter_more (is_of r s) xs k ∙ ap (λ b. count r s xs + cond b 1 0) h

pub count_other : (r s : ℕ) (xs : List UnitKey) (k : UnitKey) → is_of r s k ≡ false
    → count r s (xs ++ k ∷ []) ≡ count r s xs
count_other r s xs k h =
    filter_more (is_of r s) xs k ∙ ap (λ b. count r s xs + cond b 1 0) h ∙ omega arith

pub gapless_more : (before xs : List UnitKey) (k : UnitKey) → Gapless before xs
    → k.unit ≡ count k.ticket.route k.ticket.serial (before ++ xs) → Gapless before (xs ++ k ∷ [])
gapless_more before [] k g h =
    (subst (λ b. k.unit ≡ count k.ticket.route k.ticket.serial b) (append-nil before) h, tt)
gapless_more before (x ∷ xs) k g h = (
  g.0,
  gapless_more (before ++ x ∷ []) xs k g.1
      (subst (λ b. k.unit ≡ count k.ticket.route k.ticket.serial b)
      (sym (append_assoc before (x ∷ []) xs)) h),
)

-- what is known of each element
gapless_at : (seen : List UnitKey) (before rest : List Element) (e : Element)
    → Gapless seen (keys_of (before ++ e ∷ rest))
    → e.key.unit ≡ count e.key.ticket.route e.key.ticket.serial (seen ++ keys_of before)
gapless_at seen [] rest e g =
    subst (λ b. e.key.unit ≡ count e.key.ticket.route e.key.ticket.serial b)
    (sym (append-nil seen)) g.0
gapless_at seen (x ∷ xs) rest e g =
    subst (λ b. e.key.unit ≡ count e.key.ticket.route e.key.ticket.serial b)
    (append_assoc seen (x.key ∷ []) (keys_of xs))
    (gapless_at (seen ++ x.key ∷ []) xs rest e g.1)

-- keys and elements are counted alike
pub counted_alike : (p : UnitKey → Bool) (list : List Element)
    → length (filter p (keys_of list)) ≡ length (filter (λ e. p e.key) list)
counted_alike p [] = refl
counted_alike p (x ∷ xs) =
    elim (p x.key) as
    (λ b. length (cond b (x.key ∷ filter p (keys_of xs)) (filter p (keys_of xs)))
    ≡ length (cond b (x ∷ filter (λ e. p e.key) xs) (filter (λ e. p e.key) xs))) [
      | true ↦ ap (λ n. suc n) (counted_alike p xs)
      | false ↦ counted_alike p xs
    ]

pub in_order : (list : List Element) → Gapless [] (keys_of list) → StandInOrder list
in_order list g before rest e is =
    gapless_at [] before rest e (subst (λ l. Gapless [] (keys_of l)) is g)
    ∙ counted_alike (is_of e.key.ticket.route e.key.ticket.serial) before

same_number : (n : ℕ) → (n == n) ≡ true
same_number n = grind (arith, nat_tests)

pub is_of_itself : (k : UnitKey) → is_of k.ticket.route k.ticket.serial k ≡ true
is_of_itself k =
    ap (λ b. b && (k.ticket.serial == k.ticket.serial)) (same_number k.ticket.route)
    ∙ same_number k.ticket.serial

count_grows : (r s : ℕ) (xs ys : List UnitKey) → count r s xs ≤ count r s (xs ++ ys)
count_grows r s [] ys = omega arith
count_grows r s (x ∷ xs) ys =
    let h : count r s xs ≤ count r s (xs ++ ys) = count_grows r s xs ys in
    elim (is_of r s x) as
    (λ b. length (cond b (x ∷ filter (is_of r s) xs) (filter (is_of r s) xs))
    ≤ length (cond b (x ∷ filter (is_of r s) (xs ++ ys)) (filter (is_of r s) (xs ++ ys)))) [
      | true ↦ omega arith
      | false ↦ h
    ]

-- two elements of one key would have one number, though the later one has more of its delivery
-- before it
pub distinct_keys : (list : List Element) → Gapless [] (keys_of list) → HaveDistinctKeys list
distinct_keys list g before between rest a b is same =
    let whole : Gapless [] (keys_of (before ++ a ∷ (between ++ b ∷ rest))) =
    subst (λ l. Gapless [] (keys_of l)) is g in
    let first : a.key.unit ≡ count a.key.ticket.route a.key.ticket.serial (keys_of before) =
    gapless_at [] before (between ++ b ∷ rest) a whole in
    let moved : before ++ a ∷ (between ++ b ∷ rest) ≡ (before ++ a ∷ between) ++ b ∷ rest =
    sym (append_assoc before (a ∷ between) (b ∷ rest)) in
    let later : b.key.unit
    ≡ count b.key.ticket.route b.key.ticket.serial (keys_of (before ++ a ∷ between)) =
    gapless_at [] (before ++ a ∷ between) rest b
    (subst (λ l. Gapless [] (keys_of l)) moved whole) in
    let second : a.key.unit
    ≡ count a.key.ticket.route a.key.ticket.serial (keys_of (before ++ a ∷ between)) =
    subst (λ (k : UnitKey). k.unit
    ≡ count k.ticket.route k.ticket.serial (keys_of (before ++ a ∷ between)))
    (sym same) later in
    let split : keys_of (before ++ a ∷ between)
    ≡ (keys_of before ++ a.key ∷ []) ++ keys_of between =
    keys_append before (a ∷ between)
    ∙ sym (append_assoc (keys_of before) (a.key ∷ []) (keys_of between)) in
    let one : count a.key.ticket.route a.key.ticket.serial (keys_of before ++ a.key ∷ [])
    ≡ count a.key.ticket.route a.key.ticket.serial (keys_of before) + 1 =
    count_more a.key.ticket.route a.key.ticket.serial (keys_of before) a.key
    (is_of_itself a.key) in
    let grows : count a.key.ticket.route a.key.ticket.serial (keys_of before ++ a.key ∷ [])
    ≤ count a.key.ticket.route a.key.ticket.serial
    ((keys_of before ++ a.key ∷ []) ++ keys_of between) =
    count_grows a.key.ticket.route a.key.ticket.serial (keys_of before ++ a.key ∷ [])
    (keys_of between) in
    let there : count a.key.ticket.route a.key.ticket.serial (keys_of (before ++ a ∷ between))
    ≡ count a.key.ticket.route a.key.ticket.serial
    ((keys_of before ++ a.key ∷ []) ++ keys_of between) =
    ap (count a.key.ticket.route a.key.ticket.serial) split in
    absurd (omega arith)

-- the units that are left stand in order behind these keys
abbrev pub Ahead : List UnitKey → List BootTask → Type 0
Ahead keys [] = Unit {0}
Ahead keys (Commits (Settles kind end) ∷ rest) = Ahead keys rest
Ahead keys (Commits (Unstages pair) ∷ rest) = Ahead keys rest
Ahead keys (Commits (Does u) ∷ rest) =
    (u.key.unit ≡ count u.key.ticket.route u.key.ticket.serial keys)
    × Ahead (keys ++ u.key ∷ []) rest
Ahead keys (Commits Prunes ∷ rest) = Ahead keys rest
Ahead keys (Removes serial ∷ rest) = Ahead keys rest
Ahead keys (Commits Clears ∷ rest) = Ahead keys rest

-- units of one delivery with rising numbers
pub record IsUnit (r s n : ℕ) (u : BootUnit) : Type 0 where
  pub route : u.key.ticket.route ≡ r
  pub serial : u.key.ticket.serial ≡ s
  pub number : u.key.unit ≡ n

abbrev pub Numbered : ℕ → ℕ → ℕ → List BootUnit → Type 0
Numbered r s n [] = Unit {0}
Numbered r s n (u ∷ us) = IsUnit r s n u × Numbered r s (n + 1) us

abbrev pub unit_keys : List BootUnit → List UnitKey
unit_keys us = map (λ u. u.key) us

-- a unit is of a delivery
abbrev IsUnitOf : Delivery → BootUnit → Type 0
IsUnitOf d u = (u.key.ticket.route ≡ d.route) × (u.key.ticket.serial ≡ d.serial)

all_numbered : (d : Delivery) (n : ℕ) (us : List BootUnit) → AllByRecursion (IsUnitOf d) us
    → Numbered d.route d.serial n (map numbered (enumerate_from n us))
all_numbered d n [] all = tt
all_numbered d n (u ∷ us) all =
    (record { route = all.0.0; serial = all.0.1; number = refl }, all_numbered d (n + 1) us all.1)

all_append : {X : Type 0} (P : X → Type 0) (xs ys : List X) → AllByRecursion P xs
    → AllByRecursion P ys → AllByRecursion P (xs ++ ys)
all_append P [] ys a b = b
all_append P (x ∷ xs) ys a b = (a.0, all_append P xs ys a.1 b)

all_flat : {X Y : Type 0} (P : Y → Type 0) (g : X → List Y) → ((x : X) → AllByRecursion P (g x))
    → (xs : List X) → AllByRecursion P (flat_map g xs)
all_flat P g h [] = tt
all_flat P g h (x ∷ xs) = all_append P (g x) (flat_map g xs) (h x) (all_flat P g h xs)

all_mapped : {X Y : Type 0} (P : Y → Type 0) (g : X → Y) → ((x : X) → P (g x)) → (xs : List X)
    → AllByRecursion P (map g xs)
all_mapped P g h [] = tt
all_mapped P g h (x ∷ xs) = (h x, all_mapped P g h xs)

item_in : (board : BoardValue) (d : Delivery) (n : ℕ) (guid : Guid) (p : ℕ × Item)
    → AllByRecursion (IsUnitOf d) (item_units board d n guid p)
item_in board d n guid (k, item) = by_targets (targets item.head board)
  where
    by_targets : (ts : List ℕ)
        → AllByRecursion (IsUnitOf d) (tries_on (item_unit d n guid (k, item)) ts)
    by_targets [] = ((refl, refl), tt)
    by_targets (t ∷ ts) =
        all_mapped (IsUnitOf d) (item_unit d n guid (k, item) Try) (λ x. (refl, refl)) (t ∷ ts)

capsule_in : (board : BoardValue) (d : Delivery) (p : ℕ × Capsule)
    → AllByRecursion (IsUnitOf d) (capsule_units board d p)
capsule_in board d (n, c) = by_test (is_passed_over c)
  where
    by_test : (b : Bool)
        → AllByRecursion (IsUnitOf d)
        (cond b (bare_unit Skip (unnumbered_key d n 0 255) c.guid ∷ [])
        (flat_map (item_units board d n c.guid) (enumerate_from 0 c.items)))
    by_test true = ((refl, refl), tt)
    by_test false =
        all_flat (IsUnitOf d) (item_units board d n c.guid) (item_in board d n c.guid)
        (enumerate_from 0 c.items)

decoded_in : (board : BoardValue) (d : Delivery) (found : Option (List Capsule))
    → AllByRecursion (IsUnitOf d) (decoded_units board d found)
decoded_in board d None = ((refl, refl), tt)
decoded_in board d (Some capsules) =
    all_flat (IsUnitOf d) (capsule_units board d) (capsule_in board d) (enumerate_from 0 capsules)

-- the units of a delivery are numbered from 0
pub units_numbered : (f : Formats) (d : Delivery) (board : BoardValue)
    → Numbered d.route d.serial 0 (units f d board)
units_numbered f d board =
    all_numbered d 0 (decoded_units board d (option_and_then f.capsules d.bytes))
    (decoded_in board d (option_and_then f.capsules d.bytes))

-- what is left of them behind the first k
pub rest_numbered : (r s n k : ℕ) (us : List BootUnit) → Numbered r s n us
    → Numbered r s (n + k) (drop k us)
rest_numbered r s n zero us h = subst (λ i. Numbered r s i us) (omega arith) h
rest_numbered r s n (suc k) [] h = tt
rest_numbered r s n (suc k) (u ∷ us) h =
    let e : n + 1 + k ≡ n + suc k = omega arith in
    subst (λ i. Numbered r s i (drop k us)) e (rest_numbered r s (n + 1) k us h.1)

unit_is_of : (r s n : ℕ) (u : BootUnit) → IsUnit r s n u → is_of r s u.key ≡ true
unit_is_of r s n u h =
    ap (λ i. i == r && u.key.ticket.serial == s) h.route ∙ ap (λ i. r == r && i == s) h.serial
    ∙ ap (λ b. b && s == s) (same_number r) ∙ same_number s

-- such units stand in order behind as many keys of their delivery as their first number says
pub do_ahead : (r s n : ℕ) (us : List BootUnit) (keys : List UnitKey) (rest : List BootTask)
    → Numbered r s n us → count r s keys ≡ n → Ahead (keys ++ unit_keys us) rest
    → Ahead keys (unit_tasks us ++ rest)
do_ahead r s n [] keys rest h e a = subst (λ ks. Ahead ks rest) (append-nil keys) a
do_ahead r s n (u ∷ us) keys rest h e a =
    let here : count r s keys ≡ count u.key.ticket.route u.key.ticket.serial keys =
    ap (λ i. count i s keys) (sym h.0.route)
    ∙ ap (λ i. count u.key.ticket.route i keys) (sym h.0.serial) in
    let next : count r s (keys ++ u.key ∷ []) ≡ n + 1 =
    count_more r s keys u.key (unit_is_of r s n u h.0) ∙ ap (λ i. i + 1) e in (
      h.0.number ∙ sym e ∙ here,
      do_ahead r s (n + 1) us (keys ++ u.key ∷ []) rest h.1 next
          (subst (λ ks. Ahead ks rest) (sym (append_assoc keys (u.key ∷ []) (unit_keys us))) a),
    )

-- and they are none of another delivery
unit_is_not_of : (r s r' s' n : ℕ) (u : BootUnit) → IsUnit r s n u → (r == r' && s == s') ≡ false
    → is_of r' s' u.key ≡ false
unit_is_not_of r s r' s' n u h other =
    ap (λ i. i == r' && u.key.ticket.serial == s') h.route
    ∙ ap (λ i. r == r' && i == s') h.serial ∙ other

pub count_apart : (r s r' s' n : ℕ) (us : List BootUnit) (keys : List UnitKey) → Numbered r s n us
    → (r == r' && s == s') ≡ false → count r' s' (keys ++ unit_keys us) ≡ count r' s' keys
count_apart r s r' s' n [] keys h other = ap (count r' s') (append-nil keys)
count_apart r s r' s' n (u ∷ us) keys h other =
    ap (count r' s') (sym (append_assoc keys (u.key ∷ []) (unit_keys us)))
    ∙ count_apart r s r' s' (n + 1) us (keys ++ u.key ∷ []) h.1 other
    ∙ count_other r' s' keys u.key (unit_is_not_of r s r' s' n u h.0 other)

-- where nothing is open, the spent units of a file are all that there are
pub spent_all : (list : List Element) (serial : ℕ) → NoneOpen list
    → spent list serial ≡ count 1 serial (keys_of list)
spent_all list serial none =
    ap length (all_closed list none) ∙ sym (counted_alike (is_of 1 serial) list)
  where
    and_true : (b c : Bool) → c ≡ false → (b && not c) ≡ b
    and_true true c e = ap not e
    and_true false c e = refl

    all_closed : (xs : List Element) → NoneOpen xs
        → filter (λ e. is_of 1 serial e.key && is_closed e) xs
        ≡ filter (λ e. is_of 1 serial e.key) xs
    all_closed [] h = refl
    all_closed (x ∷ xs) h =
        ap (λ b. cond b (x ∷ filter (λ e. is_of 1 serial e.key && is_closed e) xs)
        (filter (λ e. is_of 1 serial e.key && is_closed e) xs))
        (and_true (is_of 1 serial x.key) (is_open x) h.0)
        ∙ ap (λ ys. cond (is_of 1 serial x.key) (x ∷ ys) ys) (all_closed xs h.1)
