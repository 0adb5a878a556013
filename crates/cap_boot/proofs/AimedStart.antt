-- A boot begins with units of other places than those that are spent, each try aimed.
use Rattle.std.proofs.Common.{◌≡◌, inl, inr, ℕ, zero, suc, ◌+◌, ◌≤◌, ◌<◌, ◌==◌, ◌&&◌, Bool}
use Rattle.std.proofs.Common.{true, false, cond, List, [], ◌∷◌, ◌++◌, drop, filter, flat_map}
use Rattle.std.proofs.Common.{length, take, refl, sym, ap, ◌∙◌, subst, arith, append_assoc}
use Rattle.std.proofs.Common.{append-nil, true≢false}
use Rattle.std.specs.Prelude.{nat_lt}
use Rattle.std.specs.List.{AllByRecursion}
use Rattle.std.proofs.Common.{length-append}
use Rattle.std.proofs.lemmas.Bool.Decides.{nat_tests}
use Rattle.std.proofs.lemmas.List.Elements.{filter-append}
use Rattle.bench_model.specs.Boards.{BoardValue}
use Rattle.bench_model.specs.Files.{File}
use Rattle.reference_machine.specs.Boots.{BootTask, file_delivery, file_tasks}
use Rattle.reference_machine.specs.Boots.{files_in_order, folder_tasks, memory_delivery, pair_tasks}
use Rattle.reference_machine.specs.Boots.{prune_tasks, staged_in_order}
use Rattle.reference_machine.specs.Boots.{staged_tasks, unit_tasks}
use Rattle.reference_machine.specs.Boots.BootBatch.{Clears, Prunes}
use Rattle.reference_machine.specs.Boots.BootTask.{Commits, Removes}
use Rattle.reference_machine.specs.Deliveries.{BootUnit, units}
use Rattle.reference_machine.specs.Events.{IsIn}
use Rattle.reference_machine.specs.Formats.{Formats}
use Rattle.reference_machine.specs.Laws.{AreApart, Distinct}
use Rattle.reference_machine.specs.Machine.{Machine}
use Rattle.reference_machine.specs.Names.{is_taken_before}
use Rattle.reference_machine.specs.Spent.{is_of, spent}
use Rattle.reference_machine.specs.declared.snapshot.StagedPair.{StagedPair}
use Rattle.reference_machine.specs.declared.unit.UnitKey.{UnitKey}
use Rattle.reference_machine.proofs.Apart.{all_both, all_imply}
use Rattle.reference_machine.proofs.Keyed.{Keyed}
use Rattle.reference_machine.proofs.Keys.{Gapless, Numbered, count, keys_of}
use Rattle.reference_machine.proofs.Keys.{is_of_itself, rest_numbered, spent_all, unit_keys, units_numbered}
use Rattle.reference_machine.proofs.Lists.{NoneOpen}
use Rattle.reference_machine.proofs.Ordered.{all_ordered, distinct_ordered, turned}
use Rattle.cap_boot.proofs.Aimed.{AimedWork, AreAimed, EachUnit, Fresh, IsAimedUnit, IsOwn, OthersThan}
use Rattle.cap_boot.proofs.UnitTargets.{AimedUnit, all_joined, routes_differ, same_place}
use Rattle.cap_boot.proofs.UnitTargets.{serials_differ, units_aimed, units_apart}

-- ---- the units of one delivery

-- keys of a delivery among these are of this front alone
abbrev HasOnly : ℕ → ℕ → List UnitKey → List UnitKey → Type 0
HasOnly r s front keys = AllByRecursion (λ k. is_of r s k ≡ true → IsIn k front) keys

-- all keys of these units are of the delivery
abbrev AreOf : ℕ → ℕ → List BootUnit → Type 0
AreOf r s us = AllByRecursion (λ u. is_of r s u.key ≡ true) us

same_number : (n : ℕ) → (n == n) ≡ true
same_number n = grind (arith, nat_tests)

pub equal_of : (m n : ℕ) → (m == n) ≡ true → m ≡ n
equal_of m n h = grind (arith, nat_tests)

numbered_of : (r s n : ℕ) (us : List BootUnit) → Numbered r s n us → AreOf r s us
numbered_of r s n [] h = tt
numbered_of r s n (u ∷ us) h = (
  ap (λ i. i == r && u.key.ticket.serial == s) h.0.route
      ∙ ap (λ i. r == r && i == s) h.0.serial
      ∙ ap (λ b. b && s == s) (same_number r) ∙ same_number s,
  numbered_of r s (n + 1) us h.1,
)

pub both_true : (a b : Bool) → (a && b) ≡ true → (a ≡ true) × (b ≡ true)
both_true true b h = (refl, h)
both_true false b h = absurd (let e : false ≡ true = h in cc)

-- a key that is not of a delivery has another place than one that is
other_delivery : (r s : ℕ) (k l : UnitKey) → is_of r s k ≡ false → is_of r s l ≡ true
    → same_place k l ≡ false
other_delivery r s k l off on = by_route (k.ticket.route == r) refl
  where
    parts : (l.ticket.route == r ≡ true) × (l.ticket.serial == s ≡ true)
    parts = both_true (l.ticket.route == r) (l.ticket.serial == s) on

    route_is : l.ticket.route ≡ r
    route_is = equal_of l.ticket.route r parts.0

    serial_is : l.ticket.serial ≡ s
    serial_is = equal_of l.ticket.serial s parts.1

    by_route : (b : Bool) → (k.ticket.route == r) ≡ b → same_place k l ≡ false
    by_route false e =
        routes_differ k l (ap (λ (i : ℕ). k.ticket.route == i) route_is ∙ e)
    by_route true e =
        serials_differ k l
        (ap (λ (i : ℕ). k.ticket.serial == i) serial_is
        ∙ sym (ap (λ b. b && k.ticket.serial == s) e) ∙ off)

-- of distinct places, one in front differs from one behind
in_front_apart : (front rest : List UnitKey) (k l : UnitKey)
    → Distinct same_place (front ++ l ∷ rest) → IsIn k front → same_place k l ≡ false
in_front_apart [] rest k l d is = absurd is
in_front_apart (x ∷ xs) rest k l d (inl e) =
    subst (λ (y : UnitKey). same_place y l ≡ false) (sym e) (at_place xs d.0)
  where
    at_place : (ys : List UnitKey) → AllByRecursion (λ y. same_place x y ≡ false) (ys ++ l ∷ rest)
        → same_place x l ≡ false
    at_place [] all = all.0
    at_place (y ∷ ys) all = at_place ys all.1
in_front_apart (x ∷ xs) rest k l d (inr is) = in_front_apart xs rest k l d.1 is

others_of : (r s : ℕ) (front keys : List UnitKey) (l : UnitKey) (rest : List UnitKey)
    → is_of r s l ≡ true → Distinct same_place (front ++ l ∷ rest) → HasOnly r s front keys
    → OthersThan l keys
others_of r s front [] l rest on d only = tt
others_of r s front (k ∷ ks) l rest on d only =
    (by_test (is_of r s k) refl only.0, others_of r s front ks l rest on d only.1)
  where
    by_test : (b : Bool) → is_of r s k ≡ b → (is_of r s k ≡ true → IsIn k front)
        → same_place k l ≡ false
    by_test true e is = in_front_apart front rest k l d (is e)
    by_test false e is = other_delivery r s k l e on

in_joined : (k : UnitKey) (xs ys : List UnitKey) → IsIn k xs → IsIn k (xs ++ ys)
in_joined k [] ys is = absurd is
in_joined k (x ∷ xs) ys (inl e) = inl e
in_joined k (x ∷ xs) ys (inr is) = inr (in_joined k xs ys is)

in_last : (k : UnitKey) (xs : List UnitKey) → IsIn k (xs ++ k ∷ [])
in_last k [] = inl refl
in_last k (x ∷ xs) = inr (in_last k xs)

-- the units of a delivery, behind keys of which those of the delivery are in front
do_fresh : (r s : ℕ) (us : List BootUnit) (front keys : List UnitKey) (rest : List BootTask)
    → AreOf r s us → Distinct same_place (front ++ unit_keys us) → HasOnly r s front keys
    → Fresh (keys ++ unit_keys us) rest → Fresh keys (unit_tasks us ++ rest)
do_fresh r s [] front keys rest on d only later =
    subst (λ (ks : List UnitKey). Fresh ks rest) (append-nil keys) later
do_fresh r s (u ∷ us) front keys rest on d only later = (
  others_of r s front keys u.key (unit_keys us) on.0 d only,
  do_fresh r s us (front ++ u.key ∷ []) (keys ++ u.key ∷ []) rest on.1
      (subst (Distinct same_place) (sym (append_assoc front (u.key ∷ []) (unit_keys us))) d)
      (all_joined (λ k. is_of r s k ≡ true → IsIn k (front ++ u.key ∷ [])) keys (u.key ∷ [])
      (all_imply (λ k. is_of r s k ≡ true → IsIn k front)
      (λ k. is_of r s k ≡ true → IsIn k (front ++ u.key ∷ []))
      (λ k h e. in_joined k front (u.key ∷ []) (h e)) keys only)
      (λ e. in_last u.key front, tt))
      (subst (λ (ks : List UnitKey). Fresh ks rest)
      (sym (append_assoc keys (u.key ∷ []) (unit_keys us))) later),
)

-- keys of units of one delivery are none of another
none_of_other : (r s r' s' : ℕ) (front : List UnitKey) (us : List BootUnit) → AreOf r s us
    → (r == r' && s == s') ≡ false → HasOnly r' s' front (unit_keys us)
none_of_other r s r' s' front [] on other = tt
none_of_other r s r' s' front (u ∷ us) on other =
    (λ e. absurd (both_deliveries e), none_of_other r s r' s' front us on.1 other)
  where
    here : (u.key.ticket.route == r ≡ true) × (u.key.ticket.serial == s ≡ true)
    here = both_true (u.key.ticket.route == r) (u.key.ticket.serial == s) on.0

    both_deliveries : is_of r' s' u.key ≡ true → ⊥
    both_deliveries e =
        let there = both_true (u.key.ticket.route == r') (u.key.ticket.serial == s') e in
        let route : r ≡ r' = sym (equal_of u.key.ticket.route r here.0)
        ∙ equal_of u.key.ticket.route r' there.0 in
        let serial : s ≡ s' = sym (equal_of u.key.ticket.serial s here.1)
        ∙ equal_of u.key.ticket.serial s' there.1 in
        let same : (r == r' && s == s') ≡ true =
        ap (λ i. r == i && s == s') (sym route) ∙ ap (λ i. r == r && s == i) (sym serial)
        ∙ ap (λ b. b && s == s) (same_number r) ∙ same_number s in
        true≢false (sym same ∙ other)

-- ---- the files of the folder

taken_keys : (n : ℕ) (us : List BootUnit)
    → unit_keys (take n us) ++ unit_keys (drop n us) ≡ unit_keys us
taken_keys zero us = refl
taken_keys (suc n) [] = refl
taken_keys (suc n) (u ∷ us) = ap (λ (ks : List UnitKey). u.key ∷ ks) (taken_keys n us)

-- the keys of the units of a file that are spent
abbrev spent_front : Formats → Machine → File → List UnitKey
spent_front f m x =
    unit_keys (take (spent m.list x.serial) (units f (file_delivery x) m.board))

abbrev FrontsOf : Formats → Machine → List UnitKey → List File → Type 0
FrontsOf f m keys xs = AllByRecursion (λ x. HasOnly 1 x.serial (spent_front f m x) keys) xs

other_file : (s t : ℕ) → (s == t) ≡ false → (1 == 1 && s == t) ≡ false
other_file s t h = h

files_fresh : (f : Formats) (m : Machine) (xs : List File) (keys : List UnitKey)
    (rest : List BootTask) → ((ks : List UnitKey) → Fresh ks rest)
    → Distinct (λ (a b : File). a.serial == b.serial) xs → FrontsOf f m keys xs
    → Fresh keys (flat_map (file_tasks f m) xs ++ rest)
files_fresh f m [] keys rest free d all = free keys
files_fresh f m (x ∷ xs) keys rest free d all =
    let n : ℕ = spent m.list x.serial in
    let whole : List BootUnit = units f (file_delivery x) m.board in
    let us : List BootUnit = drop n whole in
    let on : AreOf 1 x.serial us =
    numbered_of 1 x.serial (0 + n) us
    (rest_numbered 1 x.serial 0 n whole (units_numbered f (file_delivery x) m.board)) in
    let others : FrontsOf f m (keys ++ unit_keys us) xs =
    all_both (λ (y : File). (x.serial == y.serial) ≡ false)
    (λ (y : File). HasOnly 1 y.serial (spent_front f m y) keys)
    (λ (y : File). HasOnly 1 y.serial (spent_front f m y) (keys ++ unit_keys us))
    (λ y apart only. all_joined (λ k. is_of 1 y.serial k ≡ true → IsIn k (spent_front f m y)) keys
    (unit_keys us) only
    (none_of_other 1 x.serial 1 y.serial (spent_front f m y) us on apart)) xs d.0 all.1 in
    let split : (unit_tasks us ++ Removes x.serial ∷ []) ++ flat_map (file_tasks f m) xs ++ rest
    ≡ unit_tasks us ++ (Removes x.serial ∷ (flat_map (file_tasks f m) xs ++ rest)) =
    append_assoc (unit_tasks us ++ Removes x.serial ∷ []) (flat_map (file_tasks f m) xs) rest
    ∙ append_assoc (unit_tasks us) (Removes x.serial ∷ [])
    (flat_map (file_tasks f m) xs ++ rest) in
    subst (Fresh keys) (sym split)
    (do_fresh 1 x.serial us (spent_front f m x) keys
    (Removes x.serial ∷ (flat_map (file_tasks f m) xs ++ rest)) on
    (subst (Distinct same_place) (sym (taken_keys n whole))
    (units_apart f (file_delivery x) m.board)) all.0
    (files_fresh f m xs (keys ++ unit_keys us) rest free d.1 others))

-- ---- the staged deliveries

abbrev NoneOf : List UnitKey → List StagedPair → Type 0
NoneOf keys ps = AllByRecursion (λ p. HasOnly 0 p.serial [] keys) ps

-- what these keys have of files, those have
abbrev KeepsFronts : List UnitKey → List UnitKey → Type 0
KeepsFronts keys also =
    (s : ℕ) (front : List UnitKey) → HasOnly 1 s front keys → HasOnly 1 s front also

staged_fresh : (f : Formats) (m : Machine) (ps : List StagedPair) (keys : List UnitKey)
    (rest : List BootTask) → ((ks : List UnitKey) → KeepsFronts keys ks → Fresh ks rest)
    → Distinct (λ (a b : StagedPair). a.serial == b.serial) ps → NoneOf keys ps
    → Fresh keys (flat_map (pair_tasks f m) ps ++ rest)
staged_fresh f m [] keys rest free d all = free keys (λ s front h. h)
staged_fresh f m (p ∷ ps) keys rest free d all =
    let us : List BootUnit = units f (memory_delivery f m p) m.board in
    let on : AreOf 0 p.serial us =
    numbered_of 0 p.serial 0 us (units_numbered f (memory_delivery f m p) m.board) in
    let others : NoneOf (keys ++ unit_keys us) ps =
    all_both (λ (q : StagedPair). (p.serial == q.serial) ≡ false)
    (λ (q : StagedPair). HasOnly 0 q.serial [] keys)
    (λ (q : StagedPair). HasOnly 0 q.serial [] (keys ++ unit_keys us))
    (λ q apart only. all_joined (λ k. is_of 0 q.serial k ≡ true → IsIn k []) keys (unit_keys us)
    only (none_of_other 0 p.serial 0 q.serial [] us on apart)) ps d.0 all.1 in
    let still : KeepsFronts keys (keys ++ unit_keys us) =
    λ s front only. all_joined (λ k. is_of 1 s k ≡ true → IsIn k front) keys (unit_keys us) only
    (none_of_other 0 p.serial 1 s front us on refl) in
    let split : unit_tasks us ++ flat_map (pair_tasks f m) ps ++ rest
    ≡ unit_tasks us ++ (flat_map (pair_tasks f m) ps ++ rest) =
    append_assoc (unit_tasks us) (flat_map (pair_tasks f m) ps) rest in
    subst (Fresh keys) (sym split)
    (do_fresh 0 p.serial us [] keys (flat_map (pair_tasks f m) ps ++ rest) on
    (units_apart f (memory_delivery f m p) m.board) all.0
    (staged_fresh f m ps (keys ++ unit_keys us) rest
    (λ ks h. free ks (λ s front only. h s front (still s front only))) d.1 others))

-- ---- what the spent units of a file are

count_joined : (r s : ℕ) (xs ys : List UnitKey)
    → count r s (xs ++ ys) ≡ count r s xs + count r s ys
count_joined r s xs ys =
    ap length (filter-append (is_of r s) xs ys)
    ∙ length-append (filter (is_of r s) xs) (filter (is_of r s) ys)

one_of_itself : (k : UnitKey) (ks : List UnitKey)
    → 1 ≤ count k.ticket.route k.ticket.serial (k ∷ ks)
one_of_itself k ks = by_test (is_of k.ticket.route k.ticket.serial k) (is_of_itself k)
  where
    by_test : (b : Bool) → b ≡ true
        → 1 ≤ length (cond b (k ∷ filter (is_of k.ticket.route k.ticket.serial) ks)
        (filter (is_of k.ticket.route k.ticket.serial) ks))
    by_test true h = omega arith
    by_test false h = absurd (let e : false ≡ true = h in cc)

-- the number of each key is lower than how many there are of its delivery
gapless_low : (seen keys : List UnitKey) → Gapless seen keys
    → AllByRecursion (λ k. k.unit < count k.ticket.route k.ticket.serial (seen ++ keys)) keys
gapless_low seen [] g = tt
gapless_low seen (k ∷ ks) g =
    let r : ℕ = k.ticket.route in
    let s : ℕ = k.ticket.serial in
    let joined : count r s (seen ++ k ∷ ks) ≡ count r s seen + count r s (k ∷ ks) =
    count_joined r s seen (k ∷ ks) in (
      omega (arith, g.0, joined, one_of_itself k ks),
      subst (λ (all : List UnitKey).
          AllByRecursion (λ l. l.unit < count l.ticket.route l.ticket.serial all) ks)
          (append_assoc seen (k ∷ []) ks) (gapless_low (seen ++ k ∷ []) ks g.1),
    )

number_above : (r s n : ℕ) (us : List BootUnit) (k : UnitKey) → Numbered r s n us
    → IsIn k (unit_keys us) → n ≤ k.unit
number_above r s n [] k h is = absurd is
number_above r s n (u ∷ us) k h (inl e) =
    let number : k.unit ≡ n = ap (λ (l : UnitKey). l.unit) e ∙ h.0.number in omega (arith, number)
number_above r s n (u ∷ us) k h (inr is) =
    let later : n + 1 ≤ k.unit = number_above r s (n + 1) us k h.1 is in omega (arith, later)

-- a key of a low number is of the first units
in_taken : (r s n j : ℕ) (us : List BootUnit) (k : UnitKey) → Numbered r s n us
    → IsIn k (unit_keys us) → k.unit < n + j → IsIn k (unit_keys (take j us))
in_taken r s n j [] k h is low = absurd is
in_taken r s n zero (u ∷ us) k h is low =
    absurd (let above : n ≤ k.unit = number_above r s n (u ∷ us) k h is in omega (arith, above, low))
in_taken r s n (suc j) (u ∷ us) k h (inl e) low = inl e
in_taken r s n (suc j) (u ∷ us) k h (inr is) low =
    inr (in_taken r s (n + 1) j us k h.1 is
    (let less : k.unit < n + 1 + j = omega (arith, low) in less))

file_key : (s : ℕ) (k : UnitKey) (keys : List UnitKey) → is_of 1 s k ≡ true
    → k.unit < count k.ticket.route k.ticket.serial keys → k.unit < count 1 s keys
file_key s k keys on low =
    let parts = both_true (k.ticket.route == 1) (k.ticket.serial == s) on in
    subst (λ i. k.unit < count i s keys) (equal_of k.ticket.route 1 parts.0)
    (subst (λ i. k.unit < count k.ticket.route i keys) (equal_of k.ticket.serial s parts.1) low)

-- a key is not of a file, or is that of one of its units
abbrev OwnKey : Formats → BoardValue → File → UnitKey → Type 0
OwnKey f board x k =
    is_of 1 x.serial k ≡ true → IsIn k (unit_keys (units f (file_delivery x) board))

-- of the keys of the list those of a file are of its spent units
fronts_now : (f : Formats) (m : Machine) → NoneOpen m.list → Keyed m
    → AreAimed f m.board m.files m.list → FrontsOf f m (keys_of m.list) m.files
fronts_now f m none keyed a =
    by_files m.files (own_of m.files (keys_of m.list) a.own)
  where
    keys : List UnitKey
    keys = keys_of m.list

    low : AllByRecursion (λ k. k.unit < count k.ticket.route k.ticket.serial keys) keys
    low = gapless_low [] keys keyed.gapless

    -- for each file, of each key
    own_of : (xs : List File) (ks : List UnitKey)
        → AllByRecursion (IsOwn f m.board xs) ks
        → AllByRecursion (λ x. AllByRecursion (OwnKey f m.board x) ks) xs
    own_of [] ks all = tt
    own_of (x ∷ xs) ks all = (
      all_imply (IsOwn f m.board (x ∷ xs)) (OwnKey f m.board x) (λ k h. h.0) ks all,
      own_of xs ks
          (all_imply (IsOwn f m.board (x ∷ xs)) (IsOwn f m.board xs) (λ k h. h.1) ks all),
    )

    by_files : (xs : List File) → AllByRecursion (λ x. AllByRecursion (OwnKey f m.board x) keys) xs
        → FrontsOf f m keys xs
    by_files [] all = tt
    by_files (x ∷ xs) all = (
      all_both (OwnKey f m.board x) (λ k. k.unit < count k.ticket.route k.ticket.serial keys)
          (λ k. is_of 1 x.serial k ≡ true → IsIn k (spent_front f m x))
          (λ k own few on. in_taken 1 x.serial 0 (spent m.list x.serial)
          (units f (file_delivery x) m.board) k
          (units_numbered f (file_delivery x) m.board) (own on)
          (let mine : k.unit < count 1 x.serial keys = file_key x.serial k keys on few in
          let all_of : spent m.list x.serial ≡ count 1 x.serial keys =
          spent_all m.list x.serial none in
          omega (arith, mine, all_of))) keys all.0 low,
      by_files xs all.1,
    )

-- ---- what is known of each unit

each_joined : (P : BootUnit → Type 0) (us : List BootUnit) (rest : List BootTask)
    → AllByRecursion P us → EachUnit P rest → EachUnit P (unit_tasks us ++ rest)
each_joined P [] rest all later = later
each_joined P (u ∷ us) rest all later = (all.0, each_joined P us rest all.1 later)

all_dropped : {X : Type 0} (P : X → Type 0) (n : ℕ) (xs : List X) → AllByRecursion P xs
    → AllByRecursion P (drop n xs)
all_dropped P zero xs all = all
all_dropped P (suc n) [] all = tt
all_dropped P (suc n) (x ∷ xs) all = all_dropped P n xs all.1

all_in : (us : List BootUnit) → AllByRecursion (λ u. IsIn u.key (unit_keys us)) us
all_in [] = tt
all_in (u ∷ us) = (
  inl refl,
  all_imply (λ v. IsIn v.key (unit_keys us)) (λ v. IsIn v.key (unit_keys (u ∷ us)))
      (λ v h. inr h) us (all_in us),
)

-- the files of a serial are this one
abbrev SameFiles : List File → File → Type 0
SameFiles files x = AllByRecursion (λ y. (y.serial == x.serial) ≡ true → y ≡ x) files

same_files : (files : List File) → Distinct (λ (a b : File). a.serial == b.serial) files
    → AllByRecursion (SameFiles files) files
same_files [] d = tt
same_files (z ∷ zs) d = (
  (
    λ e. refl,
    all_imply (λ (y : File). (z.serial == y.serial) ≡ false)
        (λ (y : File). (y.serial == z.serial) ≡ true → y ≡ z)
        (λ y off on. absurd (true≢false (sym on ∙ turned z.serial y.serial off))) zs d.0,
  ),
  all_both (λ (y : File). (z.serial == y.serial) ≡ false) (SameFiles zs)
      (SameFiles (z ∷ zs))
      (λ y off same. (λ on. absurd (true≢false (sym on ∙ off)), same)) zs d.0 (same_files zs d.1),
)

file_own : (f : Formats) (board : BoardValue) (files : List File) (x : File) (k : UnitKey)
    → IsIn k (unit_keys (units f (file_delivery x) board)) → is_of 1 x.serial k ≡ true
    → SameFiles files x → IsOwn f board files k
file_own f board files x k there on same =
    all_imply (λ (y : File). (y.serial == x.serial) ≡ true → y ≡ x)
    (λ (y : File). OwnKey f board y k)
    (λ y is of_it.
    let mine : k.ticket.serial ≡ x.serial = equal_of k.ticket.serial x.serial
    (both_true (k.ticket.route == 1) (k.ticket.serial == x.serial) on).1 in
    let its : k.ticket.serial ≡ y.serial = equal_of k.ticket.serial y.serial
    (both_true (k.ticket.route == 1) (k.ticket.serial == y.serial) of_it).1 in
    let one : y ≡ x = is (ap (λ i. i == x.serial) (sym its ∙ mine) ∙ same_number x.serial) in
    subst (λ (z : File). IsIn k (unit_keys (units f (file_delivery z) board))) (sym one) there)
    files same

memory_own : (f : Formats) (board : BoardValue) (files : List File) (s : ℕ) (k : UnitKey)
    → is_of 0 s k ≡ true → IsOwn f board files k
memory_own f board [] s k on = tt
memory_own f board (x ∷ xs) s k on = (
  λ of_it.
      let here : k.ticket.route ≡ 0 = equal_of k.ticket.route 0
      (both_true (k.ticket.route == 0) (k.ticket.serial == s) on).0 in
      let there : k.ticket.route ≡ 1 = equal_of k.ticket.route 1
      (both_true (k.ticket.route == 1) (k.ticket.serial == x.serial) of_it).0 in
      absurd (omega (arith, here, there)),
  memory_own f board xs s k on,
)

none_counted : (s : ℕ) (ks : List UnitKey) → count 0 s ks ≡ 0 → HasOnly 0 s [] ks
none_counted s [] none = tt
none_counted s (k ∷ ks) none = by_test (is_of 0 s k) refl none (none_counted s ks)
  where
    by_test : (b : Bool) → is_of 0 s k ≡ b
        → length (cond b (k ∷ filter (is_of 0 s) ks) (filter (is_of 0 s) ks)) ≡ 0
        → (count 0 s ks ≡ 0 → HasOnly 0 s [] ks) → HasOnly 0 s [] (k ∷ ks)
    by_test true e z later = absurd (omega (arith, z))
    by_test false e z later = (λ on. absurd (true≢false (sym on ∙ e)), later z)

module _ (f : Formats) (m : Machine) where
  files_each : (xs : List File) (rest : List BootTask)
      → AllByRecursion (SameFiles m.files) xs
      → EachUnit (IsAimedUnit f m.board m.files) rest
      → EachUnit (IsAimedUnit f m.board m.files) (flat_map (file_tasks f m) xs ++ rest)
  files_each [] rest same later = later
  files_each (x ∷ xs) rest same later =
      let n : ℕ = spent m.list x.serial in
      let whole : List BootUnit = units f (file_delivery x) m.board in
      let us : List BootUnit = drop n whole in
      let on : AreOf 1 x.serial us =
      numbered_of 1 x.serial (0 + n) us
      (rest_numbered 1 x.serial 0 n whole (units_numbered f (file_delivery x) m.board)) in
      let own : AllByRecursion (λ (u : BootUnit). IsOwn f m.board m.files u.key) us =
      all_both (λ (u : BootUnit). IsIn u.key (unit_keys whole))
      (λ (u : BootUnit). is_of 1 x.serial u.key ≡ true)
      (λ (u : BootUnit). IsOwn f m.board m.files u.key)
      (λ u there is. file_own f m.board m.files x u.key there is same.0) us
      (all_dropped (λ (u : BootUnit). IsIn u.key (unit_keys whole)) n whole (all_in whole)) on in
      let known : AllByRecursion (IsAimedUnit f m.board m.files) us =
      all_both (λ (u : BootUnit). IsOwn f m.board m.files u.key) (AimedUnit m.board)
      (IsAimedUnit f m.board m.files) (λ u o a. record { own = o; aimed = a }) us own
      (all_dropped (AimedUnit m.board) n whole (units_aimed f (file_delivery x) m.board)) in
      let split : (unit_tasks us ++ Removes x.serial ∷ []) ++ flat_map (file_tasks f m) xs ++ rest
      ≡ unit_tasks us ++ (Removes x.serial ∷ (flat_map (file_tasks f m) xs ++ rest)) =
      append_assoc (unit_tasks us ++ Removes x.serial ∷ []) (flat_map (file_tasks f m) xs) rest
      ∙ append_assoc (unit_tasks us) (Removes x.serial ∷ [])
      (flat_map (file_tasks f m) xs ++ rest) in
      subst (EachUnit (IsAimedUnit f m.board m.files)) (sym split)
      (each_joined (IsAimedUnit f m.board m.files) us
      (Removes x.serial ∷ (flat_map (file_tasks f m) xs ++ rest)) known
      (files_each xs rest same.1 later))

  staged_each : (ps : List StagedPair) (rest : List BootTask)
      → EachUnit (IsAimedUnit f m.board m.files) rest
      → EachUnit (IsAimedUnit f m.board m.files) (flat_map (pair_tasks f m) ps ++ rest)
  staged_each [] rest later = later
  staged_each (p ∷ ps) rest later =
      let us : List BootUnit = units f (memory_delivery f m p) m.board in
      let on : AreOf 0 p.serial us =
      numbered_of 0 p.serial 0 us (units_numbered f (memory_delivery f m p) m.board) in
      let known : AllByRecursion (IsAimedUnit f m.board m.files) us =
      all_both (λ (u : BootUnit). is_of 0 p.serial u.key ≡ true) (AimedUnit m.board)
      (IsAimedUnit f m.board m.files)
      (λ u is a. record { own = memory_own f m.board m.files p.serial u.key is; aimed = a }) us on
      (units_aimed f (memory_delivery f m p) m.board) in
      let split : unit_tasks us ++ flat_map (pair_tasks f m) ps ++ rest
      ≡ unit_tasks us ++ (flat_map (pair_tasks f m) ps ++ rest) =
      append_assoc (unit_tasks us) (flat_map (pair_tasks f m) ps) rest in
      subst (EachUnit (IsAimedUnit f m.board m.files)) (sym split)
      (each_joined (IsAimedUnit f m.board m.files) us (flat_map (pair_tasks f m) ps ++ rest) known
      (staged_each ps rest later))

  abbrev files_part : List BootTask
  files_part = flat_map (file_tasks f m) (files_in_order m)

  prune_fresh : (keys : List UnitKey) (rest : List BootTask) → Fresh keys rest
      → Fresh keys (prune_tasks m ++ rest)
  prune_fresh keys rest later = by_test _
    where
      by_test : (t : Bool) → Fresh keys (cond t (Commits Prunes ∷ []) [] ++ rest)
      by_test true = later
      by_test false = later

  prune_each : (rest : List BootTask) → EachUnit (IsAimedUnit f m.board m.files) rest
      → EachUnit (IsAimedUnit f m.board m.files) (prune_tasks m ++ rest)
  prune_each rest later = by_test _
    where
      by_test : (t : Bool)
          → EachUnit (IsAimedUnit f m.board m.files) (cond t (Commits Prunes ∷ []) [] ++ rest)
      by_test true = later
      by_test false = later

  folder_fresh : (keys : List UnitKey) → AreApart m → FrontsOf f m keys m.files
      → Fresh keys (folder_tasks f m)
  folder_fresh keys a fronts = by_bit m.is_signalled
    where
      done : Fresh keys (files_part ++ Commits Clears ∷ [])
      done =
          files_fresh f m (files_in_order m) keys (Commits Clears ∷ []) (λ ks. tt)
          (distinct_ordered (λ (x y : File). x.serial == y.serial)
          (λ x y. is_taken_before x.name y.name) (λ x y h. turned x.serial y.serial h) m.files
          a.files)
          (all_ordered (λ (x : File). HasOnly 1 x.serial (spent_front f m x) keys)
          (λ x y. is_taken_before x.name y.name) m.files fronts)

      by_bit : (t : Bool) → Fresh keys (cond t (prune_tasks m ++ files_part ++ Commits Clears ∷ []) [])
      by_bit true =
          subst (Fresh keys) (sym (append_assoc (prune_tasks m) files_part (Commits Clears ∷ [])))
          (prune_fresh keys (files_part ++ Commits Clears ∷ []) done)
      by_bit false = tt

  folder_each : AreApart m → EachUnit (IsAimedUnit f m.board m.files) (folder_tasks f m)
  folder_each a = by_bit m.is_signalled
    where
      done : EachUnit (IsAimedUnit f m.board m.files) (files_part ++ Commits Clears ∷ [])
      done =
          files_each (files_in_order m) (Commits Clears ∷ [])
          (all_ordered (SameFiles m.files) (λ x y. is_taken_before x.name y.name) m.files
          (same_files m.files a.files)) tt

      by_bit : (t : Bool) → EachUnit (IsAimedUnit f m.board m.files)
          (cond t (prune_tasks m ++ files_part ++ Commits Clears ∷ []) [])
      by_bit true =
          subst (EachUnit (IsAimedUnit f m.board m.files))
          (sym (append_assoc (prune_tasks m) files_part (Commits Clears ∷ [])))
          (prune_each (files_part ++ Commits Clears ∷ []) done)
      by_bit false = tt

  none_of_staged : Keyed m → NoneOf (keys_of m.list) m.staged
  none_of_staged keyed =
      all_imply (λ (p : StagedPair). count 0 p.serial (keys_of m.list) ≡ 0)
      (λ (p : StagedPair). HasOnly 0 p.serial [] (keys_of m.list))
      (λ p none. none_counted p.serial (keys_of m.list) none) m.staged keyed.waiting

  -- the work of a boot with nothing open
  pub work_aimed : NoneOpen m.list → AreApart m → Keyed m → AreAimed f m.board m.files m.list
      → AimedWork f m.board m.files m.list (staged_tasks f m ++ folder_tasks f m)
  work_aimed none a keyed are = record {
    are = are;
    fresh = staged_fresh f m (staged_in_order m) (keys_of m.list) (folder_tasks f m)
        (λ ks kept. folder_fresh ks a
        (all_imply (λ (x : File). HasOnly 1 x.serial (spent_front f m x) (keys_of m.list))
        (λ (x : File). HasOnly 1 x.serial (spent_front f m x) ks)
        (λ x h. kept x.serial (spent_front f m x) h) m.files (fronts_now f m none keyed are)))
        (distinct_ordered (λ (x y : StagedPair). x.serial == y.serial)
        (λ x y. nat_lt x.serial y.serial) (λ x y h. turned x.serial y.serial h) m.staged a.staged)
        (all_ordered (λ (p : StagedPair). HasOnly 0 p.serial [] (keys_of m.list))
        (λ x y. nat_lt x.serial y.serial) m.staged (none_of_staged keyed));
    units = staged_each (staged_in_order m) (folder_tasks f m) (folder_each a);
  }
