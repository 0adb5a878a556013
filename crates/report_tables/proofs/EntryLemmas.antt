-- The entry of a type with one device more.
use Rattle.std.proofs.Common.{◌≡◌, ℕ, ◌==◌, ◌&&◌, not, min, max, Bool, true, false, cond, List, []}
use Rattle.std.proofs.Common.{◌∷◌, ◌++◌, map, find, unwrap_or, refl, sym, ap, ◌∙◌, arith, ◌≢◌, ◌⊎◌}
use Rattle.std.proofs.Common.{inl, inr, ◌+◌, ◌<◌, ◌≤◌, ◌||◌, length, take, drop, get_or, length-take}
use Rattle.std.proofs.Common.{append_assoc, append-nil, length-drop, ◌-◌}
use Rattle.std.proofs.lemmas.List.{take_more, take_all, drop_all}
use Rattle.std.specs.List.{zip, list_any, filter}
use Rattle.report_tables.proofs.Growing.{drop_item}
use Rattle.std.proofs.lemmas.Bool.{eq-eqb}
use Rattle.report_tables.proofs.UnitLemmas.{not_zero}
use Rattle.report_tables.specs.declared.esrt.EsrtEntry.{EsrtEntry}
use Rattle.cu_base.specs.declared.device_state.DevState.{DevState}
use Rattle.bench_model.specs.Devices.{DeviceValue}
use Rattle.report_tables.specs.Entries.{Installed, least, greatest, told_attempt, attempt_of}
use Rattle.report_tables.specs.Entries.{entry_with, entry_of, entries_behind, is_same_type}
use Rattle.std.specs.Str.{bytes_eq}

pub least_step : (n m : ℕ) (ms : List ℕ) → least (min m n) ms ≡ least n (m ∷ ms)
least_step n m [] = refl
least_step n m (k ∷ ks) = grind (arith, least_step n m ks)

pub greatest_step : (n m : ℕ) (ms : List ℕ) → greatest (max m n) ms ≡ greatest n (m ∷ ms)
greatest_step n m [] = refl
greatest_step n m (k ∷ ks) = grind (arith, greatest_step n m ks)

-- the attempt that is told, with one attempt more
told_step : (a b : ℕ × ℕ) (rest : List (ℕ × ℕ)) (p q : Bool) → (a.1 == 0) ≡ p → (b.1 == 0) ≡ q
    → told_attempt (cond (p && not q) b a) rest ≡ told_attempt a (b ∷ rest)
told_step a b rest true true ea eb = rw (ea, eb) refl
told_step a b rest true false ea eb = rw (ea, eb) refl
told_step a b rest false true ea eb = rw ea refl
told_step a b rest false false ea eb = rw ea refl

pub told_later : (a b : ℕ × ℕ) (rest : List (ℕ × ℕ)) → a.1 ≡ 0 → b.1 ≢ 0
    → told_attempt b rest ≡ told_attempt a (b ∷ rest)
told_later a b rest ea eb = told_step a b rest true false (eq-eqb _ _ ea) (not_zero _ eb)

pub told_earlier : (a b : ℕ × ℕ) (rest : List (ℕ × ℕ)) → (a.1 ≢ 0) ⊎ (b.1 ≡ 0)
    → told_attempt a rest ≡ told_attempt a (b ∷ rest)
told_earlier a b rest (inl h) = told_step a b rest false (b.1 == 0) (not_zero _ h) refl
told_earlier a b rest (inr e) = both_zero (a.1 == 0) refl
  where
    both_zero : (p : Bool) → (a.1 == 0) ≡ p → told_attempt a rest ≡ told_attempt a (b ∷ rest)
    both_zero true is = told_step a b rest true true is (eq-eqb _ _ e)
    both_zero false is = told_step a b rest false true is (eq-eqb _ _ e)

-- the entry by its fields
abbrev entry_made : EsrtEntry → ℕ → ℕ → ℕ × ℕ → EsrtEntry
entry_made e version lowest attempt = record {
  class = e.class;
  fw_type = e.fw_type;
  version = version;
  lowest = lowest;
  flags = e.flags;
  last_version = attempt.0;
  last_status = attempt.1;
}

same_entry : (e : EsrtEntry) (v v' l l' : ℕ) (a a' : ℕ × ℕ) → v ≡ v' → l ≡ l' → a ≡ a'
    → entry_made e v l a ≡ entry_made e v' l' a'
same_entry e v v' l l' a a' ev el ea = rw (ev, el, ea) refl

-- an entry with one device more of its type
pub entry_step : (e : EsrtEntry) (d : DeviceValue) (s : DevState) (version lowest : ℕ)
    (attempt : ℕ × ℕ) (others : List Installed)
    → version ≡ min s.version e.version → lowest ≡ max s.floor e.lowest
    → ((rest : List (ℕ × ℕ)) → told_attempt attempt rest
    ≡ told_attempt (e.last_version, e.last_status) (attempt_of s ∷ rest))
    → entry_with (entry_made e version lowest attempt) others ≡ entry_with e ((d, s) ∷ others)
entry_step e d s version lowest attempt others ev el told =
    same_entry e
    (least version (map (λ x. x.1.version) others))
    (least e.version (s.version ∷ map (λ x. x.1.version) others))
    (greatest lowest (map (λ x. x.1.floor) others))
    (greatest e.lowest (s.floor ∷ map (λ x. x.1.floor) others))
    (told_attempt attempt (map (λ x. attempt_of x.1) others))
    (told_attempt (e.last_version, e.last_status)
    (attempt_of s ∷ map (λ x. attempt_of x.1) others))
    (ap (λ n. least n (map (λ x. x.1.version) others)) ev
    ∙ least_step e.version s.version (map (λ x. x.1.version) others))
    (ap (λ n. greatest n (map (λ x. x.1.floor) others)) el
    ∙ greatest_step e.lowest s.floor (map (λ x. x.1.floor) others))
    (told (map (λ x. attempt_of x.1) others))

-- ---- devices beside their states

-- what stands for a state that is not there
abbrev pub no_state : DevState
no_state = record { version = 0; floor = 0; last_version = 0; last_status = 0 }

pub zip_drop : (ds : List DeviceValue) (ss : List DevState) (k : ℕ) (d : DeviceValue) (s : DevState)
    → k < length ds → length ss ≡ length ds → d ≡ get_or ds k d → s ≡ get_or ss k no_state
    → zip (drop k ds) (drop k ss) ≡ (d, s) ∷ zip (drop (k + 1) ds) (drop (k + 1) ss)
zip_drop ds ss k d s h same is_d is_s =
    ap (λ xs. zip xs (drop k ss)) (drop_item ds k d d h is_d)
    ∙ ap (zip (d ∷ drop (k + 1) ds)) (drop_item ss k s no_state (omega arith) is_s)

zip_more : (ds : List DeviceValue) (ss : List DevState) (d : DeviceValue) (s : DevState)
    → length ss ≡ length ds → zip (ds ++ d ∷ []) (ss ++ s ∷ []) ≡ zip ds ss ++ (d, s) ∷ []
zip_more [] [] d s e = refl
zip_more [] (y ∷ ys) d s e = absurd (omega arith)
zip_more (x ∷ xs) [] d s e = absurd (omega arith)
zip_more (x ∷ xs) (y ∷ ys) d s e = ap (λ zs. (x, y) ∷ zs) (zip_more xs ys d s (omega arith))

pub zip_take : (ds : List DeviceValue) (ss : List DevState) (k : ℕ) (d : DeviceValue) (s : DevState)
    → k < length ds → length ss ≡ length ds → d ≡ get_or ds k d → s ≡ get_or ss k no_state
    → zip (take (k + 1) ds) (take (k + 1) ss) ≡ zip (take k ds) (take k ss) ++ (d, s) ∷ []
zip_take ds ss k d s h same is_d is_s =
    ap (λ xs. zip xs (take (k + 1) ss))
    (take_more ds k d h ∙ ap (λ x. take k ds ++ x ∷ []) (sym is_d))
    ∙ ap (zip (take k ds ++ d ∷ []))
    (take_more ss k no_state (omega arith) ∙ ap (λ y. take k ss ++ y ∷ []) (sym is_s))
    ∙ zip_more (take k ds) (take k ss) d s
    (omega (arith, length-take k ds, length-take k ss))

-- a device of this type among devices beside their states
pub any_zip : (p : DeviceValue → Bool) (ds : List DeviceValue) (ss : List DevState)
    → length ss ≡ length ds → list_any (λ (x : Installed). p x.0) (zip ds ss) ≡ list_any p ds
any_zip p [] [] e = refl
any_zip p [] (y ∷ ys) e = absurd (omega arith)
any_zip p (x ∷ xs) [] e = absurd (omega arith)
any_zip p (x ∷ xs) (y ∷ ys) e = ap (λ b. p x || b) (any_zip p xs ys (omega arith))

-- ---- one device more

filter_yes : (first : Installed) (x : Installed) (xs : List Installed)
    → is_same_type first x ≡ true
    → filter (is_same_type first) (x ∷ xs) ≡ x ∷ filter (is_same_type first) xs
filter_yes first x xs e =
    ap (λ b. cond b (x ∷ filter (is_same_type first) xs) (filter (is_same_type first) xs)) e

filter_no : (first : Installed) (x : Installed) (xs : List Installed)
    → is_same_type first x ≡ false
    → filter (is_same_type first) (x ∷ xs) ≡ filter (is_same_type first) xs
filter_no first x xs e =
    ap (λ b. cond b (x ∷ filter (is_same_type first) xs) (filter (is_same_type first) xs)) e

-- what is left of the devices, seen from one place on and from the next
abbrev pub left_of_type : Installed → List DeviceValue → List DevState → ℕ → List Installed
left_of_type first ds ss k = filter (is_same_type first) (zip (drop k ds) (drop k ss))

pub joined : (e new : EsrtEntry) (first : Installed) (ds : List DeviceValue) (ss : List DevState)
    (k : ℕ) (d : DeviceValue) (s : DevState)
    → zip (drop k ds) (drop k ss) ≡ (d, s) ∷ zip (drop (k + 1) ds) (drop (k + 1) ss)
    → is_same_type first (d, s) ≡ true
    → ((others : List Installed) → entry_with new others ≡ entry_with e ((d, s) ∷ others))
    → entry_with new (left_of_type first ds ss (k + 1))
    ≡ entry_with e (left_of_type first ds ss k)
joined e new first ds ss k d s split is join =
    join (left_of_type first ds ss (k + 1))
    ∙ sym (ap (λ xs. entry_with e (filter (is_same_type first) xs)) split
    ∙ ap (entry_with e) (filter_yes first (d, s) _ is))

pub passed_by : (e : EsrtEntry) (first : Installed) (ds : List DeviceValue) (ss : List DevState)
    (k : ℕ) (d : DeviceValue) (s : DevState)
    → zip (drop k ds) (drop k ss) ≡ (d, s) ∷ zip (drop (k + 1) ds) (drop (k + 1) ss)
    → is_same_type first (d, s) ≡ false
    → entry_with e (left_of_type first ds ss (k + 1))
    ≡ entry_with e (left_of_type first ds ss k)
passed_by e first ds ss k d s split is =
    sym (ap (λ xs. entry_with e (filter (is_same_type first) xs)) split
    ∙ ap (entry_with e) (filter_no first (d, s) _ is))

pub none_left : (e : EsrtEntry) (first : Installed) (ds : List DeviceValue) (ss : List DevState)
    (k : ℕ) → length ds ≤ k → entry_with e (left_of_type first ds ss k) ≡ entry_with e []
none_left e first ds ss k h =
    ap (λ xs. entry_with e (filter (is_same_type first) (zip xs (drop k ss)))) (drop_all k ds h)

-- ---- the table

-- the entry of the device at a place, or none where one of its type stands before it
abbrev entry_here : Installed → List Installed → List Installed → List EsrtEntry
entry_here x before rest = cond (list_any (is_same_type x) before) [] (entry_of x rest ∷ [])

table_step : (out : List EsrtEntry) (x : Installed) (before rest : List Installed)
    (b : Bool) → list_any (is_same_type x) before ≡ b
    → out ++ entries_behind before (x ∷ rest)
    ≡ (out ++ cond b [] (entry_of x rest ∷ [])) ++ entries_behind (before ++ x ∷ []) rest
table_step out x before rest b is =
    ap (λ c. out ++ (cond c [] (entry_of x rest ∷ []) ++ entries_behind (before ++ x ∷ []) rest)) is
    ∙ sym (append_assoc out (cond b [] (entry_of x rest ∷ []))
    (entries_behind (before ++ x ∷ []) rest))

-- the table seen from one place on and from the next, with what is told at the place
pub table_next : (out new whole : List EsrtEntry) (ds : List DeviceValue) (ss : List DevState)
    (k : ℕ) (d : DeviceValue) (s : DevState) (b : Bool)
    → k < length ds → length ss ≡ length ds → d ≡ get_or ds k d → s ≡ get_or ss k no_state
    → list_any (λ x. bytes_eq d.type_id.bytes x.type_id.bytes) (take k ds) ≡ b
    → new ≡ out ++ cond b [] (entry_of (d, s) (zip (drop (k + 1) ds) (drop (k + 1) ss)) ∷ [])
    → out ++ entries_behind (zip (take k ds) (take k ss)) (zip (drop k ds) (drop k ss)) ≡ whole
    → new ++ entries_behind (zip (take (k + 1) ds) (take (k + 1) ss))
    (zip (drop (k + 1) ds) (drop (k + 1) ss)) ≡ whole
table_next out new whole ds ss k d s b h same is_d is_s any is so_far =
    let before = zip (take k ds) (take k ss) in
    let rest = zip (drop (k + 1) ds) (drop (k + 1) ss) in
    let same_front : length (take k ss) ≡ length (take k ds) =
    omega (arith, length-take k ds, length-take k ss) in
    let found : list_any (is_same_type (d, s)) before ≡ b =
    any_zip (λ x. bytes_eq d.type_id.bytes x.type_id.bytes) (take k ds) (take k ss) same_front
    ∙ any in
    ap (λ w. w ++ entries_behind (zip (take (k + 1) ds) (take (k + 1) ss)) rest) is
    ∙ ap (λ w. (out ++ cond b [] (entry_of (d, s) rest ∷ [])) ++ entries_behind w rest)
    (zip_take ds ss k d s h same is_d is_s)
    ∙ sym (table_step out (d, s) before rest b found)
    ∙ ap (λ w. out ++ entries_behind before w) (sym (zip_drop ds ss k d s h same is_d is_s))
    ∙ so_far

pub table_done : (out : List EsrtEntry) (before : List Installed) (ds : List DeviceValue)
    (ss : List DevState) (k : ℕ) → length ds ≤ k
    → out ++ entries_behind before (zip (drop k ds) (drop k ss)) ≡ out
table_done out before ds ss k h =
    ap (λ xs. out ++ entries_behind before (zip xs (drop k ss))) (drop_all k ds h)
    ∙ append-nil out

-- the rest of a list as a slice
pub rest_is : {X : Type 0} (xs : List X) (n : ℕ) → take (length xs - n) (drop n xs) ≡ drop n xs
rest_is xs n = take_all (length xs - n) (drop n xs) (omega (arith, length-drop n xs))

pub rests_are : (ds : List DeviceValue) (ss : List DevState) (n : ℕ)
    → zip (take (length ds - n) (drop n ds)) (take (length ss - n) (drop n ss))
    ≡ zip (drop n ds) (drop n ss)
rests_are ds ss n =
    ap (λ xs. zip xs (take (length ss - n) (drop n ss))) (rest_is ds n)
    ∙ ap (zip (drop n ds)) (rest_is ss n)
