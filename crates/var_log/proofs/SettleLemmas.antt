-- What the last change of each variable makes of the variables.
use Rattle.std.proofs.Common.{◌≡◌, ℕ, zero, suc, List, [], ◌∷◌, ◌++◌, length, refl}
use Rattle.std.proofs.Common.{sym, ap, ◌∙◌, arith, subst, true, false, Bool, Option, Some, None}
use Rattle.std.proofs.Common.{cond, map, ◌&&◌}
use Rattle.std.proofs.Common.{All, IsTrue, nat_le, ◌||◌}
use Rattle.std.specs.declared.cmp.Ordering.{Ordering}
use Rattle.std.specs.declared.cmp.Ordering.TheVariants.{Less, Equal, Greater}
use Rattle.std.specs.Ordering.{is_eq, nat_cmp, ordering_then, match_ordering}
use Rattle.std.specs.Cmp.Lexicographic.{slice_cmp}
use Rattle.std.specs.Str.{bytes_eq}
use Rattle.std.specs.List.{flat_map, fold, list_any, AllByRecursion}
use Rattle.std.specs.List.Sorted.{IsStrictlySortedBy}
use Rattle.std.specs.Borrow.{Bor}
use Rattle.std.specs.Map.{keys_of}
use Rattle.std.specs.Map.Iter.{deref_pair}
use Rattle.std.proofs.lemmas.List.{map_push, append-nil}
use Rattle.std.proofs.lemmas.Grind.{flat_map-append}
use Rattle.std.specs.BTreeMap.{insert_entry}
use Rattle.std.proofs.lemmas.Map.Text.{is_eq-slice_cmp}
use Rattle.std.proofs.lemmas.List.Folds.{fold-map, fold_along}
use Rattle.std.proofs.lemmas.Slice.Eq.{bytes_eq-Decides}
use Rattle.var_log.specs.declared.change.Change.{Change}
use Rattle.var_log.specs.declared.limits.TheConstants.{MAX_DATA}
use Rattle.var_log.specs.declared.seen.Held.{Held}
use Rattle.var_log.specs.declared.seen.Key.{Key}
use Rattle.var_log.specs.declared.seen.Seen.{Seen}
use Rattle.var_log.specs.Changes.{after, changed, is_name, is_of, keeps_limits, left_by}
use Rattle.var_log.specs.Changes.{no_variables}
use Rattle.var_log.specs.Changes.{Variable, Variables}
use Rattle.var_log.specs.Opens.{AreLeftBy, change_order, is_set}
use Rattle.std.proofs.lemmas.Bool.{true≢false}
use Rattle.std.proofs.lemmas.Map.Keys.{sorted_head, sorted_tail}
use Rattle.var_log.proofs.Spelled.{and_first, and_second, and_true}
use Rattle.var_log.specs.Seen.{as_change, change_with, key_order, last_changes, put_last, set_in}
use Rattle.var_log.specs.Seen.{set_with}

abbrev Last : Type 0
Last = Key × Option Held

-- a key is of this GUID and name
abbrev at_key : List ℕ → List ℕ → Key → Bool
at_key guid name key = bytes_eq key.guid guid && bytes_eq key.name.now name

abbrev what : Option Held → Option Variable
what (Some held) = Some (record { attributes = held.attributes; bytes = held.data.now })
what None = None

-- the variable in entries
abbrev found : List Last → List ℕ → List ℕ → Option Variable
found [] guid name = None
found (e ∷ es) guid name = cond (at_key guid name e.0) (what e.1) (found es guid name)

-- ---- keys

eq_then : (a b : Ordering) → is_eq (ordering_then a b) ≡ (is_eq a && is_eq b)
eq_then Less b = refl
eq_then Equal b = refl
eq_then Greater b = refl

same_key : (a b : Key) → is_eq (key_order a b) ≡ (bytes_eq a.guid b.guid && bytes_eq a.name.now b.name.now)
same_key a b =
    eq_then (slice_cmp nat_cmp a.guid b.guid) (slice_cmp nat_cmp a.name.now b.name.now)
    ∙ rw (is_eq-slice_cmp a.guid b.guid, is_eq-slice_cmp a.name.now b.name.now) refl

bytes_same : (a b : List ℕ) → bytes_eq a b ≡ true → a ≡ b
bytes_same a b is = (bytes_eq-Decides a b).0 is

bytes_are : (a : List ℕ) → bytes_eq a a ≡ true
bytes_are a = (bytes_eq-Decides a a).1 refl

record Same (a b : Key) : Type 0 where
  guid : a.guid ≡ b.guid
  name : a.name.now ≡ b.name.now

same_from : (a b : Key) → key_order a b ≡ Equal → Same a b
same_from a b is =
    let both : (bytes_eq a.guid b.guid && bytes_eq a.name.now b.name.now) ≡ true =
    sym (same_key a b) ∙ ap is_eq is in
    record {
      guid = bytes_same a.guid b.guid (and_first (bytes_eq a.guid b.guid) (bytes_eq a.name.now b.name.now) both);
      name = bytes_same a.name.now b.name.now
          (and_second (bytes_eq a.guid b.guid) (bytes_eq a.name.now b.name.now) both);
    }

at_same : (guid name : List ℕ) (a b : Key) → Same a b → at_key guid name a ≡ at_key guid name b
at_same guid name a b same =
    ap (λ (l : List ℕ). bytes_eq l guid && bytes_eq a.name.now name) same.guid
    ∙ ap (λ (l : List ℕ). bytes_eq b.guid guid && bytes_eq l name) same.name

apart : (a b : Key) (o : Ordering) → key_order a b ≡ o → is_eq o ≡ false
    → (bytes_eq a.guid b.guid && bytes_eq a.name.now b.name.now) ≡ false
apart a b o is none = sym (same_key a b) ∙ ap is_eq is ∙ none

both_at : (guid name : List ℕ) (a b : Key) → at_key guid name a ≡ true → at_key guid name b ≡ true
    → (bytes_eq a.guid b.guid && bytes_eq a.name.now b.name.now) ≡ true
both_at guid name a b p q =
    let g : a.guid ≡ b.guid =
    bytes_same a.guid guid (and_first (bytes_eq a.guid guid) (bytes_eq a.name.now name) p)
    ∙ sym (bytes_same b.guid guid (and_first (bytes_eq b.guid guid) (bytes_eq b.name.now name) q)) in
    let n : a.name.now ≡ b.name.now =
    bytes_same a.name.now name (and_second (bytes_eq a.guid guid) (bytes_eq a.name.now name) p)
    ∙ sym (bytes_same b.name.now name (and_second (bytes_eq b.guid guid) (bytes_eq b.name.now name) q)) in
    rw (g, n, bytes_are b.guid, bytes_are b.name.now) refl

-- where one is there, another that differs is not
not_both : (guid name : List ℕ) (a b : Key) (o : Ordering) → key_order a b ≡ o → is_eq o ≡ false
    → at_key guid name a ≡ true → (t : Bool) → at_key guid name b ≡ t → t ≡ false
not_both guid name a b o is none p true q =
    sym (both_at guid name a b p q) ∙ apart a b o is none
not_both guid name a b o is none p false q = refl

-- ---- one more change

cond_same : {A : Type 0} (t : Bool) (x y z : A) → cond t x z ≡ cond t x (cond t y z)
cond_same true x y z = refl
cond_same false x y z = refl

cond_swap : {A : Type 0} (s t : Bool) (x y z : A) → (s ≡ true → t ≡ false)
    → cond t y (cond s x z) ≡ cond s x (cond t y z)
cond_swap true true x y z h = absurd (true≢false (h refl))
cond_swap true false x y z h = refl
cond_swap false t x y z h = refl

put_case : (guid name : List ℕ) (e : Last) (es : List Last) (k : Key) (v : Option Held) (o : Ordering)
    → key_order k e.0 ≡ o
    → found (insert_entry key_order es k v) guid name
    ≡ cond (at_key guid name k) (what v) (found es guid name)
    → found (match_ordering o ((k, v) ∷ e ∷ es) ((e.0, v) ∷ es) (e ∷ insert_entry key_order es k v)) guid name
    ≡ cond (at_key guid name k) (what v) (found (e ∷ es) guid name)
put_case guid name e es k v Less is later = refl
put_case guid name e es k v Equal is later =
    ap (λ (t : Bool). cond t (what v) (found es guid name)) (sym (at_same guid name k e.0 (same_from k e.0 is)))
    ∙ cond_same (at_key guid name k) (what v) (what e.1) (found es guid name)
    ∙ ap (λ (t : Bool). cond (at_key guid name k) (what v) (cond t (what e.1) (found es guid name)))
    (at_same guid name k e.0 (same_from k e.0 is))
put_case guid name e es k v Greater is later =
    ap (λ (x : Option Variable). cond (at_key guid name e.0) (what e.1) x) later
    ∙ cond_swap (at_key guid name k) (at_key guid name e.0) (what v) (what e.1) (found es guid name)
    (λ p. not_both guid name k e.0 Greater is refl p _ refl)

put_found : (guid name : List ℕ) (es : List Last) (k : Key) (v : Option Held)
    → found (insert_entry key_order es k v) guid name
    ≡ cond (at_key guid name k) (what v) (found es guid name)
put_found guid name [] k v = refl
put_found guid name (e ∷ es) k v =
    put_case guid name e es k v (key_order k e.0) refl (put_found guid name es k v)

what_is : (key : Key) (left : Option Held) → left_by (change_with key left) ≡ what left
what_is key (Some held) = refl
what_is key None = refl

is_at : (guid name : List ℕ) (key : Key) (left : Option Held)
    → is_of guid name (change_with key left) ≡ at_key guid name key
is_at guid name key (Some held) = refl
is_at guid name key None = refl

changed_at : (vs : Variables) (guid name : List ℕ) (key : Key) (left : Option Held)
    → changed vs (change_with key left) guid name ≡ cond (at_key guid name key) (what left) (vs guid name)
changed_at vs guid name key left =
    ap (λ (t : Bool). cond t (left_by (change_with key left)) (vs guid name)) (is_at guid name key left)
    ∙ ap (λ (x : Option Variable). cond (at_key guid name key) x (vs guid name)) (what_is key left)

abbrev Tells : List Last → Variables → Type 0
Tells es vs = (guid name : List ℕ) → found es guid name ≡ vs guid name

one_more_told : (es : List Last) (vs : Variables) (s : Seen) → Tells es vs
    → Tells (put_last es s) (changed vs (as_change s))
one_more_told es vs s told guid name =
    put_found guid name es s.key s.left
    ∙ ap (λ (x : Option Variable). cond (at_key guid name s.key) (what s.left) x) (told guid name)
    ∙ sym (changed_at vs guid name s.key s.left)

last_told : (changes : List Seen) → Tells (last_changes changes) (after no_variables (map as_change changes))
last_told changes =
    subst (λ (vs : Variables). Tells (last_changes changes) vs)
    (sym (fold-map changed as_change no_variables changes))
    (fold_along put_last (λ (vs : Variables) (s : Seen). changed vs (as_change s)) Tells one_more_told []
    no_variables changes (λ guid name. refl))

-- ---- the sets of entries in order

-- no key of these is there
abbrev NoneAt : List ℕ → List ℕ → List Last → Type 0
NoneAt guid name = AllByRecursion (λ (e : Last). at_key guid name e.0 ≡ false)

untouched_entry : (vs : Variables) (guid name : List ℕ) (k : Key) (left : Option Held) (es : List Last)
    → at_key guid name k ≡ false
    → ((ws : Variables) → after ws (flat_map set_in es) guid name ≡ ws guid name)
    → after vs (set_with k left ++ flat_map set_in es) guid name ≡ vs guid name
untouched_entry vs guid name k None es lacks later = later vs
untouched_entry vs guid name k (Some held) es lacks later =
    later (changed vs (change_with k (Some held)))
    ∙ changed_at vs guid name k (Some held)
    ∙ ap (λ (t : Bool). cond t (what (Some held)) (vs guid name)) lacks

untouched : (vs : Variables) (guid name : List ℕ) (es : List Last) → NoneAt guid name es
    → after vs (flat_map set_in es) guid name ≡ vs guid name
untouched vs guid name [] none = refl
untouched vs guid name (e ∷ es) none =
    untouched_entry vs guid name e.0 e.1 es none.0 (λ ws. untouched ws guid name es none.1)

below_none : (guid name : List ℕ) (k : Key) (es : List Last) → at_key guid name k ≡ true
    → AllByRecursion (λ (y : Key). key_order k y ≡ Less) (keys_of es) → NoneAt guid name es
below_none guid name k [] is below = tt
below_none guid name k (e ∷ es) is below =
    (not_both guid name k e.0 Less below.0 refl is _ refl, below_none guid name k es is below.1)

entry_told : (vs : Variables) (guid name : List ℕ) (k : Key) (left : Option Held) (es : List Last) (t : Bool)
    → at_key guid name k ≡ t → vs guid name ≡ None
    → AllByRecursion (λ (y : Key). key_order k y ≡ Less) (keys_of es)
    → ((ws : Variables) → ws guid name ≡ None
    → after ws (flat_map set_in es) guid name ≡ found es guid name)
    → after vs (set_with k left ++ flat_map set_in es) guid name ≡ cond t (what left) (found es guid name)
entry_told vs guid name k None es true is none below later =
    untouched vs guid name es (below_none guid name k es is below) ∙ none
entry_told vs guid name k None es false is none below later = later vs none
entry_told vs guid name k (Some held) es true is none below later =
    untouched (changed vs (change_with k (Some held))) guid name es (below_none guid name k es is below)
    ∙ changed_at vs guid name k (Some held)
    ∙ ap (λ (t : Bool). cond t (what (Some held)) (vs guid name)) is
entry_told vs guid name k (Some held) es false is none below later =
    later (changed vs (change_with k (Some held)))
    (changed_at vs guid name k (Some held)
    ∙ ap (λ (t : Bool). cond t (what (Some held)) (vs guid name)) is ∙ none)

sets_told : (vs : Variables) (guid name : List ℕ) (es : List Last) → vs guid name ≡ None
    → IsStrictlySortedBy key_order (keys_of es)
    → after vs (flat_map set_in es) guid name ≡ found es guid name
sets_told vs guid name [] none sorted = none
sets_told vs guid name (e ∷ es) none sorted =
    entry_told vs guid name e.0 e.1 es (at_key guid name e.0) refl none
    (sorted_head key_order e.0 (keys_of es) sorted)
    (λ ws blank. sets_told ws guid name es blank (sorted_tail key_order e.0 (keys_of es) sorted))

-- ---- what the sets are

all_first : {A : Type 0} (P : A → Type 0) (x : A) (xs : List A) → P x → All P xs → All P (x ∷ xs)
all_first P x xs p rest zero d within = p
all_first P x xs p rest (suc k) d within = rest k d (omega arith)

set_is : (k : Key) (left : Option Held) (cs : List Change) → All (λ c. IsTrue (is_set c)) cs
    → All (λ c. IsTrue (is_set c)) (set_with k left ++ cs)
set_is k None cs each = each
set_is k (Some held) cs each =
    all_first (λ c. IsTrue (is_set c)) (change_with k (Some held)) cs refl each

sets_are : (es : List Last) → All (λ c. IsTrue (is_set c)) (flat_map set_in es)
sets_are [] = λ k d within. absurd (omega arith)
sets_are (e ∷ es) = set_is e.0 e.1 (flat_map set_in es) (sets_are es)

above_set : (k : Key) (held : Held) (l : Key) (left : Option Held) (cs : List Change) → key_order k l ≡ Less
    → AllByRecursion (λ (c : Change). change_order (change_with k (Some held)) c ≡ Less) cs
    → AllByRecursion (λ (c : Change). change_order (change_with k (Some held)) c ≡ Less) (set_with l left ++ cs)
above_set k held l None cs less rest = rest
above_set k held l (Some h) cs less rest = (less, rest)

above_sets : (k : Key) (held : Held) (es : List Last)
    → AllByRecursion (λ (y : Key). key_order k y ≡ Less) (keys_of es)
    → AllByRecursion (λ (c : Change). change_order (change_with k (Some held)) c ≡ Less) (flat_map set_in es)
above_sets k held [] below = tt
above_sets k held (e ∷ es) below =
    above_set k held e.0 e.1 (flat_map set_in es) below.0 (above_sets k held es below.1)

sorted_set : (k : Key) (left : Option Held) (es : List Last)
    → AllByRecursion (λ (y : Key). key_order k y ≡ Less) (keys_of es)
    → IsStrictlySortedBy change_order (flat_map set_in es)
    → IsStrictlySortedBy change_order (set_with k left ++ flat_map set_in es)
unfolding IsStrictlySortedBy
sorted_set k None es below rest = rest
sorted_set k (Some held) es below rest = (above_sets k held es below, rest)

none_sorted : IsStrictlySortedBy change_order []
unfolding IsStrictlySortedBy
none_sorted = tt

sorted_sets : (es : List Last) → IsStrictlySortedBy key_order (keys_of es)
    → IsStrictlySortedBy change_order (flat_map set_in es)
sorted_sets [] sorted = none_sorted
sorted_sets (e ∷ es) sorted =
    sorted_set e.0 e.1 es (sorted_head key_order e.0 (keys_of es) sorted)
    (sorted_sets es (sorted_tail key_order e.0 (keys_of es) sorted))

-- ---- limits

abbrev DataKeeps : Option Held → Type 0
DataKeeps None = Unit {0}
DataKeeps (Some held) = nat_le (length held.data.now) MAX_DATA ≡ true

record Keeps (e : Last) : Type 0 where
  name : is_name e.0.name.now ≡ true
  left : DataKeeps e.1

abbrev AllKeep : List Last → Type 0
AllKeep [] = Unit {0}
AllKeep (e ∷ es) = Keeps e × AllKeep es

put_keeps_case : (e : Last) (es : List Last) (k : Key) (v : Option Held) (o : Ordering) → Keeps e → AllKeep es
    → Keeps (k, v) → AllKeep (insert_entry key_order es k v)
    → AllKeep (match_ordering o ((k, v) ∷ e ∷ es) ((e.0, v) ∷ es) (e ∷ insert_entry key_order es k v))
put_keeps_case e es k v Less here each one later = (one, (here, each))
put_keeps_case e es k v Equal here each one later = (record { name = here.name; left = one.left }, each)
put_keeps_case e es k v Greater here each one later = (here, later)

put_keeps : (es : List Last) (k : Key) (v : Option Held) → AllKeep es → Keeps (k, v)
    → AllKeep (insert_entry key_order es k v)
put_keeps [] k v each one = (one, tt)
put_keeps (e ∷ es) k v each one =
    put_keeps_case e es k v (key_order k e.0) each.0 each.1 one (put_keeps es k v each.1 one)

seen_keeps : (k : Key) (left : Option Held) → keeps_limits (change_with k left) ≡ true → Keeps (k, left)
seen_keeps k None is = record { name = is; left = tt }
seen_keeps k (Some held) is = record {
  name = and_first (is_name k.name.now) _ is;
  left = and_second (is_name k.name.now) _ is;
}

all_keep : (es : List Last) (changes : List Seen) → AllKeep es
    → All (λ c. IsTrue (keeps_limits c)) (map as_change changes) → AllKeep (fold put_last es changes)
all_keep es [] each limits = each
all_keep es (s ∷ changes) each limits =
    all_keep (put_last es s) changes
    (put_keeps es s.key s.left each (seen_keeps s.key s.left (limits 0 (as_change s) (omega arith))))
    (λ k d within. limits (suc k) d (omega arith))

set_keeps : (k : Key) (left : Option Held) (cs : List Change) → Keeps (k, left)
    → All (λ c. IsTrue (keeps_limits c)) cs → All (λ c. IsTrue (keeps_limits c)) (set_with k left ++ cs)
set_keeps k None cs one each = each
set_keeps k (Some held) cs one each =
    all_first (λ c. IsTrue (keeps_limits c)) (change_with k (Some held)) cs
    (and_true (is_name k.name.now) (nat_le (length held.data.now) MAX_DATA) one.name one.left) each

sets_keep : (es : List Last) → AllKeep es → All (λ c. IsTrue (keeps_limits c)) (flat_map set_in es)
sets_keep [] each = λ k d within. absurd (omega arith)
sets_keep (e ∷ es) each = set_keeps e.0 e.1 (flat_map set_in es) each.0 (sets_keep es each.1)

-- ---- the whole

pub are_left : (changes : List Seen) → IsStrictlySortedBy key_order (keys_of (last_changes changes))
    → AreLeftBy (map as_change changes) (flat_map set_in (last_changes changes))
are_left changes sorted = record {
  is = λ i guid name.
      (sets_told no_variables guid name (last_changes changes) refl sorted ∙ last_told changes guid name) i;
  sets = sets_are (last_changes changes);
  ordered = sorted_sets (last_changes changes) sorted;
  limits = λ limits. sets_keep (last_changes changes) (all_keep [] changes tt limits);
}

-- no set of the entries before one is of its key
key_behind : (P : Key → Type 0) (done : List Last) (k : Key) (left : Option Held) (rest : List Last)
    → AllByRecursion P (keys_of (done ++ (k, left) ∷ rest)) → P k
key_behind P [] k left rest each = each.0
key_behind P (e ∷ done) k left rest each = key_behind P done k left rest each.1

all_before : (done : List Last) (k : Key) (left : Option Held) (rest : List Last)
    → IsStrictlySortedBy key_order (keys_of (done ++ (k, left) ∷ rest))
    → AllByRecursion (λ (y : Key). key_order y k ≡ Less) (keys_of done)
all_before [] k left rest sorted = tt
all_before (e ∷ done) k left rest sorted =
    let keys = keys_of (done ++ (k, left) ∷ rest) in (
      key_behind (λ (y : Key). key_order e.0 y ≡ Less) done k left rest (sorted_head key_order e.0 keys sorted),
      all_before done k left rest (sorted_tail key_order e.0 keys sorted),
    )

or_none : (a b : Bool) → a ≡ false → b ≡ false → (a || b) ≡ false
or_none true b p q = p
or_none false b p q = q

other_key : (k l : Key) → key_order l k ≡ Less → at_key k.guid k.name.now l ≡ false
other_key k l less = sym (same_key l k) ∙ ap is_eq less

no_set_in : (k l : Key) (left : Option Held) (cs : List Change) → key_order l k ≡ Less
    → list_any (is_of k.guid k.name.now) cs ≡ false
    → list_any (is_of k.guid k.name.now) (set_with l left ++ cs) ≡ false
no_set_in k l None cs less rest = rest
no_set_in k l (Some held) cs less rest = or_none _ _ (other_key k l less) rest

no_set : (k : Key) (es : List Last) → AllByRecursion (λ (y : Key). key_order y k ≡ Less) (keys_of es)
    → list_any (is_of k.guid k.name.now) (flat_map set_in es) ≡ false
no_set k [] below = refl
no_set k (e ∷ es) below = no_set_in k e.0 e.1 (flat_map set_in es) below.0 (no_set k es below.1)

pub no_key_before : (done : List Last) (k : Key) (left : Option Held) (rest : List Last)
    → IsStrictlySortedBy key_order (keys_of (done ++ (k, left) ∷ rest))
    → list_any (is_of k.guid k.name.now) (flat_map set_in done) ≡ false
no_key_before done k left rest sorted = no_set k done (all_before done k left rest sorted)

-- the sets of what was yielded, and of one more
pub one_more_set : (xs : List (Bor Key × Bor (Option Held))) (x : Bor Key × Bor (Option Held))
    → flat_map set_in (map deref_pair xs) ++ set_with x.0.now x.1.now
    ≡ flat_map set_in (map deref_pair (xs ++ x ∷ []))
one_more_set xs x =
    ap (λ (l : List Change). flat_map set_in (map deref_pair xs) ++ l) (sym (append-nil (set_with x.0.now x.1.now)))
    ∙ sym (flat_map-append set_in (map deref_pair xs) (deref_pair x ∷ []))
    ∙ ap (flat_map set_in) (sym (map_push deref_pair xs x))
