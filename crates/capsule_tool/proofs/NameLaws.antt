-- The names of a script's inputs: each once, and each loaded when the play begins.
use Rattle.std.proofs.Common.{◌≡◌, ℕ, zero, suc, Bool, true, false, not, ◌&&◌, ◌||◌, cond, List, []}
use Rattle.std.proofs.Common.{◌∷◌, get_or, map, take, drop, Option, None, Some, refl, sym, ◌∙◌, ap}
use Rattle.std.specs.Prelude.{unwrap_or}
use Rattle.std.specs.List.{list_all, filter, filter_map, AllByRecursion, IsDistinct}
use Rattle.std.specs.Str.{bytes_eq}
use Rattle.std.proofs.Math.Seq.{drop-nil}
use Rattle.std.proofs.lemmas.Map.Keys.{IsDistinct-head, IsDistinct-tail}
use Rattle.std.proofs.lemmas.Slice.Eq.{bytes_eq-Decides}
use Rattle.bench_model.specs.Boards.{BoardValue}
use Rattle.cu_io.specs.Named.{Named, bytes_named, LacksName}
use Rattle.reference_machine.specs.Laws.{Distinct}
use Rattle.reset_play.specs.Plays.{is_of_files, is_thin_on, loaded_bytes, can_play}
use Rattle.reset_play.specs.ScriptInputs.{mention, once, has_name, inputs_of}
use Rattle.reference_machine.specs.declared.event.Event.{Event}
use Rattle.reference_machine.specs.declared.event.Event.TheVariants.{Time, Drop, Signal, Lay, Poke}
use Rattle.reference_machine.specs.declared.event.Event.TheVariants.{Stage}
use Rattle.reference_machine.specs.declared.event.Event.TheVariants.{Boot, Arm, Fail, Reset, Show}

-- small facts
cc_false : false ≡ true → ⊥
cc_false is = cc

nil_cons : {X : Type 0} {x : X} {xs : List X} → [] ≡ x ∷ xs → ⊥
nil_cons is = cc

heads : (a b : List ℕ) (xs ys : List (List ℕ)) → a ∷ xs ≡ b ∷ ys → a ≡ b
heads a b xs ys is = ap (λ (l : List (List ℕ)). get_or l 0 a) is

pub or_true_right : (a b : Bool) → b ≡ true → (a || b) ≡ true
or_true_right true b is = refl
or_true_right false b is = is

pub or_false : (a b : Bool) → (a || b) ≡ false → (a ≡ false) × (b ≡ false)
or_false false false is = (refl, refl)
or_false false true is = absurd (cc_false (sym is))
or_false true b is = absurd (cc_false (sym is))

-- equality of names
pub same_name : (a b : List ℕ) → bytes_eq a b ≡ true → a ≡ b
same_name a b is = (bytes_eq-Decides a b).0 is

pub eq_itself : (a : List ℕ) → bytes_eq a a ≡ true
eq_itself a = (bytes_eq-Decides a a).1 refl

-- what holds of each name holds of the one at a place
all_at : (P : List ℕ → Type 0) (n : List ℕ) (names : List (List ℕ)) (i : ℕ) (rest : List (List ℕ))
    → drop i names ≡ n ∷ rest → AllByRecursion P names → P n
all_at P n [] i rest is all = absurd (nil_cons (sym (drop-nil i) ∙ is))
all_at P n (name ∷ names) zero rest is (holds, all) = rw (heads name n names rest is) at holds
all_at P n (name ∷ names) (suc i) rest is (holds, all) = all_at P n names i rest is all

pub distinct_names : (names : List (List ℕ)) → IsDistinct bytes_eq names → Distinct bytes_eq names
distinct_names [] distinct = tt
distinct_names (name ∷ names) distinct = (
  IsDistinct-head bytes_eq name names distinct,
  distinct_names names (IsDistinct-tail bytes_eq name names distinct),
)

-- a name at a place is none of those before it
pub new_at : (names : List (List ℕ)) (i : ℕ) (n : List ℕ) (rest : List (List ℕ))
    → Distinct bytes_eq names → drop i names ≡ n ∷ rest → has_name n (take i names) ≡ false
new_at [] i n rest distinct is = absurd (nil_cons (sym (drop-nil i) ∙ is))
new_at (name ∷ names) zero n rest distinct is = refl
new_at (name ∷ names) (suc i) n rest (others, distinct) is =
    rw (all_at (λ other. bytes_eq name other ≡ false) n names i rest is others)
    (new_at names i n rest distinct is)

-- a name that no loaded one has is not loaded
lacks_at : (same : Bool) (bytes : List ℕ) (rest : Option (List ℕ)) → same ≡ false → rest ≡ None
    → cond same (Some bytes) rest ≡ None
lacks_at same bytes rest is none = rw is none

pub lacks_loaded : (loaded : Named) (name : List ℕ)
    → has_name name (map (λ pair. pair.0) loaded) ≡ false → LacksName loaded name
lacks_loaded [] name lacks = refl
lacks_loaded (pair ∷ loaded) name lacks =
    let (differ, others) = or_false (bytes_eq pair.0 name)
    (has_name name (map (λ pair. pair.0) loaded)) lacks in
    lacks_at (bytes_eq pair.0 name) pair.1 (bytes_named loaded name) differ
    (lacks_loaded loaded name others)

-- names that are there are there once
kept_name : (n x name : List ℕ) (same : Bool) (kept : List (List ℕ)) → bytes_eq n x ≡ same
    → bytes_eq n name ≡ false
    → (bytes_eq x name || has_name name kept) ≡ true
    → has_name name (cond (not same) (x ∷ kept) kept) ≡ true
kept_name n x name false kept is differ has = has
kept_name n x name true kept is differ has =
    rw (sym (ap (λ y. bytes_eq y name) (same_name n x is)) ∙ differ) at has

or_true : (a b c : Bool) → (b ≡ true → c ≡ true) → (a || b) ≡ true → (a || c) ≡ true
or_true true b c then is = refl
or_true false b c then is = then is

filter_keeps : (n name : List ℕ) (xs : List (List ℕ)) → bytes_eq n name ≡ false
    → has_name name xs ≡ true
    → has_name name (filter (λ other. not (bytes_eq n other)) xs) ≡ true
filter_keeps n name [] differ has = has
filter_keeps n name (x ∷ xs) differ has =
    kept_name n x name (bytes_eq n x) (filter (λ other. not (bytes_eq n other)) xs) refl differ
    (or_true (bytes_eq x name) (has_name name xs) _ (filter_keeps n name xs differ) has)

once_at : (n name : List ℕ) (same : Bool) (names : List (List ℕ)) → bytes_eq n name ≡ same
    → (has_name name names ≡ true → has_name name (once names) ≡ true)
    → (same || has_name name names) ≡ true
    → (same || has_name name (filter (λ other. not (bytes_eq n other)) (once names))) ≡ true
once_at n name true names is then has = refl
once_at n name false names is then has = filter_keeps n name (once names) is (then has)

pub once_has : (name : List ℕ) (names : List (List ℕ)) → has_name name names ≡ true
    → has_name name (once names) ≡ true
once_has name [] has = has
once_has name (n ∷ names) has = once_at n name (bytes_eq n name) names refl (once_has name names)
    has

-- a loaded input is thin where all are
thin_at : (board : BoardValue) (same : Bool) (bytes : List ℕ) (rest : Option (List ℕ)) (thin : Bool)
    → thin ≡ true → is_thin_on board bytes ≡ true
    → (same ≡ false → is_thin_on board (unwrap_or rest []) ≡ true)
    → is_thin_on board (unwrap_or (cond same (Some bytes) rest) []) ≡ true
thin_at board true bytes rest thin all head then = head
thin_at board false bytes rest thin all head then = then refl

and_true : (a b : Bool) → (a && b) ≡ true → (a ≡ true) × (b ≡ true)
and_true true b is = (refl, is)
and_true false b is = absurd (cc_false is)

named_thin : (board : BoardValue) (loaded : Named) (name : List ℕ)
    → list_all (λ pair. is_thin_on board pair.1) loaded ≡ true
    → has_name name (map (λ pair. pair.0) loaded) ≡ true
    → is_thin_on board (loaded_bytes loaded name) ≡ true
named_thin board [] name thin has = absurd (cc_false has)
named_thin board (pair ∷ loaded) name thin has =
    let (head, others) = and_true (is_thin_on board pair.1)
    (list_all (λ pair. is_thin_on board pair.1) loaded) thin in
    thin_at board (bytes_eq pair.0 name) pair.1 (bytes_named loaded name) true refl head
    (λ differ. named_thin board loaded name others (rw differ at has))

-- a play of files can be played over inputs that are loaded and thin
can_all : (board : BoardValue) (loaded : Named) (events : List Event)
    → ((name : List ℕ) → has_name name (filter_map mention events) ≡ true
    → is_thin_on board (loaded_bytes loaded name) ≡ true)
    → list_all is_of_files events ≡ true → list_all (can_play board loaded) events ≡ true
can_all board loaded [] thin files = refl
can_all board loaded (Time moment ∷ events) thin files = absurd (cc_false files)
can_all board loaded (Drop file input ∷ events) thin files =
    rw (thin input (rw (eq_itself input) refl))
    (can_all board loaded events (λ name has. thin name
    (or_true_right (bytes_eq input name) (has_name name (filter_map mention events)) has))
    files)
can_all board loaded (Signal ∷ events) thin files = can_all board loaded events thin files
can_all board loaded (Lay at input ∷ events) thin files = absurd (cc_false files)
can_all board loaded (Poke at bytes ∷ events) thin files = absurd (cc_false files)
can_all board loaded (Stage at ∷ events) thin files = absurd (cc_false files)
can_all board loaded (Boot ∷ events) thin files = can_all board loaded events thin files
can_all board loaded (Arm after choice ∷ events) thin files = absurd (cc_false files)
can_all board loaded (Fail nth ∷ events) thin files = absurd (cc_false files)
can_all board loaded (Reset cold ∷ events) thin files = absurd (cc_false files)
can_all board loaded (Show ∷ events) thin files = absurd (cc_false files)

pub plays : (board : BoardValue) (loaded : Named) (events : List Event)
    → list_all is_of_files events ≡ true → map (λ pair. pair.0) loaded ≡ inputs_of events
    → list_all (λ pair. is_thin_on board pair.1) loaded ≡ true
    → list_all (can_play board loaded) events ≡ true
plays board loaded events files names thin =
    can_all board loaded events
    (λ name has. named_thin board loaded name thin (ap (has_name name) names
    ∙ once_has name (filter_map mention events) has)) files
