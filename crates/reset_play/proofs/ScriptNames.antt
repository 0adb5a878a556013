-- How the names of a script are gathered.
use Rattle.std.proofs.Common.{◌≡◌, ℕ, suc, ◌+◌, ◌<◌, ◌≤◌, Bool, true, false, not, ◌&&◌, ◌||◌, cond}
use Rattle.std.proofs.Common.{List, [], ◌∷◌, ◌++◌, get_or, drop, length, Option, Some, None, refl}
use Rattle.std.proofs.Common.{sym, ap, ◌∙◌, subst, append_assoc, add-one}
use Rattle.std.proofs.Math.Bool.{and-true}
use Rattle.std.proofs.Math.Seq.{drop-cons}
use Rattle.std.proofs.lemmas.List.{drop_all, append-nil}
use Rattle.std.proofs.lemmas.List.Folds.{list_any-append}
use Rattle.std.proofs.lemmas.Slice.Eq.{bytes_eq-Decides}
use Rattle.std.specs.List.{filter, filter_map, cons_option}
use Rattle.std.specs.Str.{bytes_eq}
use Rattle.reference_machine.specs.declared.event.Event.{Event}
use Rattle.reference_machine.specs.Laws.{Distinct}
use Rattle.reset_play.specs.ScriptInputs.{mention, once, has_name, with_name, with_mention}
use Rattle.reset_play.specs.ScriptInputs.{inputs_of}
use Rattle.reference_machine.proofs.Apart.{all_imply, kept_pass, distinct_kept, no_longer}

-- names beside other names, and what events name beside them
abbrev pub beside : List (List ℕ) → List (List ℕ) → List (List ℕ)
beside names others = filter (λ name. not (has_name name names)) others

abbrev pub unnamed : List (List ℕ) → List Event → List (List ℕ)
unnamed names events = beside names (inputs_of events)

-- a filter behind a filter, where the two in one are a third
filter_step : (p : List ℕ → Bool) (a b : Bool) (x : List ℕ) (once_filtered twice : List (List ℕ))
    → p x ≡ a → filter p once_filtered ≡ twice
    → filter p (cond b (x ∷ once_filtered) once_filtered) ≡ cond (a && b) (x ∷ twice) twice
filter_step p true true x xs ys is_a rest = rw is_a (ap (λ (l : List (List ℕ)). x ∷ l) rest)
filter_step p true false x xs ys is_a rest = rest
filter_step p false true x xs ys is_a rest = rw is_a rest
filter_step p false false x xs ys is_a rest = rest

filter_both : (p q r : List ℕ → Bool) → ((x : List ℕ) → r x ≡ (p x && q x)) → (xs : List (List ℕ))
    → filter p (filter q xs) ≡ filter r xs
filter_both p q r is_both [] = refl
filter_both p q r is_both (x ∷ xs) =
    rw (is_both x)
    (filter_step p (p x) (q x) x (filter q xs) (filter r xs) refl
    (filter_both p q r is_both xs))

-- a name is beside names and one more where it is beside the names and is not that one
one_more : (a b : Bool) → not (a || (b || false)) ≡ (not a && not b)
one_more true b = refl
one_more false true = refl
one_more false false = refl

-- a name that equals one of the names is not beside them
already : (same : Bool) (name other : List ℕ) (names : List (List ℕ)) → bytes_eq name other ≡ same
    → has_name name names ≡ true
    → not (has_name other names) ≡ (not (has_name other names) && not same)
already true name other names is_same is_there =
    let one = (bytes_eq-Decides name other).0 is_same in
    let there : has_name other names ≡ true =
    ap (λ (n : List ℕ). has_name n names) (sym one) ∙ is_there in
    rw there refl
already false name other names is_same is_there = sym (and-true (not (has_name other names)))

step : (there : Bool) (name : List ℕ) (names others : List (List ℕ)) → has_name name names ≡ there
    → with_name names name ++ beside (with_name names name) others
    ≡ names ++ beside names (name ∷ filter (λ other. not (bytes_eq name other)) others)
step true name names others is_there =
    rw is_there (ap (λ (l : List (List ℕ)). names ++ l)
    (sym (filter_both _ _ (λ other. not (has_name other names))
    (λ other. already (bytes_eq name other) name other names refl is_there) others)))
step false name names others is_there =
    rw is_there (append_assoc names (name ∷ []) _
    ∙ ap (λ (l : List (List ℕ)). names ++ name ∷ l)
    (sym (filter_both _ _ (λ other. not (has_name other (names ++ name ∷ [])))
    (λ other. ap not (list_any-append (λ x. bytes_eq x other) names (name ∷ []))
    ∙ one_more (has_name other names) (bytes_eq name other)) others)))

mentioned : (mention : Option (List ℕ)) (names others : List (List ℕ))
    → with_mention names mention ++ beside (with_mention names mention) (once others)
    ≡ names ++ beside names (once (cons_option mention others))
mentioned None names others = refl
mentioned (Some name) names others = step (has_name name names) name names (once others) refl

-- the names after one more event
pub named_more : (names : List (List ℕ)) (events : List Event) (i : ℕ) (event : Event)
    → i < length events → event ≡ get_or events i event
    → with_mention names (mention event)
    ++ unnamed (with_mention names (mention event)) (drop (i + 1) events)
    ≡ names ++ unnamed names (drop i events)
named_more names events i event within is_event =
    let cell : drop i events ≡ event ∷ drop (suc i) events =
    drop-cons events i event within ∙ ap (λ (e : Event). e ∷ drop (suc i) events) (sym is_event) in
    rw (add-one i, cell)
    (mentioned (mention event) names (filter_map mention (drop (suc i) events)))

beside_none : (others : List (List ℕ)) → beside [] others ≡ others
beside_none [] = refl
beside_none (x ∷ xs) = ap (λ (l : List (List ℕ)). x ∷ l) (beside_none xs)

-- before the first event
pub named_none : (names : List (List ℕ)) (events : List Event) → names ≡ []
    → names ++ unnamed names events ≡ inputs_of events
named_none names events is_none = rw is_none (beside_none (inputs_of events))

-- no name stands twice
once_distinct : (names : List (List ℕ)) → Distinct bytes_eq (once names)
once_distinct [] = tt
once_distinct (n ∷ names) =
    let others : List ℕ → Bool = λ other. not (bytes_eq n other) in (
      all_imply (λ x. others x ≡ true) (λ x. bytes_eq n x ≡ false)
          (λ x h. no_longer (bytes_eq n x) h) (filter others (once names))
          (kept_pass others (once names)),
      distinct_kept bytes_eq others (once names) (once_distinct names),
    )

-- nor among the names behind the last event
pub named_distinct : (names : List (List ℕ)) (items events : List Event) (i : ℕ) → length items ≤ i
    → names ++ unnamed names (drop i items) ≡ inputs_of events
    → Distinct bytes_eq names
named_distinct names items events i past named =
    let is : names ≡ inputs_of events =
    sym (append-nil names)
    ∙ (ap (λ (rest : List Event). names ++ unnamed names rest) (sym (drop_all i items past))
    ∙ named) in
    subst (Distinct bytes_eq) (sym is) (once_distinct (filter_map mention events))
