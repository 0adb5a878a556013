-- Texts that grow piece by piece.
use Rattle.std.proofs.Common.{◌≡◌, ℕ, suc, ◌+◌, ◌<◌, ◌≤◌, min, ◌⊎◌, inl, inr, List, [], ◌∷◌, ◌++◌}
use Rattle.std.proofs.Common.{length, get_or, map, flat_map, drop, refl, arith, sym, ap, ◌∙◌}
use Rattle.std.proofs.Common.{append_assoc, append-nil, drop-cons, add-one, length-drop}
use Rattle.bench_model.specs.Boards.{BoardValue}
use Rattle.reference_machine.specs.declared.event.Event.{Event}
use Rattle.reference_machine.specs.declared.trace.Entry.{Entry}
use Rattle.reset_play.specs.Texts.{entries_text}
use Rattle.reference_machine.specs.TraceValues.{answer_value}

-- what is left of a list begins with the item at its place
drop_item : {X : Type 0} (xs : List X) (i : ℕ) (x : X) → i < length xs → x ≡ get_or xs i x
    → drop i xs ≡ x ∷ drop (i + 1) xs
drop_item xs i x h is =
    drop-cons xs i x h ∙ ap (λ y. y ∷ drop (suc i) xs) (sym is)
    ∙ ap (λ k. x ∷ drop k xs) (sym (add-one i))

-- one more item's piece
pub one_more : {X : Type 0} (f : X → List ℕ) (out new task_done : List ℕ) (xs : List X) (i : ℕ)
    (x : X) → out ++ flat_map f (drop i xs) ≡ task_done → i < length xs → x ≡ get_or xs i x
    → new ≡ out ++ f x → new ++ flat_map f (drop (i + 1) xs) ≡ task_done
one_more f out new task_done xs i x inv h is e =
    ap (λ w. w ++ flat_map f (drop (i + 1) xs)) e
    ∙ append_assoc out (f x) (flat_map f (drop (i + 1) xs))
    ∙ ap (λ ys. out ++ flat_map f ys) (sym (drop_item xs i x h is)) ∙ inv

nothing_left : {X : Type 0} (xs : List X) → length xs ≤ 0 → xs ≡ []
nothing_left [] h = refl
nothing_left (x ∷ xs) h = absurd (omega arith)

all_dropped : {X : Type 0} (xs : List X) (i : ℕ) → length xs ≤ i → drop i xs ≡ []
all_dropped xs i h = nothing_left (drop i xs) (omega (arith, length-drop i xs))

-- no line is left where the events or the answers are at their end
no_answers : (board : BoardValue) (n : ℕ) (events : List Event)
    → entries_text board n events [] ≡ []
no_answers board n [] = refl
no_answers board n (event ∷ events) = refl

shorter : (a b i : ℕ) → min a b ≤ i → (a ≤ i) ⊎ (b ≤ i)
shorter a b i h = grind arith

pub no_lines : (board : BoardValue) (n i : ℕ) (events : List Event) (entries : List Entry)
    → min (length events) (length entries) ≤ i
    → entries_text board n (drop i events) (map (λ e. answer_value e.answer) (drop i entries)) ≡ []
no_lines board n i events entries h = by_side (shorter (length events) (length entries) i h)
  where
    by_side : (length events ≤ i) ⊎ (length entries ≤ i)
        → entries_text board n (drop i events) (map (λ e. answer_value e.answer) (drop i entries))
        ≡ []
    by_side (inl k) =
        ap (λ es. entries_text board n es (map (λ e. answer_value e.answer) (drop i entries)))
        (all_dropped events i k)
    by_side (inr k) =
        ap (λ es. entries_text board n (drop i events) (map (λ e. answer_value e.answer) es))
        (all_dropped entries i k) ∙ no_answers board n (drop i events)

pub at_end : (out rest task_done : List ℕ) → out ++ rest ≡ task_done → rest ≡ [] → out ≡ task_done
at_end out rest task_done inv e = sym (append-nil out) ∙ ap (λ w. out ++ w) (sym e) ∙ inv
