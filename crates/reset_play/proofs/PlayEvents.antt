-- A play goes on by one event.
use Rattle.std.proofs.Common.{◌≡◌, ℕ, zero, suc, ◌+◌, ◌<◌, ◌≤◌, List, [], ◌∷◌, ◌++◌, take, drop}
use Rattle.std.proofs.Common.{get_or, length, refl, sym, ap, arith, ◌∙◌, drop-cons, add-one}
use Rattle.reference_machine.specs.declared.event.Event.{Event}
use Rattle.cu_io.specs.Named.{Named}
use Rattle.reference_machine.specs.Events.{outcome, trace_of, machine_after}
use Rattle.reference_machine.specs.Machine.{Machine}
use Rattle.reset_play.specs.Plays.{loaded_bytes}
use Rattle.delivery_formats.specs.TrueFormats.{true_formats}
use Rattle.reference_machine.specs.TraceValues.{EntryValue}

taken_suc : {X : Type 0} (all : List X) (k : ℕ) (x : X) (rest : List X) → x ∷ rest ≡ drop k all
    → take (suc k) all ≡ take k all ++ x ∷ []
taken_suc [] zero x rest h = cc
taken_suc [] (suc k) x rest h = cc
taken_suc (y ∷ ys) zero x rest h = let e : x ≡ y = cc in ap (λ z. z ∷ []) (sym e)
taken_suc (y ∷ ys) (suc k) x rest h = ap (λ l. y ∷ l) (taken_suc ys k x rest h)

dropped_suc : {X : Type 0} (all : List X) (k : ℕ) (x : X) (rest : List X) → x ∷ rest ≡ drop k all
    → rest ≡ drop (suc k) all
dropped_suc [] zero x rest h = cc
dropped_suc [] (suc k) x rest h = cc
dropped_suc (y ∷ ys) zero x rest h = let e : rest ≡ ys = cc in e
dropped_suc (y ∷ ys) (suc k) x rest h = dropped_suc ys k x rest h

-- one item more of a list of which the rest is known
pub taken_more : {X : Type 0} (all : List X) (k : ℕ) (x : X) (rest : List X) → x ∷ rest ≡ drop k all
    → take (k + 1) all ≡ take k all ++ x ∷ []
taken_more all k x rest h = rw (add-one k) (taken_suc all k x rest h)

pub dropped_more : {X : Type 0} (all : List X) (k : ℕ) (x : X) (rest : List X)
    → x ∷ rest ≡ drop k all → rest ≡ drop (k + 1) all
dropped_more all k x rest h = rw (add-one k) (dropped_suc all k x rest h)

pub none_behind : {X : Type 0} (xs : List X) (k : ℕ) → length xs ≤ k → drop k xs ≡ []
none_behind [] zero h = refl
none_behind [] (suc k) h = refl
none_behind (x ∷ xs) zero h = absurd (omega arith)
none_behind (x ∷ xs) (suc k) h = let le : length xs ≤ k = omega arith in none_behind xs k le

pub length_more : {X : Type 0} (xs : List X) (x : X) → length (xs ++ x ∷ []) ≡ length xs + 1
length_more [] x = refl
length_more (y ∷ ys) x = let h : length (ys ++ x ∷ []) ≡ length ys + 1 =
    length_more ys x in omega arith

pub taken_whole : {X : Type 0} (all : List X) (k : ℕ) → [] ≡ drop k all → take k all ≡ all
taken_whole [] zero h = refl
taken_whole [] (suc k) h = refl
taken_whole (y ∷ ys) zero h = cc
taken_whole (y ∷ ys) (suc k) h = ap (λ l. y ∷ l) (taken_whole ys k h)

next_events : (events : List Event) (k : ℕ) (e : Event) → k < length events
    → drop k events ≡ get_or events k e ∷ drop (k + 1) events
next_events events k e h = rw (drop-cons events k e h, add-one k) refl

pub told_next : (named : Named) (events : List Event) (k : ℕ) (e : Event) (m new : Machine)
    (said : EntryValue) → e ≡ get_or events k e → k < length events
    → (said, new) ≡ outcome true_formats (loaded_bytes named) m e
    → said ∷ trace_of true_formats (loaded_bytes named) new (drop (k + 1) events)
    ≡ trace_of true_formats (loaded_bytes named) m (drop k events)
told_next named events k e m new said is h told =
    ap (λ (o : EntryValue × Machine). o.0
    ∷ trace_of true_formats (loaded_bytes named) o.1 (drop (k + 1) events)) told
    ∙ ap (λ (x : Event). trace_of true_formats (loaded_bytes named) m (x ∷ drop (k + 1) events)) is
    ∙ sym (ap (trace_of true_formats (loaded_bytes named) m) (next_events events k e h))

pub machine_next : (named : Named) (events : List Event) (k : ℕ) (e : Event) (m new : Machine)
    (said : EntryValue) → e ≡ get_or events k e → k < length events
    → (said, new) ≡ outcome true_formats (loaded_bytes named) m e
    → machine_after true_formats (loaded_bytes named) new (drop (k + 1) events)
    ≡ machine_after true_formats (loaded_bytes named) m (drop k events)
machine_next named events k e m new said is h told =
    ap (λ (o : EntryValue × Machine). machine_after true_formats (loaded_bytes named) o.1
    (drop (k + 1) events)) told
    ∙ ap (λ (x : Event). machine_after true_formats (loaded_bytes named) m (x ∷ drop
    (k + 1) events)) is
    ∙ sym (ap (machine_after true_formats (loaded_bytes named) m) (next_events events k e h))
