-- How the reading of inputs comes from name to name.
use Rattle.std.proofs.Common.{◌≡◌, ℕ, suc, ◌+◌, ◌<◌, ◌≤◌, List, [], ◌∷◌, ◌++◌, length, map, take}
use Rattle.std.proofs.Common.{drop, get_or, Option, sym, ◌∙◌, ap, add-one}
use Rattle.std.proofs.Math.Seq.{drop-cons}
use Rattle.std.proofs.lemmas.List.{take_more, drop_all}
use Rattle.bench_model.specs.Boards.{BoardValue}
use Rattle.cu_io.specs.Named.{Named}
use Rattle.reset_play.specs.ScriptInputs.{inputs_of}
use Rattle.reference_machine.specs.declared.event.Event.{Event}
use Rattle.capsule_tool.specs.Loads.{Loading, loads_work}
use Rattle.capsule_tool.specs.Plays.{inputs_work, events_work}
use Rattle.cu_io.specs.Seen.{Seen}
use Rattle.capsule_tool.specs.Steps.{StopsAt}
use Rattle.capsule_tool.specs.Works.{Work, ComesTo}
use Rattle.capsule_tool.specs.declared.stop.Stop.{Stop}
use Rattle.capsule_tool.proofs.WorkLaws.{through, then_stops, stays}

-- the work on these names has come to those from the i-th on, where the others are loaded
pub record HasCome (load : Loading) (named : Option Named) (names : List (List ℕ))
    (before : Seen) (loaded : Named) (sum i : ℕ) (after : Seen) : Type 0 where
  pub comes : (next : Named → Work)
      → ComesTo named (loads_work load next [] 0 names) before
      (loads_work load next loaded sum (drop i names)) after

pub come_start : (load : Loading) (named : Option Named) (names : List (List ℕ)) (b : Seen)
    (loaded : Named) → loaded ≡ [] → HasCome load named names b loaded 0 0 b
come_start load named names b loaded is =
    record { comes = λ next. rw is (stays named (loads_work load next [] 0 names) b) }

-- the work on the names from a place on, where one stands there
opens : (load : Loading) (next : Named → Work) (loaded : Named) (sum i : ℕ)
    (names : List (List ℕ)) (name : List ℕ) → drop i names ≡ name ∷ drop (i + 1) names
    → loads_work load next loaded sum (drop i names)
    ≡ load loaded sum name (λ loaded' sum'. loads_work load next loaded' sum' (drop (i + 1) names))
opens load next loaded sum i names name is = ap (loads_work load next loaded sum) is

pub come_on : (load : Loading) (named' named : Option Named) (names : List (List ℕ)) (b : Seen)
    (loaded : Named) (sum i : ℕ) (m : Seen)
    (name : List ℕ) (loaded' : Named) (sum' : ℕ) (a : Seen)
    → HasCome load named names b loaded sum i m → drop i names ≡ name ∷ drop (i + 1) names
    → named' ≡ named → ((rest : Named → ℕ → Work)
    → ComesTo named' (load loaded sum name rest) m (rest loaded' sum') a)
    → HasCome load named names b loaded' sum' (i + 1) a
come_on load named' named names b loaded sum i m name loaded' sum' a come is same then = record {
  comes = λ next.
      through named (loads_work load next [] 0 names) b _ m _ a
      (rw (opens load next loaded sum i names name is) at (come.comes next))
      (rw same at (then (λ loaded sum. loads_work load next loaded sum (drop (i + 1) names))));
}

pub come_stopped : (load : Loading) (names : List (List ℕ)) (b : Seen) (loaded : Named)
    (sum i : ℕ) (m : Seen) (name : List ℕ) (a : Seen) (stop : Stop)
    → HasCome load b.named names b loaded sum i m → drop i names ≡ name ∷ drop (i + 1) names
    → m.named ≡ b.named
    → ((rest : Named → ℕ → Work) → StopsAt (load loaded sum name rest) m a stop)
    → (next : Named → Work) → StopsAt (loads_work load next [] 0 names) b a stop
come_stopped load names b loaded sum i m name a stop come is same stops next =
    then_stops (loads_work load next [] 0 names) b _ m a stop
    (rw (opens load next loaded sum i names name is) at (come.comes next)) same
    (stops (λ loaded sum. loads_work load next loaded sum (drop (i + 1) names)))

pub come_done : (load : Loading) (named : Option Named) (names : List (List ℕ)) (b : Seen)
    (loaded : Named) (sum i : ℕ) (a : Seen)
    → HasCome load named names b loaded sum i a → drop i names ≡ []
    → (next : Named → Work)
    → ComesTo named (loads_work load next [] 0 names) b (next loaded) a
come_done load named names b loaded sum i a come is next = rw is at (come.comes next)

-- places
pub item_drop : (names : List (List ℕ)) (i : ℕ) (name : List ℕ) → i < length names
    → name ≡ get_or names i name → drop i names ≡ name ∷ drop (i + 1) names
item_drop names i name low is =
    drop-cons names i name low ∙ (ap (λ (x : List ℕ). x ∷ drop (suc i) names) (sym is)
    ∙ ap (λ k. name ∷ drop k names) (sym (add-one i)))

pub item_take : (names : List (List ℕ)) (i : ℕ) (name : List ℕ) (loaded loaded' : Named)
    → i < length names → name ≡ get_or names i name
    → map (λ pair. pair.0) loaded' ≡ map (λ pair. pair.0) loaded ++ name ∷ []
    → map (λ pair. pair.0) loaded ≡ take i names
    → map (λ pair. pair.0) loaded' ≡ take (i + 1) names
item_take names i name loaded loaded' low is more before =
    more ∙ (ap (λ (l : List (List ℕ)). l ++ name ∷ []) before
    ∙ (ap (λ (x : List ℕ). take i names ++ x ∷ []) is ∙ sym (take_more names i name low)))

pub drop_past : (names : List (List ℕ)) (i : ℕ) → length names ≤ i → drop i names ≡ []
drop_past names i past = drop_all i names past

-- the names of a script
pub names_come : (named : Option Named) (board : BoardValue) (events : List Event)
    (names : List (List ℕ)) (b : Seen) (w : Work) (a : Seen) → names ≡ inputs_of events
    → ComesTo named (inputs_work board events [] 0 names) b w a
    → ComesTo named (events_work board events) b w a
names_come named board events names b w a is comes = rw is at comes

pub names_stop : (board : BoardValue) (events : List Event) (names : List (List ℕ)) (b a : Seen)
    (stop : Stop) → names ≡ inputs_of events
    → StopsAt (inputs_work board events [] 0 names) b a stop
    → StopsAt (events_work board events) b a stop
names_stop board events names b a stop is stops = rw is at stops
