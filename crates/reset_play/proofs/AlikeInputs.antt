-- A play over inputs that have the same bytes tells the same.
use Rattle.std.proofs.Common.{◌≡◌, ◌∙◌, ◌||◌, Bool, true, false, ℕ, List, [], ◌∷◌, refl, ap}
use Rattle.std.specs.List.{filter_map, list_all}
use Rattle.std.specs.Str.{bytes_eq}
use Rattle.std.proofs.lemmas.Slice.Eq.{bytes_eq-Decides}
use Rattle.reference_machine.specs.declared.event.Event.{Event}
use Rattle.reference_machine.specs.declared.event.Event.TheVariants.{Time, Drop, Signal, Lay, Poke}
use Rattle.reference_machine.specs.declared.event.Event.TheVariants.{Stage, Boot, Arm, Fail, Reset}
use Rattle.reference_machine.specs.declared.event.Event.TheVariants.{Show}
use Rattle.reference_machine.specs.Events.{dropped, outcome, trace_of}
use Rattle.reference_machine.specs.Machine.{Machine}
use Rattle.reference_machine.specs.TraceValues.{EntryValue}
use Rattle.reset_play.specs.Plays.{is_of_files}
use Rattle.reset_play.specs.ScriptInputs.{has_name, mention}
use Rattle.delivery_formats.specs.TrueFormats.{true_formats}

cc_false : false ≡ true → ⊥
cc_false is = cc

or_true_right : (a b : Bool) → b ≡ true → (a || b) ≡ true
or_true_right true b is = refl
or_true_right false b is = is

eq_itself : (a : List ℕ) → bytes_eq a a ≡ true
eq_itself a = (bytes_eq-Decides a a).1 refl

-- events of files tell the same where the inputs that they name have the same bytes
pub traces_alike : (f g : List ℕ → List ℕ) (m : Machine) (events : List Event)
    → list_all is_of_files events ≡ true
    → ((name : List ℕ) → has_name name (filter_map mention events) ≡ true → f name ≡ g name)
    → trace_of true_formats f m events ≡ trace_of true_formats g m events
traces_alike f g m [] files same = refl
traces_alike f g m (Time moment ∷ events) files same = absurd (cc_false files)
traces_alike f g m (Drop file input ∷ events) files same =
    let is : f input ≡ g input = same input (rw (eq_itself input) refl) in
    ap (λ (bytes : List ℕ). (dropped m file bytes).0
    ∷ trace_of true_formats f (dropped m file bytes).1 events) is
    ∙ ap (λ (told : List EntryValue). (dropped m file (g input)).0 ∷ told)
    (traces_alike f g (dropped m file (g input)).1 events files
    (λ name has. same name
    (or_true_right (bytes_eq input name) (has_name name (filter_map mention events)) has)))
traces_alike f g m (Signal ∷ events) files same =
    ap (λ (told : List EntryValue). (outcome true_formats g m Signal).0 ∷ told)
    (traces_alike f g (outcome true_formats g m Signal).1 events files same)
traces_alike f g m (Lay at input ∷ events) files same = absurd (cc_false files)
traces_alike f g m (Poke at bytes ∷ events) files same = absurd (cc_false files)
traces_alike f g m (Stage at ∷ events) files same = absurd (cc_false files)
traces_alike f g m (Boot ∷ events) files same =
    ap (λ (told : List EntryValue). (outcome true_formats g m Boot).0 ∷ told)
    (traces_alike f g (outcome true_formats g m Boot).1 events files same)
traces_alike f g m (Arm after choice ∷ events) files same = absurd (cc_false files)
traces_alike f g m (Fail nth ∷ events) files same = absurd (cc_false files)
traces_alike f g m (Reset cold ∷ events) files same = absurd (cc_false files)
traces_alike f g m (Show ∷ events) files same = absurd (cc_false files)
