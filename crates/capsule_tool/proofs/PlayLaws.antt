-- What a play's steps do by the bytes, and what a play needs.
use Rattle.std.proofs.Common.{◌≡◌, ℕ, ◌+◌, nat_lt, true, false, List, [], ◌∷◌, ◌++◌, length, map}
use Rattle.std.proofs.Common.{refl, ◌∙◌, ap}
use Rattle.std.specs.Prelude.{Ok}
use Rattle.std.specs.List.{list_all}
use Rattle.std.proofs.lemmas.List.Folds.{list_all-append}
use Rattle.bench_model.specs.Boards.{BoardValue}
use Rattle.cu_io.specs.Named.{Named}
use Rattle.reset_play.specs.Plays.{is_of_files, is_thin_on, thin_trace}
use Rattle.reset_play.specs.ScriptInputs.{inputs_of}
use Rattle.reset_play.specs.ScriptText.{ScriptSaid}
use Rattle.reset_play.specs.Texts.{trace_text}
use Rattle.reference_machine.specs.TraceValues.{entry_value, answer_value}
use Rattle.reference_machine.specs.declared.event.Event.{Event}
use Rattle.reference_machine.specs.declared.trace.Entry.{Entry}
use Rattle.capsule_tool.specs.declared.answer.Answer.{Answer}
use Rattle.capsule_tool.specs.declared.limits.TheConstants.{MAX_NAMED_BYTES}
use Rattle.capsule_tool.specs.declared.status.Status.TheVariants.{Done}
use Rattle.capsule_tool.specs.Answers.{later}
use Rattle.capsule_tool.specs.Findings.{bare}
use Rattle.capsule_tool.specs.Played.{played_as, played}
use Rattle.capsule_tool.specs.Plays.{script_next, input_next, events_work, inputs_work}
use Rattle.capsule_tool.specs.Works.{Work}
use Rattle.capsule_tool.specs.Works.Work.{Finds}

pub script_goes : (board : BoardValue) (name : List ℕ) (said : ScriptSaid) (events : List Event)
    → said ≡ Ok events → list_all is_of_files events ≡ true
    → script_next board name said ≡ inputs_work board events [] 0 (inputs_of events)
script_goes board name said events is files = rw is (rw files refl)

pub input_goes : (board : BoardValue) (loaded loaded' : Named) (sum : ℕ) (name bytes : List ℕ)
    (rest : Named → ℕ → Work)
    → nat_lt MAX_NAMED_BYTES (sum + length bytes) ≡ false → is_thin_on board bytes ≡ true
    → loaded' ≡ loaded ++ (name, bytes) ∷ []
    → input_next board loaded sum name rest bytes ≡ rest loaded' (sum + length bytes)
input_goes board loaded loaded' sum name bytes rest small thin is = rw small (rw thin (rw is refl))

pub input_late : (board : BoardValue) (loaded : Named) (sum : ℕ) (name bytes : List ℕ) (rest : Named
    → ℕ → Work) (answer : Answer)
    → nat_lt MAX_NAMED_BYTES (sum + length bytes) ≡ false → is_thin_on board bytes ≡ false
    → answer ≡ later name
    → input_next board loaded sum name rest bytes ≡ Finds (bare answer)
input_late board loaded sum name bytes rest answer small thin is = rw small (rw thin (rw is refl))

pub thin_on : (board : BoardValue) (loaded loaded' : Named) (name bytes : List ℕ)
    → is_thin_on board bytes ≡ true → loaded' ≡ loaded ++ (name, bytes) ∷ []
    → list_all (λ pair. is_thin_on board pair.1) loaded ≡ true
    → list_all (λ pair. is_thin_on board pair.1) loaded' ≡ true
thin_on board loaded loaded' name bytes thin is all =
    rw is (list_all-append (λ pair. is_thin_on board pair.1) loaded ((name, bytes) ∷ [])
    ∙ rw all (rw thin refl))

answers_of : (trace : List Entry) → map (λ e. answer_value e.answer) trace
    ≡ map (λ said. said.answer) (map entry_value trace)
answers_of [] = refl
answers_of (entry ∷ trace) = ap (λ answers. answer_value entry.answer ∷ answers) (answers_of trace)

pub played_is : (board : BoardValue) (events : List Event) (loaded : Named) (trace : List Entry)
    (text : List ℕ)
    → map entry_value trace ≡ thin_trace board loaded events
    → text ≡ trace_text board events (map (λ e. answer_value e.answer) trace)
    → record { answer = record { status = Done; text = text }; trace = map entry_value trace }
    ≡ played board events loaded
played_is board events loaded trace text told is =
    rw is (rw (answers_of trace) (ap (played_as board events) told))
