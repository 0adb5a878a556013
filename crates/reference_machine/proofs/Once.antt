-- Without faults the events leave one machine and tell one trace.
use Rattle.std.proofs.Common.{◌≡◌, ℕ, ◌+◌, ◌*◌, ◌⊎◌, inl, inr, Bool, true, false, cond, List, []}
use Rattle.std.proofs.Common.{◌∷◌, length, refl, sym, ap, ◌∙◌, subst, Option, Some, None}
use Rattle.reference_machine.specs.declared.unit.End.{End}
use Rattle.reference_machine.specs.declared.unit.End.TheVariants.{Sealed, Kept, Lost}
use Rattle.reference_machine.specs.Boots.{BootTask, BootState, boot_of, boot_start, boot_tasks}
use Rattle.reference_machine.specs.Boots.{tasks_with, after_steps}
use Rattle.reference_machine.specs.declared.trace.BootEnd.{BootEnd}
use Rattle.reference_machine.specs.Stops.{StopCause}
use Rattle.reference_machine.specs.Events.{IsStopped, IsToldAs, InputBytes, Outcome, IsIn, Step}
use Rattle.reference_machine.specs.Events.{Run}
use Rattle.reference_machine.specs.Events.{outcome, other_outcomes, boot_done, stage_faults}
use Rattle.reference_machine.specs.Events.{stage_done, stage_refusal, with_file}
use Rattle.reference_machine.specs.Events.{with_segment, wraps, is_memory_full, cold, plain}
use Rattle.reference_machine.specs.Events.{trace_of, machine_after}
use Rattle.reference_machine.specs.declared.event.Event.{Event}
use Rattle.reference_machine.specs.declared.event.Event.TheVariants.{Time, Drop, Signal, Lay, Poke}
use Rattle.reference_machine.specs.declared.event.Event.TheVariants.{Stage, Boot, Arm, Fail, Reset}
use Rattle.reference_machine.specs.declared.event.Event.TheVariants.{Show}
use Rattle.bench_model.specs.Files.{is_folder_full}
use Rattle.reference_machine.specs.Formats.{Formats}
use Rattle.reference_machine.specs.Laws.{IsNoFaultEnd, IsNoFault, TellNoFault}
use Rattle.reference_machine.specs.Machine.{Machine, folder_of}
use Rattle.reference_machine.specs.TraceValues.{AnswerValue, EntryValue}
use Rattle.reference_machine.proofs.Ending.{boot_rests, steps_failed}
use Rattle.reference_machine.proofs.Lists.{Rests, find_none}

-- nothing is open, and no fault was answered since the last reset
pub record Quiet (m : Machine) : Type 0 where
  pub rests : Rests m.board m.list
  pub well : m.failed ≡ false

-- each outcome is this one, or tells a fault
abbrev pub AllOnce : Outcome → List Outcome → Type 0
AllOnce o [] = Unit {0}
AllOnce o (p ∷ ps) = ((p ≡ o) ⊎ (IsNoFault p.0.answer → ⊥)) × AllOnce o ps

once_in : (o : Outcome) (ps : List Outcome) (x : Outcome) → AllOnce o ps → IsIn x ps
    → IsNoFault x.0.answer → x ≡ o
once_in o [] x all is h = absurd is
once_in o (p ∷ ps) x (inl e, all) (inl i) h = i ∙ e
once_in o (p ∷ ps) x (inr faulty, all) (inl i) h =
    absurd (faulty (subst (λ (y : Outcome). IsNoFault y.0.answer) i h))
once_in o (p ∷ ps) x all (inr i) h = once_in o ps x all.1 i h

once_test : (o : Outcome) (ps : List Outcome) (t : Bool) → AllOnce o ps → AllOnce o (cond t ps [])
once_test o ps true all = all
once_test o ps false all = tt

once_test_not : (o : Outcome) (ps : List Outcome) (t : Bool) → AllOnce o ps
    → AllOnce o (cond t [] ps)
once_test_not o ps true all = tt
once_test_not o ps false all = all

-- a boot with nothing open does not ask what a device holds
boot_by : Formats → Machine → List BootTask → BootState
boot_by f m w =
    after_steps f (2 * length w)
    (record {
      machine = m;
      left = w;
      report = record {
        opened = Some m.batches;
        steps = 0;
        lines = [];
        unstaged = [];
        removed = [];
        pending = None;
      };
    })

same_boot : (f : Formats) (m : Machine) (h : End) → Rests m.board m.list
    → boot_of f m h ≡ boot_of f m Sealed
unfolding boot_by
same_boot f m h r =
    let a : boot_tasks f m h ≡ tasks_with f m h None =
    ap (tasks_with f m h) (find_none m.list r.none) in
    let b : boot_tasks f m Sealed ≡ tasks_with f m Sealed None =
    ap (tasks_with f m Sealed) (find_none m.list r.none) in
    ap (boot_by f m) (a ∙ sym b)

boot_once : (f : Formats) (bytes_of : InputBytes) (m : Machine) (h : End) → Rests m.board m.list
    → boot_done (boot_of f m h) ≡ outcome f bytes_of m Boot
boot_once f bytes_of m h r = ap boot_done (same_boot f m h r)

-- a boot that was stopped tells a fault
stop_tells : (cause : StopCause) (end : BootEnd) → IsToldAs cause end → IsNoFaultEnd end → ⊥
stop_tells StopCause.Flash end e h = subst IsNoFaultEnd e h
stop_tells StopCause.Volume end e h = subst IsNoFaultEnd e h
stop_tells StopCause.Memory end e h = absurd e

stopped_tells : (f : Formats) (m : Machine) (event : Event) (entry : EntryValue) (new : Machine)
    → IsStopped f m event entry new → IsNoFault entry.answer → ⊥
stopped_tells f m (Time moment) entry new s h = absurd s
stopped_tells f m (Drop file input) entry new s h = absurd s
stopped_tells f m Signal entry new s h = absurd s
stopped_tells f m (Lay address input) entry new s h = absurd s
stopped_tells f m (Poke address bytes) entry new s h = absurd s
stopped_tells f m (Stage address) entry new s h = absurd s
stopped_tells f m Boot entry new s h =
    stop_tells s.cause s.end s.told (subst (λ (e : EntryValue). IsNoFault e.answer) s.is_entry h)
stopped_tells f m (Arm after choice) entry new s h = absurd s
stopped_tells f m (Fail nth) entry new s h = absurd s
stopped_tells f m (Reset cold) entry new s h = absurd s
stopped_tells f m Show entry new s h = absurd s

stage_once : (m : Machine) (address : ℕ) (o : Outcome) (r : Option AnswerValue)
    → AllOnce o (stage_faults m address r)
stage_once m address o None = (inr (λ x. x), (inr (λ x. x), (inr (λ x. x), (inr (λ x. x), tt))))
stage_once m address o (Some answer) = (inr (λ x. x), (inr (λ x. x), (inr (λ x. x), tt)))

others_once : (f : Formats) (bytes_of : InputBytes) (m : Machine) (event : Event) → Quiet m
    → AllOnce (outcome f bytes_of m event) (other_outcomes f bytes_of m event)
others_once f bytes_of m (Time moment) q = tt
others_once f bytes_of m (Drop file input) q = (
  inr (λ x. x),
  once_test_not (outcome f bytes_of m (Drop file input)) _
      (is_folder_full (folder_of m) file (length (bytes_of input)))
      (inr (λ x. x), tt),
)
others_once f bytes_of m Signal q =
    (inr (λ x. x), (inr (λ x. x), (inr (λ x. x), (inr (λ x. x), tt))))
others_once f bytes_of m (Lay address input) q = tt
others_once f bytes_of m (Poke address bytes) q = tt
others_once f bytes_of m (Stage address) q =
    stage_once m address (outcome f bytes_of m (Stage address)) (stage_refusal f m address)
others_once f bytes_of m Boot q = (
  inr (λ x. x),
  (inl (boot_once f bytes_of m Kept q.rests), (inl (boot_once f bytes_of m Lost q.rests), tt)),
)
others_once f bytes_of m (Arm after choice) q = tt
others_once f bytes_of m (Fail nth) q = tt
others_once f bytes_of m (Reset true) q = tt
others_once f bytes_of m (Reset false) q =
    subst (λ t. AllOnce (outcome f bytes_of m (Reset false))
    (cond t ((plain AnswerValue.Done, cold m) ∷ []) [])) (sym q.well) tt
others_once f bytes_of m Show q = (inr (λ x. x), (inr (λ x. x), tt))

-- an event that tells no fault has its one outcome
pub step_once : (f : Formats) (bytes_of : InputBytes) (m : Machine) (event : Event)
    (said : EntryValue) (new : Machine) → Quiet m → Step f bytes_of m event said new
    → IsNoFault said.answer → (said, new) ≡ outcome f bytes_of m event
step_once f bytes_of m event said new q (inl s) h =
    once_in (outcome f bytes_of m event)
    (outcome f bytes_of m event ∷ other_outcomes f bytes_of m event) (said, new)
    (inl refl, others_once f bytes_of m event q) s h
step_once f bytes_of m event said new q (inr s) h = absurd (stopped_tells f m event said new s h)

drop_quiet : (m : Machine) (file bytes : List ℕ) (full : Bool) → Quiet m
    → Quiet (cond {A = Outcome} full (plain AnswerValue.Full, m)
    (plain (AnswerValue.Serial (m.last_file + 1)), with_file m file bytes)).1
drop_quiet m file bytes true q = q
drop_quiet m file bytes false q = record { rests = q.rests; well = q.well }

lay_quiet : (m : Machine) (address : ℕ) (bytes : List ℕ) (w full : Bool) → Quiet m
    → Quiet (cond {A = Outcome} w (plain AnswerValue.Wraps, m)
    (cond full (plain AnswerValue.Full, m)
    (plain AnswerValue.Done, with_segment m address bytes))).1
lay_quiet m address bytes true full q = q
lay_quiet m address bytes false true q = q
lay_quiet m address bytes false false q = record { rests = q.rests; well = q.well }

stage_quiet : (m : Machine) (address : ℕ) (r : Option AnswerValue) → Quiet m
    → Quiet (stage_done m address r).1
stage_quiet m address None q = record { rests = q.rests; well = q.well }
stage_quiet m address (Some answer) q = q

outcome_quiet : (f : Formats) (bytes_of : InputBytes) (m : Machine) (event : Event) → Quiet m
    → Quiet (outcome f bytes_of m event).1
outcome_quiet f bytes_of m (Time moment) q = record { rests = q.rests; well = q.well }
outcome_quiet f bytes_of m (Drop file input) q =
    drop_quiet m file (bytes_of input)
    (is_folder_full (folder_of m) file (length (bytes_of input))) q
outcome_quiet f bytes_of m Signal q = record { rests = q.rests; well = q.well }
outcome_quiet f bytes_of m (Lay address input) q =
    lay_quiet m address (bytes_of input) (wraps address (bytes_of input))
    (is_memory_full m (bytes_of input)) q
outcome_quiet f bytes_of m (Poke address bytes) q =
    lay_quiet m address bytes (wraps address bytes) (is_memory_full m bytes) q
outcome_quiet f bytes_of m (Stage address) q = stage_quiet m address (stage_refusal f m address) q
outcome_quiet f bytes_of m Boot q =
    record {
      rests = boot_rests f m Sealed tt (inl q.rests);
      well = steps_failed f (2 * length (boot_tasks f m Sealed)) (boot_start f m Sealed)
          ∙ q.well;
    }
outcome_quiet f bytes_of m (Arm after choice) q = q
outcome_quiet f bytes_of m (Fail nth) q = q
outcome_quiet f bytes_of m (Reset true) q = record { rests = q.rests; well = refl }
outcome_quiet f bytes_of m (Reset false) q = record { rests = q.rests; well = refl }
outcome_quiet f bytes_of m Show q = q

pub run_once : (f : Formats) (bytes_of : InputBytes) (m : Machine) (events : List Event)
    (told : List EntryValue) (new : Machine) → Quiet m → Run f bytes_of m events told new
    → TellNoFault told
    → (told ≡ trace_of f bytes_of m events) × (new ≡ machine_after f bytes_of m events)
run_once f bytes_of m [] [] new q r h = (refl, r)
run_once f bytes_of m [] (said ∷ rest) new q r h = absurd r
run_once f bytes_of m (event ∷ events) [] new q r h = absurd r
run_once f bytes_of m (event ∷ events) (said ∷ rest) new q r h =
    let e : (said, r.0) ≡ outcome f bytes_of m event =
    step_once f bytes_of m event said r.0 q r.1 h.0 in
    let between : Run f bytes_of (outcome f bytes_of m event).1 events rest new =
    subst (λ (o : Outcome). Run f bytes_of o.1 events rest new) e r.2 in
    let later = run_once f bytes_of (outcome f bytes_of m event).1 events rest new
    (outcome_quiet f bytes_of m event q) between h.1 in (
      ap (λ (o : Outcome). o.0 ∷ rest) e
          ∙ ap (λ xs. (outcome f bytes_of m event).0 ∷ xs) later.0,
      later.1,
    )

-- and there is such a run
pub run_is : (f : Formats) (bytes_of : InputBytes) (m : Machine) (events : List Event)
    → Run f bytes_of m events (trace_of f bytes_of m events) (machine_after f bytes_of m events)
run_is f bytes_of m [] = refl
run_is f bytes_of m (event ∷ events) = (
  (outcome f bytes_of m event).1,
  inl (inl refl),
  run_is f bytes_of (outcome f bytes_of m event).1 events,
)
