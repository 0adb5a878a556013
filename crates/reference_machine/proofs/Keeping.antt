-- What each event keeps holds of every machine that is reached: an event changes the machine in a
-- few ways only.
use Rattle.std.proofs.Common.{◌≡◌, ℕ, suc, ◌+◌, ◌*◌, ◌⊎◌, inl, inr, Bool, true, false, cond, List}
use Rattle.std.proofs.Common.{[], ◌∷◌, length, refl, sym, subst, Option, Some, None}
use Rattle.cu_base.specs.declared.time.EfiTime.{EfiTime}
use Rattle.reference_machine.specs.declared.unit.End.{End}
use Rattle.reference_machine.specs.declared.unit.End.TheVariants.{Sealed, Kept, Lost}
use Rattle.reference_machine.specs.Boots.{boot_at, boot_of, boot_tasks}
use Rattle.bench_model.specs.Boards.{BoardValue}
use Rattle.reference_machine.specs.Events.{InputBytes, IsStopped, Outcome, IsIn, Step, outcome}
use Rattle.reference_machine.specs.Events.{other_outcomes, stage_faults, stage_done, stage_refusal}
use Rattle.reference_machine.specs.Events.{failed, with_file, signalled}
use Rattle.reference_machine.specs.Events.{with_segment, with_staged, cold, warm, wraps}
use Rattle.reference_machine.specs.Events.{is_memory_full, plain}
use Rattle.reference_machine.specs.declared.event.Event.{Event}
use Rattle.reference_machine.specs.declared.event.Event.TheVariants.{Time, Drop, Signal, Lay, Poke}
use Rattle.reference_machine.specs.declared.event.Event.TheVariants.{Stage, Boot, Arm, Fail, Reset}
use Rattle.reference_machine.specs.declared.event.Event.TheVariants.{Show}
use Rattle.bench_model.specs.Files.{is_folder_full}
use Rattle.reference_machine.specs.Formats.{Formats}
use Rattle.reference_machine.specs.Stops.{StopCause, IsHeldEnd, Agrees, AgreesAfterFlash}
use Rattle.reference_machine.specs.Stops.{AgreesAfterVolume, IsStoppedAt, IsStoppedAfter}
use Rattle.reference_machine.specs.Laws.{IsReached}
use Rattle.reference_machine.specs.Laws.IsReached.{Fresh, ByEvent, BySteps}
use Rattle.reference_machine.specs.Machine.{Machine, fresh, folder_of}
use Rattle.reference_machine.specs.Report.{ReportValue}
use Rattle.reference_machine.specs.TraceValues.{AnswerValue, EntryValue}
use Rattle.reference_machine.specs.TraceValues.AnswerValue.{Full}

pub record Keeps (f : Formats) (P : Machine → Type 0) : Type 0 where
  pub fails : (m : Machine) → P m → P (failed m)
  pub later : (m : Machine) (moment : EfiTime) → P m → P (record m { now = moment })
  pub puts : (m : Machine) (file bytes : List ℕ)
      → is_folder_full (folder_of m) file (length bytes) ≡ false → P m
      → P (with_file m file bytes)
  pub asks : (m : Machine) → P m → P (signalled m)
  pub lays : (m : Machine) (address : ℕ) (bytes : List ℕ) → P m → P (with_segment m address bytes)
  pub stages : (m : Machine) (address : ℕ) → stage_refusal f m address ≡ None → P m
      → P (with_staged m address)
  pub cold : (m : Machine) → P m → P (cold m)
  pub warm : (m : Machine) → P m → P (warm m)
  pub boots : (m : Machine) (h : End) (j : ℕ) → IsHeldEnd h → P m → P (boot_at f m h j).machine

-- an event of one machine changes it in these ways, each of which leaves a machine of which Q holds
pub record Leads (f : Formats) (m : Machine) (Q : Machine → Type 0) : Type 0 where
  pub stays : Q m
  pub fails : (x : Machine) → Q x → Q (failed x)
  pub later : (moment : EfiTime) → Q (record m { now = moment })
  pub puts : (file bytes : List ℕ) → is_folder_full (folder_of m) file (length bytes) ≡ false
      → Q (with_file m file bytes)
  pub asks : Q (signalled m)
  pub lays : (address : ℕ) (bytes : List ℕ) → Q (with_segment m address bytes)
  pub stages : (address : ℕ) → stage_refusal f m address ≡ None → Q (with_staged m address)
  pub cold : Q (cold m)
  pub warm : Q (warm m)
  pub boots : (h : End) (j : ℕ) → IsHeldEnd h → Q (boot_at f m h j).machine

-- each outcome leaves such a machine
abbrev pub AllLeave : (Machine → Type 0) → List Outcome → Type 0
AllLeave P [] = Unit {0}
AllLeave P (o ∷ os) = P o.1 × AllLeave P os

leave_in : (P : Machine → Type 0) (os : List Outcome) (o : Outcome) → AllLeave P os
    → IsIn o os → P o.1
leave_in P [] o all is = absurd is
leave_in P (p ∷ ps) o all (inl e) = subst (λ (x : Outcome). P x.1) (sym e) all.0
leave_in P (p ∷ ps) o all (inr h) = leave_in P ps o all.1 h

test_leaves : (P : Machine → Type 0) (os : List Outcome) (t : Bool) → AllLeave P os
    → AllLeave P (cond t os [])
test_leaves P os true all = all
test_leaves P os false all = tt

module _ (f : Formats) (bytes_of : InputBytes) (m : Machine) (Q : Machine → Type 0)
    (k : Leads f m Q) where
  drop_leaves : (file bytes : List ℕ) (full : Bool)
      → is_folder_full (folder_of m) file (length bytes) ≡ full
      → Q (cond {A = Outcome} full (plain Full, m)
      (plain (AnswerValue.Serial (m.last_file + 1)), with_file m file bytes)).1
  drop_leaves file bytes true e = k.stays
  drop_leaves file bytes false e = k.puts file bytes e

  lay_leaves : (address : ℕ) (bytes : List ℕ) (w full : Bool)
      → Q (cond {A = Outcome} w (plain AnswerValue.Wraps, m)
      (cond full (plain Full, m) (plain AnswerValue.Done, with_segment m address bytes))).1
  lay_leaves address bytes true full = k.stays
  lay_leaves address bytes false true = k.stays
  lay_leaves address bytes false false = k.lays address bytes

  stage_leaves : (address : ℕ) (r : Option AnswerValue) → stage_refusal f m address ≡ r
      → Q (stage_done m address r).1
  stage_leaves address None e = k.stages address e
  stage_leaves address (Some answer) e = k.stays

  boot_leaves : (h : End) → IsHeldEnd h → Q (boot_of f m h).machine
  boot_leaves h held = k.boots h (2 * length (boot_tasks f m h)) held

  pub outcome_leaves : (event : Event) → Q (outcome f bytes_of m event).1
  outcome_leaves (Time moment) = k.later moment
  outcome_leaves (Drop file input) =
      drop_leaves file (bytes_of input)
      (is_folder_full (folder_of m) file (length (bytes_of input))) refl
  outcome_leaves Signal = k.asks
  outcome_leaves (Lay address input) =
      lay_leaves address (bytes_of input) (wraps address (bytes_of input))
      (is_memory_full m (bytes_of input))
  outcome_leaves (Poke address bytes) =
      lay_leaves address bytes (wraps address bytes) (is_memory_full m bytes)
  outcome_leaves (Stage address) = stage_leaves address (stage_refusal f m address) refl
  outcome_leaves Boot = boot_leaves Sealed tt
  outcome_leaves (Arm after choice) = k.stays
  outcome_leaves (Fail nth) = k.stays
  outcome_leaves (Reset true) = k.cold
  outcome_leaves (Reset false) = k.warm
  outcome_leaves Show = k.stays

  stopped_at : (h : End) (r : ReportValue) (new : Machine) → IsHeldEnd h
      → IsStoppedAt f m h r new → Q new
  stopped_at h r new held e = subst Q (sym e) (k.boots h r.steps held)

  stopped_after : (h : End) (r : ReportValue) (new : Machine) → IsHeldEnd h
      → IsStoppedAfter f m h r new → Q new
  stopped_after h r new held e = subst Q (sym e) (k.boots h (suc r.steps) held)

  either_leaves : (h : End) (r : ReportValue) (new : Machine) → IsHeldEnd h
      → IsStoppedAt f m h r new ⊎ IsStoppedAfter f m h r new → Q new
  either_leaves h r new held (inl e) = stopped_at h r new held e
  either_leaves h r new held (inr e) = stopped_after h r new held e

  flash_leaves : (h : End) (r : ReportValue) (o : Option ℕ) (new : Machine) → IsHeldEnd h
      → AgreesAfterFlash f m h r o new → Q new
  flash_leaves h r None new held a = stopped_at h r new held a
  flash_leaves h r (Some number) new held (batch, is, either) = either_leaves h r new held either

  volume_leaves : (h : End) (r : ReportValue) (new : Machine) → IsHeldEnd h
      → AgreesAfterVolume f m h r new → Q new
  volume_leaves h r new held (asked, folder, inl e) = stopped_at h r new held e
  volume_leaves h r new held (asked, folder, inr (removal, e)) = stopped_after h r new held e

  pub agreed_leaves : (h : End) (r : ReportValue) (cause : StopCause) (new : Machine) → IsHeldEnd h
      → Agrees f m h r cause new → Q new
  agreed_leaves h r StopCause.Flash new held (tells, a) = flash_leaves h r r.pending new held a
  agreed_leaves h r StopCause.Volume new held (tells, a) = volume_leaves h r new held a
  agreed_leaves h r StopCause.Memory new held (tells, a) = stopped_at h r new held a

  stop_leaves : (event : Event) (entry : EntryValue) (new : Machine)
      → IsStopped f m event entry new → Q new
  stop_leaves (Time moment) entry new s = absurd s
  stop_leaves (Drop file input) entry new s = absurd s
  stop_leaves Signal entry new s = absurd s
  stop_leaves (Lay address input) entry new s = absurd s
  stop_leaves (Poke address bytes) entry new s = absurd s
  stop_leaves (Stage address) entry new s = absurd s
  stop_leaves Boot entry new s =
      subst Q (sym s.is_new)
      (k.fails s.machine (agreed_leaves s.heal s.report s.cause s.machine s.is_held s.agrees))
  stop_leaves (Arm after choice) entry new s = absurd s
  stop_leaves (Fail nth) entry new s = absurd s
  stop_leaves (Reset cold) entry new s = absurd s
  stop_leaves Show entry new s = absurd s

  failed_here : Q (failed m)
  failed_here = k.fails m k.stays

  stage_faults_leave : (address : ℕ) (r : Option AnswerValue) → stage_refusal f m address ≡ r
      → AllLeave Q (stage_faults m address r)
  stage_faults_leave address None e = (
    failed_here,
    (failed_here, (failed_here, (k.fails (with_staged m address) (k.stages address e), tt))),
  )
  stage_faults_leave address (Some answer) e = (failed_here, (failed_here, (failed_here, tt)))

  drop_faults_leave : (file bytes : List ℕ) (full : Bool)
      → is_folder_full (folder_of m) file (length bytes) ≡ full
      → AllLeave Q (cond full []
      ((plain AnswerValue.VolumeFault, failed (with_file m file bytes)) ∷ []))
  drop_faults_leave file bytes true e = tt
  drop_faults_leave file bytes false e =
      (k.fails (with_file m file bytes) (k.puts file bytes e), tt)

  others_leave : (event : Event) → AllLeave Q (other_outcomes f bytes_of m event)
  others_leave (Time moment) = tt
  others_leave (Drop file input) = (
    failed_here,
    drop_faults_leave file (bytes_of input)
        (is_folder_full (folder_of m) file (length (bytes_of input))) refl,
  )
  others_leave Signal =
      (failed_here, (failed_here, (failed_here, (k.fails (signalled m) k.asks, tt))))
  others_leave (Lay address input) = tt
  others_leave (Poke address bytes) = tt
  others_leave (Stage address) = stage_faults_leave address (stage_refusal f m address) refl
  others_leave Boot = (failed_here, (boot_leaves Kept tt, (boot_leaves Lost tt, tt)))
  others_leave (Arm after choice) = tt
  others_leave (Fail nth) = tt
  others_leave (Reset true) = tt
  others_leave (Reset false) = test_leaves Q _ m.failed (k.cold, tt)
  others_leave Show = (failed_here, (failed_here, tt))

  pub step_leads : (event : Event) (entry : EntryValue) (new : Machine)
      → Step f bytes_of m event entry new → Q new
  step_leads event entry new (inl s) =
      leave_in Q (outcome f bytes_of m event ∷ other_outcomes f bytes_of m event) (entry, new)
      (outcome_leaves event, others_leave event) s
  step_leads event entry new (inr s) = stop_leaves event entry new s

module _ (f : Formats) (P : Machine → Type 0) (k : Keeps f P) where
  leads : (m : Machine) → P m → Leads f m P
  leads m p = record {
    stays = p;
    fails = k.fails;
    later = λ moment. k.later m moment p;
    puts = λ file bytes e. k.puts m file bytes e p;
    asks = k.asks m p;
    lays = λ address bytes. k.lays m address bytes p;
    stages = λ address e. k.stages m address e p;
    cold = k.cold m p;
    warm = k.warm m p;
    boots = λ h j held. k.boots m h j held p;
  }

  pub step_keeps : (bytes_of : InputBytes) (m : Machine) (event : Event) (entry : EntryValue)
      (new : Machine) → P m
      → Step f bytes_of m event entry new → P new
  step_keeps bytes_of m event entry new p s =
      step_leads f bytes_of m P (leads m p) event entry new s

  -- what each event and each step of a boot keeps holds of every machine that is reached
  pub reached_keeps : (board : BoardValue) (m : Machine) → P (fresh board)
      → IsReached f board m → P m
  reached_keeps board m start Fresh = start
  reached_keeps board m start (ByEvent bytes_of old event entry _ r s) =
      step_keeps bytes_of old event entry m (reached_keeps board old start r) s
  reached_keeps board m start (BySteps old h j r held) =
      k.boots old h j held (reached_keeps board old start r)
