-- The events that are one call of the bench.
use Rattle.std.proofs.Common.{◌≡◌, ◌⊎◌, inl, inr, ℕ, ◌+◌, ◌||◌, Bool, true, false, List, [], ◌∷◌}
use Rattle.std.proofs.Common.{length, refl, sym, ap, subst, ◌∙◌, cond, Option, None, Some, nat_le}
use Rattle.std.proofs.Common.{nat_lt}
use Rattle.std.specs.Prelude.{if◌then◌else◌}
use Rattle.bench_model.specs.Bench.{BenchValue, Contents, Cycles, Lays, Puts, PutStops, Rest}
use Rattle.bench_model.specs.Bench.{after_put, is_cold, is_full, laid_refusal, with_memory}
use Rattle.bench_model.specs.Files.{FolderValue, is_folder_full, with_put}
use Rattle.bench_model.specs.Memory.{bytes_laid, with_segment}
use Rattle.bench_model.specs.declared.faults.LayFault.TheVariants as lay
use Rattle.bench_model.specs.declared.faults.VolumeFault.TheVariants as volume
use Rattle.bench_model.specs.declared.outside_limits.TheConstants.{MAX_MEMORY_BYTES, MAX_SEGMENTS}
use Rattle.bench_model.specs.declared.plan.Plan.{Plan}
use Rattle.bench_model.specs.declared.segment.Segment.{Segment}
use Rattle.cap_boot.specs.Stands.{Setting, StandsForEither}
use Rattle.cu_base.specs.declared.time.EfiTime.{EfiTime}
use Rattle.reference_machine.specs.Events.{InputBytes, Outcome, Step, cold, dropped, failed, laid}
use Rattle.reference_machine.specs.Events.{is_memory_full, plain, warm, with_file, wraps}
use Rattle.reference_machine.specs.Events as machine
use Rattle.reference_machine.specs.Machine.{Machine, folder_of}
use Rattle.reference_machine.specs.TraceValues.{EntryValue, entry_value}
use Rattle.reference_machine.specs.declared.trace.Entry.{Entry}
use Rattle.cu_base.specs.declared.faults.NoMemory.{NoMemory}
use Rattle.std.proofs.Common.{Result, Ok, Err}
use Rattle.reference_machine.specs.TraceValues.AnswerValue.{Done, Full, Serial, VolumeFault, Wraps}
use Rattle.reference_machine.specs.declared.event.Event.{Event}
use Rattle.reference_machine.specs.declared.event.Event.TheVariants.{Drop, Lay, Poke, Reset, Time}
use Rattle.bench_play.specs.declared.known.Known.{Known}
use Rattle.bench_play.specs.Happens.{Does, Happens, HasHappened, IsCutOff, IsKnown}
use Rattle.bench_play.proofs.Alike.{KeepsStored, beside, either_at, either_failed, either_with}

-- each of the two leads to its own machine
pub each_after : (x : Setting) (bytes_of : InputBytes) (m n : Machine) (event : Event)
    (entry : EntryValue) (k : Known) (t : Contents) (one other : Machine)
    → Step x.formats bytes_of m event entry one → Step x.formats bytes_of n event entry other
    → one.now ≡ k.moment → other.now ≡ k.moment → (k.failed ≡ true → one.failed ≡ true)
    → (k.failed ≡ true → other.failed ≡ true) → StandsForEither x t one other
    → HasHappened x bytes_of m n event entry k t
each_after x bytes_of m n event entry k t one other first second at after lost still e = record {
  one = one;
  other = other;
  one_from = inl first;
  other_from = inr second;
  one_now = at;
  other_now = after;
  one_failed = lost;
  other_failed = still;
  either = e;
}

-- ---- the moment

pub time_happens : (x : Setting) (bytes_of : InputBytes) (moment : EfiTime) (k : Known)
    (s : Contents)
    → Happens x bytes_of (Time moment) (plain Done) k s (record k { moment = moment }) s
time_happens x bytes_of moment k s = record {
  from = λ m n known also e.
      each_after x bytes_of m n (Time moment) (plain Done) (record k { moment = moment }) s
      (record m { now = moment }) (record n { now = moment }) (inl (inl refl)) (inl (inl refl)) refl
      refl known.failed also.failed (either_at x s m n moment e);
}

-- ---- files

put_keeps : (s : Contents) (file bytes : List ℕ) → KeepsStored s (after_put s file bytes)
put_keeps s file bytes = record {
  told = refl;
  images = λ k. record {
    told = refl;
    long = refl;
    images = λ image is. record { told = is.told; long = is.long; same = is.same };
  };
  begun = λ d. refl;
}

put_either : (x : Setting) (s : Contents) (file bytes : List ℕ) (m n : Machine)
    → StandsForEither x s m n
    → StandsForEither x (after_put s file bytes) (with_file m file bytes) (with_file n file bytes)
put_either x s file bytes m n e =
    either_with x s (after_put s file bytes) m n m.now n.now
    (with_put (folder_of m) file bytes) (with_put (folder_of n) file bytes) m.memory n.memory
    m.failed n.failed (put_keeps s file bytes)
    (ap (λ (v : FolderValue). with_put v file bytes) e.before.folder)
    (ap (λ (v : FolderValue). with_put v file bytes) e.after.folder) e.before.memory
    e.after.memory e

module _ (m : Machine) (file bytes : List ℕ) (s : Contents) (folder : s.rest.folder ≡ folder_of m)
    (room : is_folder_full s.rest.folder file (length bytes) ≡ false) where
  has_room : is_folder_full (folder_of m) file (length bytes) ≡ false
  has_room = subst (λ (v : FolderValue). is_folder_full v file (length bytes) ≡ false) folder room

  put_told : (plain (Serial (s.rest.folder.last_serial + 1)), with_file m file bytes)
      ≡ dropped m file bytes
  put_told =
      ap (λ (v : FolderValue). (plain (Serial (v.last_serial + 1)), with_file m file bytes)) folder
      ∙ sym (ap (λ (full : Bool). if full then (plain Full, m)
      else (plain (Serial (m.last_file + 1)), with_file m file bytes)) has_room)

  -- a put that was done, though it failed, is among the outcomes after a fault
  put_row : machine.IsIn {X = Outcome} (plain VolumeFault, failed (with_file m file bytes))
      (machine.drop_faults m file bytes)
  put_row =
      inr (subst (λ (full : Bool).
      machine.IsIn {X = Outcome} (plain VolumeFault, failed (with_file m file bytes))
      (if full then [] else (plain VolumeFault, failed (with_file m file bytes)) ∷ []))
      (sym has_room) (inl refl))

module _ (x : Setting) (bytes_of : InputBytes) (file input : List ℕ) (k : Known)
    (old new : BenchValue) where
  put_at : (m n : Machine) → IsKnown x k m → IsKnown x k n
      → StandsForEither x old.contents m n
      → is_full file (length (bytes_of input)) old ≡ false
      → HasHappened x bytes_of m n (Drop file input)
      (plain (Serial (old.contents.rest.folder.last_serial + 1))) k
      (after_put old.contents file (bytes_of input))
  put_at m n known also e room =
      let bytes = bytes_of input in
      each_after x bytes_of m n (Drop file input)
      (plain (Serial (old.contents.rest.folder.last_serial + 1))) k
      (after_put old.contents file bytes) (with_file m file bytes) (with_file n file bytes)
      (inl (inl (put_told m file bytes old.contents e.before.folder room)))
      (inl (inl (put_told n file bytes old.contents e.after.folder room))) known.now also.now
      known.failed also.failed (put_either x old.contents file bytes m n e)

  pub put_happens : (bytes : List ℕ) (serial : ℕ) → bytes_of input ≡ bytes
      → Puts file bytes serial old new → is_full file (length bytes) old ≡ false
      → Happens x bytes_of (Drop file input) (plain (Serial serial)) k old.contents k new.contents
  put_happens bytes serial is puts room = record {
    from = λ m n known also e.
        subst (λ (t : Contents). HasHappened x bytes_of m n (Drop file input)
        (plain (Serial serial)) k t) (sym puts.contents)
        (subst (λ (bs : List ℕ). HasHappened x bytes_of m n (Drop file input)
        (plain (Serial serial)) k (after_put old.contents file bs)) is
        (subst (λ (number : ℕ). HasHappened x bytes_of m n (Drop file input)
        (plain (Serial number)) k (after_put old.contents file (bytes_of input)))
        (sym puts.drawn) (put_at m n known also e
        (subst (λ (bs : List ℕ). is_full file (length bs) old ≡ false) (sym is) room))));
  }

  fails_at : (m n : Machine) → IsKnown x k m → IsKnown x k n → StandsForEither x old.contents m n
      → (new.contents ≡ old.contents)
      ⊎ ((is_full file (length (bytes_of input)) old ≡ false)
      × (new.contents ≡ after_put old.contents file (bytes_of input)))
      → HasHappened x bytes_of m n (Drop file input) (plain VolumeFault)
      (record k { failed = true }) new.contents
  fails_at m n known also e (inl same) =
      subst (λ (t : Contents). HasHappened x bytes_of m n (Drop file input) (plain VolumeFault)
      (record k { failed = true }) t) (sym same)
      (each_after x bytes_of m n (Drop file input) (plain VolumeFault)
      (record k { failed = true }) old.contents (failed m) (failed n) (inl (inr (inl refl)))
      (inl (inr (inl refl))) known.now also.now (λ is. refl) (λ is. refl)
      (either_failed x old.contents m n e))
  fails_at m n known also e (inr done) =
      let bytes = bytes_of input in
      subst (λ (t : Contents). HasHappened x bytes_of m n (Drop file input) (plain VolumeFault)
      (record k { failed = true }) t) (sym done.1)
      (each_after x bytes_of m n (Drop file input) (plain VolumeFault)
      (record k { failed = true }) (after_put old.contents file bytes)
      (failed (with_file m file bytes)) (failed (with_file n file bytes))
      (inl (inr (put_row m file bytes old.contents e.before.folder done.0)))
      (inl (inr (put_row n file bytes old.contents e.after.folder done.0))) known.now also.now
      (λ is. refl) (λ is. refl)
      (either_failed x (after_put old.contents file bytes) (with_file m file bytes)
      (with_file n file bytes) (put_either x old.contents file bytes m n e)))

  pub put_fails : (bytes : List ℕ) → bytes_of input ≡ bytes
      → PutStops file bytes old new volume.Failed
      → Happens x bytes_of (Drop file input) (plain VolumeFault) k old.contents
      (record k { failed = true }) new.contents
  put_fails bytes is stops = record {
    from = λ m n known also e. fails_at m n known also e
        (subst (λ (bs : List ℕ). PutStops file bs old new volume.Failed) (sym is) stops);
  }

-- ---- memory

lay_passes : (w f : Bool) → None ≡ (if w then Some lay.Wraps else if f then Some lay.Full else None)
    → (w ≡ false) × (f ≡ false)
lay_passes true f is = absurd (let e : None ≡ Some lay.Wraps = is in cc)
lay_passes false true is = absurd (let e : None ≡ Some lay.Full = is in cc)
lay_passes false false is = (refl, refl)

laid_told : (m : Machine) (at : ℕ) (bytes : List ℕ)
    → (wraps at bytes ≡ false) × (is_memory_full m bytes ≡ false)
    → (plain Done, machine.with_segment m at bytes) ≡ laid m at bytes
laid_told m at bytes passes =
    sym (ap (λ (w : Bool). if w then (plain Wraps, m) else if is_memory_full m bytes
    then (plain Full, m) else (plain Done, machine.with_segment m at bytes)) passes.0
    ∙ ap (λ (f : Bool). if f then (plain Full, m)
    else (plain Done, machine.with_segment m at bytes)) passes.1)

module _ (x : Setting) (bytes_of : InputBytes) (at : ℕ) (bytes : List ℕ) (k : Known)
    (old new : BenchValue) where
  lay_passed : (m : Machine) → old.contents.rest.memory ≡ m.memory
      → None ≡ laid_refusal at (length bytes) old
      → (wraps at bytes ≡ false) × (is_memory_full m bytes ≡ false)
  lay_passed m memory none =
      let p = lay_passes (wraps at bytes)
      (nat_le MAX_SEGMENTS (length old.contents.rest.memory)
      || nat_lt MAX_MEMORY_BYTES (bytes_laid old.contents.rest.memory + length bytes)) none in (
        p.0,
        subst (λ (l : List Segment). (nat_le MAX_SEGMENTS (length l)
            || nat_lt MAX_MEMORY_BYTES (bytes_laid l + length bytes)) ≡ false) memory p.1,
      )

  pub lay_happens : Lays at bytes old new → None ≡ laid_refusal at (length bytes) old
      → Happens x bytes_of (Poke at bytes) (plain Done) k old.contents k new.contents
  lay_happens lays none = record {
    from = λ m n known also e.
        let t = with_memory old.contents (with_segment old.contents.rest.memory at bytes) in
        subst (λ (u : Contents). HasHappened x bytes_of m n (Poke at bytes) (plain Done) k u)
        (sym (ap (λ (b : BenchValue). b.contents) lays))
        (each_after x bytes_of m n (Poke at bytes) (plain Done) k t
        (machine.with_segment m at bytes) (machine.with_segment n at bytes)
        (inl (inl (laid_told m at bytes (lay_passed m e.before.memory none))))
        (inl (inl (laid_told n at bytes (lay_passed n e.after.memory none)))) known.now also.now
        known.failed also.failed
        (either_with x old.contents t m n m.now n.now (folder_of m) (folder_of n)
        (with_segment m.memory at bytes) (with_segment n.memory at bytes) m.failed n.failed
        (record {
          told = refl;
          images = λ r. record {
            told = refl;
            long = refl;
            images = λ image is. record { told = is.told; long = is.long; same = is.same };
          };
          begun = λ d. refl;
        }) e.before.folder e.after.folder
        (ap (λ (l : List Segment). with_segment l at bytes) e.before.memory)
        (ap (λ (l : List Segment). with_segment l at bytes) e.after.memory) e));
  }

-- an input that is laid is these bytes laid
pub lay_input : (x : Setting) (bytes_of : InputBytes) (at : ℕ) (input bytes : List ℕ)
    (entry : EntryValue) (k : Known) (s t : Contents) → bytes_of input ≡ bytes
    → Happens x bytes_of (Poke at bytes) entry k s k t
    → Happens x bytes_of (Lay at input) entry k s k t
lay_input x bytes_of at input bytes entry k s t is h = record {
  from = λ m n known also e.
      let a = (subst (λ (bs : List ℕ). Happens x bytes_of (Poke at bs) entry k s k t) (sym is)
      h).from m n known also e in
      record {
        one = a.one;
        other = a.other;
        one_from = a.one_from;
        other_from = a.other_from;
        one_now = a.one_now;
        other_now = a.other_now;
        one_failed = a.one_failed;
        other_failed = a.other_failed;
        either = a.either;
      };
}

pub lay_input_cut : (x : Setting) (bytes_of : InputBytes) (at : ℕ) (input bytes : List ℕ)
    (k : Known) (s t : Contents) → bytes_of input ≡ bytes
    → IsCutOff x bytes_of (Poke at bytes) k s t → IsCutOff x bytes_of (Lay at input) k s t
lay_input_cut x bytes_of at input bytes k s t is h = record {
  from = λ m n known also e.
      let a = (subst (λ (bs : List ℕ). IsCutOff x bytes_of (Poke at bs) k s t) (sym is) h).from m n
      known also e in
      record {
        one = a.one;
        other = a.other;
        one_from = a.one_from;
        other_from = a.other_from;
        either = a.either;
      };
}

-- ---- resets

is_cold_on : (plan : Option Plan) → is_cold true plan ≡ true
is_cold_on None = refl
is_cold_on (Some p) = refl

module _ (x : Setting) (bytes_of : InputBytes) (k : Known) (old new : BenchValue) where
  reset_keeps : (cold : Bool) → Cycles cold old new → KeepsStored old.contents new.contents
  reset_keeps cold c = record {
    told = c.told;
    images = c.images;
    begun = λ d. ap (λ (r : Rest). r.begun d) c.rest;
  }

  reset_either : (cold lost : Bool) → Cycles cold old new → is_cold cold old.plan ≡ lost
      → (m n : Machine) → StandsForEither x old.contents m n
      → StandsForEither x new.contents
      (beside m m.now (folder_of m) (cond lost [] m.memory) false)
      (beside n n.now (folder_of n) (cond lost [] n.memory) false)
  reset_either is_cold_reset lost c is m n e =
      let folder = ap (λ (r : Rest). r.folder) c.rest in
      let memory = ap (λ (r : Rest). r.memory) c.rest
      ∙ ap (λ (b : Bool). cond b [] old.contents.rest.memory) is in
      either_with x old.contents new.contents m n m.now n.now (folder_of m) (folder_of n)
      (cond lost [] m.memory) (cond lost [] n.memory) false false (reset_keeps is_cold_reset c)
      (folder ∙ e.before.folder) (folder ∙ e.after.folder)
      (memory ∙ ap (λ (l : List Segment). cond lost [] l) e.before.memory)
      (memory ∙ ap (λ (l : List Segment). cond lost [] l) e.after.memory) e

  -- a warm reset after a fault may lose the memory
  lost_row : (m : Machine) → m.failed ≡ true
      → machine.IsIn {X = Outcome} (plain Done, cold m)
      (if m.failed then (plain Done, cold m) ∷ [] else [])
  lost_row m is = subst (λ (b : Bool). machine.IsIn {X = Outcome} (plain Done, cold m)
      (if b then (plain Done, cold m) ∷ [] else [])) (sym is) (inl refl)

  never : false ≡ true → ⊥
  never e = cc

  by_loss : (lost : Bool) → Cycles false old new → is_cold false old.plan ≡ lost
      → k.failed ≡ true → (m n : Machine) → IsKnown x k m → IsKnown x k n
      → StandsForEither x old.contents m n
      → HasHappened x bytes_of m n (Reset false) (plain Done) (record k { failed = false })
      new.contents
  by_loss true c is fault m n known also e =
      each_after x bytes_of m n (Reset false) (plain Done) (record k { failed = false })
      new.contents (cold m) (cold n) (inl (inr (lost_row m (known.failed fault))))
      (inl (inr (lost_row n (also.failed fault)))) known.now also.now
      (λ b. absurd (never b)) (λ b. absurd (never b)) (reset_either false true c is m n e)
  by_loss false c is fault m n known also e =
      each_after x bytes_of m n (Reset false) (plain Done) (record k { failed = false })
      new.contents (warm m) (warm n) (inl (inl refl)) (inl (inl refl)) known.now also.now
      (λ b. absurd (never b)) (λ b. absurd (never b)) (reset_either false false c is m n e)

  pub reset_happens : (is_cold_reset : Bool) → Cycles is_cold_reset old new
      → (is_cold_reset ≡ false → k.failed ≡ true)
      → Happens x bytes_of (Reset is_cold_reset) (plain Done) k old.contents
      (record k { failed = false }) new.contents
  reset_happens true c fault = record {
    from = λ m n known also e.
        each_after x bytes_of m n (Reset true) (plain Done) (record k { failed = false })
        new.contents (cold m) (cold n) (inl (inl refl)) (inl (inl refl)) known.now also.now
        (λ b. absurd (never b)) (λ b. absurd (never b))
        (reset_either true true c (is_cold_on old.plan) m n e);
  }
  reset_happens false c fault = record {
    from = by_loss (is_cold false old.plan) c refl (fault refl);
  }

-- what an entry is
pub as_told : {x : Setting} {bytes_of : InputBytes} {event : Event} {a b : EntryValue} {k l : Known}
    {s t : Contents} → a ≡ b → Happens x bytes_of event b k s l t
    → Happens x bytes_of event a k s l t
as_told {x = x} {bytes_of = bytes_of} {event = event} {k = k} {l = l} {s = s} {t = t} is h =
    subst (λ (u : EntryValue). Happens x bytes_of event u k s l t) (sym is) h

-- the same by the answer
pub lay_does : (x : Setting) (bytes_of : InputBytes) (at : ℕ) (input bytes : List ℕ) (k : Known)
    (old : BenchValue) (r : Result Entry NoMemory) (new : BenchValue) → bytes_of input ≡ bytes
    → Does x bytes_of (Poke at bytes) k old r k new → Does x bytes_of (Lay at input) k old r k new
lay_does x bytes_of at input bytes k old (Ok entry) new is d =
    lay_input x bytes_of at input bytes (entry_value entry) k old.contents new.contents is d
lay_does x bytes_of at input bytes k old (Err none) new is d =
    lay_input_cut x bytes_of at input bytes k old.contents new.contents is d
