-- A boot as an event.
use Rattle.std.proofs.Common.{◌≡◌, ◌⊎◌, inl, inr, ℕ, zero, suc, ◌+◌, ◌*◌, ◌≤◌, ◌<◌, List, [], ◌∷◌}
use Rattle.std.proofs.Common.{length, map, refl, sym, ap, subst, ◌∙◌, arith, true, Option, None}
use Rattle.std.proofs.Common.{Some}
use Rattle.std.proofs.Common.{Result, Ok, Err, ◌++◌}
use Rattle.reference_machine.specs.TraceValues.{EntryValue}
use Rattle.std.specs.List.{range_with_len}
use Rattle.std.specs.Prelude.{option_map}
use Rattle.bench_model.specs.Bench.{BenchValue, Contents, region_of}
use Rattle.cap_boot.specs.Booting.{Boots, IsOpenedBoot, IsUnopened}
use Rattle.cap_boot.specs.Opening.{KeepsBeside}
use Rattle.cap_boot.specs.Stands.{OutsideIs, ReadsAs, Setting, StandsForEither, StoreFits}
use Rattle.cap_boot.specs.Tasks.{heal_end}
use Rattle.cap_boot.specs.declared.fault.BootFault.{BootFault}
use Rattle.cap_boot.specs.declared.fault.BootFault.TheVariants as fault
use Rattle.cap_boot.proofs.Healed.{held_end}
use Rattle.cap_boot.proofs.Onward.{more_steps, steps_ground}
use Rattle.cap_boot.proofs.Reports.{counted, rests}
use Rattle.cap_boot.proofs.Stable.{outside_kept}
use Rattle.reference_machine.specs.Boots.{BootState, after_steps, boot_at, boot_of, boot_start}
use Rattle.reference_machine.specs.Boots.{boot_tasks}
use Rattle.reference_machine.specs.Events.{InputBytes, IsIn, Step, booted, cut_machines, failed}
use Rattle.reference_machine.specs.Formats.{Formats}
use Rattle.reference_machine.specs.Machine.{Machine}
use Rattle.reference_machine.specs.Report.{ReportValue, nothing_done}
use Rattle.reference_machine.specs.Stops.{Agrees, AgreesAfterFlash, IsHeldEnd, StopCause, stops}
use Rattle.reference_machine.specs.Stops.StopCause.{Flash, Volume, Memory}
use Rattle.reference_machine.specs.declared.event.Event.TheVariants.{Boot}
use Rattle.reference_machine.specs.declared.trace.BootEnd.TheVariants as ends
use Rattle.reference_machine.specs.declared.unit.End.{End}
use Rattle.reference_machine.specs.declared.unit.End.TheVariants.{Refused, Sealed, Kept, Lost}
use Rattle.reference_machine.proofs.Ending.{boot_ends, steps_failed}
use Rattle.var_log.specs.Banks.{StoreValue, reclaimed_store, store_of}
use Rattle.var_log.specs.Opens.{IsStoreBefore, KeepsStores}
use Rattle.bench_play.specs.declared.known.Known.{Known}
use Rattle.bench_play.specs.Happens.{Happens, HasHappened, IsCutOff, IsKnown, WasCut}
use Rattle.bench_play.proofs.Alike.{either_failed, either_now, either_reads, reads_now}
use Rattle.bench_play.proofs.OutsideEvents.{each_after}

-- ---- where a store was not opened

fits_reclaimed : (o : Option StoreValue) (m : Machine) → StoreFits o m
    → StoreFits (option_map reclaimed_store o) m
fits_reclaimed None m fits = fits
fits_reclaimed (Some s) m fits = record { variables = fits.variables; number = fits.number }

pub fits_before : (old : BenchValue) (o : Option StoreValue) (m : Machine)
    (b : IsStoreBefore old o) → StoreFits (store_of b.image) m → StoreFits o m
fits_before old o m b fits = elim b.is [
  | inl same ↦ subst (λ (p : Option StoreValue). StoreFits p m) (sym same) fits
  | inr more ↦ subst (λ (p : Option StoreValue). StoreFits p m) (sym more)
      (fits_reclaimed (store_of b.image) m fits)
]

pub unopened_either : (x : Setting) (old new : BenchValue) (m n : Machine) → KeepsStores old new
    → KeepsBeside old new → StandsForEither x old.contents m n
    → StandsForEither x new.contents m n
unopened_either x old new m n stores keeps e = record {
  told = keeps.told ∙ e.told;
  stores = λ image is.
      let b = stores image is in
      elim (e.stores b.image b.was) [
        | inl fits ↦ inl (fits_before old (store_of image) m b fits)
        | inr fits ↦ inr (fits_before old (store_of image) n b fits)
      ];
  before = outside m e.before;
  after = outside n e.after;
}
  where
    outside : (p : Machine) → OutsideIs x old.contents p → OutsideIs x new.contents p
    outside p o = outside_kept x old.contents new.contents p
        (λ d lt bytes is. (keeps.devices (region_of d) (omega arith)).images bytes is)
        keeps.rest o

-- ---- the machines of a boot

-- a machine that a boot comes to
pub record IsBootMachine (f : Formats) (m : Machine) (new : Machine) : Type 0 where
  pub now : new.now ≡ m.now
  pub failed : new.failed ≡ m.failed

boot_machine : (f : Formats) (m : Machine) (h : End) (j : ℕ)
    → IsBootMachine f m (boot_at f m h j).machine
boot_machine f m h j = record {
  now = (steps_ground f j (boot_start f m h)).now;
  failed = steps_failed f j (boot_start f m h);
}

boot_machine_is : (f : Formats) (m : Machine) (h : End) (j : ℕ) (new : Machine)
    → new ≡ (boot_at f m h j).machine → IsBootMachine f m new
boot_machine_is f m h j new is =
    subst (λ (n : Machine). IsBootMachine f m n) (sym is) (boot_machine f m h j)

flash_machine : (f : Formats) (m : Machine) (h : End) (r : ReportValue) (pending : Option ℕ)
    (new : Machine) → AgreesAfterFlash f m h r pending new → IsBootMachine f m new
flash_machine f m h r None new is = boot_machine_is f m h r.steps new is
flash_machine f m h r (Some number) new is = elim is.2 [
  | inl at ↦ boot_machine_is f m h r.steps new at
  | inr after ↦ boot_machine_is f m h (suc r.steps) new after
]

agreed_machine : (f : Formats) (m : Machine) (h : End) (r : ReportValue) (cause : StopCause)
    (new : Machine) → Agrees f m h r cause new → IsBootMachine f m new
agreed_machine f m h r Flash new is = flash_machine f m h r r.pending new is.1
agreed_machine f m h r Volume new is = elim is.1.2 [
  | inl at ↦ boot_machine_is f m h r.steps new at
  | inr after ↦ boot_machine_is f m h (suc r.steps) new after.1
]
agreed_machine f m h r Memory new is = boot_machine_is f m h r.steps new is.1

-- ---- a boot that was cut off

-- the steps that are told never fall
rises : (f : Formats) (k : ℕ) (b : BootState)
    → b.report.steps ≤ (after_steps f k b).report.steps
rises f zero b = omega arith
rises f (suc k) b =
    let c = after_steps f k b in
    let before : b.report.steps ≤ c.report.steps = rises f k b in
    elim (counted f c c.left) [
      | inl same ↦ subst (λ (d : BootState). b.report.steps ≤ d.report.steps) (sym same) before
      | inr up ↦ omega (arith, before, up)
    ]

-- no boot tells more steps than the whole one
most_steps : (f : Formats) (m : Machine) (h : End) (j : ℕ)
    → (boot_at f m h j).report.steps ≤ (boot_of f m h).report.steps
most_steps f m h j =
    let n = 2 * length (boot_tasks f m h) in
    let more : (boot_at f m h j).report.steps ≤ (boot_at f m h (n + j)).report.steps =
    subst (λ (b : BootState). (boot_at f m h j).report.steps ≤ b.report.steps)
    (more_steps f n j (boot_start f m h)) (rises f n (boot_at f m h j)) in
    let whole : boot_at f m h (n + j) ≡ boot_of f m h =
    ap (boot_at f m h) (let e : n + j ≡ j + n = omega arith in e)
    ∙ sym (more_steps f j n (boot_start f m h)) ∙ rests f j (boot_of f m h) (boot_ends f m h) in
    subst (λ (b : BootState). (boot_at f m h j).report.steps ≤ b.report.steps) whole more

in_range : (g : ℕ → Machine) (a n j : ℕ) → a ≤ j → j < a + n
    → IsIn (g j) (map g (range_with_len a n))
in_range g a zero j low high = absurd (omega arith)
in_range g a (suc n) j low high = elim (at_or_behind a j low) [
  | inl same ↦ inl (ap g same)
  | inr behind ↦ inr (in_range g (a + 1) n j (omega (arith, behind)) (omega arith))
]
  where
    at_or_behind : (b i : ℕ) → b ≤ i → (i ≡ b) ⊎ (b < i)
    at_or_behind zero zero le = inl refl
    at_or_behind zero (suc i) le = inr (omega arith)
    at_or_behind (suc b) zero le = absurd (omega arith)
    at_or_behind (suc b) (suc i) le = elim (at_or_behind b i (omega arith)) [
      | inl same ↦ inl (ap suc same)
      | inr behind ↦ inr (omega (arith, behind))
    ]

in_stops : (f : Formats) (m : Machine) (h : End) (j : ℕ) → j ≤ (boot_of f m h).report.steps
    → IsIn (boot_at f m h j).machine (stops f m h)
in_stops f m h j le =
    in_range (λ i. (boot_at f m h i).machine) 0 ((boot_of f m h).report.steps + 1) j (omega arith)
    (omega (arith, le))

in_front : (new : Machine) (xs ys : List Machine) → IsIn new xs → IsIn new (xs ++ ys)
in_front new [] ys is = absurd is
in_front new (x ∷ xs) ys (inl is) = inl is
in_front new (x ∷ xs) ys (inr is) = inr (in_front new xs ys is)

in_back : (new : Machine) (xs ys : List Machine) → IsIn new ys → IsIn new (xs ++ ys)
in_back new [] ys is = is
in_back new (x ∷ xs) ys is = inr (in_back new xs ys is)

-- where a boot is stopped it may be cut off
cut_row : (f : Formats) (bytes_of : InputBytes) (m : Machine) (h : End) → IsHeldEnd h
    → (new : Machine) → IsIn new (stops f m h) → IsIn new (cut_machines f bytes_of m Boot)
cut_row f bytes_of m (Refused status) held new is = absurd held
cut_row f bytes_of m Sealed held new is =
    in_front new (stops f m Sealed) (stops f m Kept ++ (stops f m Lost ++ [])) is
cut_row f bytes_of m Kept held new is =
    in_back new (stops f m Sealed) (stops f m Kept ++ (stops f m Lost ++ []))
    (in_front new (stops f m Kept) (stops f m Lost ++ []) is)
cut_row f bytes_of m Lost held new is =
    in_back new (stops f m Sealed) (stops f m Kept ++ (stops f m Lost ++ []))
    (in_back new (stops f m Kept) (stops f m Lost ++ [])
    (in_front new (stops f m Lost) [] is))

cut_at_once : (f : Formats) (bytes_of : InputBytes) (m : Machine)
    → IsIn m (cut_machines f bytes_of m Boot)
cut_at_once f bytes_of m =
    cut_row f bytes_of m Sealed tt m (in_stops f m Sealed 0 (omega arith))

cut_agreed : (f : Formats) (bytes_of : InputBytes) (m : Machine) (h : End) → IsHeldEnd h
    → (r : ReportValue) (new : Machine) → Agrees f m h r Memory new
    → IsIn new (cut_machines f bytes_of m Boot)
cut_agreed f bytes_of m h held r new is =
    let few : r.steps ≤ (boot_of f m h).report.steps =
    subst (λ (n : ℕ). n ≤ (boot_of f m h).report.steps)
    (sym (ap (λ (q : ReportValue). q.steps) is.0)) (most_steps f m h r.steps) in
    subst (λ (n : Machine). IsIn n (cut_machines f bytes_of m Boot)) (sym is.1)
    (cut_row f bytes_of m h held (boot_at f m h r.steps).machine (in_stops f m h r.steps few))

-- ---- a whole boot

boot_row : (f : Formats) (bytes_of : InputBytes) (m : Machine) (h : End) → IsHeldEnd h
    → Step f bytes_of m Boot (booted (boot_of f m h).report ends.Ok) (boot_of f m h).machine
boot_row f bytes_of m (Refused status) held = absurd held
boot_row f bytes_of m Sealed held = inl (inl refl)
boot_row f bytes_of m Kept held = inl (inr (inr (inl refl)))
boot_row f bytes_of m Lost held = inl (inr (inr (inr (inl refl))))

-- ---- what a boot does to a bench that stands for one of two machines

-- all that one machine says holds of either
both_after : (x : Setting) (bytes_of : InputBytes) (m n p : Machine) (entry : EntryValue)
    (k : Known) (t : Contents) (one other : Machine) → (p ≡ m) ⊎ (p ≡ n)
    → Step x.formats bytes_of p Boot entry one → Step x.formats bytes_of p Boot entry other
    → one.now ≡ k.moment → other.now ≡ k.moment → (k.failed ≡ true → one.failed ≡ true)
    → (k.failed ≡ true → other.failed ≡ true) → StandsForEither x t one other
    → HasHappened x bytes_of m n Boot entry k t
both_after x bytes_of m n p entry k t one other (inl is) first second at after lost still e =
    record {
      one = one;
      other = other;
      one_from = inl (subst (λ (q : Machine). Step x.formats bytes_of q Boot entry one) is first);
      other_from =
          inl (subst (λ (q : Machine). Step x.formats bytes_of q Boot entry other) is second);
      one_now = at;
      other_now = after;
      one_failed = lost;
      other_failed = still;
      either = e;
    }
both_after x bytes_of m n p entry k t one other (inr is) first second at after lost still e =
    record {
      one = one;
      other = other;
      one_from = inr (subst (λ (q : Machine). Step x.formats bytes_of q Boot entry one) is first);
      other_from =
          inr (subst (λ (q : Machine). Step x.formats bytes_of q Boot entry other) is second);
      one_now = at;
      other_now = after;
      one_failed = lost;
      other_failed = still;
      either = e;
    }

both_cut : (x : Setting) (bytes_of : InputBytes) (m n p : Machine) (t : Contents)
    (one other : Machine) → (p ≡ m) ⊎ (p ≡ n)
    → IsIn one (cut_machines x.formats bytes_of p Boot)
    → IsIn other (cut_machines x.formats bytes_of p Boot) → StandsForEither x t one other
    → WasCut x bytes_of m n Boot t
both_cut x bytes_of m n p t one other (inl is) first second e = record {
  one = one;
  other = other;
  one_from =
      inl (subst (λ (q : Machine). IsIn one (cut_machines x.formats bytes_of q Boot)) is first);
  other_from =
      inl (subst (λ (q : Machine). IsIn other (cut_machines x.formats bytes_of q Boot)) is second);
  either = e;
}
both_cut x bytes_of m n p t one other (inr is) first second e = record {
  one = one;
  other = other;
  one_from =
      inr (subst (λ (q : Machine). IsIn one (cut_machines x.formats bytes_of q Boot)) is first);
  other_from =
      inr (subst (λ (q : Machine). IsIn other (cut_machines x.formats bytes_of q Boot)) is second);
  either = e;
}

module _ (x : Setting) (bytes_of : InputBytes) (k : Known) (old new : BenchValue)
    (report : ReportValue) where
  abbrev moved : Setting
  moved = record x { now = k.moment }

  -- the machine that is read is one of the two
  module _ (m n p : Machine) (of : (p ≡ m) ⊎ (p ≡ n)) (known : IsKnown x k p)
      (reads : ReadsAs x old.contents p) where
    abbrev h : End
    h = heal_end moved old.contents p

    held : IsHeldEnd h
    held = held_end moved old.contents p

    finished_at : IsOpenedBoot {T = Unit {0}} moved old (Ok tt) report new
        → HasHappened x bytes_of m n Boot (booted report ends.Ok) k new.contents
    finished_at boots =
        let d = boots p known.reached known.now (reads_now x k.moment old.contents p reads) in
        let b = boot_of x.formats p h in
        let is = boot_machine_is x.formats p h (2 * length (boot_tasks x.formats p h)) b.machine
        refl in
        let step : Step x.formats bytes_of p Boot (booted report ends.Ok) b.machine =
        subst (λ (r : ReportValue). Step x.formats bytes_of p Boot (booted r ends.Ok) b.machine)
        (sym d.report_is) (boot_row x.formats bytes_of p h held) in
        both_after x bytes_of m n p (booted report ends.Ok) k new.contents b.machine b.machine of
        step step (is.now ∙ known.now) (is.now ∙ known.now) (λ f. is.failed ∙ known.failed f)
        (λ f. is.failed ∙ known.failed f)
        (either_now moved x.now new.contents b.machine b.machine d.stands)

    flash_at : IsOpenedBoot {T = Unit {0}} moved old (Err fault.Flash) report new
        → HasHappened x bytes_of m n Boot (booted report ends.Flash) (record k { failed = true })
        new.contents
    flash_at boots =
        let d = boots p known.reached known.now (reads_now x k.moment old.contents p reads) in
        let one = agreed_machine x.formats p h report Flash d.one d.one_agrees in
        let other = agreed_machine x.formats p h report Flash d.other d.other_agrees in
        both_after x bytes_of m n p (booted report ends.Flash) (record k { failed = true })
        new.contents (failed d.one) (failed d.other) of
        (inr (record {
          heal = h;
          is_held = held;
          report = report;
          cause = Flash;
          end = ends.Flash;
          machine = d.one;
          agrees = d.one_agrees;
          told = refl;
          is_entry = refl;
          is_new = refl;
        }))
        (inr (record {
          heal = h;
          is_held = held;
          report = report;
          cause = Flash;
          end = ends.Flash;
          machine = d.other;
          agrees = d.other_agrees;
          told = refl;
          is_entry = refl;
          is_new = refl;
        })) (one.now ∙ known.now) (other.now ∙ known.now) (λ f. refl) (λ f. refl)
        (either_failed x new.contents d.one d.other
        (either_now moved x.now new.contents d.one d.other d.either))

    volume_at : IsOpenedBoot {T = Unit {0}} moved old (Err fault.Volume) report new
        → HasHappened x bytes_of m n Boot (booted report ends.Volume) (record k { failed = true })
        new.contents
    volume_at boots =
        let d = boots p known.reached known.now (reads_now x k.moment old.contents p reads) in
        let one = agreed_machine x.formats p h report Volume d.one d.one_agrees in
        let other = agreed_machine x.formats p h report Volume d.other d.other_agrees in
        both_after x bytes_of m n p (booted report ends.Volume) (record k { failed = true })
        new.contents (failed d.one) (failed d.other) of
        (inr (record {
          heal = h;
          is_held = held;
          report = report;
          cause = Volume;
          end = ends.Volume;
          machine = d.one;
          agrees = d.one_agrees;
          told = refl;
          is_entry = refl;
          is_new = refl;
        }))
        (inr (record {
          heal = h;
          is_held = held;
          report = report;
          cause = Volume;
          end = ends.Volume;
          machine = d.other;
          agrees = d.other_agrees;
          told = refl;
          is_entry = refl;
          is_new = refl;
        })) (one.now ∙ known.now) (other.now ∙ known.now) (λ f. refl) (λ f. refl)
        (either_failed x new.contents d.one d.other
        (either_now moved x.now new.contents d.one d.other d.either))

    cut_at : (Agreed : Machine → Type 0)
        → ((q : Machine) → Agreed q → Agrees x.formats p h report Memory q)
        → (one other : Machine) → Agreed one → Agreed other
        → StandsForEither moved new.contents one other → WasCut x bytes_of m n Boot new.contents
    cut_at Agreed is one other first second e =
        both_cut x bytes_of m n p new.contents one other of
        (cut_agreed x.formats bytes_of p h held report one (is one first))
        (cut_agreed x.formats bytes_of p h held report other (is other second))
        (either_now moved x.now new.contents one other e)

  by_read : {P : Type 0} (m n : Machine) → IsKnown x k m → IsKnown x k n
      → StandsForEither x old.contents m n
      → ((p : Machine) → (p ≡ m) ⊎ (p ≡ n) → IsKnown x k p → ReadsAs x old.contents p → P) → P
  by_read m n known also e found = elim (either_reads x old.contents m n e) [
    | inl reads ↦ found m (inl refl) known reads
    | inr reads ↦ found n (inr refl) also reads
  ]

  pub boot_finishes : Boots {T = Unit {0}} moved old (Ok tt) report new
      → Happens x bytes_of Boot (booted report ends.Ok) k old.contents k new.contents
  boot_finishes (inl u) = absurd u.err
  boot_finishes (inr boots) = record {
    from = λ m n known also e. by_read m n known also e
        (λ p of its reads. finished_at m n p of its reads boots);
  }

  pub boot_fails : Boots {T = Unit {0}} moved old (Err fault.Flash) report new
      → Happens x bytes_of Boot (booted report ends.Flash) k old.contents
      (record k { failed = true }) new.contents
  boot_fails (inl u) = record {
    from = λ m n known also e.
        subst (λ (r : ReportValue). HasHappened x bytes_of m n Boot (booted r ends.Flash)
        (record k { failed = true }) new.contents) (sym u.report_is)
        (each_after x bytes_of m n Boot (booted nothing_done ends.Flash)
        (record k { failed = true }) new.contents (failed m) (failed n) (inl (inr (inl refl)))
        (inl (inr (inl refl))) known.now also.now (λ f. refl) (λ f. refl)
        (either_failed x new.contents m n
        (unopened_either x old new m n u.stores u.beside e)));
  }
  boot_fails (inr boots) = record {
    from = λ m n known also e. by_read m n known also e
        (λ p of its reads. flash_at m n p of its reads boots);
  }

  pub boot_fails_by_volume : Boots {T = Unit {0}} moved old (Err fault.Volume) report new
      → Happens x bytes_of Boot (booted report ends.Volume) k old.contents
      (record k { failed = true }) new.contents
  boot_fails_by_volume (inl u) = absurd u.err
  boot_fails_by_volume (inr boots) = record {
    from = λ m n known also e. by_read m n known also e
        (λ p of its reads. volume_at m n p of its reads boots);
  }

  cut_unopened : {T : Type 0} (r : Result T BootFault) → IsUnopened old r report new
      → IsCutOff x bytes_of Boot k old.contents new.contents
  cut_unopened r u = record {
    from = λ m n known also e. record {
      one = m;
      other = n;
      one_from = inl (cut_at_once x.formats bytes_of m);
      other_from = inr (cut_at_once x.formats bytes_of n);
      either = unopened_either x old new m n u.stores u.beside e;
    };
  }

  pub boot_lacks_memory : Boots {T = Unit {0}} moved old (Err fault.Memory) report new
      → IsCutOff x bytes_of Boot k old.contents new.contents
  boot_lacks_memory (inl u) = cut_unopened (Err fault.Memory) u
  boot_lacks_memory (inr boots) = record {
    from = λ m n known also e. by_read m n known also e (λ p of its reads.
        let d = boots p its.reached its.now (reads_now x k.moment old.contents p reads) in
        cut_at m n p of its reads (λ q. Agrees x.formats p (heal_end moved old.contents p) report
        Memory q) (λ q is. is) d.one d.other d.one_agrees d.other_agrees d.either);
  }

  pub boot_lacks_bank : Boots {T = Unit {0}} moved old (Err fault.NoBank) report new
      → IsCutOff x bytes_of Boot k old.contents new.contents
  boot_lacks_bank (inl u) = cut_unopened (Err fault.NoBank) u
  boot_lacks_bank (inr boots) = record {
    from = λ m n known also e. by_read m n known also e (λ p of its reads.
        let d = boots p its.reached its.now (reads_now x k.moment old.contents p reads) in
        cut_at m n p of its reads (λ q. Agrees x.formats p (heal_end moved old.contents p) report
        Memory q) (λ q is. is) d.one d.other d.one_agrees d.other_agrees d.either);
  }
