-- A step of a boot that is one batch, by what its batch makes of the store and of the machine.
use Rattle.std.proofs.Common.{◌≡◌, ◌⊎◌, inl, inr, ℕ, zero, suc, ◌+◌, ◌<◌, ◌≤◌, ◌^◌, List}
use Rattle.std.proofs.Common.{◌++◌, length, get_or, refl, sym, ◌∙◌, ap, subst, arith, true, IsTrue}
use Rattle.std.proofs.Common.{Bool, false, Ok, Err, None, Some}
use Rattle.std.specs.Prelude.{Option, option_map}
use Rattle.bench_model.specs.Bench.{AreImages, BenchValue, Contents, region_at, region_of}
use Rattle.bench_model.specs.Regions.{IsImage, IsStable}
use Rattle.bench_model.specs.declared.limits.TheConstants.{MAX_BANK, MIN_BANK}
use Rattle.reference_machine.specs.Boots.{BootState, BootTask, after, next}
use Rattle.reference_machine.specs.Machine.{Machine}
use Rattle.reference_machine.specs.Report.{ReportValue}
use Rattle.reference_machine.specs.Stops.{is_batch}
use Rattle.reference_machine.proofs.Reached.{short}
use Rattle.stored_vars.specs.Stands.{Holds, Stores}
use Rattle.var_log.specs.Banks.{StoreValue, reclaimed_store, store_of, with_batch}
use Rattle.var_log.specs.Changes.{Variables, after as after_changes}
use Rattle.var_log.specs.Logs.{ChangesBanks, HasBanks, LogValue, store_as_read, store_with}
use Rattle.var_log.specs.declared.change.Change.{Change}
use Rattle.var_store.specs.Stores.{HeldStore, Stands, store_value, variables_of}
use Rattle.var_store.specs.Writes.{HasIn, IsOrReclaims, MayHaveWritten}
use Rattle.cap_boot.specs.declared.fault.BootFault.{BootFault}
use Rattle.cap_boot.specs.declared.fault.BootFault.TheVariants.{Flash, Volume, NoBank, Memory}
use Rattle.cap_boot.specs.Commits.{IsStored, IsUntouched, LeavesBatch}
use Rattle.cap_boot.specs.Going.{Goes, Tasks, nothing}
use Rattle.cap_boot.specs.Situations.{IsAt, IsReady, IsStopped, IsUnderWay, Situation, StopsByFlash}
use Rattle.cap_boot.specs.Stands.{IsClean, KeepsRegions, OutsideIs, Setting, StandsForEither}
use Rattle.cap_boot.specs.Stands.{StoreFits}
use Rattle.cap_boot.proofs.Stable.{at_stands, outside_kept}

-- ---- what a batch leaves of the bench

two : (d : ℕ) → 2 ≤ region_of d
two d = omega arith

-- each image of a device was an image before
beside_image : (b c : BenchValue) → ChangesBanks b c → (d : ℕ) (bytes : List ℕ)
    → IsImage (region_at c.contents (region_of d)) bytes
    → IsImage (region_at b.contents (region_of d)) bytes
beside_image b c f d bytes is = record {
  told = sym f.told ∙ is.told;
  long = is.long ∙ ap length (f.bytes (region_of d) (two d));
  same = λ at clean.
      is.same at (ap (λ (t : ℕ → Bool). t at) (f.dirty (region_of d) (two d)) ∙ clean)
      ∙ ap (λ (r : List ℕ). get_or r at 0) (f.bytes (region_of d) (two d));
}

-- what is beside the store stays that of a machine
pub banks_outside : (x : Setting) (m : Machine) (b c : BenchValue) → ChangesBanks b c
    → OutsideIs x b.contents m → OutsideIs x c.contents m
banks_outside x m b c f o =
    outside_kept x b.contents c.contents m (λ d lt bytes is. beside_image b c f d bytes is) f.rest o

pub banks_regions : (b c : BenchValue) → ChangesBanks b c → KeepsRegions b c
banks_regions b c f = record {
  told = f.told;
  count = f.regions;
  long = λ k. at_region k;
  orders = f.orders;
}
  where
    at_region : (k : ℕ) → length (c.contents.bytes k) ≡ length (b.contents.bytes k)
    at_region zero = f.long 0 (omega arith)
    at_region (suc zero) = f.long 1 (omega arith)
    at_region (suc (suc k)) = ap length (f.bytes (suc (suc k)) (omega arith))

-- the banks are there
banks_there : (b c : BenchValue) → ChangesBanks b c → HasBanks b → HasBanks c
banks_there b c f h = record {
  there = subst (λ (n : ℕ). 2 ≤ n) (sym f.regions) h.there;
  same = f.long 1 (omega arith) ∙ h.same ∙ sym (f.long 0 (omega arith));
  low = subst (λ (n : ℕ). MIN_BANK ≤ n) (sym (f.long 0 (omega arith))) h.low;
  high = subst (λ (n : ℕ). n ≤ MAX_BANK) (sym (f.long 0 (omega arith))) h.high;
}

-- no region is dirty where the banks are those of an open store
banks_clean : (s : HeldStore) (b c : BenchValue) → ChangesBanks b c → Stands s c
    → (b.contents.told ≡ true → IsClean b.contents) → c.contents.told ≡ true → IsClean c.contents
banks_clean s b c f stands clean told zero lt = (stands.log.lies.told told).first
banks_clean s b c f stands clean told (suc zero) lt = (stands.log.lies.told told).second
banks_clean s b c f stands clean told (suc (suc k)) lt =
    let was : IsStable (region_at b.contents (suc (suc k))) =
    clean (sym f.told ∙ told) (suc (suc k)) (subst (λ (n : ℕ). suc (suc k) < n) f.regions lt) in
    record {
      clean = λ at.
          ap (λ (t : ℕ → Bool). t at) (f.dirty (suc (suc k)) (omega arith)) ∙ was.clean at;
    }

-- a store that was written is ready for the next batch
pub ready_written : (s t : HeldStore) (b c : BenchValue) → IsReady s b → ChangesBanks b c
    → t.log.pending ≡ s.log.pending → t.log.stale ≡ false → Stands t c → IsReady t c
ready_written s t b c r f pending stale stands = record {
  opened = record {
    banks = banks_there b c f r.opened.banks;
    stands = stands;
    fresh = record { pending = pending ∙ r.opened.fresh.pending; stale = stale };
  };
  clean = banks_clean t b c f stands r.clean;
}

-- ---- what a batch leaves of the store

-- a store that is as read, or under the next generation, is that of the machine as before
reclaimed_fits : (before o : Option StoreValue) (v : StoreValue) (m : Machine)
    → before ≡ Some v → Stores v m → IsOrReclaims before o → StoreFits o m
reclaimed_fits before o v m read st (inl e) =
    subst (λ (p : Option StoreValue). StoreFits p m) (sym (e ∙ read)) st
reclaimed_fits before o v m read st (inr e) =
    let again : Stores (reclaimed_store v) m =
    record { variables = st.variables; number = st.number } in
    subst (λ (p : Option StoreValue). StoreFits p m)
    (sym (e ∙ ap (option_map reclaimed_store) read)) again

-- a store with the batch is that of the machine after it
batched_fits : (changes : List Change) (before o : Option StoreValue) (v : StoreValue) (m : Machine)
    → before ≡ Some v → Stores (with_batch v changes) m → HasIn changes before o → StoreFits o m
batched_fits changes before o v m read st (inl e) =
    subst (λ (p : Option StoreValue). StoreFits p m)
    (sym (e ∙ ap (store_with changes) read)) st
batched_fits changes before o v m read st (inr e) =
    let again : Stores (with_batch (reclaimed_store v) changes) m =
    record { variables = st.variables; number = st.number } in
    subst (λ (p : Option StoreValue). StoreFits p m)
    (sym (e ∙ ap (λ (p : Option StoreValue). store_with changes (option_map reclaimed_store p)) read))
    again

-- ---- the step

-- with this work left the next step is this batch: of it the store is that of the machine after it,
-- all else is that of both, and the report goes on so
pub record TakesBatch (x : Setting) (y : Situation) (changes : List Change)
    (told : ReportValue → ReportValue) (b : BootState) (left rest : List BootTask)
    (c : BootState) : Type 0 where
  pub counts : IsTrue (is_batch left)
  pub holds : Holds (after_changes (variables_of y.store) changes) c.machine
  pub number : c.machine.batches ≡ b.machine.batches + 1
  pub outside : OutsideIs x y.bench.contents c.machine
  pub behind : c.left ≡ rest
  pub report : c.report ≡ told b.report

-- each boot that comes to this work takes this batch next
abbrev pub TakesNext : Setting → Situation → List Change → (ReportValue → ReportValue) → Tasks
    → Type 0
TakesNext x y changes told work =
    (b : BootState) (rest : List BootTask) → IsUnderWay x b → b.left ≡ work b.machine ++ rest
    → IsAt x b y → TakesBatch x y changes told b b.left rest (next x.formats b)

-- the work that is left decides
pub taken_by : (x : Setting) (y : Situation) (changes : List Change)
    (told : ReportValue → ReportValue) (b : BootState) (left rest : List BootTask)
    → b.left ≡ left → TakesBatch x y changes told b left rest (after x.formats b left)
    → TakesBatch x y changes told b b.left rest (next x.formats b)
taken_by x y changes told b left rest is t =
    subst (λ (l : List BootTask). TakesBatch x y changes told b l rest (after x.formats b l))
    (sym is) t

-- the store with the batch is that of the machine after the step
stored_after : (x : Setting) (y : Situation) (changes : List Change)
    (told : ReportValue → ReportValue) (b : BootState) (rest : List BootTask) → IsAt x b y
    → TakesBatch x y changes told b b.left rest (next x.formats b)
    → Stores (with_batch (store_value y.store) changes) (next x.formats b).machine
stored_after x y changes told b rest at k = record {
  variables = k.holds;
  number = ap (λ (n : ℕ). n + 1) at.stores.number ∙ sym k.number;
}

-- a fault of the flash: no batch is in doubt
doubt_none : (x : Setting) (start : Machine) (y z : Situation) (b : BootState) → IsAt x b y
    → z.report ≡ y.report → ChangesBanks y.bench z.bench → z.store.log.pending ≡ None
    → ((image : ℕ → List ℕ) → AreImages z.bench.contents image
    → IsOrReclaims (store_as_read y.bench) (store_of image))
    → IsStopped x Flash start b z
doubt_none x start y z b at same f none images =
    let report : record z.report { pending = None } ≡ b.report =
    ap (λ (r : ReportValue). record r { pending = None }) same
    ∙ ap (λ (p : Option ℕ). record y.report { pending = p }) (sym at.opened.fresh.pending)
    ∙ at.report in
    let stops : StopsByFlash x.formats b z.store.log.pending b.machine =
    subst (λ (p : Option ℕ). StopsByFlash x.formats b p b.machine) (sym none) refl in
    record {
      one = b.machine;
      other = b.machine;
      one_is = (report, stops);
      other_is = (report, stops);
      either = record {
        told = f.told ∙ at.told;
        stores = λ image is. inl (reclaimed_fits (store_as_read y.bench) (store_of image)
            (store_value y.store) b.machine (at.opened.stands.store at.told) at.stores
            (images image is));
        before = banks_outside x b.machine y.bench z.bench f at.outside;
        after = banks_outside x b.machine y.bench z.bench f at.outside;
      };
    }

-- a fault of the flash: this batch is in doubt
doubt_some : (x : Setting) (start : Machine) (y z : Situation) (changes : List Change)
    (told : ReportValue → ReportValue) (b : BootState) (rest : List BootTask) → IsAt x b y
    → TakesBatch x y changes told b b.left rest (next x.formats b)
    → z.report ≡ y.report → ChangesBanks y.bench z.bench
    → z.store.log.pending ≡ Some (y.store.log.seq + 1)
    → ((image : ℕ → List ℕ) → AreImages z.bench.contents image
    → IsOrReclaims (store_as_read y.bench) (store_of image)
    ⊎ HasIn changes (store_as_read y.bench) (store_of image))
    → IsStopped x Flash start b z
doubt_some x start y z changes told b rest at k same f some images =
    let c : BootState = next x.formats b in
    let read : store_as_read y.bench ≡ Some (store_value y.store) =
    at.opened.stands.store at.told in
    let report : record z.report { pending = None } ≡ b.report =
    ap (λ (r : ReportValue). record r { pending = None }) same
    ∙ ap (λ (p : Option ℕ). record y.report { pending = p }) (sym at.opened.fresh.pending)
    ∙ at.report in
    let number : y.store.log.seq + 1 ≡ b.machine.batches + 1 =
    ap (λ (n : ℕ). n + 1) at.stores.number in
    record {
      one = b.machine;
      other = c.machine;
      one_is = (
        report,
        subst (λ (p : Option ℕ). StopsByFlash x.formats b p b.machine) (sym some)
            (k.counts, number, inl refl),
      );
      other_is = (
        report,
        subst (λ (p : Option ℕ). StopsByFlash x.formats b p c.machine) (sym some)
            (k.counts, number, inr refl),
      );
      either = record {
        told = f.told ∙ at.told;
        stores = λ image is. elim (images image is) [
          | inl was ↦ inl (reclaimed_fits (store_as_read y.bench) (store_of image)
              (store_value y.store) b.machine read at.stores was)
          | inr has ↦ inr (batched_fits changes (store_as_read y.bench) (store_of image)
              (store_value y.store) c.machine read
              (stored_after x y changes told b rest at k) has)
        ];
        before = banks_outside x b.machine y.bench z.bench f at.outside;
        after = banks_outside x c.machine y.bench z.bench f k.outside;
      };
    }

-- nothing was written
pub untouched_stands : (x : Setting) (y z : Situation) (b : BootState) → IsAt x b y
    → IsUntouched y.store z.store y.bench z.bench
    → StandsForEither x z.bench.contents b.machine b.machine
untouched_stands x y z b at u =
    subst (λ (w : Contents). StandsForEither x w b.machine b.machine) (sym u.bench)
    (at_stands x b y at)

pub untouched_told : (x : Setting) (y z : Situation) (b : BootState) → IsAt x b y
    → z.report ≡ y.report → IsUntouched y.store z.store y.bench z.bench
    → record z.report { pending = z.store.log.pending } ≡ b.report
untouched_told x y z b at same u =
    ap (λ (r : ReportValue). record r { pending = z.store.log.pending }) same
    ∙ ap (λ (l : LogValue). record y.report { pending = l.pending }) u.log ∙ at.report

-- the boot is stopped where its batch was not written
batch_stopped : (x : Setting) (start : Machine) (y z : Situation) (changes : List Change)
    (told : ReportValue → ReportValue) (b : BootState) (rest : List BootTask) (fault : BootFault)
    → IsAt x b y → TakesBatch x y changes told b b.left rest (next x.formats b)
    → z.report ≡ y.report → ChangesBanks y.bench z.bench
    → LeavesBatch changes y.store z.store y.bench z.bench fault → IsStopped x fault start b z
batch_stopped x start y z changes told b rest Flash at k same f doubt =
    elim doubt.pending [
      | inl none ↦ doubt_none x start y z b at same f none
          (subst (λ (p : Option ℕ). MayHaveWritten changes p y.bench z.bench) none doubt.images)
      | inr some ↦ doubt_some x start y z changes told b rest at k same f some
          (subst (λ (p : Option ℕ). MayHaveWritten changes p y.bench z.bench) some doubt.images)
    ]
batch_stopped x start y z changes told b rest Volume at k same f left = absurd left
batch_stopped x start y z changes told b rest NoBank at k same f u = record {
  one = b.machine;
  other = b.machine;
  one_is = (untouched_told x y z b at same u, refl);
  other_is = (untouched_told x y z b at same u, refl);
  either = untouched_stands x y z b at u;
}
batch_stopped x start y z changes told b rest Memory at k same f u = record {
  one = b.machine;
  other = b.machine;
  one_is = (untouched_told x y z b at same u, refl);
  other_is = (untouched_told x y z b at same u, refl);
  either = untouched_stands x y z b at u;
}

-- a step whose batch was not written
pub batch_fails : {T : Type 0} (x : Setting) (Behind : Machine → List BootTask → Type 0)
    (Keeps : Machine → Machine → Type 0) (work : Tasks) (y z : Situation) (changes : List Change)
    (told : ReportValue → ReportValue) (fault : BootFault) → TakesNext x y changes told work
    → z.report ≡ y.report → ChangesBanks y.bench z.bench
    → LeavesBatch changes y.store z.store y.bench z.bench fault
    → Goes {T = T} x Behind Keeps work nothing y (Err fault) z
batch_fails x Behind Keeps work y z changes told fault takes same f leaves = record {
  from = λ b rest way may left at. record {
    steps = 0;
    stopped = batch_stopped x way.start y z changes told b rest fault at
        (takes b rest way left at) same f leaves;
  };
}

-- the steps of a report are few
pub few_steps : (x : Setting) (b : BootState) (y : Situation) → IsUnderWay x b → IsAt x b y
    → y.report.steps + 1 < 2 ^ 32
few_steps x b y way at =
    let steps : y.report.steps ≡ b.report.steps = ap (λ (r : ReportValue). r.steps) at.report in
    let low : b.report.steps < 2 ^ 20 =
    subst (λ (c : BootState). c.report.steps < 2 ^ 20) (sym way.is)
    (short x.formats x.board way.start way.limits way.is_board way.reached way.heal way.count) in
    omega (arith, steps, low)

-- a step whose batch was written
pub batch_goes : {T : Type 0} (x : Setting) (Behind : Machine → List BootTask → Type 0)
    (Keeps : Machine → Machine → Type 0) (work : Tasks) (y z : Situation) (changes : List Change)
    (told : ReportValue → ReportValue) (u : T) → TakesNext x y changes told work
    → ((b : BootState) (rest : List BootTask) → IsUnderWay x b → IsAt x b y
    → b.left ≡ work b.machine ++ rest → Keeps b.machine (next x.formats b).machine)
    → ((r : ReportValue) (p : Option ℕ)
    → record (told r) { pending = p } ≡ told (record r { pending = p }))
    → (y.report.steps + 1 < 2 ^ 32 → z.report ≡ told y.report) → ChangesBanks y.bench z.bench
    → IsStored changes y.store z.store → IsReady z.store z.bench
    → Goes x Behind Keeps work nothing y (Ok u) z
batch_goes x Behind Keeps work y z changes told u takes keeps turn same f done ready = record {
  from = λ b rest way may left at.
      let k = takes b rest way left at in
      let c : BootState = next x.formats b in
      record {
        steps = 1;
        left = k.behind;
        at = record {
          told = f.told ∙ at.told;
          opened = ready.opened;
          stores = record {
            variables = subst (λ (v : Variables). Holds v c.machine) (sym done.variables) k.holds;
            number = done.number ∙ ap (λ (n : ℕ). n + 1) at.stores.number ∙ sym k.number;
          };
          outside = banks_outside x c.machine y.bench z.bench f k.outside;
          report = ap (λ (p : Option ℕ). record z.report { pending = p }) ready.opened.fresh.pending
              ∙ ap (λ (r : ReportValue). record r { pending = None })
              (same (few_steps x b y way at))
              ∙ turn y.report None
              ∙ ap (λ (p : Option ℕ). told (record y.report { pending = p }))
              (sym at.opened.fresh.pending)
              ∙ ap told at.report ∙ sym k.report;
        };
        keeps = keeps b rest way at left;
      };
}
