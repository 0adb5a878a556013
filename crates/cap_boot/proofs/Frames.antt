-- What stays of a bench over the calls of a boot, as far as later calls ask for it.
use Rattle.std.proofs.Common.{◌≡◌, ◌≤◌, ℕ, List, length, sym, ◌∙◌, ap, subst}
use Rattle.std.specs.Prelude.{Some}
use Rattle.bench_model.specs.Bench.{BenchValue, ChangesCounts, Contents, region_at, region_of}
use Rattle.bench_model.specs.Boards.{BoardValue}
use Rattle.bench_model.specs.Regions.{IsStable}
use Rattle.bench_model.specs.declared.limits.TheConstants.{MAX_BANK, MIN_BANK}
use Rattle.reference_machine.specs.Report.{ReportValue}
use Rattle.stored_vars.specs.Stands.{Stores}
use Rattle.reference_machine.specs.Boots.{BootState, BootTask}
use Rattle.reference_machine.specs.Machine.{Machine}
use Rattle.std.proofs.Common.{Result}
use Rattle.var_log.specs.Banks.{format_of, store_of}
use Rattle.var_log.specs.Logs.{IsLogOf}
use Rattle.var_store.specs.Stores.{HeldStore, store_value}
use Rattle.cap_boot.specs.declared.fault.BootFault.{BootFault}
use Rattle.cap_boot.specs.Going.{Goes, Tasks}
use Rattle.cap_boot.specs.Situations.{IsAt, IsOpen, IsReady, Situation}
use Rattle.cap_boot.specs.Stands.{HasRegions, IsClean, KeepsRegions, OutsideIs, Setting}

-- the board's regions stay
pub regions_kept : (size_of : ℕ → ℕ) (board : BoardValue) (old new : BenchValue)
    → HasRegions size_of board old → KeepsRegions old new → HasRegions size_of board new
regions_kept size_of board old new h k = record {
  banks = record {
    there = subst (λ (n : ℕ). 2 ≤ n) (sym k.count) h.banks.there;
    same = k.long 1 ∙ h.banks.same ∙ sym (k.long 0);
    low = subst (λ (n : ℕ). MIN_BANK ≤ n) (sym (k.long 0)) h.banks.low;
    high = subst (λ (n : ℕ). n ≤ MAX_BANK) (sym (k.long 0)) h.banks.high;
  };
  count = k.count ∙ h.count;
  devices = λ d lt. k.long (region_of d) ∙ h.devices d lt;
}

pub regions_then : (a b c : BenchValue) → KeepsRegions a b → KeepsRegions b c → KeepsRegions a c
regions_then a b c p q = record {
  told = q.told ∙ p.told;
  count = q.count ∙ p.count;
  long = λ k. q.long k ∙ p.long k;
  orders = q.orders ∙ p.orders;
}

pub regions_same : (a b : BenchValue) → ChangesCounts a b → KeepsRegions a b
regions_same a b same = record {
  told = ap (λ (s : Contents). s.told) same.contents;
  count = ap (λ (s : Contents). s.regions) same.contents;
  long = λ k. ap (λ (s : Contents). length (s.bytes k)) same.contents;
  orders = same.orders;
}

-- where only counts changed, an open store is open
pub open_same : (store : HeldStore) (a b : BenchValue) → b.contents ≡ a.contents
    → IsOpen store a → IsOpen store b
open_same store a b same o =
    let back = sym same in
    record {
      banks = record {
        there = subst (λ (s : Contents). 2 ≤ s.regions) back o.banks.there;
        same = subst (λ (s : Contents). length (s.bytes 1) ≡ length (s.bytes 0)) back o.banks.same;
        low = subst (λ (s : Contents). MIN_BANK ≤ length (s.bytes 0)) back o.banks.low;
        high = subst (λ (s : Contents). length (s.bytes 0) ≤ MAX_BANK) back o.banks.high;
      };
      stands = record {
        log = record {
          lies = record {
            size = λ k lt. subst (λ (s : Contents). length (s.bytes k) ≡ store.log.size) back
                (o.stands.log.lies.size k lt);
            told = λ told.
                let l = o.stands.log.lies.told (ap (λ (s : Contents). s.told) back ∙ told) in
                record {
                  first = subst (λ (s : Contents). IsStable (region_at s 0)) back l.first;
                  second = subst (λ (s : Contents). IsStable (region_at s 1)) back l.second;
                  is = subst (λ (s : Contents). IsLogOf store.log s.bytes) back l.is;
                };
          };
          format = λ told.
              subst (λ (s : Contents). format_of (s.bytes store.log.bank) ≡ 2) back
              (o.stands.log.format (ap (λ (s : Contents). s.told) back ∙ told));
        };
        store = λ told.
            subst (λ (s : Contents). store_of s.bytes ≡ Some (store_value store)) back
            (o.stands.store (ap (λ (s : Contents). s.told) back ∙ told));
      };
      fresh = o.fresh;
    }

pub ready_same : (store : HeldStore) (a b : BenchValue) → b.contents ≡ a.contents
    → IsReady store a → IsReady store b
ready_same store a b same r = record {
  opened = open_same store a b same r.opened;
  clean = λ told. subst IsClean (sym same)
      (r.clean (ap (λ (s : Contents). s.told) (sym same) ∙ told));
}

-- where only counts changed, a boot is where it was
pub at_same : (x : Setting) (b : BootState) (y z : Situation) → z.store ≡ y.store
    → z.bench.contents ≡ y.bench.contents → z.report ≡ y.report → IsAt x b y → IsAt x b z
at_same x b y z store same report at = record {
  told = ap (λ (s : Contents). s.told) same ∙ at.told;
  opened = subst (λ (s : HeldStore). IsOpen s z.bench) (sym store)
      (open_same y.store y.bench z.bench same at.opened);
  stores = subst (λ (s : HeldStore). Stores (store_value s) b.machine) (sym store) at.stores;
  outside = subst (λ (s : Contents). OutsideIs x s b.machine) (sym same) at.outside;
  report = ap (λ (s : HeldStore). record z.report { pending = s.log.pending }) store
      ∙ ap (λ (r : ReportValue). record r { pending = y.store.log.pending }) report ∙ at.report;
}

-- a call from where only counts changed
pub starts_as : {T : Type 0} (x : Setting) {Behind : Machine → List BootTask → Type 0}
    {Keeps : Machine → Machine → Type 0} {work more : Tasks} {y also z : Situation}
    {r : Result T BootFault} → y.store ≡ also.store → y.bench.contents ≡ also.bench.contents
    → y.report ≡ also.report → Goes x Behind Keeps work more y r z
    → Goes x Behind Keeps work more also r z
starts_as x {y = y} {also = also} store same report d = record {
  from = λ b rest way may left at.
      d.from b rest way may left (at_same x b also y store same report at);
}
