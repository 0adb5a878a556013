-- What the opening of a boot leaves: the devices are synced, and the store is that of the machine.
use Rattle.std.proofs.Common.{◌≡◌, ◌≤◌, ◌<◌, ℕ, zero, suc, List, length, get_or, sym, ◌∙◌}
use Rattle.std.proofs.Common.{ap, subst, true, false, Bool, cond, Option, None, Some, option_map}
use Rattle.std.proofs.Common.{arith}
use Rattle.bench_model.specs.Bench.{BenchValue, region_at, region_of}
use Rattle.bench_model.specs.Boards.{BoardValue}
use Rattle.bench_model.specs.Regions.{IsImage, IsStable}
use Rattle.bench_model.specs.declared.limits.TheConstants.{MAX_BANK, MIN_BANK}
use Rattle.reference_machine.specs.Boots.{BootState}
use Rattle.reference_machine.specs.Machine.{Machine}
use Rattle.stored_vars.specs.Stands.{Stores}
use Rattle.var_log.specs.Banks.{StoreValue, format_of, reclaimed_store, store_of}
use Rattle.var_log.specs.Logs.{ChangesBanks, IsLogOf}
use Rattle.var_log.specs.Opens.{is_old, opened_store}
use Rattle.var_store.specs.Stores.{HeldStore, store_value}
use Rattle.cap_boot.specs.Opening.{AreSynced, KeepsBeside, SyncsDevices}
use Rattle.cap_boot.specs.Situations.{IsAt, IsOpen, IsReady, situation}
use Rattle.cap_boot.specs.Stands.{HasRegions, KeepsRegions, OutsideIs, Setting}
use Rattle.cap_boot.specs.Stands.{StoreFits}
use Rattle.cap_boot.proofs.Stable.{outside_kept}
use Rattle.reference_machine.specs.declared.report.Report.{Report}

-- ---- syncs

module _ (old new : BenchValue) (syncs : SyncsDevices old new) where
  bytes_same : new.contents.bytes ≡ old.contents.bytes
  bytes_same = λ i k. (syncs.each k).bytes i

  told_same : new.contents.told ≡ old.contents.told
  told_same = (syncs.each 0).told

  pub synced_regions : KeepsRegions old new
  synced_regions = record {
    told = told_same;
    count = syncs.regions;
    long = λ k. ap (λ (l : List ℕ). length l) (syncs.each k).bytes;
    orders = syncs.orders;
  }

  synced_image : (k : ℕ) (bytes : List ℕ) → IsImage (region_at new.contents k) bytes
      → IsImage (region_at old.contents k) bytes
  synced_image k bytes is = record {
    told = sym told_same ∙ is.told;
    long = is.long ∙ ap (λ (l : List ℕ). length l) (syncs.each k).bytes;
    same = λ at clean. is.same at ((syncs.each k).dirt at clean)
        ∙ ap (λ (l : List ℕ). get_or l at 0) (syncs.each k).bytes;
  }

  pub synced_open : (store : HeldStore) → IsOpen store old → IsOpen store new
  synced_open store o = record {
    banks = record {
      there = subst (λ (n : ℕ). 2 ≤ n) (sym syncs.regions) o.banks.there;
      same = ap (λ (l : List ℕ). length l) (syncs.each 1).bytes ∙ o.banks.same
          ∙ sym (ap (λ (l : List ℕ). length l) (syncs.each 0).bytes);
      low = subst (λ (l : List ℕ). MIN_BANK ≤ length l) (sym (syncs.each 0).bytes) o.banks.low;
      high = subst (λ (l : List ℕ). length l ≤ MAX_BANK) (sym (syncs.each 0).bytes) o.banks.high;
    };
    stands = record {
      log = record {
        lies = record {
          size = λ k lt. ap (λ (l : List ℕ). length l) (syncs.each k).bytes
              ∙ o.stands.log.lies.size k lt;
          told = λ told.
              let l = o.stands.log.lies.told (sym told_same ∙ told) in
              record {
                first = record { clean = λ at. (syncs.each 0).dirt at (l.first.clean at) };
                second = record { clean = λ at. (syncs.each 1).dirt at (l.second.clean at) };
                is = subst (λ (f : ℕ → List ℕ). IsLogOf store.log f) (sym bytes_same) l.is;
              };
        };
        format = λ told.
            subst (λ (l : List ℕ). format_of l ≡ 2) (sym (syncs.each store.log.bank).bytes)
            (o.stands.log.format (sym told_same ∙ told));
      };
      store = λ told.
          subst (λ (f : ℕ → List ℕ). store_of f ≡ Some (store_value store)) (sym bytes_same)
          (o.stands.store (sym told_same ∙ told));
    };
    fresh = o.fresh;
  }

  pub synced_at : (x : Setting) (b : BootState) (store : HeldStore) (report : Report)
      → IsAt x b (situation store old report) → IsAt x b (situation store new report)
  synced_at x b store report at = record {
    told = told_same ∙ at.told;
    opened = synced_open store at.opened;
    stores = at.stores;
    outside = outside_kept x old.contents new.contents b.machine
        (λ d lt bytes is. synced_image (region_of d) bytes is) syncs.rest at.outside;
    report = at.report;
  }

-- once all devices are synced nothing is dirty
pub synced_ready : (size_of : ℕ → ℕ) (board : BoardValue) (store : HeldStore) (b : BenchValue)
    → IsOpen store b → HasRegions size_of board b → AreSynced (length board.devices) b
    → IsReady store b
synced_ready size_of board store b o regions synced = record {
  opened = o;
  clean = λ told k lt. by_region told k lt;
}
  where
    by_region : b.contents.told ≡ true → (k : ℕ) → k < b.contents.regions
        → IsStable (region_at b.contents k)
    by_region told zero lt = (o.stands.log.lies.told told).first
    by_region told (suc zero) lt = (o.stands.log.lies.told told).second
    by_region told (suc (suc d)) lt =
        let e : region_of d ≡ suc (suc d) = omega arith in
        subst (λ (k : ℕ). IsStable (region_at b.contents k)) e
        (synced d (omega (arith, regions.count)))

-- ---- the store

some_is : {A : Type 0} {a b : A} → Some a ≡ Some b → a ≡ b
some_is is = cc

opened_fits : (old : Bool) (o : Option StoreValue) (v : StoreValue) (m : Machine) → StoreFits o m
    → cond old (option_map reclaimed_store o) o ≡ Some v → Stores v m
opened_fits old None v m fits is = absurd fits
opened_fits true (Some s) v m fits is =
    subst (λ (w : StoreValue). Stores w m) (some_is is)
    (record { variables = fits.variables; number = fits.number })
opened_fits false (Some s) v m fits is =
    subst (λ (w : StoreValue). Stores w m) (some_is is) fits

-- a store that was opened is that of the machine that the banks as read stand for
pub opened_stores : (banks : ℕ → List ℕ) (v : StoreValue) (m : Machine)
    → StoreFits (store_of banks) m → opened_store banks ≡ Some v → Stores v m
opened_stores banks v m fits is = opened_fits (is_old banks) (store_of banks) v m fits is

-- ---- what is beside the store

pub banks_beside : (old new : BenchValue) → ChangesBanks old new → KeepsBeside old new
banks_beside old new c = record {
  told = c.told;
  devices = λ k le. record {
    told = c.told;
    long = ap (λ (l : List ℕ). length l) (c.bytes k le);
    images = λ image is. record {
      told = sym c.told ∙ is.told;
      long = is.long ∙ ap (λ (l : List ℕ). length l) (c.bytes k le);
      same = λ at clean.
          is.same at (ap (λ (f : ℕ → Bool). f at) (c.dirty k le) ∙ clean)
          ∙ ap (λ (l : List ℕ). get_or l at 0) (c.bytes k le);
    };
  };
  rest = c.rest;
}

pub banks_outside : (x : Setting) (old new : BenchValue) (m : Machine) → ChangesBanks old new
    → OutsideIs x old.contents m → OutsideIs x new.contents m
banks_outside x old new m c o =
    outside_kept x old.contents new.contents m
    (λ d lt bytes is.
    ((banks_beside old new c).devices (region_of d) (omega arith)).images bytes is)
    c.rest o

pub banks_regions : (size_of : ℕ → ℕ) (board : BoardValue) (old new : BenchValue)
    → HasRegions size_of board old → ChangesBanks old new → HasRegions size_of board new
banks_regions size_of board old new h c = record {
  banks = record {
    there = subst (λ (n : ℕ). 2 ≤ n) (sym c.regions) h.banks.there;
    same = c.long 1 (omega arith) ∙ h.banks.same ∙ sym (c.long 0 (omega arith));
    low = subst (λ (n : ℕ). MIN_BANK ≤ n) (sym (c.long 0 (omega arith))) h.banks.low;
    high = subst (λ (n : ℕ). n ≤ MAX_BANK) (sym (c.long 0 (omega arith))) h.banks.high;
  };
  count = c.regions ∙ h.count;
  devices = λ d lt. ap (λ (l : List ℕ). length l) (c.bytes (region_of d) (omega arith))
      ∙ h.devices d lt;
}
