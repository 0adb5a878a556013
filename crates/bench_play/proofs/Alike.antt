-- Machines that differ in what is not stored: moment, folder, memory and the mark of a fault.
use Rattle.std.proofs.Common.{◌≡◌, ◌⊎◌, inl, inr, ℕ, Bool, List, refl, sym, subst, ◌∙◌, Option}
use Rattle.std.proofs.Common.{true}
use Rattle.std.proofs.Common.{None, Some}
use Rattle.bench_model.specs.Bench.{Contents, region_at, region_of}
use Rattle.bench_model.specs.Files.{FolderValue}
use Rattle.bench_model.specs.Regions.{KeepsImages}
use Rattle.bench_model.specs.declared.segment.Segment.{Segment}
use Rattle.cap_boot.specs.Stands.{DeviceFits, OutsideIs, ReadsAs, Setting, StandsForEither}
use Rattle.cap_boot.specs.Stands.{StoreFits}
use Rattle.cap_boot.proofs.Stable.{read_image}
use Rattle.reference_machine.specs.Events.{failed}
use Rattle.cu_base.specs.declared.ticket.Ticket.{Ticket}
use Rattle.cu_base.specs.declared.time.EfiTime.{EfiTime}
use Rattle.fmp_slot.specs.Held.{HeldSlot}
use Rattle.reference_machine.specs.Machine.{Machine, folder_of}
use Rattle.stored_vars.specs.Stands.{Holds}
use Rattle.var_log.specs.Banks.{StoreValue, store_of}
use Rattle.var_log.specs.Changes.{Variables}

-- the machine with other things beside what is stored
abbrev pub beside : Machine → EfiTime → FolderValue → List Segment → Bool → Machine
beside m now folder memory lost = record m {
  now = now;
  files = folder.files;
  last_file = folder.last_serial;
  memory = memory;
  failed = lost;
}

module _ (m : Machine) (now : EfiTime) (folder : FolderValue) (memory : List Segment)
    (lost : Bool) where
  holds_beside : (v : Variables) → Holds v m → Holds v (beside m now folder memory lost)
  holds_beside v h = record {
    devices = h.devices;
    claims = h.claims;
    results = h.results;
    greatest = h.greatest;
    last = h.last;
    staged = h.staged;
    serial = h.serial;
    asked = h.asked;
    progress = h.progress;
    others = h.others;
  }

  pub store_beside : (o : Option StoreValue) → StoreFits o m
      → StoreFits o (beside m now folder memory lost)
  store_beside None fits = fits
  store_beside (Some s) fits =
      record { variables = holds_beside s.variables fits.variables; number = fits.number }

  device_beside : (slot_of : List ℕ → Option HeldSlot) (d : ℕ) (tickets : List Ticket)
      (bytes : List ℕ) → DeviceFits slot_of m d tickets bytes
      → DeviceFits slot_of (beside m now folder memory lost) d tickets bytes
  device_beside slot_of d tickets bytes f = record {
    slot = f.slot;
    begun = record { are = f.begun.are; tells = f.begun.tells };
  }

-- contents that keep what is stored and what the devices are
pub record KeepsStored (s t : Contents) : Type 0 where
  pub told : t.told ≡ s.told
  pub images : (k : ℕ) → KeepsImages (region_at s k) (region_at t k)
  pub begun : (d : ℕ) → t.rest.begun d ≡ s.rest.begun d

pub keeps_same : (s : Contents) → KeepsStored s s
keeps_same s = record {
  told = refl;
  images = λ k. record { told = refl; long = refl; images = λ image is. is };
  begun = λ d. refl;
}

pub outside_beside : (x : Setting) (s t : Contents) (m : Machine) (now : EfiTime) (lost : Bool)
    → KeepsStored s t → OutsideIs x s m
    → OutsideIs x t (beside m now t.rest.folder t.rest.memory lost)
outside_beside x s t m now lost keeps o = record {
  board = o.board;
  devices = λ d lt bytes is. device_beside m now t.rest.folder t.rest.memory lost x.slot_of d
      (t.rest.begun d) bytes
      (subst (λ (ts : List Ticket). DeviceFits x.slot_of m d ts bytes) (sym (keeps.begun d))
      (o.devices d lt bytes ((keeps.images (region_of d)).images bytes is)));
  folder = refl;
  memory = refl;
}

-- each image stands for one of the two with other things beside
pub either_beside : (x : Setting) (s t : Contents) (m n : Machine) (at after : EfiTime)
    (lost still : Bool) → KeepsStored s t → StandsForEither x s m n
    → StandsForEither x t (beside m at t.rest.folder t.rest.memory lost)
    (beside n after t.rest.folder t.rest.memory still)
either_beside x s t m n at after lost still keeps e = record {
  told = keeps.told ∙ e.told;
  stores = λ image is. elim
      (e.stores image (λ k. (keeps.images k).images (image k) (is k))) [
        | inl fits ↦ inl (store_beside m at t.rest.folder t.rest.memory lost (store_of image) fits)
        | inr fits ↦ inr (store_beside n after t.rest.folder t.rest.memory still (store_of image)
            fits)
      ];
  before = outside_beside x s t m at lost keeps e.before;
  after = outside_beside x s t n after still keeps e.after;
}

-- the same where folder and memory are told
pub either_with : (x : Setting) (s t : Contents) (m n : Machine) (at after : EfiTime)
    (one two : FolderValue) (first second : List Segment) (lost still : Bool) → KeepsStored s t
    → t.rest.folder ≡ one → t.rest.folder ≡ two → t.rest.memory ≡ first → t.rest.memory ≡ second
    → StandsForEither x s m n
    → StandsForEither x t (beside m at one first lost) (beside n after two second still)
either_with x s t m n at after one two first second lost still keeps fo ft mo mt e =
    subst (λ (a : FolderValue). StandsForEither x t (beside m at a first lost)
    (beside n after two second still)) fo
    (subst (λ (a : FolderValue). StandsForEither x t
    (beside m at t.rest.folder first lost) (beside n after a second still)) ft
    (subst (λ (a : List Segment). StandsForEither x t
    (beside m at t.rest.folder a lost) (beside n after t.rest.folder second still)) mo
    (subst (λ (a : List Segment). StandsForEither x t
    (beside m at t.rest.folder t.rest.memory lost) (beside n after t.rest.folder a still)) mt
    (either_beside x s t m n at after lost still keeps e))))

-- after a fault
pub either_failed : (x : Setting) (s : Contents) (m n : Machine) → StandsForEither x s m n
    → StandsForEither x s (failed m) (failed n)
either_failed x s m n e =
    either_with x s s m n m.now n.now (folder_of m) (folder_of n) m.memory n.memory true true
    (keeps_same s) e.before.folder e.after.folder e.before.memory e.after.memory e

-- at another moment
pub either_at : (x : Setting) (s : Contents) (m n : Machine) (moment : EfiTime)
    → StandsForEither x s m n
    → StandsForEither x s (record m { now = moment }) (record n { now = moment })
either_at x s m n moment e =
    either_with x s s m n moment moment (folder_of m) (folder_of n) m.memory n.memory m.failed
    n.failed (keeps_same s) e.before.folder e.after.folder e.before.memory e.after.memory e

-- in the setting of another moment
outside_now : (x : Setting) (now : EfiTime) (s : Contents) (m : Machine) → OutsideIs x s m
    → OutsideIs (record x { now = now }) s m
outside_now x now s m o =
    record { board = o.board; devices = o.devices; folder = o.folder; memory = o.memory }

pub either_now : (x : Setting) (now : EfiTime) (s : Contents) (m n : Machine)
    → StandsForEither x s m n → StandsForEither (record x { now = now }) s m n
either_now x now s m n e = record {
  told = e.told;
  stores = e.stores;
  before = outside_now x now s m e.before;
  after = outside_now x now s n e.after;
}

-- the bytes as read stand for one of the two
pub either_reads : (x : Setting) (s : Contents) (m n : Machine) → StandsForEither x s m n
    → ReadsAs x s m ⊎ ReadsAs x s n
either_reads x s m n e = elim (e.stores s.bytes (read_image s e.told)) [
  | inl fits ↦ inl (record { told = e.told; store = fits; outside = e.before })
  | inr fits ↦ inr (record { told = e.told; store = fits; outside = e.after })
]

pub reads_now : (x : Setting) (now : EfiTime) (s : Contents) (m : Machine) → ReadsAs x s m
    → ReadsAs (record x { now = now }) s m
reads_now x now s m r =
    record { told = r.told; store = r.store; outside = outside_now x now s m r.outside }
