-- What the images of a bench are between two steps of a boot.
use Rattle.std.proofs.Common.{◌≡◌, inl, ℕ, ◌<◌, List, refl, sym, ◌∙◌, ap, subst, true, Some}
use Rattle.std.proofs.lemmas.List.{ext_get_or}
use Rattle.std.specs.Prelude.{Option, length}
use Rattle.bench_model.specs.Bench.{AreImages, BenchValue, Contents, Rest, region_at, region_of}
use Rattle.bench_model.specs.Regions.{IsImage, IsStable, Region}
use Rattle.reference_machine.specs.Boots.{BootState}
use Rattle.reference_machine.specs.Machine.{Machine}
use Rattle.var_log.proofs.BankLemmas.{same_bank, same_store}
use Rattle.var_log.specs.Banks.{StoreValue, store_of}
use Rattle.var_store.specs.Stores.{HeldStore, Stands, store_value}
use Rattle.cap_boot.specs.Situations.{IsAt, Situation}
use Rattle.cap_boot.specs.Stands.{DeviceFits, OutsideIs, Setting, StandsForEither, StoreFits}

-- the one image of a region of which no place is dirty
pub stable_image : (r : Region) (image : List ℕ) → IsStable r → IsImage r image → image ≡ r.bytes
stable_image r image s is = ext_get_or 0 _ _ is.long (λ at h. is.same at (s.clean at))

-- the bytes as read are an image
pub read_image : (s : Contents) → s.told ≡ true → AreImages s s.bytes
read_image s told k = record { told = told; long = refl; same = λ at clean. refl }

-- each image of an open store is this store
pub store_in_image : (s : HeldStore) (b : BenchValue) → b.contents.told ≡ true → Stands s b
    → (image : ℕ → List ℕ) → AreImages b.contents image → store_of image ≡ Some (store_value s)
store_in_image s b told stands image is =
    let lies = stands.log.lies.told told in
    let first : image 0 ≡ b.contents.bytes 0 =
    stable_image (region_at b.contents 0) (image 0) lies.first (is 0) in
    let second : image 1 ≡ b.contents.bytes 1 =
    stable_image (region_at b.contents 1) (image 1) lies.second (is 1) in
    same_store b.contents.bytes image (same_bank (b.contents.bytes 0) (image 0) first)
    (same_bank (b.contents.bytes 1) (image 1) second) ∙ stands.store told

-- what is beside the store stays that of the machine where each image was an image before
pub outside_kept : (x : Setting) (s t : Contents) (m : Machine)
    → ((d : ℕ) → d < length x.board.devices → (bytes : List ℕ)
    → IsImage (region_at t (region_of d)) bytes → IsImage (region_at s (region_of d)) bytes)
    → t.rest ≡ s.rest → OutsideIs x s m → OutsideIs x t m
outside_kept x s t m images rest o = record {
  board = o.board;
  devices = λ d lt bytes is. subst (λ (r : Rest). DeviceFits x.slot_of m d (r.begun d) bytes)
      (sym rest) (o.devices d lt bytes (images d lt bytes is));
  folder = ap (λ (r : Rest). r.folder) rest ∙ o.folder;
  memory = ap (λ (r : Rest). r.memory) rest ∙ o.memory;
}

-- between two steps each image stands for the machine
pub at_stands : (x : Setting) (b : BootState) (y : Situation) → IsAt x b y
    → StandsForEither x y.bench.contents b.machine b.machine
at_stands x b y at = record {
  told = at.told;
  stores = λ image is. inl (subst (λ (s : Option StoreValue). StoreFits s b.machine)
      (sym (store_in_image y.store y.bench at.told at.opened.stands image is)) at.stores);
  before = at.outside;
  after = at.outside;
}
