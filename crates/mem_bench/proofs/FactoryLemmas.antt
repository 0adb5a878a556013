-- The contents of a bench that was laid out.
use Rattle.std.proofs.Common.{◌≡◌, ℕ, zero, suc, ◌+◌, ◌<◌, true, false, List, [], ◌∷◌, ◌++◌, length}
use Rattle.std.proofs.Common.{get_or, map, take, replicate, None, refl, sym, ◌∙◌, ap, append_assoc}
use Rattle.std.proofs.lemmas.List.{length-map, map_push, take_more}
use Rattle.std.proofs.Math.ListN.{get_or-map}
use Rattle.bench_model.specs.declared.segment.Segment.{Segment}
use Rattle.bench_model.specs.Bench.{Contents}
use Rattle.bench_model.specs.Boards.{BoardValue}
use Rattle.bench_model.specs.Devices.{DeviceValue}
use Rattle.bench_model.specs.Files.{FolderValue}
use Rattle.bench_model.specs.Factory.{first_contents, first_regions}
use Rattle.mem_bench.specs.Parts.{TicketsValue, no_tickets}
use Rattle.mem_bench.specs.Regions.{RegionValue, no_region, stable_region}
use Rattle.mem_bench.specs.State.{bytes_by, dirty_by, begun_by}

-- one region of a device more
pub regions_more : (old : List RegionValue) (f : DeviceValue → List ℕ) (ds : List DeviceValue)
    (i : ℕ) (d : DeviceValue)
    → i < length ds → d ≡ get_or ds i d
    → (old ++ map stable_region (map f (take i ds))) ++ stable_region (f d) ∷ [] ≡ old
    ++ map stable_region (map f (take (i + 1) ds))
regions_more old f ds i d within is =
    append_assoc old (map stable_region (map f (take i ds))) (stable_region (f d) ∷ [])
    ∙ ap (λ (rs : List RegionValue). old ++ rs)
    (ap (λ (e : DeviceValue). map stable_region (map f (take i ds)) ++ stable_region (f e) ∷ []) is
    ∙ sym (map_push stable_region (map f (take i ds)) (f (get_or ds i d)))
    ∙ ap (λ (rs : List (List ℕ)). map stable_region rs)
    (sym (map_push f (take i ds) (get_or ds i d)))
    ∙ ap (λ (es : List DeviceValue). map stable_region (map f es)) (sym (take_more ds i d within)))

no_mark : (n at : ℕ) → get_or (replicate n false) at false ≡ false
no_mark zero at = refl
no_mark (suc n) zero = refl
no_mark (suc n) (suc at) = no_mark n at

no_ticket : (n d : ℕ) → get_or (replicate n no_tickets) d no_tickets ≡ no_tickets
no_ticket zero d = refl
no_ticket (suc n) zero = refl
no_ticket (suc n) (suc d) = no_ticket n d

-- what regions and devices of a board are as contents, with an empty folder and an empty memory
pub laid_contents : (b : BoardValue) (regions : List RegionValue) (devices : List TicketsValue)
    (n : ℕ) (folder : FolderValue) (memory : List Segment)
    → regions ≡ map stable_region (first_regions b) → devices ≡ replicate n no_tickets
    → folder ≡ record { files = []; last_serial = 0 } → memory ≡ []
    → (let made : Contents = record {
      told = true;
      regions = length regions;
      bytes = bytes_by regions;
      dirty = dirty_by regions;
      rest = record {
        begun = begun_by devices;
        open_device = None;
        folder = folder;
        memory = memory;
      };
    } in made ≡ first_contents true b)
laid_contents b regions devices n folder memory are none empty bare =
    let all : List (List ℕ) = first_regions b in
    let one : (k : ℕ) → get_or regions k no_region ≡ stable_region (get_or all k []) =
    λ k. ap (λ (rs : List RegionValue). get_or rs k no_region) are
    ∙ get_or-map stable_region all k [] in
    let long : length regions ≡ length all = ap length are ∙ length-map all stable_region in
    let bytes : (k : ℕ) → bytes_by regions k ≡ get_or all k [] =
    λ k. ap (λ (r : RegionValue). r.bytes) (one k) in
    let clean : (k at : ℕ) → dirty_by regions k at ≡ false =
    λ k at. ap (λ (r : RegionValue). get_or r.marks at false) (one k)
    ∙ no_mark (length (get_or all k [])) at in
    let begun : (d : ℕ) → begun_by devices d ≡ [] =
    λ d. ap (λ (ts : List TicketsValue). (get_or ts d no_tickets).begun) none
    ∙ ap (λ (t : TicketsValue). t.begun) (no_ticket n d) in
    λ i. record {
      told = true;
      regions = long i;
      bytes = λ k. bytes k i;
      dirty = λ k at. clean k at i;
      rest = record {
        begun = λ d. begun d i;
        open_device = None;
        folder = empty i;
        memory = bare i;
      };
    }
