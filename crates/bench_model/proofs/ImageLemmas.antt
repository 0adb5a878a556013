-- What writes and syncs leave of the images of a region.
use Rattle.std.proofs.Common.{◌≡◌, inl, inr, ℕ, ◌+◌, ◌<◌, List, length, get_or, take, drop, refl}
use Rattle.std.proofs.Common.{sym, ◌∙◌, ap, arith, length-take, length-drop, true, false}
use Rattle.std.proofs.lemmas.List.{ext_get_or, get_or-take, get_or-drop}
use Rattle.bench_model.specs.Regions.{Region, AgreesOutside, IsOutside, IsImage, IsStable, Syncs}
use Rattle.bench_model.specs.Regions.{Writes}

-- what stands before a range stays
pub agrees_front : (at n : ℕ) (old new : List ℕ) → AgreesOutside at n old new
    → take at new ≡ take at old
agrees_front at n old new agrees =
    ext_get_or 0 _ _ (omega (arith, length-take at new, length-take at old, agrees.long)) (λ k h.
    let lt : k < at = omega (arith, length-take at new) in
    get_or-take at new k 0 lt ∙ agrees.same k (inl lt) ∙ sym (get_or-take at old k 0 lt))

-- what stands behind a range stays
pub agrees_back : (at n : ℕ) (old new : List ℕ) → AgreesOutside at n old new
    → drop (at + n) new ≡ drop (at + n) old
agrees_back at n old new agrees =
    ext_get_or 0 _ _ (omega (
      arith,
      length-drop (at + n) new,
      length-drop
          (at + n) old,
      agrees.long,
    )) (λ k h.
    get_or-drop (at + n) new k 0 ∙ agrees.same (at + n + k) (inr (omega arith))
    ∙ sym (get_or-drop (at + n) old k 0))

-- the bytes as read are an image
pub image_of_read : (region : Region) → region.told ≡ true → IsImage region region.bytes
image_of_read region told = record { told = told; long = refl; same = λ k clean. refl }

-- an image of a stable region that was written to agrees with what was read before, outside the
-- range
pub image_of_write : (at n : ℕ) (old new : Region) (image : List ℕ) → IsStable old
    → Writes at n old new → IsImage new image
    → AgreesOutside at n old.bytes image
image_of_write at n old new image stable writes is =
    let told : old.told ≡ true = sym writes.told ∙ is.told in
    record {
      long = is.long ∙ writes.long;
      same = λ k out. is.same k (writes.dirt k out (stable.clean k))
          ∙ (writes.rest told).same k out;
    }

-- an image after a write agrees outside the range with an image before it
pub image_before_write : (at n : ℕ) (old new : Region) → Writes at n old new → (k : ℕ)
    → IsOutside at n k → old.dirty k ≡ false
    → (image : List ℕ) → IsImage new image → get_or image k 0 ≡ get_or old.bytes k 0
image_before_write at n old new writes k out clean image is =
    is.same k (writes.dirt k out clean) ∙ (writes.rest (sym writes.told ∙ is.told)).same k out

-- a sync makes no new image
pub image_of_sync : (old new : Region) (image : List ℕ) → Syncs old new → IsImage new image
    → IsImage old image
image_of_sync old new image syncs is = record {
  told = sym syncs.told ∙ is.told;
  long = is.long ∙ ap length syncs.bytes;
  same = λ k clean. is.same k (syncs.dirt k clean) ∙ ap (λ (l : List ℕ). get_or l k 0) syncs.bytes;
}

-- a stable region has one image
pub image_of_stable : (region : Region) (image : List ℕ) → IsStable region → IsImage region image
    → image ≡ region.bytes
image_of_stable region image stable is =
    ext_get_or 0 _ _ is.long (λ k h. is.same k (stable.clean k))
