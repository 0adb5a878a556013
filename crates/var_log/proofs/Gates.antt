-- The moves on one bank, by regions.
use Rattle.std.proofs.Common.{◌≡◌, inl, inr, ℕ, ◌+◌, List, [], ◌∷◌, length, get_or}
use Rattle.std.proofs.Common.{take, drop, sym, ◌∙◌, ap, arith, true, subst}
use Rattle.std.proofs.lemmas.List.{get_or-take, get_or-drop}
use Rattle.cu_base.specs.Fields.{field}
use Rattle.bench_model.specs.Regions.{Region, AgreesOutside, IsOutside, IsImage, IsStable, Syncs}
use Rattle.bench_model.specs.Regions.{Writes, ReadsAs}
use Rattle.bench_model.proofs.ImageLemmas.{agrees_back, image_of_write, image_of_read}
use Rattle.var_log.specs.declared.limits.TheConstants.{OPEN_GATE, CLOSED_GATE}
use Rattle.var_log.specs.Moves.{IsGated, IsOpening, IsOpened, IsShut}

module _ (at : ℕ) (bytes : List ℕ) (r0 r1 r2 r3 : Region) where
  gated : Writes (at + 1) (length bytes) r0 r1 → ReadsAs (at + 1) bytes r1 → Syncs r1 r2
      → IsStable r2 → Writes at 1 r2 r3 → (image : List ℕ) → IsImage r3 image
      → IsGated at bytes r0.bytes image
  gated writes reads syncs stable opens image is =
      let told2 : r2.told ≡ true = sym opens.told ∙ is.told in
      let told1 : r1.told ≡ true = sym syncs.told ∙ told2 in
      let told0 : r0.told ≡ true = sym writes.told ∙ told1 in
      let late : AgreesOutside at 1 r2.bytes image = image_of_write at 1 r2 r3 image stable opens is in
      let early : AgreesOutside (at + 1) (length bytes) r0.bytes r1.bytes = writes.rest told0 in
      let one : (k : ℕ) → IsOutside at (1 + length bytes) k → IsOutside at 1 k =
      λ k out. elim out [ inl lt ↦ inl lt | inr le ↦ inr (omega arith) ] in
      let other : (k : ℕ) → IsOutside at (1 + length bytes) k → IsOutside (at + 1) (length bytes) k =
      λ k out. elim out [ inl lt ↦ inl (omega arith) | inr le ↦ inr (omega arith) ] in
      record {
        outside = record {
          long = late.long ∙ ap length syncs.bytes ∙ early.long;
          same = λ k out. late.same k (one k out)
              ∙ ap (λ (l : List ℕ). get_or l k 0) syncs.bytes ∙ early.same k (other k out);
        };
        behind = ap (take (length bytes)) (agrees_back at 1 r2.bytes image late)
            ∙ ap (λ (l : List ℕ). field l (at + 1) (length bytes)) syncs.bytes ∙ reads told1;
      }

  pub second_images : Writes (at + 1) (length bytes) r0 r1 → ReadsAs (at + 1) bytes r1
      → Syncs r1 r2 → IsStable r2 → Writes at 1 r2 r3 → (image : List ℕ) → IsImage r3 image
      → IsOpening at bytes r0.bytes image
  second_images writes reads syncs stable opens image is =
      inr (gated writes reads syncs stable opens image is)

  pub opened : Writes (at + 1) (length bytes) r0 r1 → ReadsAs (at + 1) bytes r1 → Syncs r1 r2
      → IsStable r2 → Writes at 1 r2 r3 → ReadsAs at (OPEN_GATE ∷ []) r3 → (r4 : Region)
      → Syncs r3 r4 → r4.told ≡ true → IsOpened at bytes r0.bytes r4.bytes
  opened writes reads syncs stable opens gate r4 last told =
      let told3 : r3.told ≡ true = sym last.told ∙ told in
      let here : at ≡ at + 0 = omega arith in
      let byte : get_or r3.bytes at 0 ≡ OPEN_GATE =
      ap (λ (k : ℕ). get_or r3.bytes k 0) here ∙ sym (get_or-drop at r3.bytes 0 0)
      ∙ sym (get_or-take 1 (drop at r3.bytes) 0 0 (omega arith))
      ∙ ap (λ (l : List ℕ). get_or l 0 0) (gate told3) in
      subst (λ (l : List ℕ). IsOpened at bytes r0.bytes l) (sym last.bytes)
      (record {
        gated = gated writes reads syncs stable opens r3.bytes (image_of_read r3 told3);
        gate = byte;
      })

-- one byte that was written
pub shut_by : (at : ℕ) (r0 r1 r2 : Region) → Writes at 1 r0 r1 → ReadsAs at (CLOSED_GATE ∷ []) r1
    → Syncs r1 r2 → r2.told ≡ true → IsShut at r0.bytes r2.bytes
shut_by at r0 r1 r2 writes reads syncs told =
    let told1 : r1.told ≡ true = sym syncs.told ∙ told in
    let told0 : r0.told ≡ true = sym writes.told ∙ told1 in
    let here : at ≡ at + 0 = omega arith in
    let byte : get_or r1.bytes at 0 ≡ CLOSED_GATE =
    ap (λ (k : ℕ). get_or r1.bytes k 0) here ∙ sym (get_or-drop at r1.bytes 0 0)
    ∙ sym (get_or-take 1 (drop at r1.bytes) 0 0 (omega arith))
    ∙ ap (λ (l : List ℕ). get_or l 0 0) (reads told1) in
    subst (λ (l : List ℕ). IsShut at r0.bytes l) (sym syncs.bytes)
    (record { outside = writes.rest told0; gate = byte })
