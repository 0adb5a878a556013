-- What each move leaves of the images of a slot with one bank.
use Rattle.std.proofs.Common.{◌≡◌, ◌≢◌, ℕ, zero, suc, ◌+◌, ◌<◌, ◌==◌, Bool, true, false, cond, eqb, List}
use Rattle.std.proofs.Common.{[], ◌∷◌, length, get_or, refl, sym, ap, subst, ◌∙◌}
use Rattle.std.proofs.Common.{arith, inl, inr, ◌++◌, take, drop, ap₂}
use Rattle.std.specs.List.{common_prefix_len}
use Rattle.std.proofs.lemmas.Bool.{cases_eq, eq-eqb, ne_eqb}
use Rattle.std.proofs.lemmas.List.{ext_get_or, get_or-take, drop-take, drop-drop}
use Rattle.cu_base.specs.Fields.{field}
use Rattle.cu_base.proofs.Fields.{take_field}
use Rattle.bench_model.specs.Regions.{Region, AgreesOutside, IsStable, Writes, Syncs, ReadsAs}
use Rattle.bench_model.proofs.ImageLemmas.{image_of_read, image_of_write, image_of_sync}
use Rattle.bench_model.proofs.ImageLemmas.{image_of_stable, agrees_front}
use Rattle.fmp_slot.specs.Held.{HeldSlot, IsKept, KeepsSlots, KeepsOrSeals, IsDurable}
use Rattle.fmp_slot.specs.Layout.{seal, slot_of}
use Rattle.fmp_slot.specs.Writing.{IsUnderway, IsReceived}
use Rattle.fmp_slot.proofs.Received.{not_sealed, received_sealed}

-- ---- reading back

-- where the bytes alike end before the lists do, two bytes differ
pub apart_differ : (xs ys : List ℕ) → length ys ≡ length xs
    → common_prefix_len (λ x y. x == y) xs ys < length xs
    → get_or xs (common_prefix_len (λ x y. x == y) xs ys) 0
    ≢ get_or ys (common_prefix_len (λ x y. x == y) xs ys) 0
apart_differ [] ys long some = absurd (omega arith)
apart_differ (x ∷ xs) [] long some = absurd (omega arith)
apart_differ (x ∷ xs) (y ∷ ys) long some =
    let n = common_prefix_len (λ x y. x == y) xs ys in
    elim (cases_eq x y) [
      | inl same ↦
          let step : cond (eqb x y) (1 + n) 0 ≡ suc n =
          ap (λ (b : Bool). cond b (1 + n) 0) (eq-eqb x y same) ∙ omega arith in
          let later = apart_differ xs ys (omega arith) (omega arith) in
          subst (λ (k : ℕ). get_or (x ∷ xs) k 0 ≢ get_or (y ∷ ys) k 0) (sym step) later
      | inr other ↦
          let step : cond (eqb x y) (1 + n) 0 ≡ 0 =
          ap (λ (b : Bool). cond b (1 + n) 0) (ne_eqb x y other) in
          subst (λ (k : ℕ). get_or (x ∷ xs) k 0 ≢ get_or (y ∷ ys) k 0) (sym step) other
    ]

-- bytes that are read as they were written differ nowhere, so a flash that told them does not
pub untold_apart : (told : Bool) (at k : ℕ) (wrote read bytes : List ℕ) → length read ≡ length wrote
    → (told ≡ true → field bytes at (length wrote) ≡ wrote)
    → (told ≡ true → field bytes at (length read) ≡ read) → get_or wrote k 0 ≢ get_or read k 0
    → told ≡ false
untold_apart false at k wrote read bytes long wrote_is read_is other = refl
untold_apart true at k wrote read bytes long wrote_is read_is other =
    absurd (other (ap (λ (l : List ℕ). get_or l k 0)
    (sym (wrote_is refl) ∙ ap (λ (n : ℕ). field bytes at n) (sym long) ∙ read_is refl)))

-- ---- images

pub keeps_all : (region : Region) → KeepsSlots slot_of region region
keeps_all region =
    record { each = λ image is. inr (record { image = image; is = is; same = refl }) }

pub keeps_then_sync : (old mid new : Region) → KeepsSlots slot_of old mid → Syncs mid new
    → KeepsSlots slot_of old new
keeps_then_sync old mid new keeps syncs =
    record { each = λ image is. keeps.each image (image_of_sync mid new image syncs is) }

-- ---- unsealing

same_as_read : (old image : List ℕ) → AgreesOutside 0 1 old image → get_or image 0 0 ≡ get_or old 0 0
    → image ≡ old
same_as_read old image agrees first = ext_get_or 0 _ _ agrees.long (λ k h. at_each k)
  where
    at_each : (k : ℕ) → get_or image k 0 ≡ get_or old k 0
    at_each zero = first
    at_each (suc k) = agrees.same (suc k) (inr (omega arith))

kept_at : (at : ℕ) (old : Region) (image : List ℕ) → old.told ≡ true
    → at ≡ cond (eqb (get_or old.bytes 0 0) seal) 0 1 → AgreesOutside at 1 old.bytes image
    → get_or image 0 0 ≡ seal → IsKept slot_of old image
kept_at at old image told place agrees mark =
    elim (cases_eq (get_or old.bytes 0 0) seal) [
      | inl was ↦
          let zeroth : at ≡ 0 =
          place ∙ ap (λ (b : Bool). cond b 0 1) (eq-eqb _ _ was) in
          let same : image ≡ old.bytes =
          same_as_read old.bytes image (subst (λ (a : ℕ). AgreesOutside a 1 old.bytes image) zeroth agrees)
          (mark ∙ sym was) in
          inr (record {
            image = old.bytes;
            is = image_of_read old told;
            same = ap slot_of (sym same);
          })
      | inr not ↦
          let first : at ≡ 1 =
          place ∙ ap (λ (b : Bool). cond b 0 1) (ne_eqb _ _ not) in
          absurd (not (sym (agrees.same 0 (inl (omega arith))) ∙ mark))
    ]

-- a byte is written over the seal, or beside a byte that is not the seal
pub unsealing : (at : ℕ) (old new : Region) → (old.told ≡ true → IsStable old)
    → (old.told ≡ true → at ≡ cond (eqb (get_or old.bytes 0 0) seal) 0 1) → Writes at 1 old new
    → KeepsSlots slot_of old new
unsealing at old new stable place writes = record {
  each = λ image is.
      let told : old.told ≡ true = sym writes.told ∙ is.told in
      let agrees = image_of_write at 1 old new image (stable told) writes is in
      elim (cases_eq (get_or image 0 0) seal) [
        | inl mark ↦ kept_at at old image told (place told) agrees mark
        | inr other ↦ inl (not_sealed image other)
      ];
}

-- the first byte of what was read
pub read_first : (bytes out : List ℕ) → length out ≡ 1 → field bytes 0 (length out) ≡ out
    → get_or out 0 0 ≡ get_or bytes 0 0
read_first bytes out one is =
    ap (λ (l : List ℕ). get_or l 0 0) (sym is) ∙ get_or-take (length out) bytes 0 0 (omega arith)

-- the place over the seal, or beside it, by the byte that was read
pub place_by_read : (at : ℕ) (bytes out : List ℕ) → length out ≡ 1
    → field bytes 0 (length out) ≡ out → at ≡ cond (eqb (get_or out 0 0) seal) 0 1
    → at ≡ cond (eqb (get_or bytes 0 0) seal) 0 1
place_by_read at bytes out one is place =
    place ∙ ap (λ (b : ℕ). cond (eqb b seal) 0 1) (read_first bytes out one is)

-- ---- an unsealed slot

-- each image is unsealed
pub underway_unsealed : (n : ℕ) (old new : Region) → IsUnderway n new → KeepsSlots slot_of old new
underway_unsealed n old new underway = record {
  each = λ image is. inl (not_sealed image (λ mark.
      underway.unsealed is.told (sym (is.same 0 (underway.clean is.told)) ∙ mark)));
}

-- ---- sealing

pub sealing : (s : HeldSlot) (old new : Region) → IsStable old
    → (old.told ≡ true → IsReceived s old.bytes) → Writes 0 1 old new → KeepsOrSeals slot_of s old new
sealing s old new stable received writes = record {
  each = λ image is.
      let told : old.told ≡ true = sym writes.told ∙ is.told in
      elim (cases_eq (get_or image 0 0) seal) [
        | inl mark ↦ inr (received_sealed s old.bytes image (received told)
            (image_of_write 0 1 old new image stable writes is) mark)
        | inr other ↦ inl (inl (not_sealed image other))
      ];
}

pub seals_then_sync : (s : HeldSlot) (old mid new : Region) → KeepsOrSeals slot_of s old mid
    → Syncs mid new → KeepsOrSeals slot_of s old new
seals_then_sync s old mid new seals syncs =
    record { each = λ image is. seals.each image (image_of_sync mid new image syncs is) }

first_byte : (bytes : List ℕ) (b : ℕ) → field bytes 0 1 ≡ b ∷ [] → get_or bytes 0 0 ≡ b
first_byte [] b is = cc
first_byte (x ∷ bytes) b is = cc

pub sealed : (s : HeldSlot) (old mid new : Region) → IsStable old
    → (old.told ≡ true → IsReceived s old.bytes) → Writes 0 1 old mid → ReadsAs 0 (seal ∷ []) mid
    → Syncs mid new → IsStable new → IsDurable slot_of s new
sealed s old mid new stable received writes reads syncs clean = record {
  stable = clean;
  each = λ image is.
      let told_mid : mid.told ≡ true = sym syncs.told ∙ is.told in
      let told : old.told ≡ true = sym writes.told ∙ told_mid in
      let same : image ≡ mid.bytes = image_of_stable new image clean is ∙ syncs.bytes in
      let mark : get_or mid.bytes 0 0 ≡ seal = first_byte mid.bytes seal (reads told_mid) in
      ap slot_of same ∙ received_sealed s old.bytes mid.bytes (received told) (writes.rest told) mark;
}

-- ---- the payload

-- one piece more behind those that stand
pub field_more : (at taken : ℕ) (old new piece : List ℕ)
    → AgreesOutside (at + taken) (length piece) old new
    → field new (at + taken) (length piece) ≡ piece
    → field new at (taken + length piece) ≡ field old at taken ++ piece
field_more at taken old new piece agrees reads =
    let front : take (at + taken) new ≡ take (at + taken) old =
    agrees_front (at + taken) (length piece) old new agrees in
    let so_far : take taken (drop at new) ≡ take taken (drop at old) =
    sym (drop-take at taken new) ∙ ap (λ (l : List ℕ). drop at l) front ∙ drop-take at taken old in
    let next : field (drop at new) taken (length piece) ≡ piece =
    ap (λ (l : List ℕ). take (length piece) l) (drop-drop taken at new) ∙ reads in
    sym (take_field (drop at new) taken (length piece))
    ∙ ap₂ (λ (a b : List ℕ). a ++ b) so_far next
