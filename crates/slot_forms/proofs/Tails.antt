-- What a slot with a tail keeps of what a slot with one bank is.
use Rattle.std.proofs.Common.{◌≡◌, ℕ, ◌+◌, ◌≤◌, Bool, true, false, List, length, Option, None}
use Rattle.std.proofs.Common.{Some, nat_le}
use Rattle.std.proofs.Common.{Result, Ok, Err, cond, sym, ap, ◌∙◌, refl, arith, inl, inr}
use Rattle.std.proofs.lemmas.Bool.{le-leb}
use Rattle.bench_model.specs.Regions.{Region, IsImage}
use Rattle.bench_model.specs.declared.outside_limits.TheConstants.{SLOT_LEAD}
use Rattle.fmp_slot.specs.declared.faults.SlotFault.{SlotFault}
use Rattle.fmp_slot.specs.declared.faults.SlotFault.TheVariants.{Flash, TooLarge, Apart}
use Rattle.fmp_slot.specs.declared.slot.Slot.TheVariants.{Sealed}
use Rattle.fmp_slot.specs.declared.slot.SlotHead.{SlotHead}
use Rattle.fmp_slot.specs.Held.{HeldSlot, IsKept, KeepsSlots, KeepsOrSeals, IsDurable, shown}
use Rattle.fmp_slot.specs.Layout.{slot_of}
use Rattle.fmp_slot.specs.Refusals.{StartsWithin}
use Rattle.slot_forms.specs.declared.tailed.TheConstants.{TAIL}
use Rattle.slot_forms.specs.Tailed.{tailed_slot, slot_within, look_within, room_of}

-- a look at a slot within its room is the look within the room
pub shown_within : (room : ℕ) (slot : Option HeldSlot)
    → look_within room (shown slot) ≡ shown (slot_within room slot)
shown_within room None = refl
shown_within room (Some s) = by_test (nat_le s.head.length room)
  where
    by_test : (b : Bool) → cond b (shown (Some s)) (shown None) ≡ shown (cond b (Some s) None)
    by_test true = refl
    by_test false = refl

sealed_either : (b : Bool) (s : HeldSlot) (head : SlotHead)
    → shown (cond b (Some s) None) ≡ Sealed head → cond b (Some s) None ≡ Some s
sealed_either true s head is = refl
sealed_either false s head is = absurd cc

-- a slot that is sealed within the room is the slot
pub sealed_alike : (room : ℕ) (slot : Option HeldSlot) (head : SlotHead)
    → shown (slot_within room slot) ≡ Sealed head → slot_within room slot ≡ slot
sealed_alike room None head is = refl
sealed_alike room (Some s) head is = sealed_either (nat_le s.head.length room) s head is

-- an image has the length of the bytes as read, so it has the room of them
tailed_as : (region : Region) (image : List ℕ) → IsImage region image
    → tailed_slot image ≡ slot_within (room_of (length region.bytes)) (slot_of image)
tailed_as region image is =
    ap (λ (n : ℕ). slot_within (room_of n) (slot_of image)) is.long

kept_within : (old new : Region) (image : List ℕ) → length new.bytes ≡ length old.bytes
    → IsImage new image → IsKept slot_of old image → IsKept tailed_slot old image
kept_within old new image long is (inl none) =
    inl (ap (λ (o : Option HeldSlot). slot_within (room_of (length image)) o) none)
kept_within old new image long is (inr h) = inr (record {
  image = h.image;
  is = h.is;
  same = tailed_as old h.image h.is
      ∙ ap (λ (n : ℕ). slot_within (room_of n) (slot_of h.image)) (sym (is.long ∙ long))
      ∙ ap (λ (o : Option HeldSlot). slot_within (room_of (length image)) o) h.same;
})

pub keeps_within : (old new : Region) → length new.bytes ≡ length old.bytes
    → KeepsSlots slot_of old new → KeepsSlots tailed_slot old new
keeps_within old new long keeps = record {
  each = λ image is. kept_within old new image long is (keeps.each image is);
}

-- a slot within its room is itself
itself : (room : ℕ) (s : HeldSlot) → s.head.length ≤ room → slot_within room (Some s) ≡ Some s
itself room s fits = ap (λ (b : Bool). cond b (Some s) None) (le-leb s.head.length room fits)

sealed_within : (s : HeldSlot) (region : Region) (image : List ℕ) → IsImage region image
    → SLOT_LEAD + TAIL + s.head.length ≤ length region.bytes → slot_of image ≡ Some s
    → tailed_slot image ≡ Some s
sealed_within s region image is fits sealed =
    tailed_as region image is
    ∙ ap (λ (o : Option HeldSlot). slot_within (room_of (length region.bytes)) o) sealed
    ∙ itself (room_of (length region.bytes)) s (omega arith)

pub seals_within : (s : HeldSlot) (old new : Region) → length new.bytes ≡ length old.bytes
    → SLOT_LEAD + TAIL + s.head.length ≤ length old.bytes
    → KeepsOrSeals slot_of s old new → KeepsOrSeals tailed_slot s old new
seals_within s old new long fits seals = record {
  each = λ image is. elim (seals.each image is) [
    | inl kept ↦ inl (kept_within old new image long is kept)
    | inr sealed ↦ inr (sealed_within s new image is (omega arith) sealed)
  ];
}

pub durable_within : (s : HeldSlot) (region : Region)
    → SLOT_LEAD + TAIL + s.head.length ≤ length region.bytes
    → IsDurable slot_of s region → IsDurable tailed_slot s region
durable_within s region fits durable = record {
  stable = durable.stable;
  each = λ image is. sealed_within s region image is fits (durable.each image is);
}

-- a payload that has its room before the tail starts within it
pub starts_within : {T : Type 0} (c n : ℕ) (r : Result T SlotFault) → n ≤ c
    → StartsWithin (TAIL + c) n r → StartsWithin c n r
starts_within c n (Ok x) fits h = fits
starts_within c n (Err Flash) fits h = fits
starts_within c n (Err TooLarge) fits h = absurd (omega (arith, h))
starts_within c n (Err (Apart at wrote read)) fits h = h
