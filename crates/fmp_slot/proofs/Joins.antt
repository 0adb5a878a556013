-- What calls on a slot of any form join to.
use Rattle.std.proofs.Common.{◌≡◌, ℕ, ◌+◌, ◌-◌, ◌%◌, ◌<◌, ◌≤◌, Bool, true, List, ◌++◌, length}
use Rattle.std.proofs.Common.{take, drop, Option, None, Some, Result, Ok, Err, OnOk, refl, sym, ap}
use Rattle.std.proofs.Common.{subst, ◌∙◌, arith, inl, inr}
use Rattle.cu_base.specs.Causes.{HasCauseOf}
use Rattle.cu_base.proofs.Fields.{take_field}
use Rattle.bench_model.specs.Bench.{BenchValue}
use Rattle.bench_model.specs.Regions.{Region}
use Rattle.fmp_slot.specs.declared.faults.SlotFault.{SlotFault}
use Rattle.fmp_slot.specs.declared.faults.SlotFault.TheVariants.{Flash, TooLarge, Apart}
use Rattle.fmp_slot.specs.declared.limits.TheConstants.{PIECE}
use Rattle.fmp_slot.specs.Held.{HeldSlot, IsKept, KeepsSlots, KeepsOrSeals, IsDurable, held}
use Rattle.fmp_slot.specs.Held.{region_in}
use Rattle.fmp_slot.specs.Refusals.{FailsAlone, ReadsBack}
use Rattle.fmp_slot.specs.Spending.{ChangesSlot, RisesBy, RisesAtMost, Spends, SpendsUpTo}
use Rattle.fmp_slot.specs.Writing.{Writing, more_taken, pieces_of}

-- ---- images

-- what was kept of what was kept is kept
kept_before : (slot_of : List ℕ → Option HeldSlot) (old mid : Region) (image : List ℕ)
    → KeepsSlots slot_of old mid → IsKept slot_of mid image → IsKept slot_of old image
kept_before slot_of old mid image keeps (inl none) = inl none
kept_before slot_of old mid image keeps (inr h) =
    elim (keeps.each h.image h.is) [
      | inl none ↦ inl (sym h.same ∙ none)
      | inr before ↦ inr (record
          { image = before.image; is = before.is; same = before.same ∙ h.same })
    ]

pub keeps_then : (slot_of : List ℕ → Option HeldSlot) (old mid new : Region)
    → KeepsSlots slot_of old mid → KeepsSlots slot_of mid new → KeepsSlots slot_of old new
keeps_then slot_of old mid new first second = record {
  each = λ image is. kept_before slot_of old mid image first (second.each image is);
}

pub keeps_then_seals : (slot_of : List ℕ → Option HeldSlot) (s : HeldSlot) (old mid new : Region)
    → KeepsSlots slot_of old mid → KeepsOrSeals slot_of s mid new → KeepsOrSeals slot_of s old new
keeps_then_seals slot_of s old mid new keeps seals = record {
  each = λ image is. elim (seals.each image is) [
    | inl kept ↦ inl (kept_before slot_of old mid image keeps kept)
    | inr sealed ↦ inr sealed
  ];
}

pub seals_by_keeping : (slot_of : List ℕ → Option HeldSlot) (s : HeldSlot) (old new : Region)
    → KeepsSlots slot_of old new → KeepsOrSeals slot_of s old new
seals_by_keeping slot_of s old new keeps =
    record { each = λ image is. inl (keeps.each image is) }

pub seals_as : (slot_of : List ℕ → Option HeldSlot) (s t : HeldSlot) (old new : Region)
    → (new.told ≡ true → s ≡ t) → KeepsOrSeals slot_of s old new → KeepsOrSeals slot_of t old new
seals_as slot_of s t old new same seals = record {
  each = λ image is. elim (seals.each image is) [
    | inl kept ↦ inl kept
    | inr sealed ↦ inr (sealed ∙ ap Some (same is.told))
  ];
}

pub durable_as : (slot_of : List ℕ → Option HeldSlot) (s t : HeldSlot) (region : Region)
    → (region.told ≡ true → s ≡ t) → IsDurable slot_of s region → IsDurable slot_of t region
durable_as slot_of s t region same durable = record {
  stable = durable.stable;
  each = λ image is. durable.each image is ∙ ap Some (same is.told);
}

-- ---- frames and counts

-- what follows where a call succeeded
pub on_ok : {T E A B : Type 0} (r : Result T E) → (A → B) → OnOk r A → OnOk r B
on_ok (Ok x) f a = f a
on_ok (Err e) f a = tt

pub changes_then : (region : ℕ) (old mid new : BenchValue) → ChangesSlot region old mid
    → ChangesSlot region mid new → ChangesSlot region old new
changes_then region old mid new a b = record {
  others = record {
    told = b.others.told ∙ a.others.told;
    regions = b.others.regions ∙ a.others.regions;
    bytes = λ k other. b.others.bytes k other ∙ a.others.bytes k other;
    dirty = λ k other. b.others.dirty k other ∙ a.others.dirty k other;
    rest = b.others.rest ∙ a.others.rest;
    spare = b.others.spare ∙ a.others.spare;
    orders = b.others.orders ∙ a.others.orders;
  };
  long = b.long ∙ a.long;
}

pub rises_then : (a b n before mid now : ℕ) → n ≡ a + b → RisesBy a before mid → RisesBy b mid now
    → RisesBy n before now
rises_then a b n before mid now sum first second =
    let p = first.least in
    let q = second.least in
    let u = first.most in
    let v = second.most in
    record { least = omega arith; most = omega arith }

pub most_then : (a b n before mid now : ℕ) → a + b ≤ n → RisesAtMost a before mid
    → RisesAtMost b mid now → RisesAtMost n before now
most_then a b n before mid now sum first second =
    let p = first.least in
    let q = second.least in
    let u = first.most in
    let v = second.most in
    record { least = omega arith; most = omega arith }

at_most : (n before now : ℕ) → RisesBy n before now → RisesAtMost n before now
at_most n before now rises =
    let p = rises.least in
    let q = rises.most in
    record { least = omega arith; most = omega arith }

-- so many moves and looks, and then what a last call spends
pub spends_then : {T E : Type 0} (m l moves looks all_moves all_looks : ℕ) (r : Result T E)
    (old mid new : BenchValue) → all_moves ≡ m + moves → all_looks ≡ l + looks
    → RisesBy m old.counts.moves mid.counts.moves → RisesBy l old.counts.looks mid.counts.looks
    → mid.counts.volume_faults ≡ old.counts.volume_faults → Spends moves looks r mid new
    → Spends all_moves all_looks r old new
spends_then m l moves looks all_moves all_looks r old mid new all_m all_l moved looked others last =
    record {
      moved = on_ok r (rises_then m moves all_moves _ _ _ all_m moved) last.moved;
      looked = on_ok r (rises_then l looks all_looks _ _ _ all_l looked) last.looked;
      most_moves = most_then m moves all_moves _ _ _ (omega arith) (at_most m _ _ moved)
          last.most_moves;
      most_looks = most_then l looks all_looks _ _ _ (omega arith) (at_most l _ _ looked)
          last.most_looks;
      others = last.others ∙ others;
    }

-- the same where the first calls made at most so many looks
pub spends_up_to_then : {T E : Type 0} (m l moves looks all_moves all_looks : ℕ) (r : Result T E)
    (old mid new : BenchValue) → all_moves ≡ m + moves → all_looks ≡ l + looks
    → RisesBy m old.counts.moves mid.counts.moves
    → RisesAtMost l old.counts.looks mid.counts.looks
    → mid.counts.volume_faults ≡ old.counts.volume_faults → Spends moves looks r mid new
    → SpendsUpTo all_moves all_looks r old new
spends_up_to_then m l moves looks all_moves all_looks r old mid new all_m all_l moved looked others
    last = record {
      moved = on_ok r (rises_then m moves all_moves _ _ _ all_m moved) last.moved;
      most_moves = most_then m moves all_moves _ _ _ (omega arith) (at_most m _ _ moved) last.most_moves;
      most_looks = most_then l looks all_looks _ _ _ (omega arith) looked last.most_looks;
      others = last.others ∙ others;
    }

pub cause_then : {T : Type 0} (before mid now : ℕ) (r : Result T SlotFault) → before ≤ mid
    → HasCauseOf Flash mid now r → HasCauseOf Flash before now r
cause_then before mid now r later cause = record {
  later = omega (arith, cause.later);
  failed = λ is. let rose = cause.failed is in omega arith;
}

-- ---- refusals

pub back_alone : {T : Type 0} (told : Bool) (from : ℕ) (bytes : List ℕ) (r : Result T SlotFault)
    → FailsAlone r → ReadsBack told from bytes r
back_alone told from bytes (Ok x) h = h
back_alone told from bytes (Err Flash) h = h
back_alone told from bytes (Err TooLarge) h = h
back_alone told from bytes (Err (Apart at wrote read)) h = absurd h

-- ---- pieces

pub pieces_next : (at end : ℕ) → at % PIECE ≡ 0 → at < end → end ≤ at + PIECE
    → pieces_of end ≡ pieces_of at + 1
pieces_next at end cut some most = omega arith

pub taken_then : (at end : ℕ) (payload before : List ℕ) → at ≤ end → before ≡ take at payload
    → before ++ take (end - at) (drop at payload) ≡ take end payload
taken_then at end payload before within is =
    ap (λ (l : List ℕ). l ++ take (end - at) (drop at payload)) is
    ∙ take_field payload at (end - at)
    ∙ ap (λ (k : ℕ). take k payload) (omega arith)

pub writing_then : (now mid first : Writing) (at end n : ℕ) → now ≡ more_taken mid n
    → mid ≡ more_taken first at → at + n ≡ end → now ≡ more_taken first end
writing_then now mid first at end n is before sum =
    is ∙ ap (λ (w : Writing). more_taken w n) before
    ∙ ap (λ (k : ℕ).
    record { device = first.device; head = first.head; dep = first.dep; taken = k })
    (omega arith)

-- ---- a slot as a whole

-- a writer that took more, by what it was when it started
pub since_start : (now mid first : Writing) (n : ℕ) → now ≡ more_taken mid n → mid ≡ first
    → now ≡ more_taken first n
since_start now mid first n more start = more ∙ ap (λ (w : Writing). more_taken w n) start

-- a seal of a writer that has just this device, head and section, and the payload where it is told
pub seals_whole : (slot_of : List ℕ → Option HeldSlot) (w now : Writing) (n : ℕ)
    (payload bytes : List ℕ) (old mid new : BenchValue) → now ≡ more_taken w n
    → (mid.contents.told ≡ true → bytes ≡ payload) → new.contents.told ≡ mid.contents.told
    → KeepsSlots slot_of (region_in w.device old) (region_in w.device mid)
    → KeepsOrSeals slot_of (held now.head now.dep bytes) (region_in now.device mid)
    (region_in now.device new)
    → KeepsOrSeals slot_of (held w.head w.dep payload) (region_in w.device old)
    (region_in w.device new)
seals_whole slot_of w now n payload bytes old mid new done all told keeps sealed =
    let here = subst (λ (u : Writing). KeepsOrSeals slot_of (held u.head u.dep bytes)
    (region_in u.device mid) (region_in u.device new)) done sealed in
    keeps_then_seals slot_of (held w.head w.dep payload) (region_in w.device old)
    (region_in w.device mid) (region_in w.device new) keeps
    (seals_as slot_of (held w.head w.dep bytes) (held w.head w.dep payload) (region_in w.device mid)
    (region_in w.device new)
    (λ is. ap (λ (l : List ℕ). held w.head w.dep l) (all (sym told ∙ is))) here)

pub durable_whole : (slot_of : List ℕ → Option HeldSlot) (w now : Writing) (n : ℕ)
    (payload bytes : List ℕ) (mid new : BenchValue) → now ≡ more_taken w n
    → (mid.contents.told ≡ true → bytes ≡ payload) → new.contents.told ≡ mid.contents.told
    → IsDurable slot_of (held now.head now.dep bytes) (region_in now.device new)
    → IsDurable slot_of (held w.head w.dep payload) (region_in w.device new)
durable_whole slot_of w now n payload bytes mid new done all told sealed =
    let here = subst (λ (u : Writing). IsDurable slot_of (held u.head u.dep bytes)
    (region_in u.device new)) done sealed in
    durable_as slot_of (held w.head w.dep bytes) (held w.head w.dep payload)
    (region_in w.device new)
    (λ is. ap (λ (l : List ℕ). held w.head w.dep l) (all (sym told ∙ is))) here
