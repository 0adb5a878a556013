-- The front of a slot behind its seal, and what stands once it was written.
use Rattle.std.proofs.Common.{◌≡◌, ℕ, ◌+◌, ◌-◌, ◌≤◌, true, List, ◌∷◌, length, take, drop, sym}
use Rattle.std.proofs.Common.{ap, subst, ◌∙◌, arith}
use Rattle.std.proofs.lemmas.List.{drop-take}
use Rattle.cu_base.specs.Fields.{field}
use Rattle.cu_base.proofs.Fields.{length-field}
use Rattle.bench_model.specs.Regions.{Region, AgreesOutside}
use Rattle.bench_model.specs.declared.outside_limits.TheConstants.{SLOT_LEAD}
use Rattle.bench_model.proofs.ImageLemmas.{agrees_back}
use Rattle.fmp_slot.specs.declared.limits.TheConstants.{MAX_KEPT_SECTION}
use Rattle.fmp_slot.specs.declared.slot.SlotHead.{SlotHead}
use Rattle.fmp_slot.specs.Held.{held}
use Rattle.fmp_slot.specs.Layout.{IsSlotHead, front_bytes}
use Rattle.fmp_slot.specs.Writing.{HasFront, IsReceived, payload_so_far}
use Rattle.fmp_slot.proofs.Received.{wider}

-- what stands behind the byte in place of the seal
pub front_written : (laid kept : List ℕ) (h : SlotHead) (n : ℕ) → length kept ≡ n
    → take (64 + length kept) laid ≡ 0 ∷ front_bytes h kept
    → take (64 + n - 1) (drop 1 laid) ≡ front_bytes h kept
front_written laid kept h n long is =
    let count : 64 + n - 1 ≡ 63 + length kept = omega arith in
    let whole : 64 + length kept ≡ 1 + (63 + length kept) = omega arith in
    ap (λ (k : ℕ). take k (drop 1 laid)) count
    ∙ sym (drop-take 1 (63 + length kept) laid)
    ∙ ap (λ (k : ℕ). drop 1 (take k laid)) (sym whole)
    ∙ ap (λ (l : List ℕ). drop 1 l) is

pub received_by_front : (h : SlotHead) (dep front : List ℕ) (taken : ℕ) (old new : Region)
    → IsSlotHead h → h.dep_length ≡ length dep → length dep ≤ MAX_KEPT_SECTION → taken ≡ h.length
    → SLOT_LEAD + taken ≤ length old.bytes → length new.bytes ≡ length old.bytes
    → front ≡ front_bytes h dep → HasFront front old new → new.told ≡ true
    → IsReceived (held h dep (payload_so_far taken old.bytes)) new.bytes
received_by_front h dep front taken old new widths dep_length section whole room long is has told =
    let size : length (front_bytes h dep) ≡ 63 + length dep = omega arith in
    let short : length front ≤ 8191 = omega (arith, ap length is) in
    let agrees : AgreesOutside 1 8191 old.bytes new.bytes =
    wider 1 (length front) 8191 old.bytes new.bytes short (has.others told) in
    let all : length (payload_so_far taken old.bytes) ≡ taken =
    length-field old.bytes SLOT_LEAD taken room in
    let same : payload_so_far taken new.bytes ≡ payload_so_far taken old.bytes =
    ap (λ (l : List ℕ). take taken l) (agrees_back 1 8191 old.bytes new.bytes agrees) in
    record {
      unsealed = has.unsealed told;
      front = subst (λ (f : List ℕ). field new.bytes 1 (length f) ≡ f) is (has.stands told);
      payload = ap (λ (k : ℕ). field new.bytes SLOT_LEAD k) all ∙ same;
      room = omega (arith, all);
      payload_length = sym whole ∙ sym all;
      dep_length = dep_length;
      section = section;
      widths = widths;
    }
