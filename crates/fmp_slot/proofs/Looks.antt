-- What the first bytes of a region tell of its slot, and what its section reads as.
use Rattle.std.proofs.Common.{◌≡◌, ℕ, ◌+◌, ◌-◌, ◌<◌, ◌≤◌, Bool, true, false, cond, List, length, get_or, take}
use Rattle.std.proofs.Common.{drop, None, Some, refl, sym, ap, ◌∙◌, arith}
use Rattle.std.proofs.lemmas.List.{drop-take, take-take, get_or-take}
use Rattle.cu_base.specs.Fields.{field, number_at}
use Rattle.bench_model.specs.declared.outside_limits.TheConstants.{SLOT_LEAD}
use Rattle.fmp_slot.specs.declared.slot.Slot.TheVariants.{Sealed, Unsealed}
use Rattle.fmp_slot.specs.declared.slot.SlotHead.{SlotHead}
use Rattle.fmp_slot.specs.Held.{HeldSlot, held, shown, IsHeldDep}
use Rattle.fmp_slot.specs.Layout.{slot_of, slot_shown, is_sealed, head_of, dep_length_of}

-- a field of a front is that of the whole
front_field : (bytes : List ℕ) (at n : ℕ) → at + n ≤ 64
    → take n (drop at (take 64 bytes)) ≡ take n (drop at bytes)
front_field bytes at n within =
    let whole : 64 ≡ at + (64 - at) = omega arith in
    ap (λ (k : ℕ). take n (drop at (take k bytes))) whole
    ∙ ap (λ (l : List ℕ). take n l) (drop-take at (64 - at) bytes)
    ∙ take-take n (64 - at) (drop at bytes) (omega arith)

front_byte : (bytes : List ℕ) (k : ℕ) → k < 64 → get_or (take 64 bytes) k 0 ≡ get_or bytes k 0
front_byte bytes k within = get_or-take 64 bytes k 0 within

front_shown : (room : ℕ) (bytes : List ℕ) → slot_shown room (take 64 bytes) ≡ slot_shown room bytes
front_shown room bytes = rw (
  front_byte bytes 0 (omega arith),
  front_field bytes 1 3 (omega arith),
  front_field bytes 4 4 (omega arith),
  front_byte bytes 8 (omega arith),
  front_byte bytes 9 (omega arith),
  front_byte bytes 10 (omega arith),
  front_field bytes 16 8 (omega arith),
  front_field bytes 24 4 (omega arith),
  front_field bytes 28 4 (omega arith),
  front_field bytes 32 4 (omega arith),
  front_field bytes 36 4 (omega arith),
) refl

shown_either : (t : Bool) (s : HeldSlot)
    → cond t (Sealed s.head) Unsealed ≡ shown (cond t (Some s) None)
shown_either true s = refl
shown_either false s = refl

abbrev slot_in : List ℕ → HeldSlot
slot_in bytes =
    held (head_of bytes) (field bytes 64 (dep_length_of bytes))
    (field bytes SLOT_LEAD (number_at bytes 32 4))

pub look_value : (bytes out : List ℕ) → length out ≡ 64 → field bytes 0 (length out) ≡ out
    → slot_shown (length bytes - SLOT_LEAD) out ≡ shown (slot_of bytes)
look_value bytes out long reads =
    let is : take 64 bytes ≡ out = ap (λ (k : ℕ). take k bytes) (sym long) ∙ reads in
    ap (slot_shown (length bytes - SLOT_LEAD)) (sym is)
    ∙ front_shown (length bytes - SLOT_LEAD) bytes
    ∙ shown_either (is_sealed (length bytes - SLOT_LEAD) bytes) (slot_in bytes)

dep_either : (t : Bool) (s : HeldSlot) (head : SlotHead) (bytes out : List ℕ)
    → shown (cond t (Some s) None) ≡ Sealed head → s.dep ≡ field bytes 64 s.head.dep_length
    → length out ≡ head.dep_length → field bytes 64 (length out) ≡ out
    → IsHeldDep out (cond t (Some s) None)
dep_either false s head bytes out is dep long reads = absurd cc
dep_either true s head bytes out is dep long reads =
    let same : s.head ≡ head = cc in
    let count : length out ≡ s.head.dep_length =
    long ∙ ap (λ (h : SlotHead). h.dep_length) (sym same) in
    sym reads ∙ ap (λ (k : ℕ). field bytes 64 k) count ∙ sym dep

pub dep_value : (head : SlotHead) (bytes out : List ℕ) → shown (slot_of bytes) ≡ Sealed head
    → length out ≡ head.dep_length → field bytes 64 (length out) ≡ out
    → IsHeldDep out (slot_of bytes)
dep_value head bytes out is long reads =
    dep_either (is_sealed (length bytes - SLOT_LEAD) bytes) (slot_in bytes) head bytes out is refl long
    reads
