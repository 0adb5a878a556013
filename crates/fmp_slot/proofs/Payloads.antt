-- Bytes that were read as others, by the place of a piece in its payload.
use Rattle.std.proofs.Common.{◌≡◌, ℕ, ◌+◌, ◌-◌, ◌<◌, ◌≤◌, Bool, List, length, get_or, take, drop}
use Rattle.std.proofs.Common.{Result, Ok, Err, sym, ap, ◌∙◌, arith, inl, inr, length-take, length-drop}
use Rattle.std.proofs.lemmas.List.{get_or-take, get_or-drop}
use Rattle.bench_model.specs.declared.outside_limits.TheConstants.{SLOT_LEAD}
use Rattle.fmp_slot.specs.declared.faults.SlotFault.{SlotFault}
use Rattle.fmp_slot.specs.declared.faults.SlotFault.TheVariants.{Flash, TooLarge, Apart}
use Rattle.fmp_slot.specs.Held.{HeldSlot}
use Rattle.fmp_slot.specs.Layout.{front_bytes}
use Rattle.fmp_slot.specs.Refusals.{FinishesAt, IsByteAt, ReadsBack, SetsWithin}
use Rattle.fmp_slot.specs.Writing.{Places}

byte_of_part : (from at n place wrote : ℕ) (payload : List ℕ)
    → IsByteAt (from + at) (take n (drop at payload)) place wrote → IsByteAt from payload place wrote
byte_of_part from at n place wrote payload h =
    let size : length (take n (drop at payload)) ≤ n =
    omega (arith, length-take n (drop at payload)) in
    let within : length (take n (drop at payload)) ≤ length payload - at =
    omega (arith, length-take n (drop at payload), length-drop at payload) in
    let low = h.low in
    let high = h.high in
    let k = place - (from + at) in
    let below : k < n = omega arith in
    let same : place - from ≡ at + k = omega arith in
    record {
      low = omega arith;
      high = omega arith;
      is = h.is ∙ get_or-take n (drop at payload) k 0 below ∙ get_or-drop at payload k 0
          ∙ ap (λ (i : ℕ). get_or payload i 0) (sym same);
    }

-- a byte of a piece is one of the payload
pub reads_back_part : (told : Bool) (from at n : ℕ) (payload : List ℕ) (r : Result Unit SlotFault)
    → ReadsBack told (from + at) (take n (drop at payload)) r → ReadsBack told from payload r
reads_back_part told from at n payload (Ok x) h = tt
reads_back_part told from at n payload (Err Flash) h = tt
reads_back_part told from at n payload (Err TooLarge) h = h
reads_back_part told from at n payload (Err (Apart place wrote read)) h = record {
  untold = h.untold;
  written = byte_of_part from at n place wrote payload h.written;
  other = h.other;
}

-- ---- the calls of a whole slot

pub finishes_by_piece : (told : Bool) (p : Places) (payload : List ℕ) (r : Result Unit SlotFault)
    → ReadsBack told p.payload_at payload r → FinishesAt told p payload r
finishes_by_piece told p payload (Ok x) h = h
finishes_by_piece told p payload (Err Flash) h = h
finishes_by_piece told p payload (Err TooLarge) h = h
finishes_by_piece told p payload (Err (Apart at wrote read)) h = inr h

pub finishes_by_front : (told : Bool) (p : Places) (payload : List ℕ) (r : Result Unit SlotFault)
    → ReadsBack told p.front_at p.front r → FinishesAt told p payload r
finishes_by_front told p payload (Ok x) h = h
finishes_by_front told p payload (Err Flash) h = h
finishes_by_front told p payload (Err TooLarge) h = h
finishes_by_front told p payload (Err (Apart at wrote read)) h = inl h

-- where one bank writes
pub sets_by_finish : (capacity : ℕ) (told : Bool) (s : HeldSlot) (r : Result Unit SlotFault)
    → length s.payload ≤ capacity
    → FinishesAt told (record
    { front_at = 1; front = front_bytes s.head s.dep; payload_at = SLOT_LEAD }) s.payload r
    → SetsWithin capacity told s r
sets_by_finish capacity told s (Ok x) fits h = fits
sets_by_finish capacity told s (Err Flash) fits h = fits
sets_by_finish capacity told s (Err TooLarge) fits h = absurd h
sets_by_finish capacity told s (Err (Apart at wrote read)) fits h = (fits, h)
