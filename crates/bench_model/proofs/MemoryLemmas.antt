-- Memory within its limits has no byte at the last address or behind it.
use Rattle.std.proofs.Common.{◌≡◌, ℕ, suc, ◌+◌, ◌-◌, ◌^◌, ◌<◌, ◌≤◌, List, [], ◌∷◌, length, fold}
use Rattle.std.proofs.Common.{All, Option, None, refl, ap, ◌∙◌, arith, false, nat_lt}
use Rattle.std.specs.Option.{option_or}
use Rattle.std.proofs.lemmas.Bool.Decides.{nat_tests}
use Rattle.bench_model.specs.declared.segment.Segment.{Segment}
use Rattle.bench_model.specs.Memory.{byte_of, byte_at, EndsBelow, IsLacking}

no_byte : (s : Segment) (address : ℕ) → EndsBelow s → 2 ^ 64 - 1 ≤ address
    → byte_of address s ≡ None
no_byte s address ends behind =
    let past : nat_lt address (s.address + length s.bytes) ≡ false = grind (arith, nat_tests) in
    rw past (grind (arith, nat_tests))

pub byte_at-behind : (memory : List Segment) (address : ℕ) → All EndsBelow memory
    → 2 ^ 64 - 1 ≤ address → byte_at memory address ≡ None
byte_at-behind [] address each behind = refl
byte_at-behind (s ∷ rest) address each behind =
    ap (λ (found : Option ℕ). fold (λ found s. option_or (byte_of address s) found) found rest)
    (ap (λ (b : Option ℕ). option_or b None) (no_byte s address (each 0 s (omega arith)) behind))
    ∙ byte_at-behind rest address (λ k d within. each (suc k) d (omega arith)) behind

pub lacking_last : (memory : List Segment) (at n : ℕ) → All EndsBelow memory → at < 2 ^ 64
    → 2 ^ 64 - 1 - at < n → IsLacking memory at n
lacking_last memory at n each fits more = record {
  place = 2 ^ 64 - 1 - at;
  within = more;
  gone = byte_at-behind memory (at + (2 ^ 64 - 1 - at)) each (omega arith);
}

pub lacking_at : (memory : List Segment) (at place end : ℕ) → at ≤ place → place < end
    → byte_at memory place ≡ None → IsLacking memory at (end - at)
lacking_at memory at place end low high gone =
    let is : at + (place - at) ≡ place = omega arith in
    record { place = place - at; within = omega arith; gone = ap (byte_at memory) is ∙ gone }
