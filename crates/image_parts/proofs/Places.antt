-- The place of a refused section lies within its bytes.
use Rattle.std.proofs.Common.{◌≡◌, ℕ, zero, suc, ◌+◌, ◌-◌, ◌≤◌, List, [], ◌∷◌, ◌++◌, length, take}
use Rattle.std.proofs.Common.{map, Some, inl, inr, ap, subst, ◌∙◌, arith}
use Rattle.std.specs.List.{range_with_len, AllByRecursion}
use Rattle.std.proofs.lemmas.List.{length-append}
use Rattle.cu_base.specs.Refusals.{Row, first_refusal}
use Rattle.cu_base.proofs.Rows.{of_each}
use Rattle.dep_code.specs.declared.op.Op.{Op}
use Rattle.dep_code.specs.declared.op.Op.TheVariants.{End}
use Rattle.dep_code.specs.declared.fault.DepFault.{DepFault}
use Rattle.dep_code.specs.declared.fault.DepRefusal.{DepRefusal}
use Rattle.dep_code.specs.declared.fault.DepRefusal.TheVariants.{Dep}
use Rattle.dep_code.specs.declared.fault.DepWhy.{DepWhy}
use Rattle.dep_code.specs.Operations.{op_bytes, section_bytes}
use Rattle.dep_code.specs.Refusals.{BreaksOff, EndsWrong, IsRefused, IsRefusalOf, place_rows}
use Rattle.dep_code.specs.Refusals.{section_rows, type_row}
use Rattle.dep_code.proofs.Fronts.{bytes_push}

-- a place of at most n
abbrev UpTo : {W : Type 0} → ℕ → ℕ × W → Type 0
UpTo n refusal = refusal.0 ≤ n

-- the row tells a place of at most n
abbrev TellsWithin : {W : Type 0} → ℕ → Row (ℕ × W) → Type 0
TellsWithin n r = UpTo n r.refusal

told_within : {W : Type 0} (n : ℕ) (rows : List (Row (ℕ × W))) (at : ℕ) (why : W)
    → AllByRecursion (TellsWithin n) rows → first_refusal rows ≡ Some (at, why) → at ≤ n
told_within n rows at why all e = of_each (UpTo n) rows (at, why) all e

all_within : {W : Type 0} (n : ℕ) (f : ℕ → Row (ℕ × W)) (tail : List (Row (ℕ × W))) (a size : ℕ)
    → ((k : ℕ) → (f k).refusal.0 ≤ n) → AllByRecursion (TellsWithin n) tail
    → AllByRecursion (TellsWithin n) (map f (range_with_len a size) ++ tail)
all_within n f tail a zero each last = last
all_within n f tail a (suc size) each last = (each a, all_within n f tail (a + 1) size each last)

front_within : (ops : List Op) (k : ℕ)
    → length (section_bytes (take k ops)) ≤ length (section_bytes ops)
front_within [] zero = omega arith
front_within [] (suc k) = omega arith
front_within (op ∷ ops) zero = omega arith
front_within (op ∷ ops) (suc k) =
    omega (
      arith,
      front_within ops k,
      length-append (op_bytes op) (section_bytes ops),
      length-append (op_bytes op) (section_bytes (take k ops)),
    )

breaks_within : (bytes : List ℕ) (at : ℕ) (why : DepWhy) → BreaksOff bytes at why
    → at ≤ length bytes
breaks_within bytes at why h =
    let n = length (section_bytes h.ops) in
    let same : n ≤ n = omega arith in
    let within : at ≤ n = told_within n (place_rows h.rest n) at why
    (same, (same, (same, (same, (same, (same, tt)))))) h.refused in
    omega (arith, within, ap length h.front.whole, length-append (section_bytes h.ops) h.rest)

ends_within : (bytes : List ℕ) (at : ℕ) (why : DepWhy) → EndsWrong bytes at why → at ≤ length bytes
ends_within bytes at why h =
    let ops = h.before ++ End ∷ [] in
    let end = section_bytes (End ∷ []) in
    let n = length (section_bytes ops) in
    let size : n ≡ length (section_bytes h.before) + 1 =
    ap length (bytes_push h.before End) ∙ length-append (section_bytes h.before) (op_bytes End) in
    let one : 1 ≤ n = omega (arith, size) in
    let within : at ≤ n = told_within n (section_rows ops) at why (
      one,
      all_within n (type_row ops) _ 0 (length ops) (front_within ops)
          (front_within ops (length ops - 1), tt),
    ) h.refused in
    omega (
      arith,
      within,
      size,
      ap length h.front.whole,
      length-append (section_bytes h.before) (end ++ h.rest),
      length-append end h.rest,
    )

place_within : (bytes : List ℕ) (at : ℕ) (why : DepWhy) → IsRefused bytes at why → at ≤ length bytes
place_within bytes at why (inl h) = breaks_within bytes at why h
place_within bytes at why (inr h) = ends_within bytes at why h

pub fault_within : (bytes : List ℕ) (refusal : DepRefusal) (fault : DepFault)
    → IsRefusalOf refusal bytes → refusal ≡ Dep fault → fault.at ≤ length bytes
fault_within bytes refusal fault h same =
    place_within bytes fault.at fault.why (subst (λ (r : DepRefusal). IsRefusalOf r bytes) same h)
