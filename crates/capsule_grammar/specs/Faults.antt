-- The faults of reading: a refusal, or want of memory.
use Rattle.std.specs.Prelude.{◌≡◌, ℕ, ◌+◌, ◌<◌, Option, None, Some, Result, Ok, Err}
use Rattle.cu_base.specs.Refusals.{IsTold}
use Rattle.capsule_grammar.specs.declared.refusal.Why.{Why}
use Rattle.capsule_grammar.specs.declared.value.Capsule.{Capsule}
use Rattle.capsule_grammar.specs.declared.faults.DecodeFault.{DecodeFault}
use Rattle.capsule_grammar.specs.declared.faults.DecodeFault.TheVariants.{Refused, Memory}

-- the place and the cause that a fault tells; want of memory tells none
abbrev pub told_by : DecodeFault → Option (ℕ × Why)
told_by (Refused r) = Some (r.at, r.why)
told_by Memory = None

-- the fault is this refusal, or want of memory, which is free
abbrev pub IsRefusal : DecodeFault → Option (ℕ × Why) → Type 0
IsRefusal fault refused = IsTold (told_by fault) refused

-- the place that is told is below this
abbrev pub IsBelow : ℕ → DecodeFault → Type 0
IsBelow bound (Refused r) = r.at < bound
IsBelow bound Memory = Unit {0}

-- the same fault, told from this many bytes before
abbrev pub IsBehind : ℕ → DecodeFault → DecodeFault → Type 0
IsBehind before (Refused r) (Refused s) = (s.at ≡ r.at + before) × (s.why ≡ r.why)
IsBehind before Memory Memory = Unit {0}
IsBehind before (Refused r) Memory = ⊥
IsBehind before Memory (Refused s) = ⊥

-- the answer is this capsule and length, or want of memory, which is free
abbrev pub IsFound : Capsule → ℕ → Result (Capsule × ℕ) DecodeFault → Type 0
IsFound capsule size (Ok found) = (found.0 ≡ capsule) × (found.1 ≡ size)
IsFound capsule size (Err (Refused r)) = ⊥
IsFound capsule size (Err Memory) = Unit {0}
