-- Capsules that stand back to back to the end of the bytes: one to eight of them.
use Rattle.std.specs.Prelude.{◌≡◌, ℕ, ◌+◌, ◌<◌, ◌≤◌, ◌⊎◌, List, ◌++◌, length, Some}
use Rattle.std.specs.List.{flat_map, AllByRecursion}
use Rattle.capsule_grammar.specs.declared.value.Capsule.{Capsule}
use Rattle.capsule_grammar.specs.declared.refusal.Why.{Why}
use Rattle.capsule_grammar.specs.declared.refusal.Why.TheVariants.{TooManyCapsules}
use Rattle.capsule_grammar.specs.declared.faults.DecodeFault.{DecodeFault}
use Rattle.capsule_grammar.specs.declared.faults.DecodeFault.TheVariants.{Refused, Memory}
use Rattle.capsule_grammar.specs.Fits.{IsCapsule}
use Rattle.capsule_grammar.specs.Refusals.{refusal}
use Rattle.capsule_grammar.specs.Spelling.{spelling}

-- the bytes are the spellings of these capsules, one to eight of them, and nothing more
pub record SpellsAll (capsules : List Capsule) (bytes : List ℕ) : Type 0 where
  pub some : 0 < length capsules
  pub few : length capsules ≤ 8
  pub each : AllByRecursion IsCapsule capsules
  pub whole : flat_map spelling capsules ≡ bytes

-- eight capsules and further bytes, which are refused where they begin
pub record HasOneMore (capsules : List Capsule) (rest : List ℕ) (at : ℕ) (why : Why) : Type 0 where
  pub count : length capsules ≡ 8
  pub more : 0 < length rest
  pub place : at ≡ length (flat_map spelling capsules)
  pub cause : why ≡ TooManyCapsules

-- Fewer than eight capsules, and what stands behind them is refused. Only where no capsule stands
-- before it can it be empty.
pub record HasRefusedRest (capsules : List Capsule) (rest : List ℕ) (at : ℕ)
    (why : Why) : Type 0 where
  pub few : length capsules < 8
  pub more : 0 < length capsules → 0 < length rest
  pub from : ℕ
  pub place : at ≡ length (flat_map spelling capsules) + from
  pub refused : refusal rest ≡ Some (from, why)

-- the bytes are capsules and a rest that is refused, and places count from the start of the bytes
pub record RefusedAll (bytes : List ℕ) (at : ℕ) (why : Why) : Type 0 where
  pub capsules : List Capsule
  pub rest : List ℕ
  pub each : AllByRecursion IsCapsule capsules
  pub whole : flat_map spelling capsules ++ rest ≡ bytes
  pub refused : HasOneMore capsules rest at why ⊎ HasRefusedRest capsules rest at why

-- the fault is this refusal of all bytes, or want of memory, which is free
abbrev pub IsRefusalOfAll : DecodeFault → List ℕ → Type 0
IsRefusalOfAll (Refused r) bytes = RefusedAll bytes r.at r.why
IsRefusalOfAll Memory bytes = Unit {0}
