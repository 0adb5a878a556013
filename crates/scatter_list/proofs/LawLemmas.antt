-- The laws of scatter lists.
use Rattle.std.proofs.Common.{◌≡◌, ℕ, zero, suc, ◌+◌, ◌%◌, ◌<◌, ◌≤◌, Bool, true, false, cond}
use Rattle.std.proofs.Common.{List, length, Option, Some, None, Ok, Err, is_some, IsSome, refl}
use Rattle.std.proofs.Common.{sym, ap, ◌∙◌, arith, inl, inr, subst}
use Rattle.std.specs.Option.{option_or}
use Rattle.std.proofs.lemmas.Bool.{cases_lt}
use Rattle.cu_base.specs.Refusals.{first_refusal}
use Rattle.cu_base.specs.declared.limits.TheConstants.{MAX_CAPSULE_BYTES}
use Rattle.bench_model.specs.declared.segment.Segment.{Segment}
use Rattle.scatter_list.specs.Coalesced.{coalesce_refusal, coalesced, coalesced_of, joined_by}
use Rattle.scatter_list.specs.Laid.{IsLaid, laid_count}
use Rattle.scatter_list.specs.Walk.{first_outcome, is_passed, address, tests, walk}
use Rattle.scatter_list.specs.declared.faults.CoalesceFault.{CoalesceFault}
use Rattle.scatter_list.specs.declared.faults.ShapeFault.{ShapeFault}
use Rattle.scatter_list.specs.declared.limits.TheConstants.{MAX_DESCRIPTORS}
use Rattle.scatter_list.specs.declared.told.Shape.{Shape}
use Rattle.scatter_list.proofs.BlockLemmas.{refused_within}
use Rattle.scatter_list.proofs.LaidLemmas.{gives_back}

some_or : {R : Type 0} (o later : Option R) → IsSome later → IsSome (option_or o later)
some_or None later some = some
some_or (Some x) later some = refl

some_first : {R : Type 0} (a : Bool) (x y : R) → IsSome (cond a (Some x) (Some y))
some_first true x y = refl
some_first false x y = refl

-- at the last index a test holds
last_tells : (memory : List Segment) (root : ℕ)
    → IsSome (first_refusal (tests memory root MAX_DESCRIPTORS))
last_tells memory root =
    some_first (is_passed memory root (address memory root MAX_DESCRIPTORS) MAX_DESCRIPTORS) _ _

or_some : {R : Type 0} (o later : Option R) → IsSome o → IsSome (option_or o later)
or_some None later some = absurd cc
or_some (Some x) later some = refl

some_outcome : (memory : List Segment) (root n start : ℕ) → 0 < n
    → start + n ≡ MAX_DESCRIPTORS + 1 → IsSome (first_outcome memory root n start)
unfolding first_outcome
some_outcome memory root zero start some is = let no : ⊥ = omega arith in absurd no
some_outcome memory root (suc n) start some is = elim (cases_lt 0 n) [
  | inl more ↦
      some_or (first_refusal (tests memory root start)) (first_outcome memory root n (suc start))
      (some_outcome memory root n (suc start) more (omega arith))
  | inr none ↦
      let last : MAX_DESCRIPTORS ≡ start = omega arith in
      or_some (first_refusal (tests memory root start)) (first_outcome memory root n (suc start))
      (subst (λ i. IsSome (first_refusal (tests memory root i))) last (last_tells memory root))
]

pub some_walk : (memory : List Segment) (root : ℕ) → IsSome (walk memory root)
unfolding walk
some_walk memory root = some_outcome memory root (MAX_DESCRIPTORS + 1) 0 (omega arith) (omega arith)

pub joined_is : (memory : List Segment) (s : Shape) → walk memory s.root ≡ Some (Ok s)
    → coalesce_refusal memory s MAX_CAPSULE_BYTES ≡ None
    → coalesced_of memory s.root ≡ Some (coalesced memory s)
joined_is memory s walked none =
    ap (joined_by memory MAX_CAPSULE_BYTES) walked
    ∙ ap (λ o. cond (is_some o) None (Some (coalesced memory s))) none

pub unjoined_is : (memory : List Segment) (s : Shape) (why : CoalesceFault)
    → walk memory s.root ≡ Some (Ok s)
    → coalesce_refusal memory s MAX_CAPSULE_BYTES ≡ Some why → coalesced_of memory s.root ≡ None
unjoined_is memory s why walked is =
    ap (joined_by memory MAX_CAPSULE_BYTES) walked
    ∙ ap (λ o. cond (is_some o) None (Some (coalesced memory s))) is

pub shapeless_is : (memory : List Segment) (root : ℕ) (why : ShapeFault)
    → walk memory root ≡ Some (Err why) → coalesced_of memory root ≡ None
shapeless_is memory root why walked = ap (joined_by memory MAX_CAPSULE_BYTES) walked

pub laid_joined : (memory : List Segment) (root base : ℕ) (bytes : List ℕ) (block : ℕ)
    → 0 < block → root % 8 ≡ 0 → laid_count (length bytes) block ≤ MAX_DESCRIPTORS
    → IsLaid memory root base bytes block → length bytes ≤ MAX_CAPSULE_BYTES
    → coalesced_of memory root ≡ Some bytes
laid_joined memory root base bytes block some aligned few laid small =
    let gives = gives_back memory root base bytes block some aligned few laid in
    let s : Shape = record {
      root = root;
      descriptors = laid_count (length bytes) block;
      total = length bytes;
    } in
    joined_is memory s (gives.walked ∙ ap (λ t. Some (Ok t)) gives.is)
    (refused_within memory s MAX_CAPSULE_BYTES None small gives.whole)
    ∙ ap (λ b. Some b) (ap (coalesced memory) (sym gives.is) ∙ gives.gives)
