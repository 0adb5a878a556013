-- Data blocks joined one after another.
use Rattle.std.proofs.Common.{◌≡◌, ℕ, zero, suc, ◌+◌, ◌<◌, ◌≤◌, nat_lt, Bool, true, false, cond}
use Rattle.std.proofs.Common.{List, [], ◌++◌, Option, Some, None, option_map, refl, sym, ap, ap₂}
use Rattle.std.proofs.Common.{◌∙◌, add-one, arith, inl, inr, Ok, true≢false}
use Rattle.std.specs.Option.{option_or}
use Rattle.std.proofs.lemmas.Bool.{cases_lt}
use Rattle.std.proofs.lemmas.Bool.Decides.{nat_tests}
use Rattle.bench_model.specs.declared.segment.Segment.{Segment}
use Rattle.scatter_list.specs.Coalesced.{block_of, blocks, lacking_block, first_lacking}
use Rattle.scatter_list.specs.Coalesced.{coalesce_refusal}
use Rattle.scatter_list.specs.Descriptors.{IsDescriptor}
use Rattle.scatter_list.specs.Reads.{is_whole, bytes_from}
use Rattle.scatter_list.specs.Walk.{address, walk}
use Rattle.scatter_list.specs.declared.faults.CoalesceFault.TheVariants.{BlockUnreadable, TooMuch}
use Rattle.scatter_list.specs.declared.told.Shape.{Shape}
use Rattle.scatter_list.proofs.WalkLemmas.{all_whole}
use Rattle.scatter_list.specs.declared.descriptor.Descriptor.{Descriptor}

pub no_blocks : (memory : List Segment) (root : ℕ) → blocks memory root 0 ≡ []
unfolding blocks
no_blocks memory root = refl

pub blocks_step : (memory : List Segment) (root index : ℕ)
    → blocks memory root (index + 1)
    ≡ blocks memory root index ++ block_of memory (address memory root index)
unfolding blocks
blocks_step memory root index = ap (blocks memory root) (add-one index)

-- one block more
pub blocks_more : (memory : List Segment) (root index at : ℕ) (d : Descriptor)
    (out new : List ℕ) → at ≡ address memory root index → IsDescriptor memory at d
    → out ≡ blocks memory root index → new ≡ out ++ bytes_from memory d.pointer d.length
    → new ≡ blocks memory root (index + 1)
blocks_more memory root index at d out new here is so_far more =
    more ∙ ap (λ xs. xs ++ bytes_from memory d.pointer d.length) so_far
    ∙ ap₂ (λ p l. blocks memory root index ++ bytes_from memory p l) is.pointer is.size
    ∙ ap (λ x. blocks memory root index ++ block_of memory x) here
    ∙ sym (blocks_step memory root index)

pub none_lacking : (memory : List Segment) (root : ℕ) → first_lacking memory root 0 ≡ None
unfolding first_lacking
none_lacking memory root = refl

pub lacking_step : (memory : List Segment) (root index : ℕ)
    → first_lacking memory root (index + 1)
    ≡ option_or (first_lacking memory root index) (lacking_block memory (address memory root index))
unfolding first_lacking
lacking_step memory root index = ap (first_lacking memory root) (add-one index)

-- whether the block of a descriptor is there, by its fields
block_told : (memory : List Segment) (root index at : ℕ) (d : Descriptor) (b : Bool)
    → at ≡ address memory root index → IsDescriptor memory at d
    → b ≡ is_whole memory d.pointer d.length
    → lacking_block memory (address memory root index) ≡ cond b None (Some at)
block_told memory root index at d b here is told =
    ap (lacking_block memory) (sym here)
    ∙ ap₂ (λ p l. cond (is_whole memory p l) None (Some at)) (sym is.pointer) (sym is.size)
    ∙ ap (λ w. cond w None (Some at)) (sym told)

-- one block more that is there
pub lacking_more : (memory : List Segment) (root index at : ℕ) (d : Descriptor) (b : Bool)
    → at ≡ address memory root index → IsDescriptor memory at d
    → b ≡ is_whole memory d.pointer d.length → b ≡ true
    → first_lacking memory root index ≡ None → first_lacking memory root (index + 1) ≡ None
lacking_more memory root index at d b here is told whole none =
    lacking_step memory root index
    ∙ ap (λ o. option_or o (lacking_block memory (address memory root index))) none
    ∙ block_told memory root index at d b here is told ∙ ap (λ w. cond w None (Some at)) whole

lacking_on : (memory : List Segment) (root index n x : ℕ) → index < n
    → first_lacking memory root (index + 1) ≡ Some x → first_lacking memory root n ≡ Some x
unfolding first_lacking
lacking_on memory root index zero x less is = let no : ⊥ = omega arith in absurd no
lacking_on memory root index (suc n) x less is = elim (cases_lt index n) [
  | inl before ↦
      ap (λ o. option_or o (lacking_block memory (address memory root n)))
      (lacking_on memory root index n x before is)
  | inr at_least ↦
      let last : suc n ≡ index + 1 = omega arith in
      ap (first_lacking memory root) last ∙ is
]

-- the first block that is not there
pub lacks_here : (memory : List Segment) (root index n at : ℕ) (d : Descriptor) (b : Bool)
    → index < n → at ≡ address memory root index → IsDescriptor memory at d
    → b ≡ is_whole memory d.pointer d.length → b ≡ false
    → first_lacking memory root index ≡ None → first_lacking memory root n ≡ Some at
lacks_here memory root index n at d b less here is told gone none =
    lacking_on memory root index n at less
    (lacking_step memory root index
    ∙ ap (λ o. option_or o (lacking_block memory (address memory root index))) none
    ∙ block_told memory root index at d b here is told ∙ ap (λ w. cond w None (Some at)) gone)

-- within the limit the refusal is that of the first block that is not there
pub refused_within : (memory : List Segment) (s : Shape) (limit : ℕ) (o : Option ℕ)
    → s.total ≤ limit → first_lacking memory s.root s.descriptors ≡ o
    → coalesce_refusal memory s limit ≡ option_map (λ d. BlockUnreadable d) o
refused_within memory s limit o within is =
    let below : nat_lt limit s.total ≡ false = grind (arith, nat_tests) in
    ap (λ b. cond b (Some TooMuch) (option_map (λ d. BlockUnreadable d)
    (first_lacking memory s.root s.descriptors))) below
    ∙ ap (option_map (λ d. BlockUnreadable d)) is

true_not_false : (b : Bool) → b ≡ true → b ≡ false → ⊥
true_not_false b first second = true≢false (sym first ∙ second)

-- a descriptor of a list that has a shape is there
pub never_gone : (memory : List Segment) (s : Shape) (index at : ℕ)
    → walk memory s.root ≡ Some (Ok s) → index < s.descriptors
    → at ≡ address memory s.root index → is_whole memory at 16 ≡ false → ⊥
never_gone memory s index at walked less here gone =
    true_not_false (is_whole memory at 16)
    (ap (λ x. is_whole memory x 16) here ∙ all_whole memory s walked index less) gone
