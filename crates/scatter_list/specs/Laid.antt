-- A scatter list that is laid for some bytes (UEFI 2.10, 8.5.3): their data blocks, all of one size
-- but the last, which may be shorter; a descriptor for each in order; and the end mark.
use Rattle.std.specs.Prelude.{◌≡◌, ℕ, zero, suc, ◌+◌, ◌-◌, ◌*◌, ◌<◌, ◌≤◌, min, List, []}
use Rattle.std.specs.Prelude.{◌++◌, length, Option, None, Some, Ok, Err}
use Rattle.std.specs.Int.{div_ceil}
use Rattle.std.specs.Option.{option_or}
use Rattle.cu_base.specs.Fields.{bytes_of}
use Rattle.bench_model.specs.Memory.{IsThere, lay_refusal, told_refusal, with_segment}
use Rattle.bench_model.specs.declared.faults.LayFault.{LayFault}
use Rattle.bench_model.specs.declared.segment.Segment.{Segment}
use Rattle.scatter_list.specs.Coalesced.{coalesced, first_lacking}
use Rattle.scatter_list.specs.Walk.{walk}
use Rattle.scatter_list.specs.declared.told.Shape.{Shape}

-- a descriptor: Length, then DataBlock or ContinuationPointer
abbrev pub descriptor : ℕ → ℕ → List ℕ
descriptor size pointer = bytes_of 8 size ++ bytes_of 8 pointer

-- the bytes of the data block of an index
abbrev pub block_size : ℕ → ℕ → ℕ → ℕ
block_size size block index = min block (size - index * block)

-- the descriptors of the first so many data blocks, which lie one behind another from `base` on
unfoldable pub block_list : ℕ → ℕ → ℕ → ℕ → List ℕ
block_list base size block zero = []
block_list base size block (suc n) =
    block_list base size block n ++ descriptor (block_size size block n) (base + n * block)

-- the list for so many bytes at `base`
abbrev pub laid_list : ℕ → ℕ → ℕ → List ℕ
laid_list base size block = block_list base size block (div_ceil size block) ++ descriptor 0 0

-- how many descriptors it has, the end mark among them
abbrev pub laid_count : ℕ → ℕ → ℕ
laid_count size block = div_ceil size block + 1

-- bytes stand in memory, and the list for them
pub record IsLaid (memory : List Segment) (root base : ℕ) (bytes : List ℕ) (block : ℕ)
    : Type 0 where
  pub there : IsThere memory base bytes
  pub list : IsThere memory root (laid_list base (length bytes) block)

-- no address holds both a byte and a part of its list
abbrev pub AreApart : ℕ → ℕ → ℕ → ℕ → Type 0
AreApart root base size block =
    (k : ℕ) → base ≤ k → k < base + size → root ≤ k → k < root + 16 * laid_count size block → ⊥

-- the memory after the bytes and then the list were laid
abbrev pub with_list : List Segment → ℕ → ℕ → List ℕ → ℕ → List Segment
with_list memory root base bytes block =
    with_segment (with_segment memory base bytes) root (laid_list base (length bytes) block)

-- why a list is not laid: why its bytes are not, else why its descriptors are not
abbrev pub list_refusal : List Segment → ℕ → ℕ → List ℕ → ℕ → Option LayFault
list_refusal memory root base bytes block =
    option_or (lay_refusal memory base (length bytes))
    (lay_refusal (with_segment memory base bytes) root (16 * laid_count (length bytes) block))

-- the refusal that a fault tells; want of memory is none
abbrev pub told_lay : LayFault → Option LayFault
told_lay fault = told_refusal (Err fault)

-- the list from an address on has so many descriptors, and its data blocks are these bytes
pub record GivesBack (memory : List Segment) (root : ℕ) (bytes : List ℕ) (count : ℕ) : Type 0 where
  pub shape : Shape
  pub is : shape ≡ record { root = root; descriptors = count; total = length bytes }
  pub walked : walk memory root ≡ Some (Ok shape)
  pub gives : coalesced memory shape ≡ bytes
  pub whole : first_lacking memory root count ≡ None
