-- The bytes of a scatter list (UEFI 2.10, 8.5.3): its data blocks in order.
use Rattle.std.specs.Prelude.{◌≡◌, ℕ, zero, suc, ◌+◌, ◌-◌, ◌^◌, ◌≤◌, nat_lt}
use Rattle.std.specs.Prelude.{Bool, true, false, List, [], ◌++◌, Option, None, Some}
use Rattle.std.specs.Prelude.{Result, Ok, Err, is_some, option_map, if◌then◌else◌}
use Rattle.std.specs.Option.{option_or}
use Rattle.cu_base.specs.declared.limits.TheConstants.{MAX_CAPSULE_BYTES}
use Rattle.bench_model.specs.declared.segment.Segment.{Segment}
use Rattle.bench_model.specs.Memory.{IsLacking}
use Rattle.scatter_list.specs.Reads.{is_whole, bytes_from}
use Rattle.scatter_list.specs.Walk.{length_at, pointer_at, address, walk}
use Rattle.scatter_list.specs.declared.faults.CoalesceFault.{CoalesceFault}
use Rattle.scatter_list.specs.declared.faults.CoalesceFault.TheVariants.{TooMuch, BlockUnreadable}
use Rattle.scatter_list.specs.declared.faults.CoalesceFault.TheVariants.{Memory}
use Rattle.scatter_list.specs.declared.faults.ShapeFault.{ShapeFault}
use Rattle.scatter_list.specs.declared.told.Shape.{Shape}

-- the data block of the descriptor at an address; a descriptor of Length 0 has no bytes
abbrev pub block_of : List Segment → ℕ → List ℕ
block_of memory at = bytes_from memory (pointer_at memory at) (length_at memory at)

-- the data blocks of the first so many descriptors, one behind another
unfoldable pub blocks : List Segment → ℕ → ℕ → List ℕ
blocks memory root zero = []
blocks memory root (suc n) =
    blocks memory root n ++ block_of memory (address memory root n)

-- the bytes of the list of this shape
abbrev pub coalesced : List Segment → Shape → List ℕ
coalesced memory shape = blocks memory shape.root shape.descriptors

-- the descriptor at this address, where its data block is not wholly there
abbrev pub lacking_block : List Segment → ℕ → Option ℕ
lacking_block memory at =
    if is_whole memory (pointer_at memory at) (length_at memory at) then None else Some at

-- the first of so many descriptors whose data block is not wholly there
unfoldable pub first_lacking : List Segment → ℕ → ℕ → Option ℕ
first_lacking memory root zero = None
first_lacking memory root (suc n) =
    option_or (first_lacking memory root n) (lacking_block memory (address memory root n))

-- why a list is not coalesced: its total is above the limit, or a data block is not wholly there
abbrev pub coalesce_refusal : List Segment → Shape → ℕ → Option CoalesceFault
coalesce_refusal memory shape limit =
    if nat_lt limit shape.total then Some TooMuch
    else option_map (λ descriptor. BlockUnreadable descriptor)
    (first_lacking memory shape.root shape.descriptors)

-- the refusal that a fault tells; want of memory is none
abbrev pub told_fault : CoalesceFault → Option CoalesceFault
told_fault TooMuch = Some TooMuch
told_fault (BlockUnreadable descriptor) = Some (BlockUnreadable descriptor)
told_fault Memory = None

-- the bytes of the list of this shape, where they are not refused
abbrev pub joined : List Segment → ℕ → Shape → Option (List ℕ)
joined memory limit shape =
    if is_some (coalesce_refusal memory shape limit) then None else Some (coalesced memory shape)

-- the bytes behind an outcome of the walk
abbrev pub joined_by : List Segment → ℕ → Option (Result Shape ShapeFault) → Option (List ℕ)
joined_by memory limit (Some (Ok shape)) = joined memory limit shape
joined_by memory limit (Some (Err fault)) = None
joined_by memory limit None = None

-- the bytes of the list from an address on: None where the list or a data block is refused, or
-- where they are more than a capsule file may have
abbrev pub coalesced_of : List Segment → ℕ → Option (List ℕ)
coalesced_of memory root = joined_by memory MAX_CAPSULE_BYTES (walk memory root)

-- a piece of so many bytes is appended where it is all there, and else nothing is
abbrev pub IsPiece : List Segment → ℕ → ℕ → List ℕ → List ℕ → Bool → Type 0
IsPiece memory at size old new true =
    (new ≡ old ++ bytes_from memory at size) × (is_whole memory at size ≡ true)
    × (at + size ≤ 2 ^ 64 - 1)
IsPiece memory at size old new false = IsLacking memory at size
