-- The walk over a scatter list (UEFI 2.10, 8.5.3, EFI_CAPSULE_BLOCK_DESCRIPTOR). A descriptor has 16
-- bytes: Length in 8, then DataBlock or ContinuationPointer in 8. The walk comes to the addresses
-- x0, x1, .. and ends at the first index at which a test holds.
use Rattle.std.specs.Prelude.{ℕ, zero, suc, ◌+◌, ◌%◌, ◌&&◌, ◌||◌, ◌==◌, not, nat_lt, Bool, false}
use Rattle.std.specs.Prelude.{List, [], ◌∷◌, Option, None, Result, Ok, Err}
use Rattle.std.specs.Prelude.{if◌then◌else◌}
use Rattle.std.specs.Option.{option_or}
use Rattle.cu_base.specs.Fields.{number_at}
use Rattle.cu_base.specs.Refusals.{Row, row, first_refusal}
use Rattle.bench_model.specs.declared.segment.Segment.{Segment}
use Rattle.scatter_list.specs.Reads.{is_whole, bytes_from}
use Rattle.scatter_list.specs.declared.faults.ShapeFault.{ShapeFault}
use Rattle.scatter_list.specs.declared.faults.ShapeFault.TheVariants.{Misaligned, Unreadable}
use Rattle.scatter_list.specs.declared.faults.ShapeFault.TheVariants.{Cycle, TooLong}
use Rattle.scatter_list.specs.declared.limits.TheConstants.{MAX_DESCRIPTORS}
use Rattle.scatter_list.specs.declared.told.Shape.{Shape}

-- Length of the descriptor at an address
abbrev pub length_at : List Segment → ℕ → ℕ
length_at memory at = number_at (bytes_from memory at 16) 0 8

-- DataBlock or ContinuationPointer of the descriptor at an address
abbrev pub pointer_at : List Segment → ℕ → ℕ
pointer_at memory at = number_at (bytes_from memory at 16) 8 8

-- the end mark has Length 0 and ContinuationPointer 0
abbrev pub is_end : List Segment → ℕ → Bool
is_end memory at = length_at memory at == 0 && pointer_at memory at == 0

-- the address of the next descriptor: behind a data block's 16 bytes, or at the pointer of one of
-- Length 0; where the 16 bytes are not all there the walk is over
abbrev pub next : List Segment → ℕ → ℕ
next memory at =
    if not (is_whole memory at 16) then at
    else if nat_lt 0 (length_at memory at) then at + 16
    else pointer_at memory at

-- the place that is reached from a place by so many steps
unfoldable pub steps_on : (ℕ → ℕ) → ℕ → ℕ → ℕ
steps_on f x zero = x
steps_on f x (suc n) = f (steps_on f x n)

-- the address of the descriptor of an index
abbrev pub address : List Segment → ℕ → ℕ → ℕ
address memory root index = steps_on (next memory) root index

-- whether one of the first so many descriptors is at this address
unfoldable pub is_passed : List Segment → ℕ → ℕ → ℕ → Bool
is_passed memory root x zero = false
is_passed memory root x (suc n) = is_passed memory root x n || address memory root n == x

-- the sum of Length of the first so many descriptors
unfoldable pub total_of : List Segment → ℕ → ℕ → ℕ
total_of memory root zero = 0
total_of memory root (suc n) =
    total_of memory root n + length_at memory (address memory root n)

-- the shape of a list that ends at an index
abbrev pub shape_to : List Segment → ℕ → ℕ → Shape
shape_to memory root index =
    record { root = root; descriptors = index + 1; total = total_of memory root index }

-- the tests of an index in their order, each with its outcome
abbrev pub tests : List Segment → ℕ → ℕ → List (Row (Result Shape ShapeFault))
tests memory root index =
    let x = address memory root index in
    row (is_passed memory root x index) (Err (Cycle x))
    ∷ row (index == MAX_DESCRIPTORS) (Err TooLong)
    ∷ row (not (x % 8 == 0)) (Err (Misaligned x))
    ∷ row (not (is_whole memory x 16)) (Err (Unreadable x))
    ∷ row (is_end memory x) (Ok (shape_to memory root index)) ∷ []

-- the outcome at the first of so many indices at which a test holds, from an index on
unfoldable pub first_outcome : List Segment → ℕ → ℕ → ℕ → Option (Result Shape ShapeFault)
first_outcome memory root zero index = None
first_outcome memory root (suc n) index =
    option_or (first_refusal (tests memory root index))
    (first_outcome memory root n (suc index))

-- the outcome of the walk; there is one, since at index 65,536 a test holds
unfoldable pub walk : List Segment → ℕ → Option (Result Shape ShapeFault)
walk memory root = first_outcome memory root (MAX_DESCRIPTORS + 1) 0
