-- One descriptor of a scatter list (UEFI 2.10, 8.5.3, EFI_CAPSULE_BLOCK_DESCRIPTOR).
use Rattle.std.specs.Prelude.{◌≡◌, ℕ, ◌+◌, ◌-◌, ◌^◌, ◌≤◌, nat_lt, true, List, if◌then◌else◌}
use Rattle.bench_model.specs.declared.segment.Segment.{Segment}
use Rattle.scatter_list.specs.Reads.{is_whole}
use Rattle.scatter_list.specs.Walk.{length_at, pointer_at}
use Rattle.scatter_list.specs.declared.descriptor.Descriptor.{Descriptor}

-- the descriptor at an address, whose 16 bytes are all there
pub record IsDescriptor (memory : List Segment) (at : ℕ) (descriptor : Descriptor) : Type 0 where
  pub whole : is_whole memory at 16 ≡ true
  pub size : descriptor.length ≡ length_at memory at
  pub pointer : descriptor.pointer ≡ pointer_at memory at
  pub end : at + 16 ≤ 2 ^ 64 - 1

-- the address behind a descriptor at an address
abbrev pub behind_of : Descriptor → ℕ → ℕ
behind_of descriptor at =
    if nat_lt 0 descriptor.length then at + 16 else descriptor.pointer
