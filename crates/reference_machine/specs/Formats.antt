-- What the formats of deliveries say, as far as a boot asks: the capsules in the bytes of a
-- delivery, the parts of an update image, and the bytes behind a scatter list.
use Rattle.std.specs.Prelude.{ℕ, Bool, List, Option}
use Rattle.cu_base.specs.declared.guid.Guid.{Guid}
use Rattle.bench_model.specs.declared.segment.Segment.{Segment}

-- what the header of an image item says of its target and of its parts (UEFI 2.10, 23.3)
pub record ItemHead : Type 0 where
  pub version : ℕ
  pub type_id : Guid
  pub index : ℕ
  pub instance : ℕ
  pub support : ℕ

-- an image item: its header and its update image
pub record Item : Type 0 where
  pub head : ItemHead
  pub image : List ℕ

-- a capsule: its GUID, the number of its drivers, and its image items in order
pub record Capsule : Type 0 where
  pub guid : Guid
  pub drivers : ℕ
  pub items : List Item

-- the parts of an update image: version and lowest supported version of its payload header, its
-- dependency section, empty where it has none, and its payload
pub record Parts : Type 0 where
  pub version : ℕ
  pub lowest : ℕ
  pub dependency : List ℕ
  pub payload : List ℕ

-- what a boot reads of bytes: each is None where the bytes are refused. Whether versions satisfy a
-- dependency section is asked of sections that are not empty; one that is refused is not satisfied.
pub record Formats : Type 0 where
  pub capsules : List ℕ → Option (List Capsule)
  pub parts : List ℕ → ℕ → Option Parts
  pub is_satisfied : List ℕ → List (Guid × ℕ) → Bool
  pub coalesced : List Segment → ℕ → Option (List ℕ)
