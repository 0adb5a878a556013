-- The parts of an update image by their places and lengths.
use Rattle.std.specs.Prelude.{◌≡◌, ℕ, ◌+◌, ◌-◌, List, ◌++◌, length, Result, Ok, Err}
use Rattle.image_parts.specs.declared.fault.PartRefusal.{PartRefusal}
use Rattle.image_parts.specs.declared.fault.PartRefusal.TheVariants.{Part, Memory}
use Rattle.image_parts.specs.declared.spans.PartSpans.{PartSpans}
use Rattle.image_parts.specs.declared.value.PayloadHead.{PayloadHead}
use Rattle.image_parts.specs.Parts.{IsPartsOf, auth_bytes, dep_bytes}
use Rattle.image_parts.specs.PayloadHeader.{payload_head_bytes}
use Rattle.image_parts.specs.Values.{PartsValue}

-- what stands before the payload
abbrev pub before_payload : PartsValue → List ℕ
before_payload p =
    auth_bytes p.auth ++ dep_bytes p.dep ++ payload_head_bytes p.head ++ p.extra

-- where the parts stand and how long they are; without a section its place is the end of the
-- authentication data
abbrev pub spans_of : PartsValue → PartSpans
spans_of p = record {
  auth = length (auth_bytes p.auth);
  dep_at = length (auth_bytes p.auth);
  dep_length = length (dep_bytes p.dep);
  head = p.head;
  payload_at = length (before_payload p);
  payload_length = length p.payload;
}

-- the image has parts, and these are their places and lengths
pub record HasSpans (image : List ℕ) (support : ℕ) (spans : PartSpans) : Type 0 where
  pub parts : PartsValue
  pub are : IsPartsOf image support parts
  pub places : spans ≡ spans_of parts

-- the answer is the places and lengths of these parts, or want of memory, which is free
abbrev pub AreFound : PartsValue → Result PartSpans PartRefusal → Type 0
AreFound p (Ok spans) = spans ≡ spans_of p
AreFound p (Err (Part fault)) = ⊥
AreFound p (Err Memory) = Unit {0}

-- the places and lengths in an image of a size, of which are known where the authentication data
-- ends, how long the section is, and the payload header
abbrev pub spans_at : ℕ → ℕ → PayloadHead → ℕ → PartSpans
spans_at start dep head size = record {
  auth = start;
  dep_at = start;
  dep_length = dep;
  head = head;
  payload_at = start + dep + head.header_size;
  payload_length = size - (start + dep + head.header_size);
}
