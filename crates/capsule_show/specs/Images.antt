-- The lines of images: each has its own, then those of its parts or of their refusal, and its
-- digest.
use Rattle.std.specs.Prelude.{◌≡◌, ℕ, ◌+◌, List, [], ◌∷◌, ◌++◌}
use Rattle.capsule_grammar.specs.declared.value.Image.{Image}
use Rattle.image_parts.specs.declared.fault.PartWhy.{PartWhy}
use Rattle.image_parts.specs.Parts.{IsPartsOf}
use Rattle.image_parts.specs.Refusals.{IsRefused}
use Rattle.image_parts.specs.Values.{PartsValue}
use Rattle.capsule_show.specs.Lines.{auth_lines, dep_lines, digest_line, item_line, payload_line}
use Rattle.capsule_show.specs.Lines.{refused_line}

-- an update image is found to be these parts, or refused at a place for a cause
pub data Found : Type 0 where
  Cut : (parts : PartsValue) → Found
  RefusedAt : (at : ℕ) → (why : PartWhy) → Found

-- this is found of an update image of this support
abbrev pub IsFoundOf : List ℕ → ℕ → Found → Type 0
IsFoundOf image support (Cut parts) = IsPartsOf image support parts
IsFoundOf image support (RefusedAt at why) = IsRefused image support at why

-- the lines of what is found
abbrev pub part_lines : Found → List (List ℕ)
part_lines (Cut parts) = auth_lines parts.auth ++ dep_lines parts.dep ++ payload_line parts ∷ []
part_lines (RefusedAt at why) = refused_line at why ∷ []

-- these lines tell what is found of an update image of this support
pub record AreLinesOfParts (image : List ℕ) (support : ℕ) (lines : List (List ℕ)) : Type 0 where
  pub found : Found
  pub is_found : IsFoundOf image support found
  pub told : lines ≡ part_lines found

-- these are the lines of image k
pub record AreLinesOf (k : ℕ) (i : Image) (lines : List (List ℕ)) : Type 0 where
  pub parts : List (List ℕ)
  pub are_parts : AreLinesOfParts i.image i.header.support parts
  pub told : lines ≡ item_line k i ∷ parts ++ digest_line i.image ∷ []

-- the lines of the first image, and then those of the others
pub record AreFirst (AreOthers : List (List ℕ) → Type 0) (k : ℕ) (i : Image)
    (lines : List (List ℕ)) : Type 0 where
  pub first : List (List ℕ)
  pub others : List (List ℕ)
  pub is_first : AreLinesOf k i first
  pub are_others : AreOthers others
  pub whole : lines ≡ first ++ others

-- these are the lines of images, counted from the number of the first
abbrev pub AreLinesOfAll : ℕ → List Image → List (List ℕ) → Type 0
AreLinesOfAll k [] lines = lines ≡ []
AreLinesOfAll k (i ∷ images) lines = AreFirst (AreLinesOfAll (k + 1) images) k i lines
