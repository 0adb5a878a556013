-- Thin capsules in the words of the grammar (UEFI 2.10, 8.5.3 and 23.3.2).
use Rattle.std.specs.Prelude.{◌≡◌, [], ◌∷◌}
use Rattle.capsule_grammar.specs.declared.value.Image.{Image}
use Rattle.capsule_grammar.specs.declared.value.Body.{Body}
use Rattle.capsule_grammar.specs.declared.value.Body.TheVariants.{Other, Fmp}
use Rattle.capsule_grammar.specs.declared.value.Capsule.{Capsule}
use Rattle.capsule_grammar.specs.Values.{FmpValue}

-- an image of header version 3 with support 0, without pad
pub record IsThinImage (i : Image) : Type 0 where
  pub version : i.header.version ≡ 3
  pub support : i.header.support ≡ 0
  pub pad : i.pad ≡ []

-- one image, which is thin, without driver and lead
pub record IsThinFmp (b : FmpValue) : Type 0 where
  pub lead : b.lead ≡ []
  pub drivers : b.drivers ≡ []
  pub image : Image
  pub images : b.images ≡ image ∷ []
  pub thin : IsThinImage image

-- one image of header version 3 with support 0, without driver, lead and pad
abbrev pub IsThinBody : Body → Type 0
IsThinBody (Other blob) = ⊥
IsThinBody (Fmp b) = IsThinFmp b

-- a capsule of such a body, without a byte between the fields of its header and HeaderSize
pub record IsThinCapsule (c : Capsule) : Type 0 where
  pub ext : c.ext ≡ []
  pub body : IsThinBody c.body
