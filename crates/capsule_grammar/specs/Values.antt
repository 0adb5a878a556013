-- The body of an FMP capsule as contracts see it: its parts, without the room of its lists. The same
-- of an image item that is seen in its bytes.
use Rattle.std.specs.Prelude.{ℕ, List}
use Rattle.capsule_grammar.specs.declared.value.Image.{Image}
use Rattle.capsule_grammar.specs.declared.value.ImageView.{ImageView}

-- lead, drivers and images of an FMP capsule
pub record FmpValue : Type 0 where
  pub lead : List ℕ
  pub drivers : List (List ℕ)
  pub images : List Image

-- an image that is seen in its item, without where its bytes lie in memory
abbrev pub image_seen : ImageView → Image
image_seen v = record {
  header = v.header;
  image = v.image.now;
  vendor = v.vendor.now;
  pad = v.pad.now;
}
