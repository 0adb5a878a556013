-- The text of a capsule: its lines, one behind another. Two lines tell its header; a capsule of
-- another GUID than that of FMP has one more, and an FMP capsule one with its counts, one for each
-- driver, and then those of each image.
use Rattle.std.specs.Prelude.{◌≡◌, ℕ, List, [], ◌∷◌, ◌++◌}
use Rattle.std.specs.List.{concat, AllByRecursion}
use Rattle.cu_base.specs.Bytes.{IsBytes}
use Rattle.capsule_grammar.specs.declared.value.Body.{Body}
use Rattle.capsule_grammar.specs.declared.value.Body.TheVariants.{Other, Fmp}
use Rattle.capsule_grammar.specs.declared.value.Capsule.{Capsule}
use Rattle.capsule_grammar.specs.Values.{FmpValue}
use Rattle.capsule_show.specs.Images.{AreLinesOfAll}
use Rattle.capsule_show.specs.Lines.{capsule_line, driver_lines, ext_line, fmp_line, other_line}

-- the lines of the body of an FMP capsule: its counts, its drivers, its images
pub record AreFmpLines (b : FmpValue) (lines : List (List ℕ)) : Type 0 where
  pub images : List (List ℕ)
  pub are_images : AreLinesOfAll 0 b.images images
  pub told : lines ≡ fmp_line b ∷ driver_lines 0 b.drivers ++ images

-- the lines of a body
abbrev pub AreBodyLines : Body → List (List ℕ) → Type 0
AreBodyLines (Other body) lines = lines ≡ other_line body ∷ []
AreBodyLines (Fmp b) lines = AreFmpLines b lines

-- the text of a capsule
pub record ShowText (c : Capsule) (text : List ℕ) : Type 0 where
  pub lines : List (List ℕ)
  pub body : AreBodyLines c.body lines
  pub told : text ≡ capsule_line c ++ ext_line c.ext ++ concat lines

-- each update image of a body is bytes, as those of every value of the program are
abbrev pub HasBytes : Body → Type 0
HasBytes (Other body) = Unit {0}
HasBytes (Fmp b) = AllByRecursion (λ i. IsBytes i.image) b.images
