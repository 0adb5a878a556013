-- What a run writes: bytes, or a capsule of which its parts are kept.
use Rattle.std.specs.Prelude.{◌≡◌, ℕ, List, true, None, ⊤}
use Rattle.capsule_grammar.specs.Fits.{is_sized}
use Rattle.capsule_grammar.specs.Reading.{capsule_of as capsule_read}
use Rattle.capsule_grammar.specs.Rebuilt.{emptied}
use Rattle.capsule_grammar.specs.Refusals.{refusal}
use Rattle.capsule_grammar.specs.Spelling.{spelling}
use Rattle.recipe_files.specs.Builds.{capsule_of, contents_of}
use Rattle.capsule_tool.specs.declared.output.Source.{Source}
use Rattle.capsule_tool.specs.declared.output.Source.TheVariants.{Bytes, Made, Rebuilt}

-- the bytes that are written: these, or the spelling of the capsule of a recipe over the inputs that
-- were read, or that of the capsule of a file without its lead and its pads
abbrev pub output_bytes : Source → List ℕ
output_bytes (Bytes bytes) = bytes
output_bytes (Made recipe loaded) = spelling (capsule_of (contents_of loaded.items) recipe)
output_bytes (Rebuilt file) = spelling (emptied (capsule_read file))

-- the capsule that is made is within its limit, and the file that is rebuilt is accepted
abbrev pub IsWritable : Source → Type 0
IsWritable (Bytes bytes) = ⊤
IsWritable (Made recipe loaded) = is_sized (capsule_of (contents_of loaded.items) recipe) ≡ true
IsWritable (Rebuilt file) = refusal file ≡ None
