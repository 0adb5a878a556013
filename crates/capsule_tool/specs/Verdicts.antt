-- What `check` finds of the bytes of a file: the first refusal of the capsule grammar, else bytes
-- that follow the capsule, else one whole capsule.
use Rattle.std.specs.Prelude.{◌≡◌, ◌≤◌, ℕ, nat_lt, List, length, codes, Option, None, Some}
use Rattle.std.specs.Prelude.{if◌then◌else◌, ⊤}
use Rattle.fmp_headers.specs.CapsuleHeader.{image_size}
use Rattle.capsule_grammar.specs.Refusals.{refusal}
use Rattle.capsule_grammar.specs.declared.refusal.Why.{Why}
use Rattle.capsule_grammar.specs.declared.refusal.Why.TheVariants.{Short, BadHeaderSize}
use Rattle.capsule_grammar.specs.declared.refusal.Why.TheVariants.{BadImageSize, BadFmpVersion}
use Rattle.capsule_grammar.specs.declared.refusal.Why.TheVariants.{BadImageVersion, OffsetsOutside}
use Rattle.capsule_grammar.specs.declared.refusal.Why.TheVariants.{OffsetsNotRising, ImageOutside}
use Rattle.capsule_grammar.specs.declared.refusal.Why.TheVariants.{TooManyCapsules}
use Rattle.capsule_tool.specs.declared.verdict.Verdict.{Verdict}
use Rattle.capsule_tool.specs.declared.verdict.Verdict.TheVariants.{Whole, Refused, Trailing}

-- the printed name of a cause
abbrev pub name_of : Why → List ℕ
name_of Short = codes "Short"
name_of BadHeaderSize = codes "BadHeaderSize"
name_of BadImageSize = codes "BadImageSize"
name_of BadFmpVersion = codes "BadFmpVersion"
name_of BadImageVersion = codes "BadImageVersion"
name_of OffsetsOutside = codes "OffsetsOutside"
name_of OffsetsNotRising = codes "OffsetsNotRising"
name_of ImageOutside = codes "ImageOutside"
name_of TooManyCapsules = codes "TooManyCapsules"

-- what is found, by the first refusal
abbrev pub verdict_by : Option (ℕ × Why) → List ℕ → Verdict
verdict_by (Some refused) bytes = Refused (record { at = refused.0; why = refused.1 })
verdict_by None bytes = if nat_lt (image_size bytes) (length bytes) then
    Trailing (image_size bytes) else Whole (image_size bytes)

-- what is found of the bytes of a file
abbrev pub verdict_of : List ℕ → Verdict
verdict_of bytes = verdict_by (refusal bytes) bytes

-- a whole capsule is not refused, and no byte follows it
abbrev pub MayBeWhole : Verdict → List ℕ → Type 0
MayBeWhole (Whole n) bytes = (refusal bytes ≡ None) × (length bytes ≤ image_size bytes)
MayBeWhole (Refused at) bytes = ⊤
MayBeWhole (Trailing at) bytes = ⊤
