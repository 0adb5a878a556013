-- The capsules of bytes as a function: capsules are read one behind another, as long as there are
-- bytes, by the table of refusals and by the reading of one capsule.
use Rattle.std.specs.Prelude.{ℕ, zero, suc, ◌==◌, List, [], ◌∷◌, length, drop, Option, None, Some}
use Rattle.std.specs.Prelude.{is_some, option_map, if◌then◌else◌}
use Rattle.fmp_headers.specs.CapsuleHeader.{image_size}
use Rattle.capsule_grammar.specs.declared.all.TheConstants.{MAX_CAPSULES}
use Rattle.capsule_grammar.specs.declared.value.Capsule.{Capsule}
use Rattle.capsule_grammar.specs.Reading.{capsule_of}
use Rattle.capsule_grammar.specs.Refusals.{refusal}

-- the capsules that are the bytes, at most so many; None where one is refused or there are more
unfoldable pub capsules_within : ℕ → List ℕ → Option (List Capsule)
capsules_within zero bytes = None
capsules_within (suc n) bytes =
    if is_some (refusal bytes) then None
    else if image_size bytes == length bytes then Some (capsule_of bytes ∷ [])
    else option_map (λ more. capsule_of bytes ∷ more)
    (capsules_within n (drop (image_size bytes) bytes))

-- the capsules of a delivery: one to eight of them, to the end of the bytes
abbrev pub capsules_of : List ℕ → Option (List Capsule)
capsules_of bytes = capsules_within MAX_CAPSULES bytes
