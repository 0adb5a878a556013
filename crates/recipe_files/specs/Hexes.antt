-- Bytes in a recipe's text: two hexadecimal digits of either case a byte.
use Rattle.std.specs.Prelude.{◌≡◌, ℕ, Bool, true, false, ◌&&◌, List, [], Option, None, Some, is_ok}
use Rattle.std.specs.Result.{result_unwrap_or}
use Rattle.hex.specs.Hex.{decode_of}
use Rattle.recipe_files.specs.Sections.{is_section}

-- a text of an even number of hexadecimal digits
abbrev pub is_hex : List ℕ → Bool
is_hex text = is_ok (decode_of text)

-- the bytes that a text shows
abbrev pub bytes_shown : List ℕ → List ℕ
bytes_shown text = result_unwrap_or (decode_of text) []

-- a text shows bytes that are one dependency section
abbrev pub shows_section : List ℕ → Bool
shows_section text = is_hex text && is_section (bytes_shown text)

-- the bytes that a text shows, or None where it shows none
abbrev pub ReadsHex : List ℕ → Option (List ℕ) → Type 0
ReadsHex text None = is_hex text ≡ false
ReadsHex text (Some bytes) = (is_hex text ≡ true) × (bytes_shown text ≡ bytes)
