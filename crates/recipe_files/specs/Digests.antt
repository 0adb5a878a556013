-- A digest in a board's text: its 32 bytes in 64 lower-case hexadecimal digits.
use Rattle.std.specs.Prelude.{ℕ, Bool, ◌||◌, List, replicate, Option, None, option_map}
use Rattle.std.specs.Prelude.{unwrap_or, if◌then◌else◌}
use Rattle.std.specs.List.{list_all}
use Rattle.std.specs.Result.{result_ok}
use Rattle.hex.specs.Hex.{decode_sized}
use Rattle.toml.specs.Data.{Data}
use Rattle.cu_base.specs.declared.digest.Digest.{Digest}
use Rattle.bench_model.specs.Names.{is_between}
use Rattle.recipe_files.specs.Values.{text_of}

-- 0 to 9 or a to f
abbrev pub is_lower_digit : ℕ → Bool
is_lower_digit byte = is_between 48 57 byte || is_between 97 102 byte

-- the digest of bytes that hexadecimal digits show
abbrev pub digest_of_bytes : List ℕ → Digest
digest_of_bytes bytes = record { bytes = bytes }

-- the digest that a text shows
abbrev pub digest_of_text : List ℕ → Option Digest
digest_of_text text =
    if list_all is_lower_digit text then option_map digest_of_bytes
    (result_ok (decode_sized text 32)) else None

-- the digest of an entry
unfoldable pub digest_of : Data → Digest
digest_of d = unwrap_or (digest_of_text (text_of d)) (digest_of_bytes (replicate 32 0))
