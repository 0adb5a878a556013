-- What hexadecimal digits show.
use Rattle.std.proofs.Common.{◌≡◌, ℕ, true, false, List, [], Result, Ok, Err, refl, ap}
use Rattle.std.specs.Result.{is_ok, result_unwrap_or}
use Rattle.hex.specs.Hex.{decode_of}
use Rattle.hex.specs.declared.error.FromHexError.{FromHexError}
use Rattle.hex.proofs.HexLemmas.{decode_of-ok}
use Rattle.cu_base.specs.Bytes.{IsBytes}
use Rattle.recipe_files.specs.Hexes.{bytes_shown, is_hex}

pub reads_hex : (text bytes : List ℕ) → decode_of text ≡ Ok bytes
    → (is_hex text ≡ true) × (bytes_shown text ≡ bytes)
reads_hex text bytes is =
    (ap is_ok is, ap (λ (r : Result (List ℕ) FromHexError). result_unwrap_or r []) is)

pub refuses_hex : (text : List ℕ) (e : FromHexError) → decode_of text ≡ Err e → is_hex text ≡ false
refuses_hex text e is = ap is_ok is

shown_bytes : (text : List ℕ) (r : Result (List ℕ) FromHexError) → decode_of text ≡ r
    → is_ok r ≡ true → IsBytes (result_unwrap_or r [])
shown_bytes text (Ok bytes) is ok = (decode_of-ok text bytes is).3
shown_bytes text (Err e) is ok = cc

pub are_bytes : (text : List ℕ) → is_hex text ≡ true → IsBytes (bytes_shown text)
are_bytes text ok = shown_bytes text (decode_of text) refl ok
