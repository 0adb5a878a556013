-- Bytes that are taken as bytes.
use Rattle.std.proofs.Common.{◌≡◌, ℕ, ◌%◌, ◌<◌, List, [], ◌∷◌, map, refl, arith}
use Rattle.cu_base.specs.Bytes.{IsBytes}
use Rattle.cu_base.proofs.Fields.{IsBytes-rest}
use Rattle.recipe_files.specs.Sections.{as_byte}

pub bytes_stay : (bytes : List ℕ) → IsBytes bytes → map as_byte bytes ≡ bytes
bytes_stay [] is = refl
bytes_stay (b ∷ bytes) is =
    let low : b < 256 = is 0 in
    let same : b % 256 ≡ b = omega arith in
    rw (same, bytes_stay bytes (IsBytes-rest b bytes is)) refl
