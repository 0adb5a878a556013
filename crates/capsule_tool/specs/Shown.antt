-- The text that `show` writes of a file. It is named by what it is, the text of the capsule that is
-- read from the bytes: laws say that there is one and no other, and `capsule_show` writes it.
use Rattle.std.specs.Prelude.{◌≡◌, ℕ, Bool, true, false, List, []}
use Rattle.std.proofs.Common.{refl}
use Rattle.capsule_show.proofs.ReadBytes.{has_read_text}
use Rattle.dep_code.proofs.ByteTests.{bytes_from}
use Rattle.image_parts.specs.SectionAt.{are_bytes}

-- the one text of the capsule that is read from bytes; numbers that are no bytes have none
unfoldable pub text_where : (bytes : List ℕ) (are : Bool) → are_bytes bytes ≡ are → List ℕ
text_where bytes true is = (has_read_text bytes (bytes_from bytes is)).0
text_where bytes false is = []

-- the text of a file
unfoldable pub shown_text : List ℕ → List ℕ
shown_text bytes = text_where bytes (are_bytes bytes) refl
