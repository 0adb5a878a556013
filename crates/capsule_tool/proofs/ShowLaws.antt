-- The text that is told of a file.
use Rattle.std.proofs.Common.{◌≡◌, ℕ, Bool, true, false, List, refl}
use Rattle.cu_base.specs.Bytes.{IsBytes}
use Rattle.capsule_grammar.specs.Reading.{capsule_of}
use Rattle.capsule_show.specs.ShowText.{ShowText}
use Rattle.capsule_show.proofs.OneText.{one_text}
use Rattle.capsule_show.proofs.ReadBytes.{has_read_text}
use Rattle.dep_code.proofs.ByteTests.{bytes_from, bytes_pass}
use Rattle.image_parts.specs.SectionAt.{are_bytes}
use Rattle.capsule_tool.specs.Shown.{shown_text, text_where}

none_true : false ≡ true → ⊥
none_true is = cc

where_is : (bytes : List ℕ) (are : Bool) (is : are_bytes bytes ≡ are) → are ≡ true
    → ShowText (capsule_of bytes) (text_where bytes are is)
unfolding text_where
where_is bytes true is yields = (has_read_text bytes (bytes_from bytes is)).1
where_is bytes false is yields = absurd (none_true yields)

-- the text of a file is the text of its capsule
pub shown_is : (bytes : List ℕ) → IsBytes bytes → ShowText (capsule_of bytes) (shown_text bytes)
unfolding shown_text
shown_is bytes is = where_is bytes (are_bytes bytes) refl (bytes_pass bytes is)

-- and no other is
pub only_shown : (bytes text : List ℕ) → IsBytes bytes → ShowText (capsule_of bytes) text
    → text ≡ shown_text bytes
only_shown bytes text is h = one_text (capsule_of bytes) text (shown_text bytes) h (shown_is bytes is)
