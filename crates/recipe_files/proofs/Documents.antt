-- Texts and their documents.
use Rattle.std.proofs.Common.{◌≡◌, ℕ, Bool, true, false, List, Option, None, Some, Err, refl}
use Rattle.std.specs.Str.{IsUtf8, is_utf8}
use Rattle.std.proofs.lemmas.Str.{IsUtf8-from_is_utf8, is_utf8-from_IsUtf8}
use Rattle.toml.specs.Data.{Members}
use Rattle.toml.specs.Parse.{parse_document}
use Rattle.recipe_files.specs.declared.faults.Fault.{Fault}
use Rattle.recipe_files.specs.Keys.{key_name}
use Rattle.recipe_files.specs.Documents.{document, text_says, text_test}

pub document_of_text : (bytes : List ℕ) → IsUtf8 bytes → document bytes ≡ parse_document bytes
document_of_text bytes text = rw (is_utf8-from_IsUtf8 bytes text)

refused_by : (bytes : List ℕ) (b : Bool) → (b ≡ true → IsUtf8 bytes) → ¬ (IsUtf8 bytes) → b ≡ false
refused_by bytes true holds not = absurd (not (holds refl))
refused_by bytes false holds not = refl

pub document_of_other : (bytes : List ℕ) → ¬ (IsUtf8 bytes) → document bytes ≡ None
document_of_other bytes not = rw (refused_by bytes (is_utf8 bytes) (IsUtf8-from_is_utf8 bytes) not)

pub told : {V : Type 0} (test : Members → Option Fault) (value : Members → V) (d : Option Members)
    (fault : Fault) → text_test test d ≡ Some fault
    → text_says test value d ≡ Err (fault.kind, key_name fault.key)
told test value None fault same = cc
told test value (Some table) fault same = rw same
