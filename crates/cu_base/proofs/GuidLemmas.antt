-- The bytes of a GUID in a capsule, and its text.
use Rattle.std.proofs.Common.{◌≡◌, ℕ, ◌<◌, List, length, All, Option, Some, None, Result, Ok, Err}
use Rattle.std.proofs.Common.{ok_or, option_map, refl, sym, ap, subst, inl, ◌∙◌}
use Rattle.std.proofs.lemmas.List.Elements.{All-from_recursion}
use Rattle.uuid.specs.Parts.{swap_fields}
use Rattle.uuid.specs.Text.{parsed, hyphenated_text, lower}
use Rattle.uuid.proofs.RoundTrips.{swap_twice, parses_hyphenated}
use Rattle.cu_base.specs.Bytes.{IsBytes}
use Rattle.cu_base.specs.Guids.{fields_reversed, guid_of}
use Rattle.cu_base.specs.declared.guid.Guid.{Guid}
use Rattle.cu_base.specs.declared.faults.BaseFault.{BaseFault}
use Rattle.cu_base.specs.declared.faults.BaseFault.TheVariants.{BadGuidText}
use Rattle.cu_base.proofs.Sixteen.{sixteen}

pub reverses : (bytes : List ℕ) → length bytes ≡ 16 → swap_fields bytes ≡ fields_reversed bytes
reverses bytes long =
    let P : List ℕ → Type 0 = λ b. swap_fields b ≡ fields_reversed b in
    subst P (sym (sixteen bytes long)) refl

pub reverses_back : (bytes : List ℕ)
    → length bytes ≡ 16 → fields_reversed (fields_reversed bytes) ≡ bytes
reverses_back bytes long =
    ap fields_reversed (sym (reverses bytes long)) ∙ sym (reverses (swap_fields bytes) refl)
    ∙ swap_twice bytes long

-- where no text of `uuid` shows bytes
pub refused : (read : Option (List ℕ)) → ((bytes : List ℕ) → read ≡ Some bytes → ⊥)
    → ok_or (option_map guid_of read) BadGuidText ≡ Err BadGuidText
refused None never = refl
refused (Some bytes) never = absurd (never bytes refl)

abbrev as_guid : List ℕ → Result Guid BaseFault
as_guid bytes = Ok (record { bytes = bytes })

pub reads_back : (bytes : List ℕ) → length bytes ≡ 16 → IsBytes bytes
    → ok_or (option_map guid_of (parsed (hyphenated_text lower (fields_reversed bytes))))
    BadGuidText
    ≡ Ok (record { bytes = bytes })
reads_back bytes long is =
    let each : All (λ b. b < 256) (swap_fields bytes) =
    All-from_recursion (λ b. b < 256) (swap_fields bytes) (
      is 3,
      (
        is 2,
        (
          is 1,
          (
            is 0,
            (
              is 5,
              (
                is 4,
                (
                  is 7,
                  (
                    is 6,
                    (
                      is 8,
                      (
                        is 9,
                        (
                          is 10,
                          (is 11, (is 12, (is 13, (is 14, (is 15, tt {0}))))),
                        ),
                      ),
                    ),
                  ),
                ),
              ),
            ),
          ),
        ),
      ),
    ) in
    let shown = fields_reversed bytes in
    let read : Some shown ≡ parsed (hyphenated_text lower shown) =
    let P : List ℕ → Type 0 = λ b. Some b ≡ parsed (hyphenated_text lower b) in
    subst P (reverses bytes long)
    (parses_hyphenated lower (swap_fields bytes) (inl refl) refl each) in
    ap (λ (o : Option (List ℕ)). ok_or (option_map guid_of o) BadGuidText) (sym read)
    ∙ ap as_guid (reverses_back bytes long)
