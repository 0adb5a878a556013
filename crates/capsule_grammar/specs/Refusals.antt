-- When bytes are refused as a capsule: a table of rows, of which the first that holds decides. Each
-- row is a test on numbers of the bytes, the place that is told, and the cause (UEFI 2.10, 8.5.3
-- and 23.3.2).
--
-- H is HeaderSize and S is CapsuleImageSize. The body is what stands from H to S. In the body of an
-- FMP capsule, offsets count from its start, which is the start of the FMP header.
use Rattle.std.specs.Prelude.{ℕ, ◌+◌, ◌-◌, ◌*◌, Bool, ◌||◌, ◌&&◌, not, List, [], ◌∷◌, ◌++◌}
use Rattle.std.specs.Prelude.{length, nat_lt, nat_le, ◌==◌, if◌then◌else◌, Option, Some}
use Rattle.std.specs.Prelude.{Result}
use Rattle.std.specs.List.{flat_map, range_with_len}
use Rattle.std.specs.Str.{bytes_eq}
use Rattle.cu_base.specs.Fields.{field, number_at}
use Rattle.cu_base.specs.Refusals.{Row, row_at, first_refusal, AnswersBy}
use Rattle.fmp_headers.specs.CapsuleHeader.{header_size, image_size, is_short, has_bad_header_size}
use Rattle.fmp_headers.specs.CapsuleHeader.{is_above_limit}
use Rattle.fmp_headers.specs.ImageHeader.{image_version, is_image_version, image_header_size}
use Rattle.fmp_headers.specs.declared.guids.TheConstants.{FMP_CAPSULE_GUID}
use Rattle.capsule_grammar.specs.declared.refusal.Refusal.{Refusal}
use Rattle.capsule_grammar.specs.declared.refusal.Why.{Why}
use Rattle.capsule_grammar.specs.declared.refusal.Why.TheVariants.{Short, BadHeaderSize}
use Rattle.capsule_grammar.specs.declared.refusal.Why.TheVariants.{BadImageSize, BadFmpVersion}
use Rattle.capsule_grammar.specs.declared.refusal.Why.TheVariants.{BadImageVersion, OffsetsOutside}
use Rattle.capsule_grammar.specs.declared.refusal.Why.TheVariants.{OffsetsNotRising, ImageOutside}

-- ---- the capsule header

-- the rows of the capsule header
abbrev pub capsule_rows : List ℕ → List (Row (ℕ × Why))
capsule_rows bytes =
    row_at (is_short bytes) 0 Short
    ∷ row_at (has_bad_header_size bytes) 16 BadHeaderSize
    ∷ row_at (is_above_limit bytes || nat_lt (length bytes) (image_size bytes)) 24 BadImageSize
    ∷ []

-- the GUID is that of FMP capsules
abbrev pub is_fmp_guid : List ℕ → Bool
is_fmp_guid guid = bytes_eq guid FMP_CAPSULE_GUID.bytes

-- the bytes from HeaderSize to CapsuleImageSize
abbrev pub body_of : List ℕ → List ℕ
body_of bytes = field bytes (header_size bytes) (image_size bytes - header_size bytes)

-- ---- the body of an FMP capsule

-- EmbeddedDriverCount
abbrev pub driver_count : List ℕ → ℕ
driver_count body = number_at body 4 2

-- PayloadItemCount
abbrev pub image_count : List ℕ → ℕ
image_count body = number_at body 6 2

-- the items are the drivers and then the images
abbrev pub item_count : List ℕ → ℕ
item_count body = driver_count body + image_count body

-- where the offset list ends
abbrev pub list_end : List ℕ → ℕ
list_end body = 8 + 8 * item_count body

-- offset k of the list
abbrev pub offset : List ℕ → ℕ → ℕ
offset body k = number_at body (8 + 8 * k) 8

-- where item k begins in a body of this front and size, and where the last one ends
abbrev pub start_of : List ℕ → ℕ → ℕ → ℕ
start_of front size k = if nat_lt k (item_count front) then offset front k else size

-- the same of a whole body
abbrev pub bound : List ℕ → ℕ → ℕ
bound body k = start_of body (length body) k

-- item k reaches to the next item, the last one to the end
abbrev pub item : List ℕ → ℕ → List ℕ
item body k = field body (bound body k) (bound body (k + 1) - bound body k)

-- the rows of FMP header and offset list
abbrev pub fmp_front_rows : List ℕ → ℕ → List (Row (ℕ × Why))
fmp_front_rows body at =
    row_at (nat_lt (length body) 8) at Short
    ∷ row_at (not (number_at body 0 4 == 1)) at BadFmpVersion
    ∷ row_at (nat_lt (length body) (list_end body)) (at + 8) Short
    ∷ []

-- offset k lies within FMP header and offset list, or behind the end of the body
abbrev pub is_offset_outside : List ℕ → ℕ → Bool
is_offset_outside body k =
    nat_lt (offset body k) (list_end body) || nat_lt (length body) (offset body k)

-- offset k is not above the one before it
abbrev pub is_offset_not_rising : List ℕ → ℕ → Bool
is_offset_not_rising body k = nat_lt 0 k && nat_le (offset body k) (offset body (k - 1))

-- the rows of offset k: outside, then not above the one before
abbrev pub offset_rows : List ℕ → ℕ → ℕ → List (Row (ℕ × Why))
offset_rows body at k =
    row_at (is_offset_outside body k) (at + 8 + 8 * k) OffsetsOutside
    ∷ row_at (is_offset_not_rising body k) (at + 8 + 8 * k) OffsetsNotRising
    ∷ []

-- header, update image and vendor code
abbrev pub image_parts_size : List ℕ → ℕ
image_parts_size image =
    image_header_size (image_version image) + number_at image 24 4 + number_at image 28 4

-- the rows of an image item
abbrev pub image_rows : List ℕ → ℕ → List (Row (ℕ × Why))
image_rows image at =
    row_at (nat_lt (length image) 32) at Short
    ∷ row_at (not (is_image_version (image_version image))) at BadImageVersion
    ∷ row_at (nat_lt (length image) (image_header_size (image_version image))) at Short
    ∷ row_at (nat_lt (length image) (image_parts_size image)) (at + 24) ImageOutside
    ∷ []

-- each offset
abbrev pub all_offset_rows : List ℕ → ℕ → List (Row (ℕ × Why))
all_offset_rows body at = flat_map (offset_rows body at) (range_with_len 0 (item_count body))

-- each image, behind the drivers
abbrev pub all_image_rows : List ℕ → ℕ → List (Row (ℕ × Why))
all_image_rows body at =
    flat_map (λ k. image_rows (item body k) (at + bound body k))
    (range_with_len (driver_count body) (image_count body))

-- all offsets are tested before the first item
abbrev pub fmp_rows : List ℕ → ℕ → List (Row (ℕ × Why))
fmp_rows body at = fmp_front_rows body at ++ (all_offset_rows body at ++ all_image_rows body at)

-- ---- the whole table

-- the rows of what follows the header, by the GUID
abbrev pub body_rows : List ℕ → List (Row (ℕ × Why))
body_rows bytes =
    if is_fmp_guid (field bytes 0 16) then fmp_rows (body_of bytes) (header_size bytes) else []

-- the whole table of some bytes
abbrev pub rows : List ℕ → List (Row (ℕ × Why))
rows bytes = capsule_rows bytes ++ body_rows bytes

-- the place and the cause of the refusal of these bytes, and None where a capsule stands at their
-- front
abbrev pub refusal : List ℕ → Option (ℕ × Why)
refusal bytes = first_refusal (rows bytes)

-- the place and the cause that a refusal tells
abbrev pub told : Refusal → Option (ℕ × Why)
told refusal = Some (refusal.at, refusal.why)

-- the answer is Ok where nothing is refused, and else it is this refusal
abbrev pub Answers : {X : Type 0} → Result X Refusal → Option (ℕ × Why) → Type 0
Answers result refused = AnswersBy told result refused
