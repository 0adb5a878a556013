-- What holds of bytes of which no row of the table of refusals holds.
use Rattle.std.specs.Prelude.{◌≡◌, ℕ, ◌+◌, ◌≤◌, ◌<◌, List, length, Ok}
use Rattle.cu_base.specs.Fields.{number_at}
use Rattle.cu_base.specs.declared.limits.TheConstants.{MAX_CAPSULE_BYTES}
use Rattle.fmp_headers.specs.CapsuleHeader.{header_size, image_size, capsule_header}
use Rattle.fmp_headers.specs.CapsuleHeader.{capsule_header_fields}
use Rattle.fmp_headers.specs.ImageHeader.{image_header, image_header_fields}
use Rattle.capsule_grammar.specs.Refusals.{driver_count, item_count, list_end, start_of, item}
use Rattle.capsule_grammar.specs.Refusals.{image_parts_size}

-- Each item of a body of this front and size begins behind the offset list and ends where the next
-- one begins, the last at the end. Only the last can be empty.
pub record AreBounds (front : List ℕ) (size : ℕ) : Type 0 where
  pub behind : (k : ℕ) → k ≤ item_count front → list_end front ≤ start_of front size k
  pub within : (k : ℕ) → k ≤ item_count front → start_of front size k ≤ size
  pub apart : (k : ℕ) → k + 1 < item_count front →
      start_of front size k < start_of front size (k + 1)
  pub rising : (k : ℕ) → k < item_count front → start_of front size k ≤ start_of front size (k + 1)

-- an item that is an image
pub record IsImageItem (image : List ℕ) : Type 0 where
  pub header : image_header image ≡ Ok (image_header_fields image)
  pub parts : image_parts_size image ≤ length image

-- a body of an FMP capsule
pub record IsFmpBody (body : List ℕ) : Type 0 where
  pub version : number_at body 0 4 ≡ 1
  pub long : list_end body ≤ length body
  pub bounds : AreBounds body (length body)
  pub images : (k : ℕ) → driver_count body ≤ k → k < item_count body → IsImageItem (item body k)

-- a capsule header whose capsule is there
pub record IsFront (bytes : List ℕ) : Type 0 where
  pub header : capsule_header bytes ≡ Ok (capsule_header_fields bytes)
  pub long : 28 ≤ length bytes
  pub low : 28 ≤ header_size bytes
  pub within : header_size bytes ≤ image_size bytes
  pub limit : image_size bytes ≤ MAX_CAPSULE_BYTES
  pub there : image_size bytes ≤ length bytes
