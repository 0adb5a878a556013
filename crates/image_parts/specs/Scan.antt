-- A scan of an update image that comes in pieces (UEFI 2.10, 23.1 and 23.2): what is kept of the
-- bytes so far, and what they say of the image when all have come. The payload, and what
-- authentication data holds behind its fields, are not kept.
use Rattle.std.specs.Prelude.{◌≡◌, ℕ, ◌+◌, ◌-◌, ◌^◌, ◌<◌, ◌≤◌, ◌⊎◌, IsTrue, Bool, true, false, List, [], ◌∷◌}
use Rattle.std.specs.Prelude.{◌++◌, length, take, drop, max, nat_lt, nat_le, ◌&&◌, ◌==◌, if◌then◌else◌}
use Rattle.std.specs.Prelude.{None, Some}
use Rattle.std.specs.List.{list_any}
use Rattle.cu_base.specs.Bytes.{IsBytes}
use Rattle.cu_base.specs.Refusals.{Row, first_refusal}
use Rattle.image_parts.specs.declared.authentication.TheConstants.{AUTHENTICATION_BYTES}
use Rattle.image_parts.specs.declared.payload_header.TheConstants.{FIELD_BYTES}
use Rattle.image_parts.specs.declared.window.TheConstants.{SECTION_REACH}
use Rattle.image_parts.specs.declared.fault.PartRefusal.{PartRefusal}
use Rattle.image_parts.specs.declared.fault.PartRefusal.TheVariants.{Part, Memory}
use Rattle.image_parts.specs.declared.fault.PartWhy.{PartWhy}
use Rattle.image_parts.specs.declared.spans.PartSpans.{PartSpans}
use Rattle.image_parts.specs.Authentication.{authentication_size}
use Rattle.image_parts.specs.Cuts.{auth_end, auth_rows_of}
use Rattle.image_parts.specs.PayloadHeader.{payload_head_at, payload_header_rows_of}
use Rattle.image_parts.specs.Refusals.{RefusesAsSection}
use Rattle.image_parts.specs.Section.{TakesSection}
use Rattle.image_parts.specs.Spans.{spans_at}
use Rattle.image_parts.specs.Support.{has_authentication, has_section}

-- ---- what is kept

-- a zero byte where these bytes have one: a text that begins before them would end there, and so be
-- too long and not cut
abbrev pub later_zero : List ℕ → List ℕ
later_zero bytes = if list_any (λ b. b == 0) bytes then 0 ∷ [] else []

-- a window of this many bytes gets its zero byte from later ones
abbrev pub is_marked : Bool → ℕ → List ℕ → Bool
is_marked due kept later =
    due && (nat_le kept SECTION_REACH && list_any (λ b. b == 0) later)

-- how many bytes behind the authentication data may be a section and the fields of a payload header
abbrev pub window_size : Bool → ℕ
window_size true = SECTION_REACH
window_size false = FIELD_BYTES

-- what is kept of the bytes behind the authentication data, where a section is due and where none is
abbrev pub window_of : Bool → List ℕ → List ℕ
window_of true rest = take SECTION_REACH rest ++ later_zero (drop SECTION_REACH rest)
window_of false rest = take FIELD_BYTES rest

-- where the authentication data with this front ends, which is behind its fields
abbrev pub end_by : List ℕ → ℕ
end_by front =
    if nat_lt (length front) AUTHENTICATION_BYTES then AUTHENTICATION_BYTES
    else max AUTHENTICATION_BYTES (authentication_size front)

-- where the bytes of the window begin
abbrev pub window_place : ℕ → List ℕ → ℕ
window_place support front = if has_authentication support then end_by front else 0

-- the size and the support of the image, how many bytes came, the first of them, and what is kept
-- of those behind the authentication data
pub record ScanValue : Type 0 where
  pub size : ℕ
  pub support : ℕ
  pub came : ℕ
  pub front : List ℕ
  pub window : List ℕ

-- these are the bytes that came
pub record StandsFor (scan : ScanValue) (stream : List ℕ) : Type 0 where
  pub bytes : IsBytes stream
  pub small : scan.size < 2 ^ 32
  pub within : length stream ≤ scan.size
  pub came : scan.came ≡ length stream
  pub front : scan.front ≡ take AUTHENTICATION_BYTES stream
  pub window : scan.window ≡ window_of (has_section scan.support)
      (drop (window_place scan.support scan.front) stream)

-- some bytes came
pub record StandsForSome (scan : ScanValue) : Type 0 where
  pub stream : List ℕ
  pub stands : StandsFor scan stream

-- ---- what it says when all bytes came

-- the rows of the payload header behind a section of this length
abbrev pub kept_head_rows : ScanValue → ℕ → List (Row (ℕ × PartWhy))
kept_head_rows scan dep =
    let start = auth_end scan.front scan.support + dep in
    payload_header_rows_of (drop dep scan.window) (scan.size - start) start

-- nothing of what is kept is refused, and these are the places and lengths
pub record Finds (scan : ScanValue) (spans : PartSpans) : Type 0 where
  pub auth : first_refusal (auth_rows_of scan.front scan.size scan.support) ≡ None
  pub dep : ℕ
  pub section : TakesSection (has_section scan.support) scan.window dep
  pub head : first_refusal (kept_head_rows scan dep) ≡ None
  pub places : spans ≡ spans_at (auth_end scan.front scan.support) dep
      (payload_head_at (drop dep scan.window)) scan.size

-- the authentication data is not refused, a section is due, and what is kept is refused as one
pub record RefusesKeptSection (scan : ScanValue) (at : ℕ) (why : PartWhy) : Type 0 where
  pub auth : first_refusal (auth_rows_of scan.front scan.size scan.support) ≡ None
  pub due : IsTrue (has_section scan.support)
  pub section : RefusesAsSection scan.window (auth_end scan.front scan.support) at why

-- neither authentication data nor section is refused, and the payload header behind them is
pub record RefusesKeptHead (scan : ScanValue) (at : ℕ) (why : PartWhy) : Type 0 where
  pub auth : first_refusal (auth_rows_of scan.front scan.size scan.support) ≡ None
  pub dep : ℕ
  pub section : TakesSection (has_section scan.support) scan.window dep
  pub refused : first_refusal (kept_head_rows scan dep) ≡ Some (at, why)

-- what is kept is refused at this place of the image for this cause
abbrev pub Refuses : ScanValue → ℕ → PartWhy → Type 0
Refuses scan at why =
    (first_refusal (auth_rows_of scan.front scan.size scan.support) ≡ Some (at, why))
    ⊎ RefusesKeptSection scan at why ⊎ RefusesKeptHead scan at why

-- the answer is this refusal, or want of memory, which is free
abbrev pub IsScanRefusal : PartRefusal → ScanValue → Type 0
IsScanRefusal (Part fault) scan = Refuses scan fault.at fault.why
IsScanRefusal Memory scan = Unit {0}

-- a section of some length stands at the front of what is kept, where one is due
pub record KeepsSection (scan : ScanValue) : Type 0 where
  pub dep : ℕ
  pub section : TakesSection (has_section scan.support) scan.window dep
