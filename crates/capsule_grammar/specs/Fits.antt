-- Which capsules have a spelling that is read again.
use Rattle.std.specs.Prelude.{◌≡◌, ℕ, ◌+◌, ◌-◌, ◌^◌, ◌<◌, Bool, true, false, IsTrue, ◌&&◌, List}
use Rattle.std.specs.Prelude.{length, take, nat_lt, nat_le, ◌==◌}
use Rattle.std.specs.List.{list_all, AllByRecursion}
use Rattle.cu_base.specs.declared.limits.TheConstants.{MAX_CAPSULE_BYTES}
use Rattle.fmp_headers.specs.ImageHeader.{keeps_version_rules, IsImageHeader}
use Rattle.capsule_grammar.specs.declared.value.Image.{Image}
use Rattle.capsule_grammar.specs.declared.value.Body.{Body}
use Rattle.capsule_grammar.specs.declared.value.Body.TheVariants.{Other, Fmp}
use Rattle.capsule_grammar.specs.declared.value.Capsule.{Capsule}
use Rattle.capsule_grammar.specs.Values.{FmpValue}
use Rattle.capsule_grammar.specs.Refusals.{is_fmp_guid}
use Rattle.capsule_grammar.specs.Spelling.{header_of, spelling}

-- there is a byte
abbrev pub is_nonempty : List ℕ → Bool
is_nonempty bytes = nat_lt 0 (length bytes)

-- the header tells the sizes of update image and vendor code, and keeps the rules of its version
abbrev pub image_fits : Image → Bool
image_fits i =
    i.header.image_size == length i.image && i.header.vendor_size == length i.vendor
    && keeps_version_rules i.header

-- the counts fit the FMP header, and every driver that is not the last of all items has a byte
abbrev pub fmp_fits : FmpValue → Bool
fmp_fits b =
    nat_lt (length b.drivers) (2 ^ 16) && nat_lt (length b.images) (2 ^ 16)
    && list_all is_nonempty (take (length b.drivers + length b.images - 1) b.drivers)
    && list_all image_fits b.images

-- the body is that of an FMP capsule exactly where the GUID says so
abbrev pub body_fits : Bool → Body → Bool
body_fits true (Fmp b) = fmp_fits b
body_fits true (Other blob) = false
body_fits false (Fmp b) = false
body_fits false (Other blob) = true

-- the parts of a body fit, whatever the GUID
abbrev pub parts_fit : Body → Bool
parts_fit (Other blob) = true
parts_fit (Fmp b) = fmp_fits b

-- the capsule fits: its body is that of an FMP capsule exactly where its GUID says so, with counts,
-- sizes and headers that a spelling can tell
abbrev pub fits : Capsule → Bool
fits c = body_fits (is_fmp_guid c.guid.bytes) c.body

-- CapsuleImageSize is at most the limit of a capsule
abbrev pub is_sized : Capsule → Bool
is_sized c = nat_le (header_of c).image_size MAX_CAPSULE_BYTES

-- each field of each image header has its width
abbrev pub HaveWidths : Body → Type 0
HaveWidths (Other blob) = Unit {0}
HaveWidths (Fmp b) = AllByRecursion (λ i. IsImageHeader i.header) b.images

-- a capsule that fits and is sized, and whose fields have their widths, as those of every value of
-- the program do
pub record IsCapsule (c : Capsule) : Type 0 where
  pub guid : length c.guid.bytes ≡ 16
  pub flags : c.flags < 2 ^ 32
  pub widths : HaveWidths c.body
  pub fits : IsTrue (fits c)
  pub sized : IsTrue (is_sized c)

-- the bytes begin with the spelling of this capsule, of this length
pub record BeginsWith (c : Capsule) (n : ℕ) (bytes : List ℕ) : Type 0 where
  pub capsule : IsCapsule c
  pub size : n ≡ length (spelling c)
  pub spelled : take n bytes ≡ spelling c
