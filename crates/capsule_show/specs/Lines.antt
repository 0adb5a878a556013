-- The lines of a capsule's text, each by its words: a line is a first word, further ones with a
-- space before each, and a line feed. Numbers are decimal; flags have eight upper-case hexadecimal
-- digits, and bytes two lower-case ones each. Lines of an image's parts have two spaces in front.
use Rattle.std.specs.Prelude.{ℕ, ◌+◌, ◌==◌, List, [], ◌∷◌, ◌++◌, length, flat_map, codes, decimal}
use Rattle.std.specs.Prelude.{Option, None, Some, if◌then◌else◌}
use Rattle.std.specs.Int.{w32, to_be_bytes}
use Rattle.std.specs.List.{list_all}
use Rattle.hex.specs.Hex.{encode_lower, encode_upper}
use Rattle.sha2.specs.Sha256.{sha256}
use Rattle.cu_base.specs.Guids.{guid_text}
use Rattle.fmp_headers.specs.declared.capsule.CapsuleHeader.{CapsuleHeader}
use Rattle.fmp_headers.specs.declared.image.ImageHeader.{ImageHeader}
use Rattle.capsule_grammar.specs.declared.value.Capsule.{Capsule}
use Rattle.capsule_grammar.specs.declared.value.Image.{Image}
use Rattle.capsule_grammar.specs.Spelling.{header_of}
use Rattle.capsule_grammar.specs.Values.{FmpValue}
use Rattle.image_parts.specs.declared.fault.PartWhy.{PartWhy}
use Rattle.image_parts.specs.Values.{AuthValue, PartsValue}
use Rattle.capsule_show.specs.Names.{part_name}

-- words, each with a space before it
abbrev pub spaced : List (List ℕ) → List ℕ
spaced words = flat_map (λ w. 32 ∷ w) words

-- a line: a first word, further ones, and the line feed
abbrev pub line : List ℕ → List (List ℕ) → List ℕ
line first words = first ++ spaced words ++ 10 ∷ []

-- the four bytes of flags, the highest first, in upper-case hexadecimal digits
abbrev pub flags_text : ℕ → List ℕ
flags_text flags = encode_upper (to_be_bytes w32 flags)

-- ---- the capsule

-- GUID, flags, HeaderSize and CapsuleImageSize
abbrev pub header_line : CapsuleHeader → List ℕ
header_line h =
    line (codes "capsule")
    (guid_text h.guid
    ∷ codes "flags" ∷ flags_text h.flags
    ∷ codes "header" ∷ decimal h.header_size
    ∷ codes "size" ∷ decimal h.image_size ∷ [])

-- the header of a capsule
abbrev pub capsule_line : Capsule → List ℕ
capsule_line c = header_line (header_of c)

-- how many bytes stand between the fields of the capsule header and HeaderSize
abbrev pub ext_line : List ℕ → List ℕ
ext_line ext = line (codes "ext") (decimal (length ext) ∷ [])

-- how many bytes the body has, where the GUID is not that of FMP capsules
abbrev pub other_line : List ℕ → List ℕ
other_line body = line (codes "other") (decimal (length body) ∷ [])

-- so many drivers and images, and so many bytes before the first of them
abbrev pub count_words : ℕ → ℕ → ℕ → List (List ℕ)
count_words drivers images lead =
    codes "drivers" ∷ decimal drivers
    ∷ codes "items" ∷ decimal images
    ∷ codes "lead" ∷ decimal lead ∷ []

-- how many drivers and images there are, and how many bytes stand before the first of them
abbrev pub fmp_line : FmpValue → List ℕ
fmp_line b = line (codes "fmp") (count_words (length b.drivers) (length b.images) (length b.lead))

-- the number of a driver, and how many bytes it has
abbrev pub driver_line : ℕ → List ℕ → List ℕ
driver_line k driver =
    line (codes "driver") (decimal k ∷ codes "size" ∷ decimal (length driver) ∷ [])

-- a line for each driver, counted from the number of the first
abbrev pub driver_lines : ℕ → List (List ℕ) → List (List ℕ)
driver_lines k [] = []
driver_lines k (driver ∷ drivers) = driver_line k driver ∷ driver_lines (k + 1) drivers

-- ---- an image

-- whether a pad has another byte than zero
abbrev pub pad_word : List ℕ → List ℕ
pad_word pad = if list_all (λ b. b == 0) pad then codes "zero" else codes "data"

-- the fields of the image header
abbrev pub header_words : ImageHeader → List (List ℕ)
header_words h =
    codes "header" ∷ decimal h.version
    ∷ codes "type" ∷ guid_text h.type_id
    ∷ codes "index" ∷ decimal h.index
    ∷ codes "instance" ∷ decimal h.instance
    ∷ codes "support" ∷ decimal h.support ∷ []

-- how many bytes update image, vendor code and pad have, and what the pad is
abbrev pub size_words : Image → List (List ℕ)
size_words i =
    codes "image" ∷ decimal (length i.image)
    ∷ codes "vendor" ∷ decimal (length i.vendor)
    ∷ codes "pad" ∷ decimal (length i.pad) ∷ pad_word i.pad ∷ []

-- the number of an image, its header and its sizes
abbrev pub item_line : ℕ → Image → List ℕ
item_line k i = line (codes "item") (decimal k ∷ header_words i.header ++ size_words i)

-- MonotonicCount, CertType and how many bytes CertData has
abbrev pub auth_lines : Option AuthValue → List (List ℕ)
auth_lines None = []
auth_lines (Some a) =
    line (codes "  auth")
    (decimal a.monotonic ∷ guid_text a.cert_type ∷ decimal (length a.cert) ∷ []) ∷ []

-- how many bytes the dependency section has, and these bytes
abbrev pub dep_lines : Option (List ℕ) → List (List ℕ)
dep_lines None = []
dep_lines (Some dep) =
    line (codes "  dep") (decimal (length dep) ∷ encode_lower dep ∷ []) ∷ []

-- FwVersion, LowestSupportedVersion, HeaderSize of the payload header, and how many bytes the
-- payload has
abbrev pub payload_line : PartsValue → List ℕ
payload_line p =
    line (codes "  payload")
    (decimal p.head.version ∷ decimal p.head.lowest ∷ decimal p.head.header_size
    ∷ decimal (length p.payload) ∷ [])

-- where an update image is refused, and why
abbrev pub refused_line : ℕ → PartWhy → List ℕ
refused_line at why = line (codes "  parts") (decimal at ∷ part_name why ∷ [])

-- the SHA-256 of the whole update image, by which it is admitted
abbrev pub digest_line : List ℕ → List ℕ
digest_line image = line (codes "  digest") (encode_lower (sha256 image) ∷ [])
