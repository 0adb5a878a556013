-- Where a reader of a delivery stands: what it knows at a place of a whole. `rest` is what begins
-- with the capsule in hand.
use Rattle.std.specs.Prelude.{◌≡◌, ◌≢◌, ◌⊎◌, ℕ, ◌+◌, ◌-◌, ◌*◌, ◌^◌, ◌<◌, ◌≤◌, Bool, true, false}
use Rattle.std.specs.Prelude.{List, [], ◌∷◌, ◌++◌}
use Rattle.std.specs.Prelude.{length, drop, max, min, get_or, None, Some}
use Rattle.cu_base.specs.Bytes.{IsBytes}
use Rattle.cu_base.specs.Fields.{field, number_at}
use Rattle.cu_base.specs.Refusals.{Row, first_refusal}
use Rattle.fmp_headers.specs.CapsuleHeader.{header_size, image_size}
use Rattle.fmp_headers.specs.ImageHeader.{image_version, image_header_size}
use Rattle.capsule_grammar.specs.Accepted.{AreBounds, IsFront}
use Rattle.capsule_grammar.specs.Refusals.{is_fmp_guid, body_of, driver_count, item_count}
use Rattle.capsule_grammar.specs.Refusals.{list_end}
use Rattle.capsule_grammar.specs.Refusals.{bound, item, offset, offset_rows, image_parts_size}
use Rattle.capsule_feed.specs.Structures.{Structure, structure, structures, within, cut_to}
use Rattle.capsule_feed.specs.Structures.{size_of}
use Rattle.capsule_feed.specs.Structures.{capsules_from, capsule_structures, behind_header}
use Rattle.capsule_feed.specs.Structures.{body_structures, behind_fmp_head, behind_list}
use Rattle.capsule_feed.specs.Structures.{items_from}
use Rattle.capsule_feed.specs.Structures.{image_parts, item_size}
use Rattle.capsule_feed.specs.Told.{Told, told_of, told_at, told_from, capsule_all_told}
use Rattle.capsule_feed.specs.Told.{body_told}
use Rattle.capsule_feed.specs.Told.{fmp_front_told, items_told, offsets_told, images_told}
use Rattle.capsule_feed.specs.declared.cursor.Cursor.{Cursor}
use Rattle.capsule_feed.specs.declared.cursor.Fate.{Fate}
use Rattle.capsule_feed.specs.declared.cursor.Fate.TheVariants.{Reads, Tells, Ends}
use Rattle.capsule_feed.specs.declared.span.Span.{Span}
use Rattle.capsule_feed.specs.declared.span.SpanKind.{SpanKind}
use Rattle.capsule_feed.specs.declared.span.SpanKind.TheVariants.{Header, Ext, Other, FmpHead}
use Rattle.capsule_feed.specs.declared.span.SpanKind.TheVariants.{Offsets, Lead, Driver}
use Rattle.capsule_feed.specs.declared.span.SpanKind.TheVariants.{ImageHead}
use Rattle.capsule_feed.specs.declared.span.SpanKind.TheVariants.{Image, Vendor, Pad}

-- ---- what is left

-- The structures up to this place were passed, of the capsule in hand these are left, and these
-- rows were not tested.
pub record IsLeft (fate : Fate) (count capsule start at : ℕ) (left : List Structure) (rows : List (Row Told))
    (whole : List ℕ) : Type 0 where
  pub reads : fate ≡ Reads
  pub bytes : IsBytes whole
  pub total : count ≡ length whole
  pub small : count < 2 ^ 32
  pub few : capsule < 8
  pub before : List Structure
  pub structures : capsules_from 8 0 whole ≡ before ++ (left ++ capsules_from (7 - capsule)
      (capsule + 1) (drop (image_size (drop start whole)) (drop start whole)))
  pub size : size_of before ≡ at
  pub told : told_of whole ≡ told_at (7 - capsule) start (drop start whole) (first_refusal rows)

-- so many capsules were passed, and bytes stand behind them
pub record IsBetween (count capsule start : ℕ) (whole : List ℕ) : Type 0 where
  pub bytes : IsBytes whole
  pub total : count ≡ length whole
  pub small : count < 2 ^ 32
  pub few : capsule ≤ 8
  pub more : start < count
  pub before : List Structure
  pub structures : capsules_from 8 0 whole
      ≡ before ++ capsules_from (8 - capsule) capsule (drop start whole)
  pub size : size_of before ≡ start
  pub told : told_of whole ≡ told_from (8 - capsule) start (drop start whole)

-- ---- what is known

-- the capsule header
pub record HeaderIs (h s : ℕ) (f : Bool) (rest : List ℕ) : Type 0 where
  pub front : IsFront rest
  pub header : h ≡ header_size rest
  pub image : s ≡ image_size rest
  pub guid : f ≡ is_fmp_guid (field rest 0 16)

-- the FMP header, whose offset list is there
pub record FmpIs (h s d n : ℕ) (rest : List ℕ) : Type 0 where
  pub front : IsFront rest
  pub header : h ≡ header_size rest
  pub image : s ≡ image_size rest
  pub list : list_end (body_of rest) ≤ length (body_of rest)
  pub drivers : d ≡ driver_count (body_of rest)
  pub items : n ≡ item_count (body_of rest)

-- the first offsets, which are not refused
pub record OffsetsAre (own : List ℕ) (n : ℕ) (rest : List ℕ) : Type 0 where
  pub long : length own ≡ n
  pub each : (k : ℕ) → k < n → get_or own k 0 ≡ offset (body_of rest) k
  pub passed : (k : ℕ) → k < n →
      first_refusal (offset_rows (body_of rest) (header_size rest) k) ≡ None

-- all offsets
pub record ItemsAre (h s d n : ℕ) (own rest : List ℕ) : Type 0 where
  pub fmp : FmpIs h s d n rest
  pub bounds : AreBounds (body_of rest) (length (body_of rest))
  pub each : (k : ℕ) → k < n → get_or own k 0 ≡ offset (body_of rest) k

-- where item k begins in a delivery
abbrev pub place_of : ℕ → List ℕ → ℕ → ℕ
place_of start rest k = start + header_size rest + bound (body_of rest) k

-- where the header of image item k ends in a delivery
abbrev pub image_place : ℕ → List ℕ → ℕ → ℕ
image_place start rest k =
    place_of start rest k + image_header_size (image_version (item (body_of rest) k))

-- the parts of image item k
pub record ImageIs (start k v p e : ℕ) (rest : List ℕ) : Type 0 where
  pub low : driver_count (body_of rest) ≤ k
  pub here : k < item_count (body_of rest)
  pub vendor : v
      ≡ image_place start rest k + number_at (item (body_of rest) k) 24 4
  pub pad : p ≡ v + number_at (item (body_of rest) k) 28 4
  pub end : e ≡ place_of start rest (k + 1)
  pub parts : image_parts_size (item (body_of rest) k) ≤ item_size (body_of rest) k

-- ---- a reader, by the structure in hand

-- what is left of the whole, where `rest` begins with the capsule in hand
abbrev pub LeftOf : Cursor → ℕ → (List ℕ → List Structure) → (List ℕ → List (Row Told)) → List ℕ
    → Type 0
LeftOf c at left rows whole =
    IsLeft c.fate c.total c.capsule c.start at (left (drop c.start whole)) (rows (drop c.start whole)) whole

-- the images from number k on are not tested
abbrev pub images_left : ℕ → List ℕ → List (Row Told)
images_left k rest = images_told (body_of rest) (header_size rest) k

-- at item k, or behind the last one
pub record AtItem (c : Cursor) (own : List ℕ) (k : ℕ) (whole : List ℕ) : Type 0 where
  pub items : ItemsAre c.header_size c.image_size c.drivers c.items own (drop c.start whole)
  pub here : k ≤ c.items
  pub left : LeftOf c (place_of c.start (drop c.start whole) k)
      (λ rest. items_from c.capsule (body_of rest) k)
      (λ rest. images_left (max (driver_count (body_of rest)) k) rest) whole

-- at the body
pub record AtBody (c : Cursor) (whole : List ℕ) : Type 0 where
  pub known : HeaderIs c.header_size c.image_size c.is_fmp (drop c.start whole)
  pub left : LeftOf c (c.start + header_size (drop c.start whole))
      (λ rest. body_structures c.capsule rest) (λ rest. body_told rest) whole

-- behind the last structure of the capsule in hand
pub record AtEnd (c : Cursor) (whole : List ℕ) : Type 0 where
  pub front : IsFront (drop c.start whole)
  pub image : c.image_size ≡ image_size (drop c.start whole)
  pub left : LeftOf c (c.start + image_size (drop c.start whole)) (λ rest. []) (λ rest. []) whole

-- in the fields of a capsule header
pub record InHeader (c : Cursor) (whole : List ℕ) : Type 0 where
  pub item : c.item ≡ 0
  pub kind : c.kind ≡ Header
  pub at : c.at ≡ c.start
  pub stop : c.stop ≡ c.start + min 28 (length (drop c.start whole))
  pub more : c.start < c.total
  pub left : LeftOf c c.start (λ rest. capsule_structures c.capsule rest)
      (λ rest. capsule_all_told rest) whole

-- in the rest of a capsule header
pub record InExt (c : Cursor) (whole : List ℕ) : Type 0 where
  pub known : HeaderIs c.header_size c.image_size c.is_fmp (drop c.start whole)
  pub at : c.at ≡ c.start + 28
  pub stop : c.stop ≡ c.start + header_size (drop c.start whole)
  pub left : LeftOf c c.at (λ rest. behind_header c.capsule rest) (λ rest. body_told rest) whole

-- in the body of a capsule that is no FMP capsule
pub record InOther (c : Cursor) (whole : List ℕ) : Type 0 where
  pub front : IsFront (drop c.start whole)
  pub image : c.image_size ≡ image_size (drop c.start whole)
  pub at : c.at ≡ c.start + header_size (drop c.start whole)
  pub stop : c.stop ≡ c.start + image_size (drop c.start whole)
  pub left : LeftOf c c.at
      (λ rest. structure Other c.capsule 0 (image_size rest - header_size rest) ∷ [])
      (λ rest. []) whole

-- in the FMP header
pub record InFmpHead (c : Cursor) (whole : List ℕ) : Type 0 where
  pub item : c.item ≡ 0
  pub kind : c.kind ≡ FmpHead
  pub front : IsFront (drop c.start whole)
  pub header : c.header_size ≡ header_size (drop c.start whole)
  pub image : c.image_size ≡ image_size (drop c.start whole)
  pub at : c.at ≡ c.start + header_size (drop c.start whole)
  pub stop : c.stop ≡ c.at + min 8 (length (body_of (drop c.start whole)))
  pub left : LeftOf c c.at
      (λ rest. structure FmpHead c.capsule 0 8 ∷ behind_fmp_head c.capsule (body_of rest))
      (λ rest. fmp_front_told (body_of rest) (header_size rest)
      ++ items_told (body_of rest) (header_size rest)) whole

-- in an offset
pub record InOffsets (c : Cursor) (own : List ℕ) (whole : List ℕ) : Type 0 where
  pub item : c.item ≡ 0
  pub kind : c.kind ≡ Offsets
  pub known : FmpIs c.header_size c.image_size c.drivers c.items (drop c.start whole)
  pub offsets : OffsetsAre own c.tested (drop c.start whole)
  pub here : c.tested < c.items
  pub at : c.at ≡ c.start + header_size (drop c.start whole) + 8
  pub stop : c.stop ≡ c.at + 8 + 8 * c.tested
  pub left : LeftOf c c.at (λ rest. behind_fmp_head c.capsule (body_of rest))
      (λ rest. offsets_told (body_of rest) (header_size rest) c.tested
      ++ images_left (driver_count (body_of rest)) rest) whole

-- between the offset list and the first item
pub record InLead (c : Cursor) (own : List ℕ) (whole : List ℕ) : Type 0 where
  pub items : ItemsAre c.header_size c.image_size c.drivers c.items own (drop c.start whole)
  pub at : c.at ≡ c.start + header_size (drop c.start whole) + list_end (body_of (drop c.start whole))
  pub stop : c.stop ≡ place_of c.start (drop c.start whole) 0
  pub left : LeftOf c c.at (λ rest. behind_list c.capsule (body_of rest))
      (λ rest. images_left (driver_count (body_of rest)) rest) whole

-- in a driver
pub record InDriver (c : Cursor) (own : List ℕ) (whole : List ℕ) : Type 0 where
  pub items : ItemsAre c.header_size c.image_size c.drivers c.items own (drop c.start whole)
  pub here : c.item < c.items
  pub low : c.item < c.drivers
  pub at : c.at ≡ place_of c.start (drop c.start whole) c.item
  pub stop : c.stop ≡ place_of c.start (drop c.start whole) (c.item + 1)
  pub left : LeftOf c c.at (λ rest. items_from c.capsule (body_of rest) c.item)
      (λ rest. images_left (driver_count (body_of rest)) rest) whole

-- in the first 32 bytes of an image item
pub record InImageStart (c : Cursor) (own : List ℕ) (whole : List ℕ) : Type 0 where
  pub kind : c.kind ≡ ImageHead
  pub items : ItemsAre c.header_size c.image_size c.drivers c.items own (drop c.start whole)
  pub here : c.item < c.items
  pub low : c.drivers ≤ c.item
  pub at : c.at ≡ place_of c.start (drop c.start whole) c.item
  pub end : c.item_end ≡ place_of c.start (drop c.start whole) (c.item + 1)
  pub stop : c.stop ≡ c.at + min 32 (c.item_end - c.at)
  pub left : LeftOf c c.at (λ rest. items_from c.capsule (body_of rest) c.item)
      (λ rest. images_left c.item rest) whole

-- in an image item of known parts, of which these are left
pub record InParts (c : Cursor) (own : List ℕ) (from to : ℕ)
    (next : List ℕ → List Structure) (whole : List ℕ) : Type 0 where
  pub items : ItemsAre c.header_size c.image_size c.drivers c.items own (drop c.start whole)
  pub parts : ImageIs c.start c.item c.vendor_at c.pad_at c.item_end (drop c.start whole)
  pub at : c.at ≡ from
  pub stop : c.stop ≡ to
  pub left : LeftOf c c.at
      (λ rest. next rest ++ items_from c.capsule (body_of rest) (c.item + 1))
      (λ rest. images_left (c.item + 1) rest) whole

-- ---- a reader, by its fate

-- the image header, before and behind its test
abbrev pub InImageHead : Cursor → List ℕ → List ℕ → Type 0
InImageHead c own whole =
    ((c.tested ≡ c.item) × InImageStart c own whole)
    ⊎ ((c.tested ≡ c.item + 1) × InParts c own (place_of c.start (drop c.start whole) c.item)
    (image_place c.start (drop c.start whole) c.item)
    (λ rest. structure ImageHead c.capsule c.item
    (image_header_size (image_version (item (body_of rest) c.item)))
    ∷ image_parts c.capsule (body_of rest) c.item) whole)

-- vendor code and pad
abbrev pub vendor_parts : ℕ → ℕ → List ℕ → List Structure
vendor_parts capsule k rest =
    structure Vendor capsule k (number_at (item (body_of rest) k) 28 4)
    ∷ structure Pad capsule k (item_size (body_of rest) k - image_parts_size (item (body_of rest) k))
    ∷ []

-- the pad
abbrev pub pad_parts : ℕ → ℕ → List ℕ → List Structure
pad_parts capsule k rest =
    structure Pad capsule k (item_size (body_of rest) k - image_parts_size (item (body_of rest) k))
    ∷ []

-- in the structure in hand
abbrev pub InStructure : SpanKind → Cursor → List ℕ → List ℕ → Type 0
InStructure Header c own whole = InHeader c whole
InStructure Ext c own whole = InExt c whole
InStructure Other c own whole = InOther c whole
InStructure FmpHead c own whole = InFmpHead c whole
InStructure Offsets c own whole = InOffsets c own whole
InStructure Lead c own whole = InLead c own whole
InStructure Driver c own whole = InDriver c own whole
InStructure ImageHead c own whole = InImageHead c own whole
InStructure Image c own whole =
    InParts c own (image_place c.start (drop c.start whole) c.item) c.vendor_at
    (λ rest. image_parts c.capsule (body_of rest) c.item) whole
InStructure Vendor c own whole =
    InParts c own c.vendor_at c.pad_at (vendor_parts c.capsule c.item) whole
InStructure Pad c own whole = InParts c own c.pad_at c.item_end (pad_parts c.capsule c.item) whole

-- these are the bytes from a place up to another, or their first 32
abbrev pub HasHead : ℕ → ℕ → List ℕ → List ℕ → Type 0
HasHead from x head whole = (from ≤ x) × (head ≡ field whole from (min 32 (x - from)))

-- what was gathered for the next test, where the bytes up to the place `x` came
abbrev pub IsHead : SpanKind → Cursor → List ℕ → ℕ → List ℕ → Type 0
IsHead Header c head x whole = HasHead c.at x head whole
IsHead FmpHead c head x whole = HasHead c.at x head whole
IsHead Offsets c head x whole = HasHead (c.stop - 8) x head whole
IsHead ImageHead c head x whole = c.tested ≡ c.item → HasHead c.at x head whole
IsHead Ext c head x whole = Unit {0}
IsHead Other c head x whole = Unit {0}
IsHead Lead c head x whole = Unit {0}
IsHead Driver c head x whole = Unit {0}
IsHead Image c head x whole = Unit {0}
IsHead Vendor c head x whole = Unit {0}
IsHead Pad c head x whole = Unit {0}

-- it reads on, and no refusal is told before it stops
pub record IsReading (c : Cursor) (own head : List ℕ) (x : ℕ) (whole : List ℕ) : Type 0 where
  pub more : x < c.stop
  pub later : (t : Told) → told_of whole ≡ Some t → c.stop ≤ t.reach
  pub inside : InStructure c.kind c own whole
  pub gathered : IsHead c.kind c head x whole

-- it reads on, or tells the refusal of the whole where it stops, or the whole ends and is accepted
abbrev pub IsFated : Fate → Cursor → List ℕ → List ℕ → ℕ → List ℕ → Type 0
IsFated Reads c own head x whole = IsReading c own head x whole
IsFated (Tells r) c own head x whole =
    told_of whole ≡ Some (record { reach = c.stop; at = r.at; why = r.why })
IsFated Ends c own head x whole = (told_of whole ≡ None) × (c.stop ≡ length whole)

-- a span of these numbers
abbrev pub span_of : SpanKind → ℕ → ℕ → ℕ → ℕ → Span
span_of kind capsule item at size =
    record { kind = kind; capsule = capsule; item = item; at = at; length = size }

-- what lies before a place of the structure in hand is what lies before that structure, and what of
-- it lies before the place
abbrev pub IsInHand : SpanKind → ℕ → ℕ → ℕ → ℕ → List ℕ → Type 0
IsInHand kind capsule item at stop whole =
    (from y : ℕ) → at ≤ y → y ≤ stop → within from y (structures whole)
    ≡ within from at (structures whole) ++ cut_to from y (span_of kind capsule item at (stop - at))

-- what lies between two places is cut at this one, where a structure begins
abbrev pub IsBoundary : ℕ → List ℕ → Type 0
IsBoundary at whole =
    (from y : ℕ) → from ≤ at → at ≤ y → within from y (structures whole)
    ≡ within from at (structures whole) ++ within at y (structures whole)

-- a reader of this whole, whose bytes up to the place `x` came
pub record Goes (c : Cursor) (own head : List ℕ) (x : ℕ) (whole : List ℕ) : Type 0 where
  pub hand : IsInHand c.kind c.capsule c.item c.at c.stop whole
  pub begins : IsBoundary c.at whole
  pub reached : c.at ≤ x
  pub ahead : x ≤ c.stop
  pub within : c.stop ≤ length whole
  pub fate : IsFated c.fate c own head x whole

-- at the rest of a capsule header
pub record AtExt (c : Cursor) (whole : List ℕ) : Type 0 where
  pub known : HeaderIs c.header_size c.image_size c.is_fmp (drop c.start whole)
  pub left : LeftOf c (c.start + 28) (λ rest. behind_header c.capsule rest)
      (λ rest. body_told rest) whole

-- at the FMP header
pub record AtFmpHead (c : Cursor) (whole : List ℕ) : Type 0 where
  pub front : IsFront (drop c.start whole)
  pub header : c.header_size ≡ header_size (drop c.start whole)
  pub image : c.image_size ≡ image_size (drop c.start whole)
  pub left : LeftOf c (c.start + header_size (drop c.start whole))
      (λ rest. structure FmpHead c.capsule 0 8 ∷ behind_fmp_head c.capsule (body_of rest))
      (λ rest. fmp_front_told (body_of rest) (header_size rest)
      ++ items_told (body_of rest) (header_size rest)) whole

-- at the body of a capsule that is no FMP capsule
pub record AtOther (c : Cursor) (whole : List ℕ) : Type 0 where
  pub front : IsFront (drop c.start whole)
  pub header : c.header_size ≡ header_size (drop c.start whole)
  pub image : c.image_size ≡ image_size (drop c.start whole)
  pub left : LeftOf c (c.start + header_size (drop c.start whole))
      (λ rest. structure Other c.capsule 0 (image_size rest - header_size rest) ∷ [])
      (λ rest. []) whole

-- at the offset list
pub record AtOffsets (c : Cursor) (whole : List ℕ) : Type 0 where
  pub known : FmpIs c.header_size c.image_size c.drivers c.items (drop c.start whole)
  pub left : LeftOf c (c.start + header_size (drop c.start whole) + 8)
      (λ rest. behind_fmp_head c.capsule (body_of rest))
      (λ rest. offsets_told (body_of rest) (header_size rest) 0
      ++ images_left (driver_count (body_of rest)) rest) whole

-- behind an offset that is not refused
pub record PastOffset (c : Cursor) (own : List ℕ) (whole : List ℕ) : Type 0 where
  pub kind : c.kind ≡ Offsets
  pub item : c.item ≡ 0
  pub known : FmpIs c.header_size c.image_size c.drivers c.items (drop c.start whole)
  pub offsets : OffsetsAre own (c.tested + 1) (drop c.start whole)
  pub here : c.tested < c.items
  pub at : c.at ≡ c.start + header_size (drop c.start whole) + 8
  pub stop : c.stop ≡ c.at + 8 + 8 * c.tested
  pub left : LeftOf c c.at (λ rest. behind_fmp_head c.capsule (body_of rest))
      (λ rest. offsets_told (body_of rest) (header_size rest) (c.tested + 1)
      ++ images_left (driver_count (body_of rest)) rest) whole

-- behind the offset list
pub record AtLead (c : Cursor) (own : List ℕ) (whole : List ℕ) : Type 0 where
  pub items : ItemsAre c.header_size c.image_size c.drivers c.items own (drop c.start whole)
  pub left : LeftOf c (c.start + header_size (drop c.start whole)
      + list_end (body_of (drop c.start whole)))
      (λ rest. behind_list c.capsule (body_of rest))
      (λ rest. images_left (driver_count (body_of rest)) rest) whole

-- at an image item
pub record AtImage (c : Cursor) (own : List ℕ) (whole : List ℕ) : Type 0 where
  pub items : ItemsAre c.header_size c.image_size c.drivers c.items own (drop c.start whole)
  pub here : c.item < c.items
  pub low : c.drivers ≤ c.item
  pub at : c.at ≡ place_of c.start (drop c.start whole) c.item
  pub end : c.item_end ≡ place_of c.start (drop c.start whole) (c.item + 1)
  pub left : LeftOf c c.at (λ rest. items_from c.capsule (body_of rest) c.item)
      (λ rest. images_left c.item rest) whole

-- at a part of an image item
pub record AtParts (c : Cursor) (own : List ℕ) (at : ℕ) (next : List ℕ → List Structure)
    (whole : List ℕ) : Type 0 where
  pub items : ItemsAre c.header_size c.image_size c.drivers c.items own (drop c.start whole)
  pub parts : ImageIs c.start c.item c.vendor_at c.pad_at c.item_end (drop c.start whole)
  pub left : LeftOf c at (λ rest. next rest ++ items_from c.capsule (body_of rest) (c.item + 1))
      (λ rest. images_left (c.item + 1) rest) whole

-- it holds of some whole
pub record HoldsOfSome (P : List ℕ → Type 0) : Type 0 where
  pub whole : List ℕ
  pub holds : P whole

-- ---- a reader where it stops

-- it stops in the structure in hand with what was gathered, an offset already kept
abbrev pub IsStopped : SpanKind → Cursor → List ℕ → List ℕ → List ℕ → Type 0
IsStopped Header c own head whole = InHeader c whole × HasHead c.at c.stop head whole
IsStopped Ext c own head whole = InExt c whole
IsStopped Other c own head whole = InOther c whole
IsStopped FmpHead c own head whole = InFmpHead c whole × HasHead c.at c.stop head whole
IsStopped Offsets c own head whole = PastOffset c own whole
IsStopped Lead c own head whole = InLead c own whole
IsStopped Driver c own head whole = InDriver c own whole
IsStopped ImageHead c own head whole =
    InImageHead c own whole × (c.tested ≡ c.item → HasHead c.at c.stop head whole)
IsStopped Image c own head whole = InStructure Image c own whole
IsStopped Vendor c own head whole = InStructure Vendor c own whole
IsStopped Pad c own head whole = InStructure Pad c own whole

-- the offsets that are kept behind a structure of this kind
abbrev pub own_behind : SpanKind → List ℕ → List ℕ
own_behind Header own = []
own_behind Ext own = []
own_behind Other own = []
own_behind FmpHead own = []
own_behind Offsets own = own
own_behind Lead own = own
own_behind Driver own = own
own_behind ImageHead own = own
own_behind Image own = own
own_behind Vendor own = own
own_behind Pad own = own

-- ---- a piece

-- these bytes stand at this place of the whole
pub record StandAt (x : ℕ) (piece whole : List ℕ) : Type 0 where
  pub within : x + length piece ≤ length whole
  pub same : piece ≡ field whole x (length piece)

-- a reader of this whole and the bytes that come next, unless it has told its refusal
pub record IsNext (c : Cursor) (own head : List ℕ) (x : ℕ) (piece whole : List ℕ) : Type 0 where
  pub goes : Goes c own head x whole
  pub next : x < c.stop → StandAt x piece whole

-- a reader that took bytes, behind the place `first`, and gave the events of them
pub record HasRead (c : Cursor) (own head : List ℕ) (first x size : ℕ) (old now : List Span)
    (whole : List ℕ) : Type 0 where
  pub goes : Goes c own head x whole
  pub came : x ≡ min (first + size) c.stop
  pub events : now ≡ old ++ within first x (structures whole)

-- the test is due, or the structure in hand ends
abbrev pub IsAtStop : Fate → ℕ → ℕ → Bool → Type 0
IsAtStop fate stop came true = (fate ≡ Reads) × (came ≡ stop)
IsAtStop fate stop came false = fate ≡ Reads → came ≢ stop

-- all offsets are of earlier capsules where none is kept behind a structure of the first kind or none
-- matters in one of the second; else as many as before
abbrev pub IsNextFrom : SpanKind → SpanKind → ℕ → ℕ → ℕ → Type 0
IsNextFrom last next from size result =
    ((result ≡ size) × (((own : List ℕ) → own_behind last own ≡ []) ⊎ (next ≡ Header)))
    ⊎ ((result ≡ from) × ((own : List ℕ) → own_behind last own ≡ own))

-- the events of a piece up to the place `given`, where a structure begins or the piece does
pub record IsGiven (c : Cursor) (own head : List ℕ) (x given first : ℕ) (old now : List Span)
    (whole : List ℕ) : Type 0 where
  pub goes : Goes c own head x whole
  pub events : now ≡ old ++ within first given (structures whole)
  pub cut : (y : ℕ) → given ≤ y → within first y (structures whole)
      ≡ within first given (structures whole) ++ within given y (structures whole)
  pub at : c.at ≤ given
  pub low : first ≤ given
  pub high : given ≤ x
