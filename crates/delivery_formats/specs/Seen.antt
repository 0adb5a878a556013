-- What the reference machine sees of a capsule (UEFI 2.10, 8.5.3 and 23.3.2) and of the parts of an
-- update image (UEFI 2.10, 23.1 and 23.2).
use Rattle.std.specs.Prelude.{[], length, map, unwrap_or}
use Rattle.cu_base.specs.declared.guid.Guid.{Guid}
use Rattle.fmp_headers.specs.declared.image.ImageHeader.{ImageHeader}
use Rattle.capsule_grammar.specs.declared.value.Image.{Image}
use Rattle.capsule_grammar.specs.declared.value.Body.{Body}
use Rattle.capsule_grammar.specs.declared.value.Body.TheVariants.{Other, Fmp}
use Rattle.capsule_grammar.specs.declared.value.Capsule.{Capsule}
use Rattle.image_parts.specs.Values.{PartsValue}
use Rattle.reference_machine.specs.Formats as machine

-- the header of an image as the machine sees it
abbrev pub machine_head : ImageHeader → machine.ItemHead
machine_head h = record {
  version = h.version;
  type_id = h.type_id;
  index = h.index;
  instance =
      h.instance;
  support = h.support;
}

-- an image as the machine sees it: its header and its update image
abbrev pub machine_item : Image → machine.Item
machine_item i = record { head = machine_head i.header; image = i.image }

-- a capsule of this GUID and body: the number of its drivers, and its images in order; another body
-- has none
abbrev pub machine_body : Guid → Body → machine.Capsule
machine_body guid (Other blob) = record { guid = guid; drivers = 0; items = [] }
machine_body guid (Fmp b) = record {
  guid = guid;
  drivers = length b.drivers;
  items =
      map machine_item b.images;
}

-- a capsule as the machine sees it
abbrev pub machine_capsule : Capsule → machine.Capsule
machine_capsule c = machine_body c.guid c.body

-- the parts of an image as the machine sees them: both versions of the payload header, the
-- dependency section, empty where there is none, and the payload
abbrev pub machine_parts : PartsValue → machine.Parts
machine_parts p = record {
  version = p.head.version;
  lowest = p.head.lowest;
  dependency = unwrap_or p.dep [];
  payload = p.payload;
}
