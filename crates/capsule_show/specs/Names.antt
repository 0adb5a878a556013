-- The names of the causes for which an update image is refused, as they are printed. The cause of a
-- dependency section has its own name.
use Rattle.std.specs.Prelude.{ℕ, List, codes}
use Rattle.dep_code.specs.declared.fault.DepWhy.{DepWhy}
use Rattle.dep_code.specs.declared.fault.DepWhy.TheVariants.{NoEnd, BadOpcode, CutOperand}
use Rattle.dep_code.specs.declared.fault.DepWhy.TheVariants.{LateDeclare, WrongDeclare, BadTypes}
use Rattle.dep_code.specs.declared.fault.DepWhy.TheVariants.{NotOneBool, TooLong}
use Rattle.image_parts.specs.declared.fault.PartWhy.{PartWhy}
use Rattle.image_parts.specs.declared.fault.PartWhy.TheVariants.{ShortAuth, BadRevision}
use Rattle.image_parts.specs.declared.fault.PartWhy.TheVariants.{BadCertType, BadAuthLength, Dep}
use Rattle.image_parts.specs.declared.fault.PartWhy.TheVariants.{ShortPayloadHeader, BadSignature}
use Rattle.image_parts.specs.declared.fault.PartWhy.TheVariants.{BadPayloadHeaderSize}

-- of a section
abbrev pub dep_name : DepWhy → List ℕ
dep_name NoEnd = codes "NoEnd"
dep_name BadOpcode = codes "BadOpcode"
dep_name CutOperand = codes "CutOperand"
dep_name LateDeclare = codes "LateDeclare"
dep_name WrongDeclare = codes "WrongDeclare"
dep_name BadTypes = codes "BadTypes"
dep_name NotOneBool = codes "NotOneBool"
dep_name TooLong = codes "TooLong"

-- of an image
abbrev pub part_name : PartWhy → List ℕ
part_name ShortAuth = codes "ShortAuth"
part_name BadRevision = codes "BadRevision"
part_name BadCertType = codes "BadCertType"
part_name BadAuthLength = codes "BadAuthLength"
part_name (Dep why) = dep_name why
part_name ShortPayloadHeader = codes "ShortPayloadHeader"
part_name BadSignature = codes "BadSignature"
part_name BadPayloadHeaderSize = codes "BadPayloadHeaderSize"
