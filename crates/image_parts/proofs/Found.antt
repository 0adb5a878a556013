-- What an answer by places says of the parts as they are written.
use Rattle.std.proofs.Common.{ℕ, List, Result, Ok, Err, IfOk, IfErr}
use Rattle.cu_base.specs.Bytes.{IsBytes}
use Rattle.image_parts.specs.declared.fault.PartRefusal.{PartRefusal}
use Rattle.image_parts.specs.declared.fault.PartRefusal.TheVariants.{Part, Memory}
use Rattle.image_parts.specs.declared.value.Parts.{Parts}
use Rattle.image_parts.specs.Cuts.{IsCutInto}
use Rattle.image_parts.specs.Parts.{IsPartsOf}
use Rattle.image_parts.specs.Refusals.{IsFound, IsRefusalOf}
use Rattle.image_parts.specs.Values.{PartsValue, parts_seen}
use Rattle.image_parts.proofs.Apart.{cut_not_refused, one_cut}
use Rattle.image_parts.proofs.Read.{parts_are_cut}
use Rattle.image_parts.proofs.Spelled.{cut_is_parts}

pub found_parts : (image : List ℕ) (support : ℕ) (r : Result Parts PartRefusal) → IsBytes image
    → IfOk r (λ p. IsCutInto image support (parts_seen p))
    → IfOk r (λ p. IsPartsOf image support (parts_seen p))
found_parts image support (Ok p) is h = cut_is_parts image support (parts_seen p) is h
found_parts image support (Err e) is h = tt

pub found_only : (image : List ℕ) (support : ℕ) (r : Result Parts PartRefusal)
    → IfOk r (λ p. IsCutInto image support (parts_seen p))
    → IfErr r (λ e. IsRefusalOf e image support) → (p : PartsValue) → IsPartsOf image support p
    → IsFound p r
found_only image support (Ok found) h e p is =
    one_cut image support (parts_seen found) p h (parts_are_cut image support p is)
found_only image support (Err (Part fault)) h e p is =
    cut_not_refused image support p fault.at fault.why (parts_are_cut image support p is) e
found_only image support (Err Memory) h e p is = tt
