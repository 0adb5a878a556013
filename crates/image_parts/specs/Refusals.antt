-- When an update image is refused: at its first wrong part, in the order in which they stand.
use Rattle.std.specs.Prelude.{◌≡◌, ℕ, ◌+◌, ◌⊎◌, IsTrue, List, Option, None, Some, Result, Ok, Err}
use Rattle.cu_base.specs.Refusals.{first_refusal, AnswersBy}
use Rattle.dep_code.specs.declared.fault.DepWhy.{DepWhy}
use Rattle.dep_code.specs.Refusals as dep
use Rattle.image_parts.specs.declared.fault.PartFault.{PartFault}
use Rattle.image_parts.specs.declared.fault.PartRefusal.{PartRefusal}
use Rattle.image_parts.specs.declared.fault.PartRefusal.TheVariants.{Part, Memory}
use Rattle.image_parts.specs.declared.fault.PartWhy.{PartWhy}
use Rattle.image_parts.specs.declared.fault.PartWhy.TheVariants.{Dep}
use Rattle.image_parts.specs.declared.value.Parts.{Parts}
use Rattle.image_parts.specs.Cuts.{auth_end, auth_rows, behind_auth, head_rows}
use Rattle.image_parts.specs.Section.{TakesSection}
use Rattle.image_parts.specs.Support.{has_section}
use Rattle.image_parts.specs.Values.{PartsValue, parts_seen}

-- the authentication data is refused
abbrev pub RefusesAuth : List ℕ → ℕ → ℕ → PartWhy → Type 0
RefusesAuth image support at why = first_refusal (auth_rows image support) ≡ Some (at, why)

-- bytes that begin at this place of the image are refused as a section; its places count from there
pub record RefusesAsSection (bytes : List ℕ) (start at : ℕ) (why : PartWhy) : Type 0 where
  pub place : ℕ
  pub cause : DepWhy
  pub refused : dep.IsRefused bytes place cause
  pub sum : at ≡ start + place
  pub told : why ≡ Dep cause

-- the authentication data is not refused, a section is due behind it, and what stands there is
-- refused
pub record RefusesSection (image : List ℕ) (support at : ℕ) (why : PartWhy) : Type 0 where
  pub auth : first_refusal (auth_rows image support) ≡ None
  pub due : IsTrue (has_section support)
  pub section : RefusesAsSection (behind_auth image support) (auth_end image support) at why

-- neither authentication data nor section is refused, and the payload header behind them is
pub record RefusesHead (image : List ℕ) (support at : ℕ) (why : PartWhy) : Type 0 where
  pub auth : first_refusal (auth_rows image support) ≡ None
  pub size : ℕ
  pub section : TakesSection (has_section support) (behind_auth image support) size
  pub refused : first_refusal (head_rows image support size) ≡ Some (at, why)

-- the image is refused at this place for this cause
abbrev pub IsRefused : List ℕ → ℕ → ℕ → PartWhy → Type 0
IsRefused image support at why =
    RefusesAuth image support at why ⊎ RefusesSection image support at why
    ⊎ RefusesHead image support at why

-- the answer is this refusal of bytes as a section, or want of memory, which is free
abbrev pub IsSectionRefusal : PartRefusal → List ℕ → ℕ → Type 0
IsSectionRefusal (Part fault) bytes start = RefusesAsSection bytes start fault.at fault.why
IsSectionRefusal Memory bytes start = Unit {0}

-- the answer is this refusal of the image, or want of memory, which is free
abbrev pub IsRefusalOf : PartRefusal → List ℕ → ℕ → Type 0
IsRefusalOf (Part fault) image support = IsRefused image support fault.at fault.why
IsRefusalOf Memory image support = Unit {0}

-- the answer is these parts, or want of memory, which is free
abbrev pub IsFound : PartsValue → Result Parts PartRefusal → Type 0
IsFound p (Ok found) = parts_seen found ≡ p
IsFound p (Err (Part fault)) = ⊥
IsFound p (Err Memory) = Unit {0}

-- the place and the cause that a refusal tells
abbrev pub told : PartFault → Option (ℕ × PartWhy)
told refusal = Some (refusal.at, refusal.why)

-- the answer is Ok where nothing is refused, and else it is this refusal
abbrev pub Answers : {X : Type 0} → Result X PartFault → Option (ℕ × PartWhy) → Type 0
Answers result refused = AnswersBy told result refused
