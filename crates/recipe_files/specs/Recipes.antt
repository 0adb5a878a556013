-- What a recipe of a capsule is: the values of its keys and the rules that they keep (UEFI 2.10,
-- 8.5.3 and 23.3.2). The names of inputs and the limits are this tool's own.
use Rattle.std.specs.Prelude.{ℕ, ◌≤◌, Bool, true, false, ◌&&◌, ◌||◌, not, ◌==◌, List, length}
use Rattle.std.specs.Prelude.{Option, is_some, IfSome, IsTrue}
use Rattle.std.specs.List.{AllByRecursion, list_all}
use Rattle.cu_base.specs.declared.guid.Guid.{Guid}
use Rattle.bench_model.specs.declared.limits.TheConstants.{MAX_INSTANCE}
use Rattle.capsule_grammar.specs.Refusals.{is_fmp_guid}
use Rattle.image_parts.specs.Section.{IsOneSection}
use Rattle.recipe_files.specs.declared.limits.TheConstants.{MAX_DRIVERS, MAX_HEADER, MAX_ITEMS}
use Rattle.recipe_files.specs.declared.limits.TheConstants.{MAX_MONOTONIC, MIN_HEADER}
use Rattle.recipe_files.specs.InputNames.{is_input_name}

-- the fields of an item
pub record ItemValue : Type 0 where
  pub header : ℕ
  pub type_id : Guid
  pub index : ℕ
  pub instance : ℕ
  pub auth : Bool
  pub fw_version : ℕ
  pub lowest : ℕ
  pub payload : List ℕ
  pub vendor : List ℕ
  pub monotonic : ℕ
  pub cert_type : Guid
  pub cert : List ℕ
  pub dep : Option (List ℕ)

-- the item of these fields, in their order
abbrev pub item : ℕ → Guid → ℕ → ℕ → Bool → ℕ → ℕ → List ℕ → List ℕ → ℕ → Guid → List ℕ
    → Option (List ℕ) → ItemValue
item header type_id index instance auth fw_version lowest payload vendor monotonic cert_type cert
    dep = record {
      header = header;
      type_id = type_id;
      index = index;
      instance = instance;
      auth = auth;
      fw_version = fw_version;
      lowest = lowest;
      payload = payload;
      vendor = vendor;
      monotonic = monotonic;
      cert_type = cert_type;
      cert = cert;
      dep = dep;
    }

-- the body of a capsule: an input, or the drivers and the items of an FMP capsule
pub data BodyValue : Type 0 where
  other : List ℕ → BodyValue
  fmp : List (List ℕ) → List ItemValue → BodyValue

-- the fields of a recipe
pub record RecipeValue : Type 0 where
  pub guid : Guid
  pub flags : ℕ
  pub ext : List ℕ
  pub body : BodyValue

-- an image header of version 1 or 2 tells authentication data and no section
abbrev pub keeps_header_rule : ℕ → Bool → Bool → Bool
keeps_header_rule header auth dep = header == 3 || (auth && not dep)

-- an image header of version 1 has no hardware instance
abbrev pub keeps_instance_rule : ℕ → ℕ → Bool
keeps_instance_rule header instance = not (header == 1) || instance == 0

-- the item keeps the rules of its keys
pub record IsItem (i : ItemValue) : Type 0 where
  pub header_low : MIN_HEADER ≤ i.header
  pub header_high : i.header ≤ MAX_HEADER
  pub header_rule : IsTrue (keeps_header_rule i.header i.auth (is_some i.dep))
  pub instance : i.instance ≤ MAX_INSTANCE
  pub instance_rule : IsTrue (keeps_instance_rule i.header i.instance)
  pub payload : IsTrue (is_input_name i.payload)
  pub monotonic : i.monotonic ≤ MAX_MONOTONIC
  pub dep : IfSome i.dep IsOneSection

-- so many drivers and items are taken, the drivers are names of inputs, and each item keeps its
-- rules
pub record AreFmpParts (drivers : List (List ℕ)) (items : List ItemValue) : Type 0 where
  pub few_drivers : length drivers ≤ MAX_DRIVERS
  pub few_items : length items ≤ MAX_ITEMS
  pub names : IsTrue (list_all is_input_name drivers)
  pub each : AllByRecursion IsItem items

-- the body is that of an FMP capsule exactly where this says so, and keeps its rules
abbrev pub IsBodyOf : Bool → BodyValue → Type 0
IsBodyOf true (fmp drivers items) = AreFmpParts drivers items
IsBodyOf true (other name) = ⊥
IsBodyOf false (fmp drivers items) = ⊥
IsBodyOf false (other name) = IsTrue (is_input_name name)

-- the recipe keeps the rules of its keys
abbrev pub IsRecipe : RecipeValue → Type 0
IsRecipe r = IsBodyOf (is_fmp_guid r.guid.bytes) r.body
