-- A unit that starts no SetImage, as a line and the GUIDs and index of its item tell of it.
use Rattle.std.specs.Prelude.{◌≡◌, ◌<◌, ℕ, true, [], Option, None, Some}
use Rattle.bench_model.specs.declared.limits.TheConstants.{MAX_DEVICES}
use Rattle.cu_base.specs.declared.time.EfiTime.{EfiTime}
use Rattle.dev_claims.specs.declared.closing.UnitIds.{UnitIds}
use Rattle.reference_machine.specs.Results.{status_with}
use Rattle.reference_machine.specs.Spent.{Element}
use Rattle.reference_machine.specs.Spent.Standing.{Closed}
use Rattle.reference_machine.specs.declared.unit.End.{End}
use Rattle.reference_machine.specs.declared.unit.End.TheVariants.{Refused, Sealed, Kept, Lost}
use Rattle.reference_machine.specs.declared.unit.UnitLine.{UnitLine}
use Rattle.stored_vars.specs.Records.{is_key_name}

-- the element of a floor that these tell of, closed at a moment; what no batch tells of it is left
-- out
abbrev pub element_with : UnitLine → ℕ → UnitIds → EfiTime → Element
element_with line floor ids now = record {
  kind = line.kind;
  key = line.key;
  capsule = ids.capsule;
  head = record {
    version = 0;
    type_id = ids.type_id;
    index = ids.index;
    instance = 0;
    support = 0;
  };
  version = line.version;
  floor = floor;
  dependency = [];
  payload = [];
  standing = Closed line.end now;
}

-- the same of a unit that was not tried, whose floor no batch tells
abbrev pub element_told : UnitLine → UnitIds → EfiTime → Element
element_told line ids now = element_with line 0 ids now

-- the GUIDs and the index of an element
abbrev pub ids_of : Element → UnitIds
ids_of e = record { capsule = e.capsule; type_id = e.head.type_id; index = e.head.index }

-- an end without a SetImage
abbrev pub IsUntried : Option End → Type 0
IsUntried None = Unit {0}
IsUntried (Some (Refused status)) = Unit {0}
IsUntried (Some Sealed) = ⊥
IsUntried (Some Kept) = ⊥
IsUntried (Some Lost) = ⊥

-- the same, where a refusal is on a device
abbrev pub StartsNothing : UnitLine → Option End → Type 0
StartsNothing line None = Unit {0}
StartsNothing line (Some (Refused status)) = line.key.device < MAX_DEVICES
StartsNothing line (Some Sealed) = ⊥
StartsNothing line (Some Kept) = ⊥
StartsNothing line (Some Lost) = ⊥

-- a line that a unit may be closed by
pub record MayClose (line : UnitLine) : Type 0 where
  pub starts_nothing : StartsNothing line line.end
  pub status : line.status ≡ status_with line.kind line.end
  pub name : is_key_name line.key.name ≡ true

-- an end, where there is one, is on a device that a board may have
abbrev pub IsOnDevice : UnitLine → Option End → Type 0
IsOnDevice line None = Unit {0}
IsOnDevice line (Some end) = line.key.device < MAX_DEVICES

-- a line that a batch may be made of
pub record IsLine (line : UnitLine) : Type 0 where
  pub device : IsOnDevice line line.end
  pub status : line.status ≡ status_with line.kind line.end
  pub name : is_key_name line.key.name ≡ true
