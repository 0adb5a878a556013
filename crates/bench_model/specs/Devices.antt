-- What a device of a board is, and which devices stand together on one.
use Rattle.std.specs.Prelude.{◌≢◌, ℕ, ◌≤◌, Bool, ◌&&◌, ◌==◌, List, IsTrue, All, AllPairs}
use Rattle.std.specs.List.{list_any, sum_by}
use Rattle.std.specs.Str.{bytes_eq}
use Rattle.cu_base.specs.declared.guid.Guid.{Guid}
use Rattle.bench_model.specs.declared.limits.TheConstants.{MAX_CAPACITY, MAX_FW_TYPE, MAX_INSTANCE}
use Rattle.bench_model.specs.declared.limits.TheConstants.{MIN_CAPACITY}
use Rattle.bench_model.specs.Names.{is_device_name}

-- the fields of a device
pub record DeviceValue : Type 0 where
  pub name : List ℕ
  pub type_id : Guid
  pub index : ℕ
  pub instance : ℕ
  pub fw_type : ℕ
  pub capacity : ℕ
  pub version : ℕ
  pub floor : ℕ
  pub flags : ℕ

-- the device of these fields, in their order
abbrev pub device : List ℕ → Guid → ℕ → ℕ → ℕ → ℕ → ℕ → ℕ → ℕ → DeviceValue
device name type_id index instance fw_type capacity version floor flags = record {
  name = name;
  type_id = type_id;
  index = index;
  instance = instance;
  fw_type = fw_type;
  capacity = capacity;
  version = version;
  floor = floor;
  flags = flags;
}

-- the device keeps the limits of its fields
pub record IsDevice (d : DeviceValue) : Type 0 where
  pub named : IsTrue (is_device_name d.name)
  pub instance : d.instance ≤ MAX_INSTANCE
  pub fw_type : d.fw_type ≤ MAX_FW_TYPE
  pub some_capacity : MIN_CAPACITY ≤ d.capacity
  pub capacity : d.capacity ≤ MAX_CAPACITY

-- the capacities of devices in sum
abbrev pub capacity_of : List DeviceValue → ℕ
capacity_of = sum_by (λ d. d.capacity)

-- two devices have different names
abbrev pub HaveOtherNames : DeviceValue → DeviceValue → Type 0
HaveOtherNames a b = a.name ≢ b.name

-- what names the images of a device
abbrev pub triple_of : DeviceValue → Guid × ℕ × ℕ
triple_of d = (d.type_id, d.index, d.instance)

-- two devices differ in type, index or instance
abbrev pub HaveOtherTriples : DeviceValue → DeviceValue → Type 0
HaveOtherTriples a b = triple_of a ≢ triple_of b

-- no two devices have one name, and no two have one type, index and instance
pub record AreDevices (ds : List DeviceValue) : Type 0 where
  pub each : All IsDevice ds
  pub names : AllPairs HaveOtherNames ds
  pub triples : AllPairs HaveOtherTriples ds

-- a device has this name
abbrev pub has_name : List ℕ → List DeviceValue → Bool
has_name name ds = list_any (λ d. bytes_eq d.name name) ds

-- a device has this type, index and instance
abbrev pub has_triple : Guid → ℕ → ℕ → List DeviceValue → Bool
has_triple type_id index instance ds =
    list_any
    (λ d. bytes_eq d.type_id.bytes type_id.bytes && d.index == index && d.instance == instance)
    ds
