-- The keys of the texts of boards and recipes, and what each takes.
use Rattle.std.specs.Prelude.{ℕ, List, codes}
use Rattle.bench_model.specs.declared.limits.TheConstants.{MAX_BANK, MAX_CAPACITY, MAX_DEVICES}
use Rattle.bench_model.specs.declared.limits.TheConstants.{MAX_DIGESTS, MAX_FW_TYPE, MAX_INSTANCE}
use Rattle.bench_model.specs.declared.limits.TheConstants.{MAX_STORE, MIN_BANK, MIN_CAPACITY}
use Rattle.bench_model.specs.declared.limits.TheConstants.{MIN_STORE}
use Rattle.recipe_files.specs.declared.keys.Key.{Key}
use Rattle.recipe_files.specs.declared.keys.Key.TheVariants.{Whole, Bank, Store, Layout, ResultMax}
use Rattle.recipe_files.specs.declared.keys.Key.TheVariants.{Digests, Device, Name, TypeId, Index}
use Rattle.recipe_files.specs.declared.keys.Key.TheVariants.{Instance, FwType, Capacity, Version}
use Rattle.recipe_files.specs.declared.keys.Key.TheVariants.{Floor, Flags, CapsuleGuid, Ext, Body}
use Rattle.recipe_files.specs.declared.keys.Key.TheVariants.{Drivers, Item, Header, Auth, FwVersion}
use Rattle.recipe_files.specs.declared.keys.Key.TheVariants.{Lowest, Payload, Vendor, Monotonic}
use Rattle.recipe_files.specs.declared.keys.Key.TheVariants.{CertType, Cert, Dep}
use Rattle.recipe_files.specs.declared.limits.TheConstants.{MAX_DRIVERS, MAX_HEADER, MAX_ITEMS}
use Rattle.recipe_files.specs.declared.limits.TheConstants.{MAX_MONOTONIC, MIN_HEADER}

-- the plain name of a key, and '-' for the whole text
abbrev pub key_name : Key → List ℕ
key_name Whole = codes "-"
key_name Bank = codes "bank"
key_name Store = codes "store"
key_name Layout = codes "layout"
key_name ResultMax = codes "result_max"
key_name Digests = codes "digests"
key_name Device = codes "device"
key_name Name = codes "name"
key_name TypeId = codes "type"
key_name Index = codes "index"
key_name Instance = codes "instance"
key_name FwType = codes "fw_type"
key_name Capacity = codes "capacity"
key_name Version = codes "version"
key_name Floor = codes "floor"
key_name Flags = codes "flags"
key_name CapsuleGuid = codes "guid"
key_name Ext = codes "ext"
key_name Body = codes "body"
key_name Drivers = codes "drivers"
key_name Item = codes "item"
key_name Header = codes "header"
key_name Auth = codes "auth"
key_name FwVersion = codes "fw_version"
key_name Lowest = codes "lowest"
key_name Payload = codes "payload"
key_name Vendor = codes "vendor"
key_name Monotonic = codes "monotonic"
key_name CertType = codes "cert_type"
key_name Cert = codes "cert"
key_name Dep = codes "dep"

-- what a key takes
pub data Values : Type 0 where
  nothing : Values
  numbers : ℕ → ℕ → Values  -- an integer from the first to the second
  names : Values  -- a text that is the name of a device
  layouts : Values  -- a text that is `one` or `two`
  guids : Values  -- a text that is a GUID
  hashes : Values  -- a text that is a digest
  inputs : Values  -- a text that is the name of an input
  hexes : Values  -- a text of hexadecimal digits, two a byte
  sections : Values  -- the same, whose bytes are one dependency section
  truths : Values  -- a truth value
  lists : ℕ → Values  -- a list of at most so many entries
  optional : Values → Values  -- the same, or nothing where the key is absent

-- what each key takes: its kind and its range
abbrev pub values_of : Key → Values
values_of Whole = nothing
values_of Bank = numbers MIN_BANK MAX_BANK
values_of Store = optional (numbers MIN_STORE MAX_STORE)
values_of Layout = optional layouts
values_of ResultMax = numbers 0 65535
values_of Digests = lists MAX_DIGESTS
values_of Device = lists MAX_DEVICES
values_of Name = names
values_of TypeId = guids
values_of Index = numbers 0 255
values_of Instance = numbers 0 MAX_INSTANCE
values_of FwType = numbers 0 MAX_FW_TYPE
values_of Capacity = numbers MIN_CAPACITY MAX_CAPACITY
values_of Version = numbers 0 4294967295
values_of Floor = numbers 0 4294967295
values_of Flags = numbers 0 4294967295
values_of CapsuleGuid = guids
values_of Ext = optional hexes
values_of Body = inputs
values_of Drivers = optional (lists MAX_DRIVERS)
values_of Item = optional (lists MAX_ITEMS)
values_of Header = numbers MIN_HEADER MAX_HEADER
values_of Auth = truths
values_of FwVersion = numbers 0 4294967295
values_of Lowest = numbers 0 4294967295
values_of Payload = inputs
values_of Vendor = optional hexes
values_of Monotonic = optional (numbers 0 MAX_MONOTONIC)
values_of CertType = optional guids
values_of Cert = optional hexes
values_of Dep = optional sections
