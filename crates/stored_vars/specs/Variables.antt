-- The variables of the platform: name, GUID and attributes of each. OsIndications (UEFI 2.10, 8.5.4)
-- and the results of capsules (UEFI 2.10, 8.5.6) are the standard's, all others the platform's own.
use Rattle.std.specs.Prelude.{ℕ, Bool, true, false, ◌^◌, List, [], ◌∷◌, ◌++◌, codes, nat_lt}
use Rattle.std.specs.Fmt.{digit_glyph}
use Rattle.cu_base.specs.declared.guid.Guid.{Guid}
use Rattle.bench_model.specs.declared.limits.TheConstants.{MAX_DEVICES}
use Rattle.report_tables.specs.Names.{result_name}
use Rattle.stored_vars.specs.declared.guids.TheConstants.{EFI_CAPSULE_REPORT_GUID}
use Rattle.stored_vars.specs.declared.guids.TheConstants.{EFI_GLOBAL_VARIABLE, PLATFORM_GUID}
use Rattle.stored_vars.specs.declared.limits.TheConstants.{MAX_STAGE_VARIABLES}
use Rattle.stored_vars.specs.declared.variable.StoredVar.{StoredVar}
use Rattle.stored_vars.specs.declared.variable.StoredVar.TheVariants.{Device, Progress, Serial}
use Rattle.stored_vars.specs.declared.variable.StoredVar.TheVariants.{Stage, OsIndications}
use Rattle.stored_vars.specs.declared.variable.StoredVar.TheVariants.{CapsuleMax, CapsuleLast}
use Rattle.stored_vars.specs.declared.variable.StoredVar.TheVariants.{Outcome}

-- Dev and one upper-case hexadecimal digit
abbrev pub device_name : ℕ → List ℕ
device_name d = codes "Dev" ++ digit_glyph true d ∷ []

-- Stage and one digit
abbrev pub stage_name : ℕ → List ℕ
stage_name k = codes "Stage" ++ digit_glyph true k ∷ []

-- the name of a variable
abbrev pub name_of : StoredVar → List ℕ
name_of (Device d) = device_name d
name_of Progress = codes "Progress"
name_of Serial = codes "Serial"
name_of (Stage k) = stage_name k
name_of OsIndications = codes "OsIndications"
name_of CapsuleMax = codes "CapsuleMax"
name_of CapsuleLast = codes "CapsuleLast"
name_of (Outcome n) = result_name n

-- the GUID of a variable
abbrev pub guid_of : StoredVar → Guid
guid_of (Device d) = PLATFORM_GUID
guid_of Progress = PLATFORM_GUID
guid_of Serial = PLATFORM_GUID
guid_of (Stage k) = PLATFORM_GUID
guid_of OsIndications = EFI_GLOBAL_VARIABLE
guid_of CapsuleMax = EFI_CAPSULE_REPORT_GUID
guid_of CapsuleLast = EFI_CAPSULE_REPORT_GUID
guid_of (Outcome n) = EFI_CAPSULE_REPORT_GUID

-- the attributes of a variable: all stay when power is off and are there before the operating
-- system runs; those of the standard are there while it runs
abbrev pub attributes_of : StoredVar → ℕ
attributes_of (Device d) = 3
attributes_of Progress = 3
attributes_of Serial = 3
attributes_of (Stage k) = 3
attributes_of OsIndications = 7
attributes_of CapsuleMax = 7
attributes_of CapsuleLast = 7
attributes_of (Outcome n) = 7

-- the number in a variable's name is within its limit
abbrev pub is_variable : StoredVar → Bool
is_variable (Device d) = nat_lt d MAX_DEVICES
is_variable Progress = true
is_variable Serial = true
is_variable (Stage k) = nat_lt k MAX_STAGE_VARIABLES
is_variable OsIndications = true
is_variable CapsuleMax = true
is_variable CapsuleLast = true
is_variable (Outcome n) = nat_lt n (2 ^ 16)

-- a variable is no result
abbrev pub is_fixed : StoredVar → Bool
is_fixed (Device d) = true
is_fixed Progress = true
is_fixed Serial = true
is_fixed (Stage k) = true
is_fixed OsIndications = true
is_fixed CapsuleMax = true
is_fixed CapsuleLast = true
is_fixed (Outcome n) = false
