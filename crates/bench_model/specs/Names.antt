-- Names of devices: 1 to 16 of ASCII letters, digits, '.', '_' and '-'.
use Rattle.std.specs.Prelude.{ℕ, Bool, ◌&&◌, ◌||◌, ◌==◌, List, length, nat_le}
use Rattle.std.specs.List.{list_all}
use Rattle.bench_model.specs.declared.limits.TheConstants.{MAX_DEVICE_NAME}

-- a number is within two others
abbrev pub is_between : ℕ → ℕ → ℕ → Bool
is_between first last byte = nat_le first byte && nat_le byte last

-- A to Z, a to z, 0 to 9, '.', '_' or '-'
abbrev pub is_name_byte : ℕ → Bool
is_name_byte byte =
    is_between 65 90 byte || is_between 97 122 byte || is_between 48 57 byte || byte == 46
    || byte == 95 || byte == 45

-- 1 to 16 bytes that may stand in a name
abbrev pub is_device_name : List ℕ → Bool
is_device_name name =
    nat_le 1 (length name) && nat_le (length name) MAX_DEVICE_NAME && list_all is_name_byte name
