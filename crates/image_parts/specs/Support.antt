-- ImageCapsuleSupport of an image header (UEFI 2.10, 23.3.2): what stands in an update image before
-- its payload header.
use Rattle.std.specs.Prelude.{ℕ, ◌/◌, ◌%◌, ◌==◌, Bool}

-- bit 0: authentication data
abbrev pub has_authentication : ℕ → Bool
has_authentication support = support % 2 == 1

-- bit 1: a dependency section, behind the authentication data
abbrev pub has_section : ℕ → Bool
has_section support = support / 2 % 2 == 1
