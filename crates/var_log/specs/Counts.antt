-- How many moves and looks a call of the log makes.
use Rattle.std.specs.Prelude.{ℕ, ◌+◌, ◌-◌, ◌^◌, min, nat_le, if◌then◌else◌}

-- a count so many higher; it stays at 2^64 - 1
abbrev pub raised : ℕ → ℕ → ℕ
raised before n = min (before + n) (2 ^ 64 - 1)

-- the count once room was made for so many bytes where so many were free: as it was, or with the
-- moves of a reclaim
abbrev pub with_room : ℕ → ℕ → ℕ → ℕ
with_room before bytes free = if nat_le bytes free then before else raised before 6
