-- What moves on one bank leave of it: bytes behind a gate, and the gate.
use Rattle.std.specs.Prelude.{◌≡◌, ◌⊎◌, ℕ, ◌+◌, List, length, get_or}
use Rattle.cu_base.specs.Fields.{field}
use Rattle.bench_model.specs.Regions.{AgreesOutside}
use Rattle.var_log.specs.declared.limits.TheConstants.{OPEN_GATE, CLOSED_GATE}

-- these bytes stand behind a gate, which may be any byte; all else is as it was
pub record IsGated (at : ℕ) (bytes old new : List ℕ) : Type 0 where
  pub outside : AgreesOutside at (1 + length bytes) old new
  pub behind : field new (at + 1) (length bytes) ≡ bytes

-- what a cut may leave while bytes are put behind a closed gate and the gate is opened: the bytes
-- alone are in doubt, or they stand there and the gate is in doubt
abbrev pub IsOpening : ℕ → List ℕ → List ℕ → List ℕ → Type 0
IsOpening at bytes old image =
    AgreesOutside (at + 1) (length bytes) old image ⊎ IsGated at bytes old image

-- the bytes stand behind an open gate
pub record IsOpened (at : ℕ) (bytes old new : List ℕ) : Type 0 where
  pub gated : IsGated at bytes old new
  pub gate : get_or new at 0 ≡ OPEN_GATE

-- a gate is closed; all else is as it was
pub record IsShut (at : ℕ) (old new : List ℕ) : Type 0 where
  pub outside : AgreesOutside at 1 old new
  pub gate : get_or new at 0 ≡ CLOSED_GATE

-- a gate of the old bank was closed, and then bytes were put behind an open gate at its front
pub record Reclaims (place : ℕ) (bytes old new : List ℕ) : Type 0 where
  pub between : List ℕ
  pub shut : IsShut place old between
  pub opened : IsOpened 0 bytes between new

-- the same, with the last of it in doubt
pub record IsReclaimed (place : ℕ) (bytes old image : List ℕ) : Type 0 where
  pub between : List ℕ
  pub shut : IsShut place old between
  pub opening : IsOpening 0 bytes between image

-- what a cut may leave of a bank that is reclaimed
abbrev pub IsReclaiming : ℕ → List ℕ → List ℕ → List ℕ → Type 0
IsReclaiming place bytes old image =
    AgreesOutside place 1 old image ⊎ IsReclaimed place bytes old image
