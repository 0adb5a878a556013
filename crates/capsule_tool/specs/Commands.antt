-- The forms of the words.
use Rattle.std.specs.Prelude.{ℕ, Bool, false, ◌&&◌, ◌||◌, nat_le, List, [], ◌∷◌, length, codes}
use Rattle.std.specs.Prelude.{Option, None, Some, if◌then◌else◌}
use Rattle.std.specs.Char.{is_ascii_digit}
use Rattle.std.specs.List.{list_all}
use Rattle.std.specs.Str.{bytes_eq}
use Rattle.capsule_tool.specs.declared.command.Command.{Command}
use Rattle.capsule_tool.specs.declared.command.Command.TheVariants.{Check, Show, Rebuild, Make}
use Rattle.capsule_tool.specs.declared.command.Command.TheVariants.{Play, Load}

-- a number from 1 to 1000 in decimal: one of 1 to 999 has one to three digits, the first not 0
abbrev pub is_load_count : List ℕ → Bool
is_load_count [] = false
is_load_count (first ∷ rest) =
    bytes_eq (first ∷ rest) (codes "1000")
    || (nat_le 49 first && nat_le first 57 && nat_le (length rest) 2
    && list_all is_ascii_digit rest)

-- the command of a command and its one operand
abbrev pub command_of_one : List ℕ → List ℕ → Option Command
command_of_one command operand =
    if bytes_eq command (codes "check") then Some Check
    else if bytes_eq command (codes "show") then Some Show
    else if bytes_eq command (codes "rebuild") then Some Rebuild
    else if bytes_eq command (codes "make") then Some Make
    else if bytes_eq command (codes "load") && is_load_count operand then Some Load
    else None

-- the command of the words, None where they have none of the six
abbrev pub command_of : List (List ℕ) → Option Command
command_of (command ∷ operand ∷ []) = command_of_one command operand
command_of (command ∷ board ∷ script ∷ []) = if bytes_eq command (codes "play") then
    Some Play else None
command_of words = None
