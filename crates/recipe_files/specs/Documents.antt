-- The text of a board or of a recipe as the document that `toml` reads of it, and what a text says:
-- a value, or its first fault.
use Rattle.std.specs.Prelude.{◌≡◌, ℕ, String, List, Option, None, Some, Result, Ok, Err}
use Rattle.std.specs.Prelude.{if◌then◌else◌}
use Rattle.std.specs.BTreeMap.{BTreeMap}
use Rattle.std.specs.declared.alloc.Global.{Global}
use Rattle.std.specs.Str.{is_utf8}
use Rattle.toml.specs.Data.{Members}
use Rattle.toml.specs.declared.value.Value.{Value}
use Rattle.toml.specs.View.{table_view}
use Rattle.toml.specs.Parse.{parse_document}
use Rattle.recipe_files.specs.declared.faults.BadKind.{BadKind}
use Rattle.recipe_files.specs.declared.faults.BadKind.TheVariants.{BadToml}
use Rattle.recipe_files.specs.declared.faults.Fault.{Fault}
use Rattle.recipe_files.specs.declared.faults.FileFault.{FileFault}
use Rattle.recipe_files.specs.declared.faults.FileFault.TheVariants.{Bad, Memory}
use Rattle.recipe_files.specs.declared.keys.Key.TheVariants.{Whole}
use Rattle.recipe_files.specs.declared.faults.Stop.{Stop}
use Rattle.recipe_files.specs.declared.faults.Stop.TheVariants as stop
use Rattle.recipe_files.specs.Keys.{key_name}

-- the document of a text, which is UTF-8
abbrev pub document : List ℕ → Option Members
document bytes = if is_utf8 bytes then parse_document bytes else None

-- the fault of a text that is no document
abbrev pub no_document : Fault
no_document = record { kind = BadToml; key = Whole }

-- what a text says: a value, or a fault with the plain name of its key
abbrev pub Said : Type 0 → Type 0
Said V = Result V (BadKind × List ℕ)

-- the value of a document, or its first fault
abbrev pub value_or : {V : Type 0} → Option Fault → V → Said V
value_or None value = Ok value
value_or (Some fault) value = Err (fault.kind, key_name fault.key)

-- the first fault of a text, by that of each document
abbrev pub text_test : (Members → Option Fault) → Option Members → Option Fault
text_test test None = Some no_document
text_test test (Some table) = test table

-- what a text says, by the first fault and the value of each document
abbrev pub text_says : {V : Type 0} → (Members → Option Fault) → (Members → V) → Option Members
    → Said V
text_says test value None = Err (BadToml, key_name Whole)
text_says test value (Some table) = value_or (test table) (value table)

-- the call tells the fault that the text is said to have, or want of memory
abbrev pub TellsFault : {V : Type 0} → Said V → FileFault → Type 0
TellsFault said (Bad kind key) = said ≡ Err (kind, key)
TellsFault said Memory = Unit {0}

-- the call found the table of this document, or that there is none; or want of memory
abbrev pub FindsTable : Option Members → Result (BTreeMap (String Global) Value) Stop → Type 0
FindsTable found (Ok table) = found ≡ Some (table_view table)
FindsTable found (Err (stop.Bad fault)) = (found ≡ None) × (fault ≡ no_document)
FindsTable found (Err stop.Memory) = Unit {0}
