-- Changes of variables of the platform: one is set, with its attributes, or deleted.
use Rattle.std.specs.Prelude.{ℕ, List}
use Rattle.stored_vars.specs.Variables.{attributes_of, guid_of, name_of}
use Rattle.stored_vars.specs.declared.variable.StoredVar.{StoredVar}
use Rattle.var_log.specs.declared.change.Change.{Change}
use Rattle.var_log.specs.declared.change.Change.TheVariants.{Set, Delete}

-- the change that sets a variable of the platform to these bytes
abbrev pub set_of : StoredVar → List ℕ → Change
set_of v bytes = Set (name_of v) (guid_of v) (attributes_of v) bytes

-- the change that deletes a variable of the platform
abbrev pub delete_of : StoredVar → Change
delete_of v = Delete (name_of v) (guid_of v)
