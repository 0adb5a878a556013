-- Names of inputs: 1 to 64 bytes of 0x21 to 0x7E.
use Rattle.std.specs.Prelude.{ℕ, Bool, ◌&&◌, List, length, nat_le}
use Rattle.std.specs.List.{list_all}
use Rattle.bench_model.specs.Names.{is_between}
use Rattle.recipe_files.specs.declared.limits.TheConstants.{MAX_INPUT_NAME}

-- 1 to 64 printing bytes of ASCII but the space
abbrev pub is_input_name : List ℕ → Bool
is_input_name name =
    nat_le 1 (length name) && nat_le (length name) MAX_INPUT_NAME
    && list_all (is_between 0x21 0x7E) name
