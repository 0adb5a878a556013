use Rattle.std.proofs.Common.{sym}
use Rattle.toml.proofs.Views.{table_get}
use Rattle.recipe_files.proofs.values.found_at.Goals as goal

pub returns-in-Some : goal.returns-in-Some
returns-in-Some c =
    let key = c.key_name.result.now in
    let found = table_get c.get.result key c.args.table.now.entries c.get.ensures.value in
    rw (← c.key_name.ensures) (sym (rw c.in-Some.is at found))

pub returns-in-None : goal.returns-in-None
returns-in-None c =
    let key = c.key_name.result.now in
    let found = table_get c.get.result key c.args.table.now.entries c.get.ensures.value in
    rw (← c.key_name.ensures) (sym (rw c.in-None.is at found))
