use Rattle.toml.specs.View.{table_view}
use Rattle.recipe_files.proofs.RecipeLemmas.{fmp_read}
use Rattle.recipe_files.proofs.recipe_text.read_fmp.Goals as goal

pub returns : goal.returns
returns c =
    let ds = c.in_ok-driver_list.ensures in
    let es = c.in_ok-item_list.ensures in
    fmp_read (table_view c.args.table.now) c.in_ok-drivers.drivers.items c.in_ok-items.items.items
    _ _ ds.0 ds.1 ds.2 c.in_ok-drivers.ensures.0 c.in_ok-drivers.ensures.1.0
    c.in_ok-drivers.ensures.1.1 es.0 es.1 es.2 c.in_ok-items.ensures.0
    c.in_ok-items.ensures.1.same c.in_ok-items.ensures.1.each
