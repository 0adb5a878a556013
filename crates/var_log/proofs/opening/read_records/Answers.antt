use Rattle.std.proofs.Common.{◌≡◌, ◌∙◌, ap, sym, arith, length, drop}
use Rattle.std.proofs.lemmas.List.{take_all, length-drop}
use Rattle.var_log.proofs.Spelled.{written_back}
use Rattle.var_log.proofs.opening.read_records.Goals as goal

pub returns-in-Ok-read_pieces-clause-value : goal.returns-in-Ok-read_pieces-clause-value
returns-in-Ok-read_pieces-clause-value g c = λ told.
    let b = (g.F.BenchState.state c.args.flash.now).contents.bytes c.args.bank in
    let out = c.read_pieces.new.out in
    let items = c.in-Ok.bytes.items in
    let whole : length items ≡ c.in-Ok.bytes.len =
    ap length (sym c.deref_mut.ensures.value) ∙ c.deref_mut.ensures.len in
    let same : length out ≡ c.in-Ok.bytes.len = c.in-Ok-read_pieces.ensures.long ∙ c.deref_mut.ensures.len in
    written_back c.in-Ok.bytes.len out items whole same
    ∙ sym (c.in-Ok-read_pieces.ensures.reads told)
    ∙ take_all (length out) (drop 16 b)
    (omega (arith, length-drop 16 b, whole, same, c.in-Ok.ensures, c.size.ensures.value))
