use Rattle.std.proofs.Common.{◌∙◌, ◌++◌, ◌∷◌, [], ◌+◌, ◌*◌, map, ap, sym, arith}
use Rattle.std.specs.List.{range_with_len}
use Rattle.std.proofs.lemmas.List.FromFn.{map-range_with_len_more}
use Rattle.report_tables.specs.Esrt.{entry_at}
use Rattle.report_tables.proofs.esrt.read_entries.Goals as goal

pub loop-k-preserved : goal.loop-k-preserved
loop-k-preserved c =
    c.in_ok-push.ensures.ok
    ∙ ap (λ items. items ++ c.read_entry.result ∷ []) c.loop-k.invariant
    ∙ ap
    (λ e. map (λ k. entry_at c.args.bytes.now (16 + 40 * k)) (range_with_len 0 c.loop-k.k)
    ++ e ∷ [])
    c.read_entry.ensures.value
    ∙ sym (map-range_with_len_more (λ k. entry_at c.args.bytes.now (16 + 40 * k)) 0 c.loop-k.k
    c.loop-k.k (omega arith))
