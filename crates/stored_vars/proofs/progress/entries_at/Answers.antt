use Rattle.std.proofs.Common.{◌∙◌, ◌++◌, ◌∷◌, [], map, ap, sym, arith}
use Rattle.std.specs.List.{range_with_len}
use Rattle.std.proofs.lemmas.List.FromFn.{map-range_with_len_more}
use Rattle.stored_vars.specs.Progress.{entry_at}
use Rattle.stored_vars.proofs.progress.entries_at.Goals as goal

pub loop-k-preserved : goal.loop-k-preserved
loop-k-preserved c =
    c.in_ok-push.ensures.ok
    ∙ ap (λ items. items ++ c.entry_at.result ∷ []) c.loop-k.invariant
    ∙ ap (λ e. map (entry_at c.args.bytes.now) (range_with_len 0 c.loop-k.k) ++ e ∷ [])
    c.entry_at.ensures
    ∙ sym (map-range_with_len_more (entry_at c.args.bytes.now) 0 c.loop-k.k c.loop-k.k
    (omega arith))
