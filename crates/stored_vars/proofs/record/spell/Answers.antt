use Rattle.std.proofs.Common.{◌∙◌, ◌++◌, replicate, ap, arith}
use Rattle.stored_vars.proofs.RecordLemmas.{whole_front}
use Rattle.stored_vars.proofs.record.spell.Goals as goal

pub returns : goal.returns
returns c =
    whole_front c.put.new.buffer _ 96 (omega arith)
    (c.put.ensures ∙ ap (λ l. l ++ replicate 80 0) c.put_state.ensures)
