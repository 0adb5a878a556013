use Rattle.std.proofs.Common.{◌∙◌, ◌++◌, List, ℕ, ap}
use Rattle.std.proofs.lemmas.List.{take-replicate}
use Rattle.var_log.proofs.record.put_zeros.Goals as goal

pub returns : goal.returns
returns c = record {
  ok = c.in_ok-put.ensures.ok
      ∙ ap (λ (l : List ℕ). c.args.out.now.items ++ l) (take-replicate c.args.n 8 0 c.requires.few);
}
