use Rattle.std.proofs.Common.{◌-◌, ◌∙◌, sym, arith}
use Rattle.capsule_grammar.proofs.FrontLemmas.{offset_same, list_end_same}
use Rattle.capsule_grammar.proofs.parts.check_offset.Goals as goal

pub returns : goal.returns
returns c = λ body b. c.check_one_offset.ensures.refused body
    (offset_same c.args.k b c.requires.list c.requires.there ∙ sym c.offset-here.ensures)
    (λ above. offset_same (c.args.k - 1) b c.requires.list (omega arith)
    ∙ sym (c.offset_before.ensures above))
    (list_end_same b (omega arith) ∙ sym c.list_end.ensures.value) b.long
