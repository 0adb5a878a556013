use Rattle.std.proofs.Common.{◌++◌, ◌∙◌, codes, ap, append_assoc}
use Rattle.report_tables.specs.Names.{result_name}
use Rattle.reset_play.proofs.text.parts.push_result_part.Goals as goal

pub returns : goal.returns
returns c =
    c.in_ok-push_result_name.ensures.ok
    ∙ ap (λ w. w ++ result_name c.args.number) c.in_ok-push_str.ensures.ok
    ∙ append_assoc c.args.out.now (codes " ") (result_name c.args.number)
