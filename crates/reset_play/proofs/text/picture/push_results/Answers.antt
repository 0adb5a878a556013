use Rattle.reset_play.specs.Texts.{result_text}
use Rattle.reset_play.proofs.TextLemmas.{one_more}
use Rattle.reset_play.proofs.text.picture.push_results.Goals as goal

pub loop-result-preserved : goal.loop-result-preserved
loop-result-preserved c =
    one_more result_text c.loop-result.out _ _ c.args.results.now c.loop-result.result-index
    c.result-item.result c.loop-result.invariant c.loop-result-test.true c.result-item.is
    c.in_ok-push_result_line.ensures
