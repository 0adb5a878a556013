use Rattle.reset_play.specs.Texts.{unit_text}
use Rattle.reset_play.proofs.TextLemmas.{one_more}
use Rattle.reset_play.proofs.text.units.push_units.Goals as goal

pub loop-line-preserved : goal.loop-line-preserved
loop-line-preserved c =
    one_more (unit_text c.args.board.now) c.loop-line.out _ _ c.args.lines.now
    c.loop-line.line-index c.line-item.result c.loop-line.invariant c.loop-line-test.true
    c.line-item.is c.in_ok-push_unit.ensures
