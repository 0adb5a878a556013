use Rattle.std.proofs.Common.{◌+◌, ◌≤◌, min, length, subst}
use Rattle.reset_play.proofs.TextLemmas.{no_lines, at_end}
use Rattle.reset_play.proofs.text.entries.push_entries.Goals as goal

pub returns : goal.returns
returns c =
    let past : min (length c.args.script.now) (length c.args.trace.now) ≤ c.loop-i.i =
    subst (λ n. n ≤ c.loop-i.i) c.min-count.ensures c.loop-i-test.false in
    at_end c.loop-i.out _ _ c.loop-i.invariant
    (no_lines c.args.board.now
    (c.loop-i.i + 1) c.loop-i.i c.args.script.now c.args.trace.now past)
