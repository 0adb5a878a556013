use Rattle.std.proofs.Common.{arith}
use Rattle.reset_play.proofs.ScriptLemmas.{pairs_step}
use Rattle.reset_play.proofs.script.numbers.bytes_of_hex.Goals as goal

pub loop-at-preserved : goal.loop-at-preserved
loop-at-preserved c =
    pairs_step c.loop-at.bytes c.push_slice.new.self c.args.word.now c.loop-at.at
    c.hex_byte-byte.result (omega arith) c.hex_byte-byte.ensures c.in_ok-push_slice.ensures.ok
    c.loop-at.invariant
