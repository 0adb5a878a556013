use Rattle.capsule_tool.proofs.OutputLaws.{front_of_none}
use Rattle.capsule_tool.proofs.output.write_rebuilt.Goals as goal

pub returns-in-Err-Memory-clause-err : goal.returns-in-Err-Memory-clause-err
returns-in-Err-Memory-clause-err g c = front_of_none (g.O.Sink.seen c.args.out.now) _
