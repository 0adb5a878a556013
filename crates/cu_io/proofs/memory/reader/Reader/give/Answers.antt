use Rattle.cu_io.proofs.Giving.{reads_on}
use Rattle.cu_io.proofs.memory.reader.Reader.give.Goals as goal

pub returns-clause-bytes : goal.returns-clause-bytes
returns-clause-bytes c =
    let read = reads_on c.as_slice.result.now c.copy_from_slice.new.self c.args.out.now
    c.self.inside.at c.min-n.result c.copy_from_slice.ensures.after c.min-n.ensures in
    let kept = rw c.as_slice.ensures at read in
    rw (← c.self.view_is) kept
