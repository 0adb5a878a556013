use Rattle.std.proofs.Common.{◌+◌, arith}
use Rattle.fmp_slot.proofs.Looks.{dep_value}
use Rattle.fmp_slot.proofs.one_bank.OneBankSlotForm.read_dep.Goals as goal

pub returns-clause-value : goal.returns-clause-value
returns-clause-value g c = λ told.
    dep_value c.args.head.now
    ((g.F.BenchState.state c.args.flash.now).contents.bytes (c.args.device + 2))
    c.read.new.out (c.requires.looked told) (omega arith) (c.in_ok-read.ensures.reads told)
