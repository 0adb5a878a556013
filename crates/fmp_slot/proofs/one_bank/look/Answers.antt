use Rattle.std.proofs.Common.{◌∙◌, ◌+◌, ◌-◌, ℕ, ap, arith}
use Rattle.bench_model.specs.declared.outside_limits.TheConstants.{SLOT_LEAD}
use Rattle.fmp_slot.specs.Layout.{slot_shown}
use Rattle.fmp_slot.proofs.Looks.{look_value}
use Rattle.fmp_slot.proofs.one_bank.look.Goals as goal

pub returns-clause-value : goal.returns-clause-value
returns-clause-value g c = λ told.
    c.shown.ensures
    ∙ ap (λ (n : ℕ). slot_shown (n - SLOT_LEAD) c.read.new.out) c.size-room.ensures.value
    ∙ look_value ((g.F.BenchState.state c.args.flash.now).contents.bytes (c.args.device + 2))
    c.read.new.out (omega arith) (c.in_ok-read.ensures.reads told)
