use Rattle.std.proofs.Common.{refl}
use Rattle.cap_boot.specs.Given.{setting}
use Rattle.fmp_slot.specs.Layout.{slot_of}
use Rattle.bench_play.proofs.Factory.{first_stands}
use Rattle.bench_play.proofs.laws.a_laid_out_bench_is_fresh.Goals as goal

pub returns : goal.returns
returns c board now kept widths one =
    first_stands (setting board now slot_of) board refl refl kept one widths
