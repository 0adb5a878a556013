use Rattle.std.proofs.Common.{arith, ap, length}
use Rattle.var_log.proofs.Formats.{first_exit, second_exit, third_exit, done_exit}
use Rattle.var_log.proofs.formatting.format_banks.Goals as goal

pub returns-in_err-shut-clause-images : goal.returns-in_err-shut-clause-images
returns-in_err-shut-clause-images g c = λ blank.
    first_exit _ _ blank c.shut.ensures.frame c.shut.ensures.images

pub returns-in_err-shut-2-clause-images : goal.returns-in_err-shut-2-clause-images
returns-in_err-shut-2-clause-images g c = λ blank.
    second_exit _ _ _ blank c.shut.ensures.frame c.in_ok-shut.ensures.ok c.in_ok-shut.ensures.done
    c.shut-2.ensures.frame c.shut-2.ensures.images

pub returns-in_err-open_behind-clause-images : goal.returns-in_err-open_behind-clause-images
returns-in_err-open_behind-clause-images g c = λ blank.
    third_exit (g.F.BenchState.state c.args.flash.now) (g.F.BenchState.state c.shut.new.flash)
    (g.F.BenchState.state c.shut-2.new.flash) (g.F.BenchState.state c.open_behind.new.flash)
    c.in_ok-shut.ensures.ok c.in_ok-shut.ensures.done c.shut-2.ensures.frame
    c.in_ok-shut-2.ensures.ok c.in_ok-shut-2.ensures.done c.open_behind.ensures.frame
    (omega (
      arith,
      c.shut-2.ensures.long,
      ap length (c.shut.ensures.frame.bytes 0 (λ e. absurd cc)),
      c.requires.banks.low,
    )) c.open_behind.ensures.images

pub returns-clause-images : goal.returns-clause-images
returns-clause-images g c = λ blank.
    third_exit (g.F.BenchState.state c.args.flash.now) (g.F.BenchState.state c.shut.new.flash)
    (g.F.BenchState.state c.shut-2.new.flash) (g.F.BenchState.state c.open_behind.new.flash)
    c.in_ok-shut.ensures.ok c.in_ok-shut.ensures.done c.shut-2.ensures.frame
    c.in_ok-shut-2.ensures.ok c.in_ok-shut-2.ensures.done c.open_behind.ensures.frame
    (omega (
      arith,
      c.shut-2.ensures.long,
      ap length (c.shut.ensures.frame.bytes 0 (λ e. absurd cc)),
      c.requires.banks.low,
    )) c.open_behind.ensures.images

pub returns-clause-durable : goal.returns-clause-durable
returns-clause-durable g c =
    done_exit (g.F.BenchState.state c.args.flash.now) (g.F.BenchState.state c.shut.new.flash)
    (g.F.BenchState.state c.shut-2.new.flash) (g.F.BenchState.state c.open_behind.new.flash)
    c.in_ok-shut.ensures.ok c.in_ok-shut.ensures.done c.shut-2.ensures.frame
    c.open_behind.ensures.frame c.in_ok-open_behind.ensures.ok
    (omega (
      arith,
      c.shut-2.ensures.long,
      ap length (c.shut.ensures.frame.bytes 0 (λ e. absurd cc)),
      c.requires.banks.low,
    )) c.in_ok-open_behind.ensures.done
