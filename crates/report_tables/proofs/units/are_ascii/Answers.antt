use Rattle.std.proofs.Common.{◌∙◌, ◌<◌, ◌≤◌, get_or, sym, arith, subst}
use Rattle.report_tables.specs.Units.{text_at_front}
use Rattle.report_tables.proofs.UnitLemmas.{ended, ascii_step, ascii_stop, ascii_done}
use Rattle.report_tables.proofs.units.are_ascii.Goals as goal

pub overflow_mul-k : goal.overflow_mul-k
overflow_mul-k c =
    omega (arith, (ended c.args.bytes.now c.args.count c.requires.ended).room, c.loop-k-test.true)

pub u16_at-requires : goal.u16_at-requires
u16_at-requires c =
    omega (arith, (ended c.args.bytes.now c.args.count c.requires.ended).room, c.loop-k-test.true)

pub returns-then-u16_at-gt127 : goal.returns-then-u16_at-gt127
returns-then-u16_at-gt127 c =
    let is = ended c.args.bytes.now c.args.count c.requires.ended in
    record {
      value = sym (c.loop-k.invariant
          ∙ ascii_stop (text_at_front c.args.bytes.now) c.loop-k.k
          (omega (arith, is.count, c.loop-k-test.true))
          (omega (
            arith,
            is.unit c.loop-k.k c.loop-k-test.true,
            c.u16_at.ensures,
            c.if-u16_at-gt127.true,
          )));
    }

pub loop-k-preserved : goal.loop-k-preserved
loop-k-preserved c =
    let is = ended c.args.bytes.now c.args.count c.requires.ended in
    c.loop-k.invariant
    ∙ ascii_step (text_at_front c.args.bytes.now) c.loop-k.k
    (omega (arith, is.count, c.loop-k-test.true))
    (omega (
      arith,
      is.unit c.loop-k.k c.loop-k-test.true,
      c.u16_at.ensures,
      c.if-u16_at-gt127.false,
    ))

pub returns : goal.returns
returns c =
    let is = ended c.args.bytes.now c.args.count c.requires.ended in
    record {
      value = sym (c.loop-k.invariant
          ∙ ascii_done (text_at_front c.args.bytes.now) c.loop-k.k
          (omega (arith, is.count, c.loop-k-test.false)));
    }
