use Rattle.std.proofs.Common.{◌≡◌, ◌+◌, get_or, ◌∙◌, ap, arith}
use Rattle.std.proofs.lemmas.List.{get_or_read}
use Rattle.std.proofs.Math.ListN.{set}
use Rattle.mem_bench.specs.Regions.{RoomValue}
use Rattle.mem_bench.specs.Tables.{seen_through}
use Rattle.mem_bench.proofs.SeenLemmas.{keep_seen}
use Rattle.mem_bench.proofs.blocks.Blocks.keep.Goals as goal

pub overflow_mul-result : goal.overflow_mul-result
overflow_mul-result c =
    omega (
      arith,
      get_or_read c.args.self.now.table.items c.args.block c.index-number.result.now c.requires
          c.index-number.ensures 0,
      c.args.self.now.rule.within c.args.block,
      c.args.self.now.rule.count,
      c.args.self.now.small,
    )

pub overflow_mul-start : goal.overflow_mul-start
overflow_mul-start c = omega (arith, c.args.self.now.rule.count, c.args.self.now.small)

pub returns-clause-same : goal.returns-clause-same
returns-clause-same c = λ size.
    let none : get_or c.args.self.now.table.items c.args.block 0 ≡ 0 =
    omega (
      arith,
      get_or_read c.args.self.now.table.items c.args.block c.index-number.result.now c.requires
          c.index-number.ensures 0,
      c.if-number-gt0.false,
    ) in
    ap (λ (r : RoomValue). seen_through size
    (set c.args.self.now.table.items c.args.block (c.args.self.now.made + 1)) r.kept)
    c.lengthen.ensures.value
    ∙ keep_seen size c.args.self.now.table.items c.args.self.now.made c.args.block
    c.args.self.now.rule c.requires none c.args.self.now.room.kept c.lengthen.ensures.rule
    c.args.self.now.kept
