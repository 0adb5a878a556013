use Rattle.std.proofs.Common.{◌+◌, ◌%◌, ◌∙◌, ap, arith}
use Rattle.mem_bench.specs.declared.room.TheConstants.{BLOCK}
use Rattle.mem_bench.specs.Regions.{RegionValue, RoomValue, written}
use Rattle.mem_bench.specs.Tables.{seen_through}
use Rattle.mem_bench.proofs.SeenLemmas.{piece_seen}
use Rattle.mem_bench.proofs.blocks.Blocks.write_piece.Goals as goal

pub returns-else-bytes-eq-BLOCK-clause-written : goal.returns-else-bytes-eq-BLOCK-clause-written
returns-else-bytes-eq-BLOCK-clause-written c = λ size within.
    ap (λ (r : RoomValue). seen_through size c.keep-start.new.self.table.items r.kept)
    c.write.ensures.value
    ∙ piece_seen size c.keep-start.new.self.table.items c.keep-start.new.self.made
    c.keep-start.new.self.rule
    c.keep-start.new.self.room.kept c.write.ensures.rule c.keep-start.new.self.kept c.args.place
    (c.keep-start.result + c.args.place % BLOCK) c.args.bytes.now c.keep-start.ensures.kept
    (omega (arith, c.keep-start.ensures.value)) c.requires.inside within
    ∙ ap (λ (v : RegionValue). written c.args.place c.args.bytes.now v)
    (c.keep-start.ensures.same size)
