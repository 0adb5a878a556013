use Rattle.std.proofs.Common.{◌≡◌, ◌+◌, ◌-◌, length, take, drop, ◌∙◌, ap, arith, length-drop}
use Rattle.std.proofs.lemmas.List.{length-take-le}
use Rattle.mem_bench.specs.Regions.{RegionValue, written}
use Rattle.mem_bench.proofs.SeenLemmas.{write_more}
use Rattle.mem_bench.proofs.blocks.Blocks.write.Goals as goal

pub loop-done-preserved : goal.loop-done-preserved
loop-done-preserved c = record {
  within = omega (arith, c.piece_len.ensures.within);
  long = c.write_piece.ensures.long ∙ c.loop-done.invariant.long;
  so_far = λ size fits.
      let long : length (take (c.loop-done.done + c.piece_len.result - c.loop-done.done)
      (drop c.loop-done.done c.args.bytes.now)) ≡ c.loop-done.done + c.piece_len.result
      - c.loop-done.done =
      length-take-le (c.loop-done.done + c.piece_len.result - c.loop-done.done)
      (drop c.loop-done.done c.args.bytes.now)
      (omega (
        arith,
        length-drop c.loop-done.done c.args.bytes.now,
        c.piece_len.ensures.within,
      )) in
      c.write_piece.ensures.written size (omega (arith, long, c.piece_len.ensures.within, fits))
      ∙ ap (λ (v : RegionValue). written (c.args.at + c.loop-done.done)
      (take (c.loop-done.done + c.piece_len.result - c.loop-done.done)
      (drop c.loop-done.done c.args.bytes.now)) v) (c.loop-done.invariant.so_far size fits)
      ∙ write_more size c.args.at c.loop-done.done c.piece_len.result
      (c.loop-done.done + c.piece_len.result - c.loop-done.done) c.args.self.now.table.items
      c.args.self.now.room.kept c.args.bytes.now (omega arith)
      (omega (arith, c.piece_len.ensures.within)) fits;
}
