use Rattle.std.proofs.Common.{◌≡◌, ◌+◌, ◌-◌, ◌≤◌, ℕ, length, take, drop, ◌∙◌, ap, arith}
use Rattle.std.proofs.Common.{length-drop}
use Rattle.std.proofs.lemmas.List.{length-take-le}
use Rattle.cu_base.specs.Fields.{field}
use Rattle.mem_bench.specs.Blocks.{seen}
use Rattle.mem_bench.proofs.SeenLemmas.{mid_long, read_more}
use Rattle.mem_bench.proofs.blocks.Blocks.read.Goals as goal

pub loop-done-preserved : goal.loop-done-preserved
loop-done-preserved c =
    let inside = c.piece_len.ensures.within in
    let piece : length (take (c.loop-done.done + c.piece_len.result - c.loop-done.done)
    (drop c.loop-done.done c.loop-done.out)) ≡ c.loop-done.done + c.piece_len.result
    - c.loop-done.done =
    length-take-le (c.loop-done.done + c.piece_len.result - c.loop-done.done)
    (drop c.loop-done.done c.loop-done.out)
    (omega (arith, length-drop c.loop-done.done c.loop-done.out, inside)) in
    let told : length c.read_piece.new.out ≡ c.loop-done.done + c.piece_len.result
    - c.loop-done.done = c.read_piece.auto.out ∙ piece in
    let long = mid_long c.loop-done.done
    (c.loop-done.done + c.piece_len.result - c.loop-done.done) c.loop-done.out
    c.read_piece.new.out (omega (arith, inside)) told in
    record {
      within = omega (arith, long, inside);
      so_far = λ size fits.
          let room : c.args.at + length c.loop-done.out ≤ size = omega (arith, long, fits) in
          read_more (seen size c.args.self.now).bytes c.loop-done.out c.read_piece.new.out c.args.at
          c.loop-done.done c.piece_len.result
          (c.loop-done.done + c.piece_len.result - c.loop-done.done) (omega arith)
          (omega (arith, told)) (omega (arith, inside))
          (c.loop-done.invariant.so_far size room)
          (c.read_piece.ensures size (omega (arith, piece, inside, room))
          ∙ ap (λ (n : ℕ). field (seen size c.args.self.now).bytes (c.args.at + c.loop-done.done) n)
          (omega (arith, piece)));
    }
