use Rattle.scatter_list.proofs.ReadLemmas.{piece_read}
use Rattle.scatter_list.proofs.blocks.push_piece.Goals as goal

pub returns : goal.returns
returns g c = record {
  value = piece_read (g.M.PhysMem.segments c.args.memory.now) c.args.at _ c.args.out.now
      c.push_slice.new.self c.read.new.out c.read.auto.out c.if-not-read.ensures.reads
      c.in_ok-push_slice.ensures.ok;
}
