use Rattle.std.proofs.Common.{arith, IsTrue, sym, subst, ◌∙◌}
use Rattle.bench_model.specs.Boards.{BoardValue}
use Rattle.bench_model.specs.Files.{File}
use Rattle.reset_play.specs.Plays.{is_thin_on}
use Rattle.reset_play.specs.Whole.{between_tasks}
use Rattle.reset_play.proofs.OneUnit.{all_at}
use Rattle.reset_play.proofs.PlayParts.{files_step}
use Rattle.reset_play.proofs.thin_play.platform.ListPlatform.do_files.Goals as goal

pub do_file-requires-clause-thin : goal.do_file-requires-clause-thin
do_file-requires-clause-thin c =
    subst (λ (b : BoardValue). IsTrue (is_thin_on b c.index-files-i.result.bytes))
    (sym c.loop-i.invariant.board)
    (subst (λ (x : File). IsTrue (is_thin_on c.args.self.now.board x.bytes))
    (sym c.index-files-i.is)
    (all_at (λ (x : File). is_thin_on c.args.self.now.board x.bytes) c.args.files.now c.loop-i.i
    c.index-files-i.result c.loop-i-test.true c.requires.thin))

pub loop-i-preserved : goal.loop-i-preserved
loop-i-preserved c = record {
  left =
      files_step c.args.files.now c.args.marks.now c.loop-i.i c.index-files-i.result _
      (between_tasks c.loop-i.self c.loop-i.report)
      (between_tasks c.do_file.new.self c.do_file.new.report) c.index-files-i.is c.requires.long
      c.loop-i-test.true c.in_ok-do_file.ensures.ok
      ∙ c.loop-i.invariant.left;
  rests = c.in_ok-do_file.ensures.rule;
  board = c.do_file.ensures.frame ∙ c.loop-i.invariant.board;
  batches = omega (arith, c.in_ok-do_file.ensures.counts.0);
  steps = omega (arith, c.in_ok-do_file.ensures.counts.1);
}
