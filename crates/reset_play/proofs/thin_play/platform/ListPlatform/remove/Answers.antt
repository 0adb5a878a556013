use Rattle.std.proofs.Common.{not, ◌==◌, List, sym, subst}
use Rattle.bench_model.specs.Files.{File}
use Rattle.reset_play.specs.Whole.{IsListPlatform}
use Rattle.reset_play.proofs.FolderFiles.{fewer_files}
use Rattle.reset_play.proofs.thin_play.platform.ListPlatform.remove.Goals as goal

pub invariant_of-self : goal.invariant_of-self
invariant_of-self c =
    subst (λ (xs : List File). IsListPlatform c.self.inside.board.now xs c.self.inside.done.items
    c.self.inside.claimed) (sym c.take_out.ensures)
    (fewer_files _ (λ x. not (x.serial == c.args.serial)) _ _ _ c.self.invariant)
