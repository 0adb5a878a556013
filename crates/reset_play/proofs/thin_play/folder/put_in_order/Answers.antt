use Rattle.std.proofs.Common.{rules}
use Rattle.reference_machine.specs.Names.{is_taken_before}
use Rattle.reset_play.proofs.FolderLemmas.{put_at}
use Rattle.reset_play.proofs.thin_play.folder.put_in_order.Goals as goal

pub returns-clause-ok : goal.returns-clause-ok
returns-clause-ok c =
    put_at (λ a b. is_taken_before a.name b.name) c.args.file c.args.ordered.now.items _
    c.place_of-place.result (search rules) (search rules)
