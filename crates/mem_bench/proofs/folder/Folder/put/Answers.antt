use Rattle.mem_bench.proofs.FolderLemmas.{IsFolder-put}
use Rattle.mem_bench.proofs.folder.Folder.put.Goals as goal

pub invariant_of-self-2 : goal.invariant_of-self-2
invariant_of-self-2 c =
    let room = rw (← c.self.view_is) at c.requires.room in
    let folder =
    IsFolder-put _ c.args.name.now c.args.bytes.now c.self.invariant c.requires.name
    c.requires.size room in
    rw (
      c.push_reserved.ensures.items,
      c.drop_name.ensures.others,
      c.reserve.ensures.items,
      c.in_ok-file.ensures,
    ) folder
