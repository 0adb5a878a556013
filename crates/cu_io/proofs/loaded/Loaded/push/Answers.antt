use Rattle.cu_io.proofs.NamedLaws.{HasDistinctNames-append}
use Rattle.cu_io.proofs.loaded.Loaded.push.Goals as goal

pub invariant_of-self-2 : goal.invariant_of-self-2
invariant_of-self-2 c =
    let lacks = rw (← c.self.view_is) at c.requires in
    rw c.in_ok-push.ensures.ok (HasDistinctNames-append c.self.inside.list.items c.args.item
    c.self.invariant lacks)
