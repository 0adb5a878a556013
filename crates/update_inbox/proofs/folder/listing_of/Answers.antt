use Rattle.std.proofs.Common.{rules, length, ◌<◌}
use Rattle.update_inbox.proofs.FolderLemmas.{next_is_listing}
use Rattle.update_inbox.proofs.folder.listing_of.Goals as goal

pub push-requires : goal.push-requires
push-requires c =
    next_is_listing c.files.listing.items c.files.files.items c.args.files.items c.remove.result
    c.files.invariant (search rules) c.remove.ensures.value c.requires
