use Rattle.std.proofs.Common.{◌≡◌, ◌++◌, length}
use Rattle.update_inbox.proofs.folder.listing_of.Given as goal

-- what is listed and what is left are all files
abbrev pub invariant-files : goal.invariant-files
invariant-files l = l.listing.items ++ l.files.items ≡ l.fn.files.items

abbrev pub decreases-files : goal.decreases-files
decreases-files l = length l.files.items
