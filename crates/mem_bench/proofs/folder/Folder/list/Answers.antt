use Rattle.std.proofs.Common.{◌≡◌, ◌+◌, ◌++◌, ◌∷◌, [], take}
use Rattle.bench_model.specs.Files.{IsListing, listed}
use Rattle.mem_bench.proofs.FolderLemmas.{IsListing-front, listed_more, tell}
use Rattle.mem_bench.proofs.folder.Folder.list.Goals as goal

-- the listing with this file is that of one file more
with_this : (c : goal.In_ok-listed)
    → listed (take (c.loop-file.file-index + 1) c.deref-file-items.result.now)
    ≡ c.loop-file.listing.items ++ c.in_ok-listed.field-0 ∷ []
with_this c =
    let more =
    listed_more c.deref-file-items.result.now c.loop-file.file-index c.file-item.result
    c.loop-file-test.true c.file-item.is in
    let told : c.in_ok-listed.field-0 ≡ tell c.file-item.result = c.in_ok-listed.ensures in
    let so_far = c.loop-file.invariant.so_far in
    cc (more, told, so_far)

pub push-requires : goal.push-requires
push-requires c =
    let front : IsListing (listed (take (c.loop-file.file-index + 1) c.self.inside.files.items)) =
    IsListing-front _ (c.loop-file.file-index + 1) c.self.invariant in
    rw (← with_this c, c.deref-file-items.ensures.value) front
