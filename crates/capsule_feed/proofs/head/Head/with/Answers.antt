use Rattle.std.proofs.Common.{◌≡◌, ℕ, ◌+◌, ◌-◌, ◌≤◌, min, List, ◌++◌, length, take, sym, ap}
use Rattle.std.proofs.Common.{◌∙◌, arith}
use Rattle.std.proofs.lemmas.List.{length-take}
use Rattle.std.proofs.lemmas.Slice.{take-put_mid}
use Rattle.fmp_headers.specs.declared.image.TheConstants.{IMAGE_HEADER_BYTES}
use Rattle.capsule_feed.proofs.Joined.{joined_front}
use Rattle.capsule_feed.proofs.head.Head.with.Goals as goal

pub returns : goal.returns
returns c =
    let n = c.self.inside.length in
    let bytes = c.self.inside.bytes in
    let more = c.args.more.now in
    let added = c.min-added.result in
    let low : n ≤ IMAGE_HEADER_BYTES = c.self.invariant in
    let long : length (take n bytes) ≡ n = omega (arith, length-take n bytes, c.self.told, low) in
    let room : added ≡ min (IMAGE_HEADER_BYTES - length (take n bytes)) (length more) =
    c.min-added.ensures
    ∙ ap (λ (k : ℕ). min (IMAGE_HEADER_BYTES - k) (length more)) (sym long) in
    let size : n + added ≡ n + length c.copy_from_slice.new.self =
    omega (
      arith,
      ap length c.copy_from_slice.ensures.after,
      length-take added more,
      c.min-added.ensures,
    ) in
    take-put_mid n (n + added - n) bytes c.copy_from_slice.new.self (n + added) size
    (omega (arith, low, c.self.told))
    ∙ ap (λ (l : List ℕ). take n bytes ++ l) c.copy_from_slice.ensures.after
    ∙ joined_front IMAGE_HEADER_BYTES (take n bytes) more added (omega (arith, long, low)) room
    ∙ ap (λ (l : List ℕ). take IMAGE_HEADER_BYTES (l ++ more)) c.self.view_is
