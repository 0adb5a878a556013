use Rattle.std.proofs.Common.{◌≡◌, ◌<◌, ◌+◌, ◌*◌, ℕ, [], drop, sym, ◌∙◌, arith, subst}
use Rattle.std.proofs.Common.{◌++◌}
use Rattle.fmp_headers.specs.CapsuleHeader.{header_size}
use Rattle.capsule_grammar.specs.Refusals.{body_of, driver_count, list_end}
use Rattle.capsule_feed.specs.Structures.{behind_fmp_head}
use Rattle.capsule_feed.specs.Told.{offsets_told}
use Rattle.capsule_feed.specs.Cursors.{AtLead, Goes, IsLeft, images_left}
use Rattle.capsule_feed.proofs.FrontSteps.{all_offsets, offset_goes}
use Rattle.capsule_feed.proofs.ItemSteps.{body_long, few, whole_le}
use Rattle.capsule_feed.proofs.fronts.after_offset.Goals as goal

pub returns-then-next-c : goal.returns-then-next-c
returns-then-next-c c = λ whole h.
    let k = c.args.c in
    let own = c.args.own.now in
    let rest = drop k.start whole in
    let body = body_of rest in
    let f = h.known in
    let number : c.saturating_add-next.result ≡ k.tested + 1 =
    omega (
      arith,
      c.saturating_add-next.ensures,
      h.here,
      few k.header_size k.image_size k.drivers k.items rest f,
    ) in
    let last : k.items ≡ k.tested + 1 = sym c.if-next-c.true ∙ number in
    let left : IsLeft k.fate k.total k.capsule k.start (k.start + header_size rest + 8)
    (behind_fmp_head k.capsule body)
    (offsets_told body (header_size rest) (k.tested + 1) ++ images_left (driver_count body) rest) whole =
    rw (← h.at) h.left in
    let lead : AtLead k own whole = all_offsets k own (k.tested + 1) whole f h.offsets last left in
    let place : k.start + header_size rest + list_end body ≡ k.stop =
    omega (arith, h.at, h.stop, last, f.items) in
    subst (λ (x : ℕ). Goes c.begin_lead.result own [] x whole) place (c.begin_lead.ensures whole lead)

pub returns : goal.returns
returns c = λ whole h.
    let k = c.args.c in
    let own = c.args.own.now in
    let rest = drop k.start whole in
    let body = body_of rest in
    let f = h.known in
    let all = whole_le k.start whole f.front in
    let long = body_long rest f.front in
    let number : c.saturating_add-next.result ≡ k.tested + 1 =
    omega (
      arith,
      c.saturating_add-next.ensures,
      h.here,
      few k.header_size k.image_size k.drivers k.items rest f,
    ) in
    let more : k.tested + 1 < k.items = omega (arith, h.here, number, c.if-next-c.false) in
    let stop : c.saturating_add.result ≡ k.at + 8 + 8 * (k.tested + 1) =
    omega (
      arith,
      c.saturating_add.ensures,
      h.at,
      h.stop,
      more,
      f.items,
      f.list,
      long,
      all,
      f.front.within,
      h.left.small,
      h.left.total,
    ) in
    rw number (offset_goes (record k { tested = k.tested + 1; stop = c.saturating_add.result }) own
    k.stop whole h.kind h.item f h.offsets more h.at stop (omega (arith, h.stop)) h.left)
