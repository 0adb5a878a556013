use Rattle.std.proofs.Common.{rules, ◌≡◌, ap, ◌+◌, ◌-◌, arith, true, take, drop, Some}
use Rattle.cu_base.specs.Fields.{number_at}
use Rattle.reset_play.specs.Thin.{is_thin}
use Rattle.reset_play.proofs.ThinLemmas.{image_end, one_byte, item_read}
use Rattle.reset_play.proofs.thin_play.delivery.read_thin.Goals as goal

pub slice_bounds-result-end : goal.slice_bounds-result-end
slice_bounds-result-end c =
    let thin : is_thin c.args.bytes.now ≡ true = search rules in
    omega (arith, image_end c.args.bytes.now thin, c.u32_at-size.ensures)

pub returns : goal.returns
returns c =
    let thin : is_thin c.args.bytes.now ≡ true = search rules in
    let end = image_end c.args.bytes.now thin in
    let size : 92 + c.u32_at-size.result - 92 ≡ number_at c.args.bytes.now 68 4 =
    omega (arith, c.u32_at-size.ensures) in
    rw thin (ap (λ x. Some x)
    (item_read c.args.bytes.now c.guid_at.result _ c.u64_at.result _ c.guid_at.ensures
    (one_byte c.args.bytes.now 64 0 (omega (arith, end))) c.u64_at.ensures
    (ap (λ n. take n (drop 92 c.args.bytes.now)) size)))
