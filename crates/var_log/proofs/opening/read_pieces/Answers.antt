use Rattle.std.proofs.Common.{◌≡◌, ◌∙◌, ◌+◌, ◌-◌, ◌≤◌, ap, sym, arith, length, rules}
use Rattle.bench_model.specs.Bench.{Contents}
use Rattle.cu_base.specs.Fields.{field}
use Rattle.var_log.proofs.PieceLemmas.{piece_read, piece_long}
use Rattle.var_log.proofs.opening.read_pieces.Goals as goal

pub loop-read-preserved : goal.loop-read-preserved
loop-read-preserved g c =
    let inv = c.loop-read.invariant in
    let r = c.loop-read.read in
    let n = c.min-n.result in
    let out = c.loop-read.out in
    let piece = c.read.new.out in
    let b = (g.F.BenchState.state c.args.flash.now).contents.bytes c.args.bank in
    let more : r + n ≤ length out = omega (arith, c.min-n.ensures, c.loop-read-test.true) in
    let mid : r + n - r ≡ n = omega arith in
    let long : length piece ≡ n = search rules in
    let whole = piece_long out piece r (r + n - r) n mid long more in
    let done = c.in_ok-read.ensures in (
      record {
        contents = done.frame.contents ∙ inv.0.contents;
        spare = done.frame.spare ∙ inv.0.spare;
        orders = done.frame.orders ∙ inv.0.orders;
      },
      whole ∙ inv.1,
      omega (arith, whole, more),
      λ told. piece_read b out piece c.args.at r (r + n - r) n (inv.3 told) inv.2 long
          (ap (λ (s : Contents). field (s.bytes c.args.bank) (c.args.at + r) (length piece)) (sym inv.0.contents)
          ∙ done.reads (ap (λ (s : Contents). s.told) inv.0.contents ∙ told)),
      done.counts.moves ∙ inv.4,
      omega (arith, inv.5, done.cause.later),
      λ less. omega (arith, inv.6 c.loop-read-test.true, done.counts.looks, c.min-n.ensures, whole, less),
      omega (arith, inv.6 c.loop-read-test.true, done.counts.looks, c.min-n.ensures),
    )
