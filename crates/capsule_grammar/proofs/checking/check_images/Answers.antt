use Rattle.std.proofs.Common.{◌+◌, ◌≡◌, ◌≤◌, None, arith, below_more}
use Rattle.std.proofs.lemmas.Result.{err_from_is_err_and}
use Rattle.cu_base.specs.Refusals.{first_refusal}
use Rattle.capsule_grammar.specs.Refusals.{image_rows, image_count, driver_count, item, bound}
use Rattle.cu_base.proofs.Rows.{some_in, none_in}
use Rattle.capsule_grammar.proofs.FrontLemmas.{begins_itself}
use Rattle.capsule_grammar.proofs.checking.check_images.Goals as goal

pub returns-in_err-check_image : goal.returns-in_err-check_image
returns-in_err-check_image c =
    let body = c.args.body.now in
    let p = err_from_is_err_and c.from_residual.result c.from_residual.ensures.1 in
    rw (p.1, p.2)
    (some_in (λ k. image_rows (item body k) (c.args.at + bound body k)) (driver_count body)
    (image_count body) c.loop-k.k _ (λ j low high. c.loop-k.invariant j high low) (omega arith)
    (omega arith)
    (rw (← c.bound-from.ensures, ← c.bound-to.ensures)
    (c.in_err-check_image.ensures _ (begins_itself _))))

pub loop-k-preserved : goal.loop-k-preserved
loop-k-preserved c =
    let body = c.args.body.now in
    let here : first_refusal (image_rows (item body c.loop-k.k) (c.args.at + bound body c.loop-k.k))
    ≡ None = rw (← c.bound-from.ensures, ← c.bound-to.ensures)
    (c.in_ok-check_image.ensures _ (begins_itself _)) in
    below_more
    (λ j. driver_count body ≤ j
    → first_refusal (image_rows (item body j) (c.args.at + bound body j)) ≡ None) c.loop-k.k
    c.loop-k.invariant (λ low. here)

pub returns : goal.returns
returns c =
    none_in (λ k. image_rows (item c.args.body.now k) (c.args.at + bound c.args.body.now k))
    (driver_count c.args.body.now) (image_count c.args.body.now)
    (λ j low high. c.loop-k.invariant j (omega arith) low)
