use Rattle.std.proofs.Common.{◌≡◌, ◌+◌, ◌∙◌, ap, arith, map, refl, ℕ}
use Rattle.std.specs.List.{range_with_len}
use Rattle.capsule_grammar.specs.Reading.{image_of}
use Rattle.capsule_grammar.specs.Refusals.{item, driver_count, image_count}
use Rattle.capsule_grammar.proofs.Lists.{pushed}
use Rattle.capsule_grammar.proofs.reading.read_images.Goals as goal

pub loop-k-preserved : goal.loop-k-preserved
loop-k-preserved c =
    let body = c.args.body.now in
    pushed (λ (k : ℕ). image_of (item body k)) (driver_count body) c.loop-k.k
    (driver_count body + c.loop-k.k) _ _ _ refl c.loop-k.invariant
    (c.in_ok-read_image.ensures ∙ ap image_of c.item.ensures
    ∙ ap (λ (n : ℕ). image_of (item body (n + c.loop-k.k))) c.driver_count-drivers.ensures)
    c.in_ok-push.ensures.ok

pub returns : goal.returns
returns c =
    let body = c.args.body.now in
    let all : c.loop-k.k ≡ image_count body = omega arith in
    c.loop-k.invariant ∙ ap
    (λ (n : ℕ). map (λ (k : ℕ). image_of (item body k)) (range_with_len (driver_count body) n)) all
