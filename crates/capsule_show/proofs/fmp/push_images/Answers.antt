use Rattle.std.proofs.Common.{◌≡◌, ℕ, ◌+◌, ◌∙◌, ap, map, subst, arith}
use Rattle.std.specs.List.{range_with_len}
use Rattle.capsule_grammar.specs.declared.value.Image.{Image}
use Rattle.capsule_grammar.specs.Reading.{image_of}
use Rattle.capsule_grammar.specs.Refusals.{driver_count, image_count, item}
use Rattle.capsule_show.specs.Appended.{AppendsLines}
use Rattle.capsule_show.specs.Images.{AreLinesOf, AreLinesOfAll}
use Rattle.capsule_show.proofs.Growing.{image_grown}
use Rattle.capsule_show.proofs.fmp.push_images.Goals as goal

pub loop-k-preserved : goal.loop-k-preserved
loop-k-preserved c =
    let body = c.args.body.now in
    image_grown (λ (k : ℕ). image_of (item body k)) (driver_count body) c.loop-k.k
    c.args.out.now c.loop-k.out c.push_image.new.out c.loop-k.invariant
    (subst (λ (i : Image). AppendsLines (AreLinesOf c.loop-k.k i) c.loop-k.out c.push_image.new.out)
    (ap image_of c.item.ensures
    ∙ ap (λ (n : ℕ). image_of (item body (n + c.loop-k.k))) c.driver_count-drivers.ensures)
    c.in_ok-push_image.ensures)

pub returns : goal.returns
returns c =
    let body = c.args.body.now in
    let all : c.loop-k.k ≡ image_count body = omega arith in
    subst
    (λ (n : ℕ). AppendsLines
    (AreLinesOfAll 0 (map (λ (k : ℕ). image_of (item body k)) (range_with_len (driver_count body) n)))
    c.args.out.now c.loop-k.out) all c.loop-k.invariant
