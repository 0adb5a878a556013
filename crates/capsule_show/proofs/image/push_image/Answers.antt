use Rattle.std.proofs.Common.{subst}
use Rattle.capsule_grammar.specs.declared.value.Image.{Image}
use Rattle.capsule_grammar.specs.Values.{image_seen}
use Rattle.capsule_show.specs.Appended.{AppendsLines}
use Rattle.capsule_show.specs.Images.{AreLinesOf}
use Rattle.capsule_show.proofs.Growing.{image_told, on_ok}
use Rattle.capsule_show.proofs.image.push_image.Goals as goal

pub returns : goal.returns
returns c = on_ok c.push_digest.result
    (λ e. subst (λ (i : Image). AppendsLines (AreLinesOf c.args.number i) c.args.out.now c.push_digest.new.out)
    c.image_view-view.ensures.value
    (image_told c.args.number (image_seen c.image_view-view.result) c.args.out.now _ _ _
    c.in_ok-push_item.ensures c.in_ok-push_found.ensures e)) c.push_digest.ensures
