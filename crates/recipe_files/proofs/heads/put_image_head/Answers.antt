use Rattle.std.proofs.Common.{◌++◌, ◌∙◌, ap}
use Rattle.fmp_headers.specs.declared.image.ImageHeader.{ImageHeader}
use Rattle.fmp_headers.specs.ImageHeader.{image_header_bytes}
use Rattle.image_parts.specs.declared.value.PayloadHead.{PayloadHead}
use Rattle.image_parts.specs.Parts.{dep_bytes}
use Rattle.image_parts.specs.PayloadHeader.{payload_head_bytes}
use Rattle.recipe_files.specs.Recipes.{ItemValue}
use Rattle.recipe_files.specs.Room.{found}
use Rattle.recipe_files.proofs.LayLemmas.{image_head}
use Rattle.recipe_files.proofs.heads.put_image_head.Goals as goal

pub returns : goal.returns
returns c =
    let f = found c.args.index.now in
    let i = c.args.item.now in
    image_head f i c.args.out.now c.write_into.new.out c.put_auth.new.out c.put_section.new.out
    c.put_head.new.out
    (c.in_ok-write_into.ensures.ok
    ∙ ap (λ (h : ImageHeader). c.args.out.now ++ image_header_bytes h) c.image_header.ensures)
    c.in_ok-put_auth.ensures
    (c.in_ok-put_section.ensures
    ∙ ap (λ (x : ItemValue). c.put_auth.new.out ++ dep_bytes x.dep) c.item.view_is)
    (c.in_ok-put_head.ensures
    ∙ ap (λ (h : PayloadHead). c.put_section.new.out ++ payload_head_bytes h) c.head_of.ensures)
