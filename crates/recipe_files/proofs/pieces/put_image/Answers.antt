use Rattle.std.proofs.Common.{ℕ, List, ◌++◌, ◌∙◌, ap}
use Rattle.capsule_grammar.specs.Pieces.{joined}
use Rattle.capsule_grammar.specs.Spelling.{image_bytes}
use Rattle.recipe_files.specs.Builds.{image_of}
use Rattle.recipe_files.specs.Recipes.{item}
use Rattle.recipe_files.specs.Room.{found}
use Rattle.recipe_files.proofs.LayLemmas.{image_pieces, three_pieces}
use Rattle.recipe_files.proofs.pieces.put_image.Goals as goal

pub returns : goal.returns
returns c =
    let f = found c.args.index.now in
    let i = c.args.item.now in
    let n = c.item.inside in
    let seen = item n.header n.type_id n.index n.instance n.auth n.fw_version n.lowest n.payload
    n.vendor n.monotonic n.cert_type n.cert n.dep in
    three_pieces c.args.pieces.now.items c.push.new.self.items c.push-2.new.self.items
    c.push-3.new.self.items _ _ _
    c.in_ok-push.ensures.ok c.in_ok-push-2.ensures.ok c.in_ok-push-3.ensures.ok
    ∙ ap (λ (l : List ℕ). joined c.args.pieces.now.items ++ l)
    (image_pieces f i seen c.new-heads.result c.put_image_head.new.out c.find.result.now
    c.as_str.result.now c.as_slice.result.now (image_bytes (image_of f i)) c.item.view_is
    c.new-heads.ensures c.in_ok-put_image_head.ensures c.find.ensures c.as_str.ensures
    c.as_slice.ensures)
