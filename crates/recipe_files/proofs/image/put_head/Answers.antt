use Rattle.recipe_files.proofs.BuildLemmas.{four_grown}
use Rattle.recipe_files.proofs.image.put_head.Goals as goal

pub returns : goal.returns
returns c =
    four_grown _ _ _ _ _ _ _ _ _ c.in_ok-push_slice.ensures.ok c.in_ok-put_u32.ensures.ok
    c.in_ok-put_u32-2.ensures.ok c.in_ok-put_u32-3.ensures.ok
