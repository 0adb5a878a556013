use Rattle.recipe_files.proofs.BuildLemmas.{six_grown}
use Rattle.recipe_files.proofs.image.put_certificate.Goals as goal

pub returns : goal.returns
returns c =
    six_grown _ _ _ _ _ _ _ _ _ _ _ _ _ c.in_ok-put_u64.ensures.ok c.in_ok-put_u32.ensures.ok
    c.in_ok-put_u16.ensures.ok c.in_ok-put_u16-2.ensures.ok c.in_ok-push_slice.ensures.ok
    c.in_ok-push_slice-2.ensures.ok
