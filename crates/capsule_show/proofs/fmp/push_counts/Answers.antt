use Rattle.std.proofs.Common.{◌≡◌, ℕ, List, [], ◌∷◌, length, ◌++◌, ◌∙◌, ap, sym, append_assoc, codes}
use Rattle.capsule_show.specs.Lines.{count_words, spaced}
use Rattle.capsule_show.proofs.Fronts.{counts_told}
use Rattle.capsule_show.proofs.Growing.{framed, on_ok}
use Rattle.capsule_show.proofs.fmp.push_counts.Goals as goal

pub returns : goal.returns
returns c = on_ok c.end_line.result
    (λ e. framed c.args.out.now (codes "fmp") _ (10 ∷ []) _ _ _ c.in_ok-push_text.ensures
    c.in_ok-push_count_words.ensures e
    ∙ ap (λ (l : List ℕ). c.args.out.now ++ l)
    (counts_told c.args.body.now _ _ _ c.driver_count.ensures c.image_count.ensures
    (ap length c.lead.ensures))) c.end_line.ensures
