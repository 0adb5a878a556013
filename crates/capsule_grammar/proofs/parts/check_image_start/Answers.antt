use Rattle.std.proofs.Common.{◌∙◌, arith}
use Rattle.std.proofs.lemmas.Grind.{common_steps}
use Rattle.capsule_grammar.proofs.FrontLemmas.{image_refusal_by_start}
use Rattle.capsule_grammar.proofs.parts.check_image_start.Goals as goal

pub returns-then-not-is_image_version : goal.returns-then-not-is_image_version
returns-then-not-is_image_version c =
    λ image b. image_refusal_by_start c.args.at b c.requires.there ∙ grind (arith, common_steps)

pub returns-then-size-fixed : goal.returns-then-size-fixed
returns-then-size-fixed c =
    λ image b. image_refusal_by_start c.args.at b c.requires.there ∙ grind (arith, common_steps)

pub returns-then-size-fixed-2 : goal.returns-then-size-fixed-2
returns-then-size-fixed-2 c =
    λ image b. image_refusal_by_start c.args.at b c.requires.there ∙ grind (arith, common_steps)

pub returns : goal.returns
returns c =
    λ image b. image_refusal_by_start c.args.at b c.requires.there ∙ grind (arith, common_steps)
