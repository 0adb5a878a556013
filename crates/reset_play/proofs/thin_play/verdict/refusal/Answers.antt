use Rattle.std.proofs.Common.{◌∙◌, Some, None, sym, ap, option_map}
use Rattle.reset_play.specs.ThinValues.{parts_of}
use Rattle.reset_play.proofs.VerdictLemmas.{none_due, parts_read}
use Rattle.reset_play.proofs.thin_play.verdict.refusal.Goals as goal

pub refusal_of_parts-requires-clause-dependency : goal.refusal_of_parts-requires-clause-dependency
refusal_of_parts-requires-clause-dependency c =
    none_due c.args.image.now (parts_of c.in-Some.parts)
    (sym (ap (option_map parts_of) c.in-Some.is) ∙ c.requires.parts)

pub returns-in-Some : goal.returns-in-Some
returns-in-Some c = λ m u eb el ei ed es.
    c.refusal_of_parts.ensures m u eb el ei ed
    ∙ parts_read c.args.image.now m u (Some (parts_of c.in-Some.parts)) ei es
    (sym (ap (option_map parts_of) c.in-Some.is) ∙ c.requires.parts)

pub returns-in-None : goal.returns-in-None
returns-in-None c =
    λ m u eb el ei ed es. parts_read c.args.image.now m u None ei es
    (sym (ap (option_map parts_of) c.in-None.is) ∙ c.requires.parts)
