use Rattle.std.proofs.Common.{◌∙◌, ap, option_map, sym}
use Rattle.var_store.specs.Stores.{variables_of}
use Rattle.dev_claims.proofs.Wide.{wide_of}
use Rattle.dev_claims.proofs.reading.is_claimed.Goals as goal

pub returns-in-Some-clause-wide : goal.returns-in-Some-clause-wide
returns-in-Some-clause-wide c claimed board =
    wide_of board (variables_of c.args.store.now) c.args.device c.in-Some.bytes.now
    (sym c.bytes_of.ensures ∙ ap (option_map (λ b. b.now)) c.in-Some.is)
    (sym c.has_claim.ensures.value ∙ claimed)
    (λ r read. c.has_claim.ensures.wide c.args.device r read)
