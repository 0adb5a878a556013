use Rattle.std.proofs.Common.{rules}
use Rattle.dev_claims.proofs.OpenClaims.{open_low}
use Rattle.var_store.specs.Stores.{variables_of}
use Rattle.dev_claims.proofs.claimed.open_claim_of.Goals as goal

pub claim_of-requires : goal.claim_of-requires
claim_of-requires c =
    open_low c.args.board.now (variables_of c.args.store.now) c.in-Some.device
    c.open_claim.ensures.rule (search rules)
