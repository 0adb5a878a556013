use Rattle.std.proofs.Common.{◌∙◌, sym}
use Rattle.std.proofs.lemmas.Bool.{eq-eqb}
use Rattle.stored_vars.proofs.RecordLemmas.{record_name}
use Rattle.stored_vars.proofs.claim.DevRec.read.Goals as goal

pub claim_at-requires-clause-name : goal.claim_at-requires-clause-name
claim_at-requires-clause-name c =
    record_name c.args.bytes.now (sym c.is_record.ensures.value ∙ c.if-not-is_record.false)
    (eq-eqb _ _ c.if-bytes-ne-OPEN.false)
