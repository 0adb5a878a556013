use Rattle.std.proofs.Common.{◌∙◌, sym}
use Rattle.capsule_show.proofs.Fronts.{is_body}
use Rattle.capsule_show.proofs.Growing.{fmp_body_told, on_ok, other_body_told}
use Rattle.capsule_show.proofs.text.push_body.Goals as goal

pub push_fmp-requires : goal.push_fmp-requires
push_fmp-requires c = is_body c.args.bytes.now _ c.body-body.ensures c.requires
    (sym c.is_fmp.ensures ∙ c.if-is_fmp.true)

pub returns-then-is_fmp : goal.returns-then-is_fmp
returns-then-is_fmp c = on_ok c.push_fmp.result
    (fmp_body_told c.args.bytes.now _ c.args.out.now _ c.body-body.ensures
    (sym c.is_fmp.ensures ∙ c.if-is_fmp.true)) c.push_fmp.ensures

pub returns-else-is_fmp : goal.returns-else-is_fmp
returns-else-is_fmp c = on_ok c.push_other.result
    (other_body_told c.args.bytes.now _ c.args.out.now _ c.body-body.ensures
    (sym c.is_fmp.ensures ∙ c.if-is_fmp.false)) c.push_other.ensures
