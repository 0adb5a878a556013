use Rattle.std.proofs.Common.{◌≡◌, List, arith, false, filter, subst, sym}
use Rattle.std.specs.List.{range_with_len}
use Rattle.dev_claims.specs.Batches.{keeps_serial}
use Rattle.stored_vars.specs.Edits.{delete_of}
use Rattle.stored_vars.specs.declared.variable.StoredVar.TheVariants.{Stage}
use Rattle.var_log.specs.Changes.{guid_of, has_key, name_of}
use Rattle.var_log.specs.declared.change.Change.{Change}
use Rattle.var_store.specs.Stores.{variables_of}
use Rattle.cap_boot.proofs.Unstagings.{kept_below, not_deleted}
use Rattle.cap_boot.proofs.step_batches.unstage_batch.Goals as goal

pub push-requires : goal.push-requires
push-requires c =
    let k = c.loop-number.number in
    let p = keeps_serial (variables_of c.args.store.now) c.args.serial in
    let change : Change = delete_of (Stage k) in
    subst (λ (d : Change). has_key (guid_of d) (name_of d) c.loop-number.batch.items ≡ false)
    (sym c.in_ok-delete_of.ensures)
    (subst (λ (cs : List Change). has_key (guid_of change) (name_of change) cs ≡ false)
    (sym c.loop-number.invariant)
    (not_deleted k (omega arith) (filter p (range_with_len 0 k)) (kept_below p k)))
