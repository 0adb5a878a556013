use Rattle.std.proofs.Common.{rules, ◌≡◌, true, sym, subst, Err}
use Rattle.dev_claims.specs.Committing.{are_small}
use Rattle.dev_claims.specs.Preparing.{PreparesWithin}
use Rattle.dev_claims.specs.declared.fault.ClaimFault.{ClaimFault}
use Rattle.dev_claims.proofs.Readied.{fault_within}
use Rattle.dev_claims.proofs.Sized.{none_refused, record_fits}
use Rattle.var_store.specs.Stores.{PreparedValue}
use Rattle.dev_claims.proofs.preparing.prepare.Goals as goal

pub prepare_set-requires-clause-size : goal.prepare_set-requires-clause-size
prepare_set-requires-clause-size c =
    let small : are_small c.args.batch.now.items ≡ true = search rules in
    record_fits 5 c.args.batch.now.items c.requires.places small c.requires.few

pub returns-in-Err-clause-refused : goal.returns-in-Err-clause-refused
returns-in-Err-clause-refused c =
    let small : are_small c.args.batch.now.items ≡ true = search rules in
    subst (λ (f : ClaimFault). PreparesWithin {T = PreparedValue} c.args.batch.now.items (Err f))
    (sym c.claim_fault_of.ensures.value)
    (fault_within PreparedValue c.args.batch.now.items c.in-Err.fault
    (none_refused 5 c.args.batch.now.items c.requires.places small) c.in-Err.ensures.value)
