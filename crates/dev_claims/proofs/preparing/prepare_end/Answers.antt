use Rattle.std.proofs.Common.{List, ap, ◌∙◌, refl, subst}
use Rattle.dev_claims.proofs.Settled.{settled_made}
use Rattle.dev_claims.specs.Ended.{line_ended}
use Rattle.reference_machine.specs.declared.unit.Kind.TheVariants.{Try}
use Rattle.stored_vars.specs.declared.claim.Claim.{Claim}
use Rattle.var_log.specs.declared.change.Change.{Change}
use Rattle.var_store.specs.Places.{HavePlaces}
use Rattle.var_store.specs.Stores.{variables_of}
use Rattle.dev_claims.proofs.preparing.prepare_end.Goals as goal

pub returns-clause-places : goal.returns-clause-places
returns-clause-places c =
    subst (λ (cs : List Change). HavePlaces cs c.prepare.new.store.places)
    (settled_made c.args.board.now (variables_of c.args.store.now) c.args.now.now
    c.args.claim.now c.args.end c.line_ended-line.result c.args.claim.now.floor c.ids_on-ids.result
    c.in_ok-batch.batch.items
    (c.line_ended-line.ensures ∙ ap (λ (k : Claim). line_ended c.args.board.now
    (variables_of c.args.store.now) Try k c.args.end) c.in_ok-copy_of.ensures) refl
    c.ids_on-ids.ensures.value c.in_ok-batch.ensures.value) c.in_ok-prepared.ensures.places
