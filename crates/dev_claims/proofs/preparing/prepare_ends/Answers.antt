use Rattle.std.proofs.Common.{ap, ◌∙◌, subst}
use Rattle.dev_claims.specs.Ended.{claim_settled}
use Rattle.dev_claims.proofs.Readied.{have_kept, places_then}
use Rattle.reference_machine.specs.declared.unit.End.TheVariants.{Sealed, Kept, Lost}
use Rattle.var_log.specs.Changes.{Variables}
use Rattle.var_store.specs.Places.{HavePlaces}
use Rattle.var_store.specs.Stores.{prepared_of, variables_of}
use Rattle.dev_claims.proofs.preparing.prepare_ends.Goals as goal

pub returns-clause-kept : goal.returns-clause-kept
returns-clause-kept c =
    c.in_ok-kept.ensures.value
    ∙ ap (λ (v : Variables). prepared_of (claim_settled c.args.board.now v c.args.now.now
    c.args.claim.now Kept)) c.prepare_end.ensures.frame.variables

pub returns-clause-lost : goal.returns-clause-lost
returns-clause-lost c =
    c.in_ok-lost.ensures.value
    ∙ ap (λ (v : Variables). prepared_of (claim_settled c.args.board.now v c.args.now.now
    c.args.claim.now Lost))
    (c.prepare_end-2.ensures.frame.variables ∙ c.prepare_end.ensures.frame.variables)

pub returns-clause-for_sealed : goal.returns-clause-for_sealed
returns-clause-for_sealed c =
    have_kept (claim_settled c.args.board.now (variables_of c.args.store.now) c.args.now.now
    c.args.claim.now Sealed) c.prepare_end.new.store.places c.prepare_end-3.new.store.places
    c.in_ok-sealed.ensures.places
    (places_then c.prepare_end.new.store c.prepare_end-2.new.store c.prepare_end-3.new.store
    c.prepare_end-2.ensures.frame c.prepare_end-3.ensures.frame).places

pub returns-clause-for_kept : goal.returns-clause-for_kept
returns-clause-for_kept c =
    have_kept (claim_settled c.args.board.now (variables_of c.args.store.now) c.args.now.now
    c.args.claim.now Kept) c.prepare_end-2.new.store.places c.prepare_end-3.new.store.places
    (subst (λ (v : Variables). HavePlaces (claim_settled c.args.board.now v c.args.now.now
    c.args.claim.now Kept) c.prepare_end-2.new.store.places)
    c.prepare_end.ensures.frame.variables c.in_ok-kept.ensures.places)
    c.prepare_end-3.ensures.frame.places

pub returns-clause-for_lost : goal.returns-clause-for_lost
returns-clause-for_lost c =
    subst (λ (v : Variables). HavePlaces (claim_settled c.args.board.now v c.args.now.now
    c.args.claim.now Lost) c.prepare_end-3.new.store.places)
    (c.prepare_end-2.ensures.frame.variables ∙ c.prepare_end.ensures.frame.variables)
    c.in_ok-lost.ensures.places

pub returns-clause-frame : goal.returns-clause-frame
returns-clause-frame c =
    places_then c.args.store.now c.prepare_end.new.store c.prepare_end-3.new.store
    c.prepare_end.ensures.frame
    (places_then c.prepare_end.new.store c.prepare_end-2.new.store c.prepare_end-3.new.store
    c.prepare_end-2.ensures.frame c.prepare_end-3.ensures.frame)
