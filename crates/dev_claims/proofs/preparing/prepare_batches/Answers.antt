use Rattle.std.proofs.Common.{rules, ◌≡◌, ◌+◌, ap, ◌∙◌, sym, subst, max}
use Rattle.dev_claims.specs.Ended.{claim_settled}
use Rattle.dev_claims.specs.Units.{claim_changes, next_result}
use Rattle.dev_claims.proofs.Readied.{attempt_made, have_kept, size_made}
use Rattle.reference_machine.specs.declared.unit.End.TheVariants.{Sealed, Kept, Lost}
use Rattle.var_log.specs.Changes.{Variables}
use Rattle.var_log.specs.Logs.{LogValue}
use Rattle.var_store.specs.Places.{HavePlaces}
use Rattle.var_store.specs.Stores.{PreparedValue, prepared_of, variables_of}
use Rattle.dev_claims.proofs.preparing.prepare_batches.Goals as goal

pub returns-clause-value : goal.returns-clause-value
returns-clause-value c =
    let same = c.prepare.ensures.frame.variables in
    let later = c.prepare_ends.ensures.frame.variables ∙ same in
    attempt_made c.args.board.now (variables_of c.args.store.now) c.args.now.now c.args.claim.now
    c.in_ok-copy_of.field-0 c.next_result.result c.seq.result c.args.store.now.log.seq
    c.in_ok-claiming.claiming c.in_ok-sealed.sealed c.in_ok-sealed.kept
    c.in_ok-sealed.lost c.in_ok-copy_of.ensures
    (c.next_result.ensures.value ∙ ap (next_result c.args.board.now) later)
    (c.seq.ensures.value ∙ ap (λ (l : LogValue). l.seq)
    (c.prepare_ends.ensures.frame.log ∙ c.prepare.ensures.frame.log))
    (c.in_ok-claiming.ensures.value ∙ ap prepared_of c.in_ok-batch.ensures.value)
    (c.in_ok-sealed.ensures.sealed ∙ ap (λ (v : Variables). prepared_of
    (claim_settled c.args.board.now v c.args.now.now c.args.claim.now Sealed)) same)
    (c.in_ok-sealed.ensures.kept ∙ ap (λ (v : Variables). prepared_of
    (claim_settled c.args.board.now v c.args.now.now c.args.claim.now Kept)) same)
    (c.in_ok-sealed.ensures.lost ∙ ap (λ (v : Variables). prepared_of
    (claim_settled c.args.board.now v c.args.now.now c.args.claim.now Lost)) same)

pub returns-clause-bytes : goal.returns-clause-bytes
returns-clause-bytes c =
    let same = c.prepare.ensures.frame.variables in
    let sum : c.bytes-4.result + c.max-largest.result
    ≡ c.in_ok-claiming.claiming.size
    + max (max c.in_ok-sealed.sealed.size c.in_ok-sealed.kept.size) c.in_ok-sealed.lost.size =
    search rules in
    sum ∙ size_made c.args.board.now (variables_of c.args.store.now) c.args.now.now
    c.args.claim.now c.in_ok-claiming.claiming c.in_ok-sealed.sealed c.in_ok-sealed.kept
    c.in_ok-sealed.lost
    (c.in_ok-claiming.ensures.value ∙ ap prepared_of c.in_ok-batch.ensures.value)
    (c.in_ok-sealed.ensures.sealed ∙ ap (λ (v : Variables). prepared_of
    (claim_settled c.args.board.now v c.args.now.now c.args.claim.now Sealed)) same)
    (c.in_ok-sealed.ensures.kept ∙ ap (λ (v : Variables). prepared_of
    (claim_settled c.args.board.now v c.args.now.now c.args.claim.now Kept)) same)
    (c.in_ok-sealed.ensures.lost ∙ ap (λ (v : Variables). prepared_of
    (claim_settled c.args.board.now v c.args.now.now c.args.claim.now Lost)) same)

pub returns-clause-places : goal.returns-clause-places
returns-clause-places c =
    have_kept (claim_changes c.args.board.now (variables_of c.args.store.now) c.args.claim.now)
    c.prepare.new.store.places c.prepare_ends.new.store.places
    (subst (λ cs. HavePlaces cs c.prepare.new.store.places) c.in_ok-batch.ensures.value
    c.in_ok-claiming.ensures.places) c.prepare_ends.ensures.frame.places

pub returns-clause-ends : goal.returns-clause-ends
returns-clause-ends c = record {
  for_sealed = subst (λ (p : PreparedValue). HavePlaces p.changes c.prepare_ends.new.store.places)
      (sym c.in_ok-sealed.ensures.sealed) c.in_ok-sealed.ensures.for_sealed;
  for_kept = subst (λ (p : PreparedValue). HavePlaces p.changes c.prepare_ends.new.store.places)
      (sym c.in_ok-sealed.ensures.kept) c.in_ok-sealed.ensures.for_kept;
  for_lost = subst (λ (p : PreparedValue). HavePlaces p.changes c.prepare_ends.new.store.places)
      (sym c.in_ok-sealed.ensures.lost) c.in_ok-sealed.ensures.for_lost;
}
