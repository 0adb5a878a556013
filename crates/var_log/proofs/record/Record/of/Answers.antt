use Rattle.std.proofs.Common.{◌∙◌, ◌++◌, ◌∷◌, [], List, ℕ, ap, subst, arith, All, IsTrue}
use Rattle.var_log.specs.declared.change.Change.{Change}
use Rattle.var_log.specs.declared.limits.TheConstants.{CLOSED_GATE}
use Rattle.var_log.specs.Changes.{has_sizes}
use Rattle.var_log.specs.Records.{record_bytes}
use Rattle.var_log.proofs.Spelled.{made, are_changes}
use Rattle.var_log.proofs.record.Record.of.Goals as goal

pub invariant_of-result : goal.invariant_of-result
invariant_of-result c =
    let cs = c.args.batch.now.items in
    let given = c.as_slice.result.now in
    let is = c.in_ok-put_record.ensures.ok
    ∙ ap (λ (l : List ℕ). l ++ (record_bytes 2 0 given ++ CLOSED_GATE ∷ [])) c.new-bytes.ensures.items
    ∙ ap (λ (l : List Change). record_bytes 2 0 l ++ CLOSED_GATE ∷ []) c.as_slice.ensures.value in
    let sizes = subst (λ (l : List Change). All (λ d. IsTrue (has_sizes d)) l) c.as_slice.ensures.value
    c.in_ok-put_record.ensures.sizes in
    (made c.put_record.new.out.items 0 cs is (are_changes cs c.requires.limits sizes)
    c.requires.count (omega arith) c.requires.size).0

pub returns : goal.returns
returns c =
    let cs = c.args.batch.now.items in
    let given = c.as_slice.result.now in
    let is = c.in_ok-put_record.ensures.ok
    ∙ ap (λ (l : List ℕ). l ++ (record_bytes 2 0 given ++ CLOSED_GATE ∷ [])) c.new-bytes.ensures.items
    ∙ ap (λ (l : List Change). record_bytes 2 0 l ++ CLOSED_GATE ∷ []) c.as_slice.ensures.value in
    let sizes = subst (λ (l : List Change). All (λ d. IsTrue (has_sizes d)) l) c.as_slice.ensures.value
    c.in_ok-put_record.ensures.sizes in
    record {
      value = (made c.put_record.new.out.items 0 cs is (are_changes cs c.requires.limits sizes)
          c.requires.count (omega arith) c.requires.size).1;
    }
