use Rattle.std.proofs.Common.{◌≡◌, ◌∙◌, ap, sym, ℕ, arith, get_or, IsTrue, true, inl, inr}
use Rattle.std.proofs.lemmas.Bool.{cases_eq}
use Rattle.cu_base.specs.Refusals.{first_refusal}
use Rattle.var_log.specs.declared.change.Change.{Change}
use Rattle.var_log.specs.Changes.{keeps_limits}
use Rattle.var_store.specs.Answers.{change_rows}
use Rattle.var_store.proofs.RefusalLemmas.{get_or_any, if_none, none_from, refusal_at, refusal_next}
use Rattle.var_store.proofs.prepared.refusal_of.Goals as goal

pub returns-then-is_some-clause-value : goal.returns-then-is_some-clause-value
returns-then-is_some-clause-value c =
    refusal_at c.args.changes.now c.loop-change.change-index c.change-item.result
    c.refusal_of_change-refusal.result c.loop-change.invariant.0 (omega (arith, c.loop-change-test.true))
    (c.refusal_of_change-refusal.ensures.value
    ∙ ap (λ (d : Change). first_refusal (change_rows d)) c.change-item.is)
    (sym c.is_some.ensures ∙ c.if-is_some.true)

pub loop-change-preserved : goal.loop-change-preserved
loop-change-preserved c =
    let cs = c.args.changes.now in
    let i = c.loop-change.change-index in
    let item = c.change-item.result in
    let none = sym c.is_some.ensures ∙ c.if-is_some.false in
    let keeps : keeps_limits item ≡ true =
    if_none (IsTrue (keeps_limits item)) c.refusal_of_change-refusal.result none
    c.refusal_of_change-refusal.ensures.limits in (
      refusal_next cs i item c.loop-change.invariant.0 (omega (arith, c.loop-change-test.true))
          (sym (c.refusal_of_change-refusal.ensures.value
          ∙ ap (λ (d : Change). first_refusal (change_rows d)) c.change-item.is)
          ∙ none_from c.refusal_of_change-refusal.result none),
      λ k d less.
          elim (cases_eq k i) [
            | inl same ↦
                ap (λ (j : ℕ). keeps_limits (get_or cs j d)) same
                ∙ ap keeps_limits (get_or_any cs i d item (omega (arith, c.loop-change-test.true))
                ∙ sym c.change-item.is)
                ∙ keeps
            | inr other ↦ c.loop-change.invariant.1 k d (omega (arith, less, other))
          ],
    )
