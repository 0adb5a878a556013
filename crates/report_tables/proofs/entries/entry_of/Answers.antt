use Rattle.std.proofs.Common.{◌∙◌, ◌+◌, get_or, ap, refl, sym}
use Rattle.report_tables.specs.Entries.{Installed, entry_with}
use Rattle.report_tables.proofs.EntryLemmas.{no_state, zip_drop, joined, passed_by, none_left}
use Rattle.report_tables.proofs.EntryLemmas.{left_of_type}
use Rattle.report_tables.proofs.entries.entry_of.Goals.{then-is_same_type, else-is_same_type}
use Rattle.report_tables.proofs.entries.entry_of.Goals as goal

pub loop-k-preserved : goal.loop-k-preserved
loop-k-preserved c =
    let first : Installed = (c.args.first.now, c.args.state.now) in
    let rest = c.args.rest.now in
    let states = c.args.states.now in
    let k = c.loop-k.k in
    let device = c.index-rest-k.result in
    let state = get_or states k no_state in
    let split = zip_drop rest states k device state c.loop-k-test.true c.requires.states
    c.index-rest-k.is refl in
    elim c.if-is_same_type.branch [
      | then-is_same_type w ↦
          ap (λ e. entry_with e (left_of_type first rest states (k + 1))) w.entry-is
          ∙ joined c.loop-k.entry w.join-entry.result first rest states k device state split
          (sym c.is_same_type.ensures.value ∙ w.if-is_same_type.true)
          (w.join-entry.ensures.value device)
          ∙ c.loop-k.invariant
      | else-is_same_type w ↦
          ap (λ e. entry_with e (left_of_type first rest states (k + 1))) w.entry-is
          ∙ passed_by c.loop-k.entry first rest states k device state split
          (sym c.is_same_type.ensures.value ∙ w.if-is_same_type.false)
          ∙ c.loop-k.invariant
    ]
