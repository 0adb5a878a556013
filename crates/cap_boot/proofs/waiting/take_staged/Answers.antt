use Rattle.std.proofs.Common.{rules, ◌≡◌, Err, List, ap, sym, ◌∙◌, flat_map}
use Rattle.reference_machine.specs.Boots.{pair_tasks, staged_tasks}
use Rattle.reference_machine.specs.declared.snapshot.StagedPair.{StagedPair}
use Rattle.cap_boot.specs.declared.fault.BootFault.TheVariants.{Memory}
use Rattle.cap_boot.specs.Given.{setting}
use Rattle.cap_boot.specs.Going.{IsAny, nothing}
use Rattle.cap_boot.specs.Keeps.{KeepsFolder}
use Rattle.delivery_formats.specs.TrueFormats.{true_formats}
use Rattle.cap_boot.proofs.Works.{as_result, gave_up, works_as}
use Rattle.cap_boot.proofs.waiting.take_staged.Goals as goal

pub returns-in_err-pairs-clause-does : goal.returns-in_err-pairs-clause-does
returns-in_err-pairs-clause-does g c =
    let x = setting c.args.board.now c.args.now.now g.S.SlotForm.slot_of in
    let is : c.from_residual.result ≡ Err Memory = search rules in
    as_result x is
    (gave_up x IsAny KeepsFolder (staged_tasks true_formats) nothing _)

pub returns-in_err-take_pairs-clause-does : goal.returns-in_err-take_pairs-clause-does
returns-in_err-take_pairs-clause-does g c =
    let x = setting c.args.board.now c.args.now.now g.S.SlotForm.slot_of in
    let is : c.from_residual-in_err-take_pairs.result
    ≡ Err c.in_err-take_pairs.field-0.0 = search rules in
    as_result x is (works_as x (λ b way at.
    ap (λ (ps : List StagedPair). flat_map (pair_tasks true_formats b.machine) ps)
    (sym at.stores.variables.staged ∙ sym c.in_ok-pairs.ensures ∙ sym c.as_slice.ensures))
    c.in_err-take_pairs.ensures.does)

pub returns-clause-does : goal.returns-clause-does
returns-clause-does g c =
    let x = setting c.args.board.now c.args.now.now g.S.SlotForm.slot_of in
    works_as x (λ b way at.
    ap (λ (ps : List StagedPair). flat_map (pair_tasks true_formats b.machine) ps)
    (sym at.stores.variables.staged ∙ sym c.in_ok-pairs.ensures ∙ sym c.as_slice.ensures))
    c.in_ok-take_pairs.ensures.does
