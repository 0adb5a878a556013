use Rattle.std.proofs.Common.{rules, ◌≡◌, Err}
use Rattle.reference_machine.specs.Boots.{after_steps}
use Rattle.cap_boot.specs.Given.{setting}
use Rattle.cap_boot.specs.Tasks.{memory_tasks}
use Rattle.delivery_formats.specs.TrueFormats.{true_formats}
use Rattle.cap_boot.proofs.Groups.{folder_then, memory_same}
use Rattle.cap_boot.proofs.Onward.{steps_ground}
use Rattle.cap_boot.proofs.Works.{as_result, stopped_first, then_goes, with_behind}
use Rattle.cap_boot.proofs.waiting.take_pair.Goals as goal

pub returns-in_err-unstage-clause-does : goal.returns-in_err-unstage-clause-does
returns-in_err-unstage-clause-does g c =
    let x = setting c.args.board.now c.args.now.now g.S.SlotForm.slot_of in
    let todo = memory_tasks true_formats c.args.pair in
    let is : c.from_residual.result ≡ Err c.in_err-unstage.field-0.0 = search rules in
    as_result x is (stopped_first x (with_behind x todo todo (λ start m rest may. tt)
    (λ b k way kept. memory_same true_formats c.args.pair b.machine
    (after_steps x.formats k b).machine (steps_ground x.formats k b))
    (c.in_err-unstage.ensures.does x)))

pub returns-in_err-do_memory_units-clause-does : goal.returns-in_err-do_memory_units-clause-does
returns-in_err-do_memory_units-clause-does g c =
    let x = setting c.args.board.now c.args.now.now g.S.SlotForm.slot_of in
    let todo = memory_tasks true_formats c.args.pair in
    let is : c.from_residual-in_err-do_memory_units.result
    ≡ Err c.in_err-do_memory_units.field-0.0 = search rules in
    as_result x is (then_goes x folder_then (with_behind x todo todo (λ start m rest may. tt)
    (λ b k way kept. memory_same true_formats c.args.pair b.machine
    (after_steps x.formats k b).machine (steps_ground x.formats k b))
    (c.in_ok-unstage.ensures.does x))
    c.in_err-do_memory_units.ensures.does)

pub returns-clause-does : goal.returns-clause-does
returns-clause-does g c =
    let x = setting c.args.board.now c.args.now.now g.S.SlotForm.slot_of in
    let todo = memory_tasks true_formats c.args.pair in
    then_goes x folder_then (with_behind x todo todo (λ start m rest may. tt)
    (λ b k way kept. memory_same true_formats c.args.pair b.machine
    (after_steps x.formats k b).machine (steps_ground x.formats k b))
    (c.in_ok-unstage.ensures.does x))
    c.in_ok-do_memory_units.ensures.does
