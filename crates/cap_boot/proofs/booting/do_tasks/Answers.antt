use Rattle.std.proofs.Common.{rules, ◌≡◌, Err, sym, ◌∙◌}
use Rattle.cap_boot.specs.Given.{setting}
use Rattle.cap_boot.proofs.Folders.{nothing_kept}
use Rattle.cap_boot.proofs.Parts.{heal_first, healed_then, not_asked, staged_first}
use Rattle.cap_boot.proofs.Works.{as_result, stopped_first, then_goes}
use Rattle.cap_boot.proofs.booting.do_tasks.Goals as goal

pub returns-in_err-heal-clause-does : goal.returns-in_err-heal-clause-does
returns-in_err-heal-clause-does g c =
    let s = (g.W.BenchState.state c.args.bench.now).contents in
    let x = setting c.args.board.now c.args.now.now g.S.SlotForm.slot_of in
    let is : c.from_residual.result ≡ Err c.in_err-heal.field-0.0 = search rules in
    as_result x is (stopped_first x (heal_first x s c.in_err-heal.ensures.does))

pub returns-in_err-take_staged-clause-does : goal.returns-in_err-take_staged-clause-does
returns-in_err-take_staged-clause-does g c =
    let s = (g.W.BenchState.state c.args.bench.now).contents in
    let x = setting c.args.board.now c.args.now.now g.S.SlotForm.slot_of in
    let is : c.from_residual-in_err-take_staged.result
    ≡ Err c.in_err-take_staged.field-0.0 = search rules in
    as_result x is (then_goes x (healed_then x s) (heal_first x s c.in_ok-heal.ensures.does)
    (stopped_first x (staged_first x c.in_err-take_staged.ensures.does)))

pub returns-in_err-take_folder-clause-does : goal.returns-in_err-take_folder-clause-does
returns-in_err-take_folder-clause-does g c =
    let s = (g.W.BenchState.state c.args.bench.now).contents in
    let x = setting c.args.board.now c.args.now.now g.S.SlotForm.slot_of in
    let is : c.from_residual-in_err-take_folder.result
    ≡ Err c.in_err-take_folder.field-0.0 = search rules in
    as_result x is (then_goes x nothing_kept (then_goes x (healed_then x s)
    (heal_first x s c.in_ok-heal.ensures.does) (staged_first x c.in_ok-take_staged.ensures.does))
    c.in_err-take_folder.ensures.does)

pub returns-in_ok-take_folder-clause-does : goal.returns-in_ok-take_folder-clause-does
returns-in_ok-take_folder-clause-does g c =
    let s = (g.W.BenchState.state c.args.bench.now).contents in
    let x = setting c.args.board.now c.args.now.now g.S.SlotForm.slot_of in
    then_goes x nothing_kept (then_goes x (healed_then x s)
    (heal_first x s c.in_ok-heal.ensures.does) (staged_first x c.in_ok-take_staged.ensures.does))
    c.in_ok-take_folder.ensures.does

pub returns-else-is_asked-clause-does : goal.returns-else-is_asked-clause-does
returns-else-is_asked-clause-does g c =
    let s = (g.W.BenchState.state c.args.bench.now).contents in
    let x = setting c.args.board.now c.args.now.now g.S.SlotForm.slot_of in
    not_asked x s (sym c.is_asked.ensures ∙ c.if-is_asked.false) (then_goes x (healed_then x s)
    (heal_first x s c.in_ok-heal.ensures.does) (staged_first x c.in_ok-take_staged.ensures.does))
