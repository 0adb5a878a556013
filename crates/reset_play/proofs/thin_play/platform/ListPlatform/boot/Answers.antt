use Rattle.std.proofs.Common.{◌≡◌, [], Some, find, sym, ap, ◌∙◌}
use Rattle.reference_machine.specs.declared.unit.End.TheVariants.{Sealed}
use Rattle.reference_machine.specs.Boots.{boot_start}
use Rattle.reference_machine.specs.Machine.{Machine}
use Rattle.reference_machine.specs.Report.{ReportValue, nothing_done}
use Rattle.reference_machine.specs.Spent.{is_open}
use Rattle.delivery_formats.specs.TrueFormats.{true_formats}
use Rattle.reset_play.specs.Whole.{between_tasks, tasks_done, heal_tasks}
use Rattle.reset_play.proofs.Finishing.{progress}
use Rattle.reset_play.proofs.PlayParts.{boot_parts}
use Rattle.reset_play.proofs.thin_play.platform.ListPlatform.boot.Goals as goal

pub returns-clause-ok : goal.returns-clause-ok
returns-clause-ok c =
    let none : c.args.self.now.staged ≡ [] = ap (λ (m : Machine). m.staged) (sym c.self.view_is) in
    let healed : between_tasks c.heal.new.self c.heal.new.report
    ≡ tasks_done true_formats
    (progress c.args.self.now [] (boot_start true_formats c.args.self.now Sealed).report)
    (heal_tasks (find is_open c.args.self.now.list)) =
    c.in_ok-heal.ensures.ok
    ∙ ap (λ (r : ReportValue). tasks_done true_formats
    (progress c.args.self.now [] (record r { opened = Some c.self.inside.batches }))
    (heal_tasks (find is_open c.args.self.now.list))) c.new-report.ensures
    ∙ ap (λ (m : Machine). tasks_done true_formats
    (progress c.args.self.now [] (record nothing_done { opened = Some m.batches }))
    (heal_tasks (find is_open c.args.self.now.list))) c.self.view_is in
    c.in_ok-take_folder.ensures.ok
    ∙ boot_parts c.args.self.now none (between_tasks c.heal.new.self c.heal.new.report) healed
