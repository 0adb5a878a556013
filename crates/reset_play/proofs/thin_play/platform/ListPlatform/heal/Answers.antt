use Rattle.std.proofs.Common.{rules, ◌≡◌, None, IsSome, find, sym, ap, subst}
use Rattle.reference_machine.specs.Spent.{is_open}
use Rattle.delivery_formats.specs.TrueFormats.{true_formats}
use Rattle.reset_play.specs.Whole.{between_tasks, tasks_done, heal_tasks}
use Rattle.reset_play.proofs.Held.{rests_held, held_pends}
use Rattle.reset_play.proofs.thin_play.platform.ListPlatform.heal.Goals as goal

pub returns-then-is_none-clause-rule : goal.returns-then-is_none-clause-rule
returns-then-is_none-clause-rule c =
    let none : c.self.inside.claimed ≡ None = search rules in
    subst (λ m. find is_open m.list ≡ None) c.self.view_is
    (rests_held c.self.inside.done.items c.self.inside.claimed c.self.invariant.closed_before none)

pub returns-then-is_none-clause-ok : goal.returns-then-is_none-clause-ok
returns-then-is_none-clause-ok c =
    let none : c.self.inside.claimed ≡ None = search rules in
    let rests : find is_open c.args.self.now.list ≡ None =
    subst (λ m. find is_open m.list ≡ None) c.self.view_is
    (rests_held c.self.inside.done.items c.self.inside.claimed c.self.invariant.closed_before none)
    in
    sym (ap (λ o. tasks_done true_formats (between_tasks c.args.self.now c.args.report.now)
    (heal_tasks o)) rests)

pub settle-requires-clause-pends : goal.settle-requires-clause-pends
settle-requires-clause-pends c =
    subst (λ m. IsSome (find is_open m.list)) c.self.view_is
    (held_pends c.self.inside.done.items c.self.inside.claimed c.self.invariant.closed_before
    c.self.invariant.open_last c.if-is_none.ensures)
