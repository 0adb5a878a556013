use Rattle.std.proofs.Common.{◌≡◌, ◌+◌, ◌∷◌, ◌++◌, [], None, find, sym, subst, refl}
use Rattle.reference_machine.specs.Spent.{is_open}
use Rattle.reset_play.specs.Whole.{open_rest}
use Rattle.reset_play.proofs.Held.{none_held, held_more, pends_held, built_same}
use Rattle.reset_play.proofs.thin_play.platform.ListPlatform.claim.Goals as goal

pub returns-clause-value : goal.returns-clause-value
returns-clause-value c =
    let rests : find is_open (c.self.inside.done.items ++ open_rest c.self.inside.claimed) ≡ None =
    subst (λ m. find is_open m.list ≡ None) (sym c.self.view_is) c.requires.rests in
    let none : c.self.inside.claimed ≡ None =
    none_held c.self.inside.done.items c.self.inside.claimed c.self.invariant.closed_before
    c.self.invariant.open_last rests in
    let more : (c.self.inside.done.items ++ open_rest c.self.inside.claimed) ++ c.args.attempt ∷ []
    ≡ c.self.inside.done.items ++ c.args.attempt ∷ [] =
    held_more c.self.inside.done.items c.self.inside.claimed c.args.attempt none in
    rw (← c.self.view_is)
    (built_same c.self.inside.board.now c.self.inside.files.items c.self.inside.last_file
    c.self.inside.asked _ _ c.self.inside.in_progress.items c.self.inside.in_progress.items
    (c.self.inside.batches + 1) c.args.report.now.opened
    (c.args.report.now.steps + 1) c.args.report.now.lines.items c.args.report.now.lines.items
    c.args.report.now.unstaged.items c.args.report.now.removed.items c.args.report.now.pending
    (sym more) refl refl)

pub returns-clause-rule : goal.returns-clause-rule
returns-clause-rule c =
    pends_held c.self.inside.done.items c.args.attempt c.self.invariant.closed_before
    c.requires.open
