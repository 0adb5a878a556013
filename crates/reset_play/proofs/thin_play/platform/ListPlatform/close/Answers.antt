use Rattle.std.proofs.Common.{rules, ◌≡◌, ◌+◌, IsTrue, ◌∷◌, ◌++◌, [], None, find, length, count_by}
use Rattle.std.proofs.Common.{◌∙◌, sym, ap, subst}
use Rattle.std.specs.List.{list_all}
use Rattle.reference_machine.specs.declared.unit.Kind.TheVariants.{Try}
use Rattle.reference_machine.specs.Boots.{progress_with}
use Rattle.reference_machine.specs.Results.{line_of}
use Rattle.reference_machine.specs.Spent.{is_open, is_closed}
use Rattle.reset_play.specs.Whole.{open_rest}
use Rattle.reset_play.proofs.Held.{none_held, count_held, held_more, held_none, rests_held}
use Rattle.reset_play.proofs.Held.{all_closed_more, built_same}
use Rattle.reset_play.proofs.thin_play.platform.ListPlatform.close.Goals as goal

pub returns-clause-ok : goal.returns-clause-ok
returns-clause-ok c =
    let rests : find is_open (c.self.inside.done.items ++ open_rest c.self.inside.claimed) ≡ None =
    subst (λ m. find is_open m.list ≡ None) (sym c.self.view_is) c.requires.rests in
    let none : c.self.inside.claimed ≡ None =
    none_held c.self.inside.done.items c.self.inside.claimed c.self.invariant.closed_before
    c.self.invariant.open_last rests in
    let count : count_by is_closed (c.self.inside.done.items ++ open_rest c.self.inside.claimed)
    ≡ length c.self.inside.done.items =
    count_held c.self.inside.done.items c.self.inside.claimed c.self.invariant.closed_before
    c.self.invariant.open_last in
    let more : (c.self.inside.done.items ++ open_rest c.self.inside.claimed) ++ c.args.attempt ∷ []
    ≡ c.self.inside.done.items ++ c.args.attempt ∷ [] =
    held_more c.self.inside.done.items c.self.inside.claimed c.args.attempt none in
    let task_done : c.push-2.new.self.items ++ open_rest c.self.inside.claimed
    ≡ c.push-2.new.self.items = held_none c.push-2.new.self.items c.self.inside.claimed none in
    let pushed : c.push-2.new.self.items ≡ c.self.inside.done.items ++ c.args.attempt ∷ [] =
    search rules in
    let list : c.push-2.new.self.items ++ open_rest c.self.inside.claimed
    ≡ (c.self.inside.done.items ++ open_rest c.self.inside.claimed) ++ c.args.attempt ∷ [] =
    task_done ∙ pushed ∙ sym more in
    let in_progress : c.keep.new.in_progress.items
    ≡ progress_with c.self.inside.in_progress.items c.args.attempt.key = search rules in
    let line : c.in_ok-line.line
    ≡ line_of c.self.inside.board.now Try (length c.self.inside.done.items) c.args.attempt =
    search rules in
    let lines : c.push.new.self.items ≡ c.args.report.now.lines.items ++ c.in_ok-line.line ∷ [] =
    search rules in
    let told : c.push.new.self.items
    ≡ c.args.report.now.lines.items
    ++ line_of c.self.inside.board.now Try
    (count_by is_closed
    (c.self.inside.done.items ++ open_rest c.self.inside.claimed)) c.args.attempt ∷ [] =
    lines ∙ ap (λ l. c.args.report.now.lines.items ++ l ∷ [])
    (line ∙ ap (λ k. line_of c.self.inside.board.now Try k c.args.attempt) (sym count)) in
    rw (← c.self.view_is)
    (built_same c.self.inside.board.now c.self.inside.files.items c.self.inside.last_file
    c.self.inside.asked _ _ _ _ (c.self.inside.batches + 1) c.args.report.now.opened
    (c.args.report.now.steps + 1) _ _ c.args.report.now.unstaged.items
    c.args.report.now.removed.items c.args.report.now.pending list in_progress told)

pub returns-clause-rule : goal.returns-clause-rule
returns-clause-rule c =
    let rests : find is_open (c.self.inside.done.items ++ open_rest c.self.inside.claimed) ≡ None =
    subst (λ m. find is_open m.list ≡ None) (sym c.self.view_is) c.requires.rests in
    let none : c.self.inside.claimed ≡ None =
    none_held c.self.inside.done.items c.self.inside.claimed c.self.invariant.closed_before
    c.self.invariant.open_last rests in
    let pushed : c.push-2.new.self.items ≡ c.self.inside.done.items ++ c.args.attempt ∷ [] =
    search rules in
    rests_held c.push-2.new.self.items c.self.inside.claimed
    (subst (λ l. IsTrue (list_all is_closed l)) (sym pushed)
    (all_closed_more c.self.inside.done.items c.args.attempt c.self.invariant.closed_before
    c.requires.closed)) none
