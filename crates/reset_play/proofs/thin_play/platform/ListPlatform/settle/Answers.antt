use Rattle.std.proofs.Common.{rules, ◌≡◌, ◌+◌, IsTrue, ◌∷◌, ◌++◌, [], None, Some, IsSome, find}
use Rattle.std.proofs.Common.{length, ◌∙◌, sym, ap, subst, refl}
use Rattle.std.specs.List.{list_all}
use Rattle.reference_machine.specs.declared.unit.End.TheVariants.{Sealed}
use Rattle.reference_machine.specs.Boots.{progress_with}
use Rattle.reference_machine.specs.Machine.{first_moment}
use Rattle.reference_machine.specs.Results.{line_of}
use Rattle.reference_machine.specs.Spent.{is_open, is_closed}
use Rattle.reset_play.specs.Whole.{open_rest, is_claim_open}
use Rattle.reference_machine.proofs.Lists.{closed}
use Rattle.reset_play.proofs.Held.{some_held, held_none, rests_held, all_closed_more, built_same}
use Rattle.reset_play.proofs.Held.{settled_whole}
use Rattle.reset_play.proofs.thin_play.platform.ListPlatform.settle.Goals as goal

pub unreachable-requires : goal.unreachable-requires
unreachable-requires c =
    let pends : IsSome
    (find is_open (c.self.inside.done.items ++ open_rest c.self.inside.claimed)) =
    subst (λ m. IsSome (find is_open m.list)) (sym c.self.view_is) c.requires.pends in
    let none : c.self.inside.claimed ≡ None = sym c.take.ensures.value ∙ c.in-None.is in
    some_held c.self.inside.done.items c.self.inside.claimed c.self.invariant.closed_before none
    pends

pub returns-clause-ok : goal.returns-clause-ok
returns-clause-ok c =
    let some : c.self.inside.claimed ≡ Some c.in-Some.attempt =
    sym c.take.ensures.value ∙ c.in-Some.is in
    let is_claimed : IsTrue (is_open c.in-Some.attempt) =
    subst (λ o. IsTrue (is_claim_open o)) some c.self.invariant.open_last in
    let done' : c.push-2.new.self.items
    ≡ c.self.inside.done.items ++ closed c.in-Some.attempt Sealed first_moment ∷ [] =
    search rules in
    let task_done : c.push-2.new.self.items ++ open_rest c.take.new.self ≡ c.push-2.new.self.items =
    held_none c.push-2.new.self.items c.take.new.self c.take.ensures.after in
    let in_progress : c.keep.new.in_progress.items
    ≡ progress_with c.self.inside.in_progress.items c.in-Some.attempt.key = search rules in
    let line : c.in_ok-line.line
    ≡ line_of c.self.inside.board.now c.args.kind (length c.self.inside.done.items)
    (closed c.in-Some.attempt Sealed first_moment) = search rules in
    let lines : c.push.new.self.items ≡ c.args.report.now.lines.items ++ c.in_ok-line.line ∷ [] =
    search rules in
    let told : c.push.new.self.items
    ≡ c.args.report.now.lines.items
    ++ line_of c.self.inside.board.now c.args.kind (length c.self.inside.done.items)
    (closed c.in-Some.attempt Sealed first_moment) ∷ [] =
    lines ∙ ap (λ l. c.args.report.now.lines.items ++ l ∷ []) line in
    rw (← c.self.view_is, some) (
    built_same c.self.inside.board.now c.self.inside.files.items c.self.inside.last_file
    c.self.inside.asked _ _ _ _ (c.self.inside.batches + 1) c.args.report.now.opened
    (c.args.report.now.steps + 1) _ _ c.args.report.now.unstaged.items
    c.args.report.now.removed.items c.args.report.now.pending
    (task_done ∙ done') in_progress told
    ∙ settled_whole c.self.inside.board.now c.self.inside.files.items c.self.inside.last_file
    c.self.inside.asked c.self.inside.done.items c.in-Some.attempt
    c.self.inside.in_progress.items c.self.inside.batches c.args.report.now.opened
    c.args.report.now.steps c.args.report.now.lines.items c.args.report.now.unstaged.items
    c.args.report.now.removed.items c.args.report.now.pending c.args.kind
    c.self.invariant.closed_before is_claimed
    )

pub returns-clause-rule : goal.returns-clause-rule
returns-clause-rule c =
    let some : c.self.inside.claimed ≡ Some c.in-Some.attempt =
    sym c.take.ensures.value ∙ c.in-Some.is in
    let done' : c.push-2.new.self.items
    ≡ c.self.inside.done.items ++ closed c.in-Some.attempt Sealed first_moment ∷ [] =
    search rules in
    rests_held c.push-2.new.self.items c.take.new.self
    (subst (λ l. IsTrue (list_all is_closed l)) (sym done')
    (all_closed_more c.self.inside.done.items
    (closed c.in-Some.attempt Sealed first_moment) c.self.invariant.closed_before refl))
    c.take.ensures.after
