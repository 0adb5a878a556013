use Rattle.std.proofs.Common.{◌≡◌, ◌∙◌, rules}
use Rattle.std.specs.Prelude.{Err}
use Rattle.std.proofs.lemmas.Result.{err_from_is_err_and}
use Rattle.capsule_tool.specs.declared.stop.Stop.TheVariants.{Memory}
use Rattle.capsule_tool.proofs.ComingLaws.{names_come, names_stop}
use Rattle.capsule_tool.proofs.NameLaws.{plays}
use Rattle.capsule_tool.proofs.WorkLaws.{short_end, stops_end, then_comes, then_stops, plays_end}
use Rattle.capsule_tool.proofs.play.play.Goals as goal

pub take_inputs-requires : goal.take_inputs-requires
take_inputs-requires g c = rw c.as_slice.ensures c.in_ok-names.ensures.distinct

pub played-requires-clause-events : goal.played-requires-clause-events
played-requires-clause-events g c =
    plays c.in_ok-board.board c.in_ok-loaded.loaded.items c.in_ok-script.script.items
    c.in_ok-script.ensures.rule
    (c.in_ok-loaded.ensures.ok ∙ (c.as_slice.ensures ∙ c.in_ok-names.ensures.value))
    c.in_ok-loaded.ensures.rule

pub returns-in_err-board-clause-ends : goal.returns-in_err-board-clause-ends
returns-in_err-board-clause-ends g c = λ counts counts'.
    let seen = g.I.Inputs.seen in
    let p = err_from_is_err_and c.from_residual.result c.from_residual.ensures.1 in
    stops_end _ (seen c.args.inputs.now) _ counts counts' p.0 _ p.1
    (rw p.2 (c.in_err-board.ensures.steps c.args.script.now))

pub returns-in_err-script-clause-ends : goal.returns-in_err-script-clause-ends
returns-in_err-script-clause-ends g c = λ counts counts'.
    let seen = g.I.Inputs.seen in
    let p = err_from_is_err_and c.from_residual-in_err-script.result
    c.from_residual-in_err-script.ensures.1 in
    stops_end _ (seen c.args.inputs.now) _ counts counts' p.0 _ p.1
    (then_stops _ (seen c.args.inputs.now) _ (seen c.take_board.new.inputs)
    (seen c.take_script.new.inputs) p.0
    (c.in_ok-board.ensures.steps c.args.script.now) c.take_board.ensures.frame.named
    (rw p.2 (c.in_err-script.ensures.steps c.in_ok-board.board)))

pub returns-in_err-names-clause-ends : goal.returns-in_err-names-clause-ends
returns-in_err-names-clause-ends g c = λ counts counts'.
    let seen = g.I.Inputs.seen in
    let is : c.from_residual-in_err-names.result ≡ Err Memory = search rules in
    short_end _ (seen c.args.inputs.now) _ _ counts counts' _ is
    (then_comes _ (seen c.args.inputs.now) _ (seen c.take_board.new.inputs) _
    (seen c.take_script.new.inputs) (c.in_ok-board.ensures.steps c.args.script.now)
    c.take_board.ensures.frame.named (c.in_ok-script.ensures.steps c.in_ok-board.board))

pub returns-in_err-loaded-clause-ends : goal.returns-in_err-loaded-clause-ends
returns-in_err-loaded-clause-ends g c = λ counts counts'.
    let seen = g.I.Inputs.seen in
    let events = c.in_ok-script.script.items in
    let p = err_from_is_err_and c.from_residual-in_err-loaded.result
    c.from_residual-in_err-loaded.ensures.1 in
    let comes = then_comes _ (seen c.args.inputs.now) _ (seen c.take_board.new.inputs) _
    (seen c.take_script.new.inputs) (c.in_ok-board.ensures.steps c.args.script.now)
    c.take_board.ensures.frame.named (c.in_ok-script.ensures.steps c.in_ok-board.board) in
    stops_end _ (seen c.args.inputs.now) _ counts counts' p.0 _ p.1
    (then_stops _ (seen c.args.inputs.now) _ (seen c.take_script.new.inputs)
    (seen c.take_inputs.new.inputs) p.0 comes
    (c.take_script.ensures.frame.named ∙ c.take_board.ensures.frame.named)
    (names_stop c.in_ok-board.board events c.as_slice.result.now (seen c.take_script.new.inputs)
    (seen c.take_inputs.new.inputs) p.0
    (c.as_slice.ensures ∙ c.in_ok-names.ensures.value)
    (rw p.2 (c.in_err-loaded.ensures.steps events))))

pub returns-in_err-played-clause-ends : goal.returns-in_err-played-clause-ends
returns-in_err-played-clause-ends g c = λ counts counts'.
    let seen = g.I.Inputs.seen in
    let events = c.in_ok-script.script.items in
    let is : c.from_residual-in_err-played.result ≡ Err Memory = search rules in
    let comes = then_comes _ (seen c.args.inputs.now) _ (seen c.take_board.new.inputs) _
    (seen c.take_script.new.inputs) (c.in_ok-board.ensures.steps c.args.script.now)
    c.take_board.ensures.frame.named (c.in_ok-script.ensures.steps c.in_ok-board.board) in
    short_end _ (seen c.args.inputs.now) _ _ counts counts' _ is
    (then_comes _ (seen c.args.inputs.now) _ (seen c.take_script.new.inputs) _
    (seen c.take_inputs.new.inputs) comes
    (c.take_script.ensures.frame.named ∙ c.take_board.ensures.frame.named)
    (names_come _ c.in_ok-board.board events c.as_slice.result.now (seen c.take_script.new.inputs)
    _ (seen c.take_inputs.new.inputs) (c.as_slice.ensures ∙ c.in_ok-names.ensures.value)
    (c.in_ok-loaded.ensures.steps events)))

pub returns-clause-ends : goal.returns-clause-ends
returns-clause-ends g c = λ counts counts'.
    let seen = g.I.Inputs.seen in
    let events = c.in_ok-script.script.items in
    let comes = then_comes _ (seen c.args.inputs.now) _ (seen c.take_board.new.inputs) _
    (seen c.take_script.new.inputs) (c.in_ok-board.ensures.steps c.args.script.now)
    c.take_board.ensures.frame.named (c.in_ok-script.ensures.steps c.in_ok-board.board) in
    plays_end _ _ _ _ counts counts' c.in_ok-board.board events c.in_ok-loaded.loaded.items _
    c.in_ok-played.ensures
    (then_comes _ (seen c.args.inputs.now) _ (seen c.take_script.new.inputs) _
    (seen c.take_inputs.new.inputs) comes
    (c.take_script.ensures.frame.named ∙ c.take_board.ensures.frame.named)
    (names_come _ c.in_ok-board.board events c.as_slice.result.now (seen c.take_script.new.inputs)
    _ (seen c.take_inputs.new.inputs) (c.as_slice.ensures ∙ c.in_ok-names.ensures.value)
    (c.in_ok-loaded.ensures.steps events)))
