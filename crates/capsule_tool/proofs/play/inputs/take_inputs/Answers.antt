use Rattle.std.proofs.Common.{◌∙◌, arith}
use Rattle.std.proofs.lemmas.Result.{err_from_is_err_and}
use Rattle.cu_io.specs.Named.{Named}
use Rattle.capsule_tool.specs.Plays.{input_work}
use Rattle.capsule_tool.specs.Works.Work.{Plays}
use Rattle.capsule_tool.proofs.ComingLaws.{come_on, come_stopped, come_done, item_drop, item_take}
use Rattle.capsule_tool.proofs.ComingLaws.{drop_past}
use Rattle.capsule_tool.proofs.NameLaws.{new_at, lacks_loaded}
use Rattle.capsule_tool.proofs.play.inputs.take_inputs.Goals as goal

pub take_input-requires-clause-new : goal.take_input-requires-clause-new
take_input-requires-clause-new g c =
    let i = c.loop-name.invariant in
    let at = item_drop c.args.names.now c.loop-name.name-index c.name-item.result
    c.loop-name-test.true c.name-item.is in
    lacks_loaded c.loop-name.loaded.items c.name-item.result
    (rw i.loaded
    (new_at c.args.names.now c.loop-name.name-index c.name-item.result _ i.distinct at))

pub returns-in_err-take_input-clause-steps : goal.returns-in_err-take_input-clause-steps
returns-in_err-take_input-clause-steps g c =
    let i = c.loop-name.invariant in
    let at = item_drop c.args.names.now c.loop-name.name-index c.name-item.result
    c.loop-name-test.true c.name-item.is in
    let p = err_from_is_err_and c.from_residual.result c.from_residual.ensures.1 in λ events.
    rw p.1
    (come_stopped (input_work c.args.board.now) c.args.names.now (g.I.Inputs.seen c.args.inputs.now)
    c.loop-name.loaded.items c.loop-name.sum c.loop-name.name-index
    (g.I.Inputs.seen c.loop-name.inputs) c.name-item.result
    (g.I.Inputs.seen c.take_input.new.inputs) p.0 i.comes at i.follows.named
    (λ rest. rw p.2 (c.in_err-take_input.ensures.steps rest))
    (λ (loaded : Named). Plays c.args.board.now events loaded))

pub loop-name-preserved : goal.loop-name-preserved
loop-name-preserved g c =
    let i = c.loop-name.invariant in
    let at = item_drop c.args.names.now c.loop-name.name-index c.name-item.result
    c.loop-name-test.true c.name-item.is in
    record {
      comes = come_on _ _ _ _ _ _ _ _ _ c.name-item.result _ _ _ i.comes at i.follows.named
          (λ rest. c.in_ok-take_input.ensures.steps rest);
      loaded = item_take c.args.names.now c.loop-name.name-index c.name-item.result
          c.loop-name.loaded.items c.take_input.new.loaded.items c.loop-name-test.true
          c.name-item.is c.in_ok-take_input.ensures.ok i.loaded;
      thin = c.take_input.ensures.rule i.thin;
      small = c.take_input.ensures.bound;
      distinct = i.distinct;
      follows = record {
        named = c.take_input.ensures.frame.named ∙ i.follows.named;
        counts = omega (arith, i.follows.counts, c.take_input.ensures.frame.counts);
      };
    }

pub returns-clause-steps : goal.returns-clause-steps
returns-clause-steps g c = λ events.
    come_done _ _ _ _ _ _ _ _ c.loop-name.invariant.comes
    (drop_past c.args.names.now c.loop-name.name-index c.loop-name-test.false)
    (λ (loaded : Named). Plays c.args.board.now events loaded)
