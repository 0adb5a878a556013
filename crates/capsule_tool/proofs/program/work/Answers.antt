use Rattle.std.proofs.Common.{◌≡◌, rules}
use Rattle.std.specs.Prelude.{Err}
use Rattle.capsule_tool.specs.Plays.{play_work}
use Rattle.capsule_tool.specs.Told.{work_of}
use Rattle.capsule_tool.specs.declared.stop.Stop.TheVariants.{Memory}
use Rattle.capsule_tool.proofs.WorkLaws.{short_end, ends_as, stays}
use Rattle.capsule_tool.proofs.program.work.Goals as goal

pub returns-in_err-usage-in-None-clause-ends : goal.returns-in_err-usage-in-None-clause-ends
returns-in_err-usage-in-None-clause-ends g c = λ counts counts'.
    let b = g.I.Inputs.seen c.args.inputs.now in
    let is : c.from_residual.result ≡ Err Memory = search rules in
    short_end (work_of c.args.words.now) b _ b counts counts' _ is
    (stays b.named (work_of c.args.words.now) b)

pub returns-in_err-later-in-Some-Load-clause-ends :
    goal.returns-in_err-later-in-Some-Load-clause-ends
returns-in_err-later-in-Some-Load-clause-ends g c = λ counts counts'.
    let b = g.I.Inputs.seen c.args.inputs.now in
    let is : c.from_residual-in_err-later-in-Some-Load.result ≡ Err Memory = search rules in
    short_end (work_of c.args.words.now) b _ b counts counts' _ is
    (stays b.named (work_of c.args.words.now) b)

pub returns-in-Some-Play-clause-ends : goal.returns-in-Some-Play-clause-ends
returns-in-Some-Play-clause-ends g c = λ counts counts'.
    let b = g.I.Inputs.seen c.args.inputs.now in
    let a = g.I.Inputs.seen c.play.new.inputs in
    let is : work_of c.args.words.now
    ≡ play_work c.index-words-1-in-Some-Play.result c.index-words-2.result = search rules in
    ends_as (work_of c.args.words.now) _ b a counts counts' _ is (c.play.ensures.ends counts counts')
