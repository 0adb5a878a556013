use Rattle.scatter_list.proofs.WalkLemmas.{no_return, no_meeting, met}
use Rattle.scatter_list.proofs.repeats.repeated.Goals as goal

pub returns-in_default-clause-value : goal.returns-in_default-clause-value
returns-in_default-clause-value g c =
    no_return (g.M.PhysMem.segments c.args.memory.now) c.args.root c.args.far c.requires.on
    c.requires.far c.in_default.ensures.value

pub returns-in-Some-meeting-clause-value : goal.returns-in-Some-meeting-clause-value
returns-in-Some-meeting-clause-value g c =
    met (g.M.PhysMem.segments c.args.memory.now) c.args.root c.args.far c.in-Some.period
    c.in-Some-meeting.at c.requires.on c.requires.far (c.in-Some.ensures.value.0)
    c.in-Some-meeting.ensures.value

pub returns-in-None-clause-value : goal.returns-in-None-clause-value
returns-in-None-clause-value g c =
    no_meeting (g.M.PhysMem.segments c.args.memory.now) c.args.root c.args.far c.in-Some.period
    c.requires.on c.requires.far (c.in-Some.ensures.value.0) c.in-None.ensures.value
