use Rattle.std.proofs.Common.{sym, ◌∙◌}
use Rattle.scatter_list.proofs.LayLemmas.{walked_by, refused_by}
use Rattle.scatter_list.proofs.lay.lay_list.Goals as goal

pub returns-clause-walked : goal.returns-clause-walked
returns-clause-walked c =
    walked_by c.lay-2.result c.args.memory.now c.lay.new.self c.lay-2.new.self c.args.root
    c.args.base c.args.bytes.now c.as_slice.result.now c.args.block c.requires.some
    c.requires.aligned c.requires.apart (sym c.in_ok-lay.ensures.refused) c.in_ok-lay.ensures.ok
    (c.as_slice.ensures ∙ c.in-Ok.ensures.value) c.lay-2.ensures.ok c.lay-2.ensures.refused

pub returns-clause-refused : goal.returns-clause-refused
returns-clause-refused c =
    refused_by c.lay-2.result c.args.memory.now c.lay.new.self c.args.root c.args.base
    c.args.bytes.now c.as_slice.result.now c.args.block (sym c.in_ok-lay.ensures.refused)
    c.in_ok-lay.ensures.ok (c.as_slice.ensures ∙ c.in-Ok.ensures.value) c.lay-2.ensures.refused
