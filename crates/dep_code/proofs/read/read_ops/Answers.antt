use Rattle.dep_code.proofs.LawLemmas.{found_only}
use Rattle.dep_code.proofs.read.read_ops.Goals as goal

pub returns-clause-only : goal.returns-clause-only
returns-clause-only c = λ items size h.
    found_only c.args.bytes.now c.read_section.result c.read_section.ensures.ok
    c.read_section.ensures.refused items size h
