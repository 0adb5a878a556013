use Rattle.capsule_grammar.proofs.FoundLemmas.{found_only}
use Rattle.capsule_grammar.proofs.decoding.decode.Goals as goal

pub returns-clause-only : goal.returns-clause-only
returns-clause-only c = λ capsule size begins.
    found_only c.args.bytes.now c.decode_front.result c.decode_front.ensures.ok
    c.decode_front.ensures.refused capsule size begins
