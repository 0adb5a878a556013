use Rattle.std.proofs.Common.{◌≡◌, rules, ap, refl, ◌∙◌}
use Rattle.std.specs.Char.{to_ascii_uppercase}
use Rattle.std.specs.Iterator.Adapters.{map_source, map_callee}
use Rattle.std.specs.Ordering.{nat_cmp}
use Rattle.std.proofs.lemmas.Iterator.{YieldsList-from_map}
use Rattle.std.proofs.lemmas.Iterator.Adapters.{YieldsList-from_bytes}
use Rattle.std.proofs.lemmas.Iterator.Consumers.{YieldsList-at}
use Rattle.std.proofs.lemmas.Iterator.Search.{cmp_from_yields_List}
use Rattle.reference_machine.proofs.names.compare_names.Goals as goal

pub returns : goal.returns
returns c =
    cmp_from_yields_List (λ x y. y ≡ x) _ nat_cmp _ c.cmp.ensures.ran
    (YieldsList-from_map _ to_ascii_uppercase (YieldsList-at c.map-left.ensures.source
    (YieldsList-from_bytes c.args.a.now c.bytes.ensures.rest)) c.map-left.ensures.closure
    (λ x r q k. search rules))
    (λ it e. YieldsList-from_map {s = it} _ to_ascii_uppercase
    (YieldsList-at (ap map_source e ∙ c.map.ensures.source)
    (YieldsList-from_bytes c.args.b.now c.bytes-2.ensures.rest))
    (ap map_callee e ∙ c.map.ensures.closure) (λ x r q k. search rules))
    (λ x y. refl)
