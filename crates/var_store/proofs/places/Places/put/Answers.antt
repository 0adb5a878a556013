use Rattle.std.proofs.Common.{◌∙◌, ap, List, ◌||◌}
use Rattle.std.specs.Map.{values_of}
use Rattle.var_log.specs.declared.change.Change.{Change}
use Rattle.var_log.specs.Changes.{after, changed, has_key, is_of, no_variables}
use Rattle.var_store.specs.Keys.{Key, bytes_of_key}
use Rattle.var_store.specs.Places.{IsKeyed}
use Rattle.var_store.proofs.Entries.{put_after, put_any, put_any_way}
use Rattle.var_store.proofs.places.Places.put.Goals as goal

pub invariant_of-self : goal.invariant_of-self
invariant_of-self c =
    let k = c.in_ok-key.key in
    let d = c.args.change in
    let here : IsKeyed bytes_of_key (k, d) = record {
      key = c.in_ok-key.ensures.value;
      sized = c.in_ok-key.ensures.sized;
      limits = c.requires.limits;
    } in
    put_any_way bytes_of_key k d here c.insert.result c.self.inside.map.entries c.insert.new.self.entries
    c.self.invariant c.insert.ensures.entries c.insert.ensures.err c.insert.ensures.ordered

pub returns-in-Ok-clause-ok : goal.returns-in-Ok-clause-ok
returns-in-Ok-clause-ok c =
    let k = c.in_ok-key.key in
    let d = c.args.change in
    let es = c.self.inside.map.entries in
    let here : IsKeyed bytes_of_key (k, d) = record {
      key = c.in_ok-key.ensures.value;
      sized = c.in_ok-key.ensures.sized;
      limits = c.requires.limits;
    } in
    put_after bytes_of_key k d here es c.insert.new.self.entries c.self.invariant c.in-Ok.ensures.entries
    c.insert.ensures.ordered
    ∙ ap (λ (ps : List Change). changed (after no_variables ps) d) c.self.view_is

pub returns-in-Ok-clause-places : goal.returns-in-Ok-clause-places
returns-in-Ok-clause-places c = λ guid name.
    let k = c.in_ok-key.key in
    let d = c.args.change in
    let es = c.self.inside.map.entries in
    let here : IsKeyed bytes_of_key (k, d) = record {
      key = c.in_ok-key.ensures.value;
      sized = c.in_ok-key.ensures.sized;
      limits = c.requires.limits;
    } in
    ap (λ (l : List (Key × Change)). has_key guid name (values_of l)) c.in-Ok.ensures.entries
    ∙ put_any bytes_of_key k d here guid.bytes name es c.self.invariant.keyed
    ∙ ap (λ (ps : List Change). is_of guid.bytes name d || has_key guid name ps) c.self.view_is
