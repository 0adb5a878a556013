use Rattle.std.proofs.Common.{◌∙◌, ◌++◌, ap, sym, List, ℕ, length}
use Rattle.std.specs.Prelude.{is_some}
use Rattle.std.specs.Map.{lookup, set_value, values_of}
use Rattle.cu_base.specs.declared.guid.Guid.{Guid}
use Rattle.var_log.specs.declared.change.Change.{Change}
use Rattle.var_log.specs.Changes.{after, changed, guid_of, has_key, name_of, no_variables}
use Rattle.var_store.specs.Keys.{Key, asks, bytes_of_key}
use Rattle.var_store.proofs.Entries.{lookup_some, set_after, set_any, set_kept}
use Rattle.var_store.proofs.places.Places.exchange.Goals as goal

pub set_last-requires : goal.set_last-requires
set_last-requires c =
    let d = c.args.change in
    let es = c.self.inside.map.entries in
    let name = c.as_bytes-name.ensures.value ∙ c.as_str.ensures ∙ c.name.ensures in
    let key = c.key_of-key.ensures.value
    ∙ ap (λ (g : Guid). g.bytes ++ c.as_bytes-name.result.now) c.guid.ensures
    ∙ ap (λ (n : List ℕ). (guid_of d).bytes ++ n) name in
    let sized = sym (ap (λ (g : Guid). length g.bytes) c.guid.ensures) ∙ c.key_of-key.ensures.sized in
    record {
      there = ap (λ (l : List ℕ). is_some (lookup (asks l) es)) key
          ∙ lookup_some bytes_of_key (guid_of d).bytes (name_of d) es sized c.self.invariant.keyed
          ∙ ap (λ (ps : List Change). has_key (guid_of d) (name_of d) ps) c.self.view_is
          ∙ c.requires.place;
    }

pub invariant_of-self : goal.invariant_of-self
invariant_of-self c =
    let d = c.args.change in
    let es = c.self.inside.map.entries in
    let name = c.as_bytes-name.ensures.value ∙ c.as_str.ensures ∙ c.name.ensures in
    let key = c.key_of-key.ensures.value
    ∙ ap (λ (g : Guid). g.bytes ++ c.as_bytes-name.result.now) c.guid.ensures
    ∙ ap (λ (n : List ℕ). (guid_of d).bytes ++ n) name in
    let sized = sym (ap (λ (g : Guid). length g.bytes) c.guid.ensures) ∙ c.key_of-key.ensures.sized in
    set_kept bytes_of_key d sized c.requires.limits es c.set_last.new.map.entries c.self.invariant
    (c.set_last.ensures.entries ∙ ap (λ (l : List ℕ). set_value (asks l) es d) key)
    c.set_last.ensures.ordered

pub returns-clause-value : goal.returns-clause-value
returns-clause-value c =
    let d = c.args.change in
    let es = c.self.inside.map.entries in
    let name = c.as_bytes-name.ensures.value ∙ c.as_str.ensures ∙ c.name.ensures in
    let key = c.key_of-key.ensures.value
    ∙ ap (λ (g : Guid). g.bytes ++ c.as_bytes-name.result.now) c.guid.ensures
    ∙ ap (λ (n : List ℕ). (guid_of d).bytes ++ n) name in
    let sized = sym (ap (λ (g : Guid). length g.bytes) c.guid.ensures) ∙ c.key_of-key.ensures.sized in
    set_after bytes_of_key d sized c.requires.limits es c.set_last.new.map.entries c.self.invariant
    (c.set_last.ensures.entries ∙ ap (λ (l : List ℕ). set_value (asks l) es d) key)
    c.set_last.ensures.ordered
    (ap (λ (ps : List Change). has_key (guid_of d) (name_of d) ps) c.self.view_is ∙ c.requires.place)
    ∙ ap (λ (ps : List Change). changed (after no_variables ps) d) c.self.view_is

pub returns-clause-places : goal.returns-clause-places
returns-clause-places c = λ guid name.
    let d = c.args.change in
    let es = c.self.inside.map.entries in
    let own = c.as_bytes-name.ensures.value ∙ c.as_str.ensures ∙ c.name.ensures in
    let key = c.key_of-key.ensures.value
    ∙ ap (λ (g : Guid). g.bytes ++ c.as_bytes-name.result.now) c.guid.ensures
    ∙ ap (λ (n : List ℕ). (guid_of d).bytes ++ n) own in
    let sized = sym (ap (λ (g : Guid). length g.bytes) c.guid.ensures) ∙ c.key_of-key.ensures.sized in
    ap (λ (l : List (Key × Change)). has_key guid name (values_of l))
    (c.set_last.ensures.entries ∙ ap (λ (l : List ℕ). set_value (asks l) es d) key)
    ∙ set_any bytes_of_key d sized c.requires.limits guid.bytes name es c.self.invariant.keyed
    ∙ ap (λ (ps : List Change). has_key guid name ps) c.self.view_is
