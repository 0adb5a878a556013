use Rattle.std.proofs.Common.{◌∙◌, ◌++◌, ap, sym, List, ℕ, arith}
use Rattle.std.specs.Prelude.{is_some, option_and_then}
use Rattle.std.specs.Map.{lookup}
use Rattle.var_log.specs.declared.change.Change.{Change}
use Rattle.var_log.specs.Changes.{after, has_key, left_by, no_variables}
use Rattle.var_store.specs.Keys.{asks, bytes_of_key}
use Rattle.var_store.proofs.Entries.{last_found, long_has_none, long_lacks, lookup_some, some_copied}
use Rattle.var_store.proofs.places.Places.last.Goals as goal

pub returns-then-name-gt-MAX_NAME-clause-value : goal.returns-then-name-gt-MAX_NAME-clause-value
returns-then-name-gt-MAX_NAME-clause-value c =
    let guid = c.args.guid.now.bytes in
    let name = c.args.name.now in
    sym (ap (λ (ps : List Change). after no_variables ps guid name) (sym c.self.view_is)
    ∙ long_lacks bytes_of_key guid name c.self.inside.map.entries
    (omega (arith, c.if-name-gt-MAX_NAME.true)) c.self.invariant)

pub returns-then-name-gt-MAX_NAME-clause-place : goal.returns-then-name-gt-MAX_NAME-clause-place
returns-then-name-gt-MAX_NAME-clause-place c =
    let guid = c.args.guid.now.bytes in
    let name = c.args.name.now in
    sym (ap (λ (ps : List Change). has_key c.args.guid.now name ps) (sym c.self.view_is)
    ∙ long_has_none bytes_of_key guid name c.self.inside.map.entries
    (omega (arith, c.if-name-gt-MAX_NAME.true)) c.self.invariant)

pub returns-clause-value : goal.returns-clause-value
returns-clause-value c =
    let guid = c.args.guid.now.bytes in
    let name = c.args.name.now in
    let es = c.self.inside.map.entries in
    ap (option_and_then left_by) c.get.ensures.value
    ∙ ap (λ (l : List ℕ). option_and_then left_by (lookup (asks l) es))
    (c.key_of-key.ensures.value ∙ ap (λ (n : List ℕ). guid ++ n) c.as_bytes-name.ensures.value)
    ∙ last_found bytes_of_key guid name es c.key_of-key.ensures.sized c.self.invariant
    ∙ ap (λ (ps : List Change). after no_variables ps guid name) c.self.view_is

pub returns-clause-place : goal.returns-clause-place
returns-clause-place c =
    let guid = c.args.guid.now.bytes in
    let name = c.args.name.now in
    let es = c.self.inside.map.entries in
    sym (some_copied c.get.result)
    ∙ ap is_some c.get.ensures.value
    ∙ ap (λ (l : List ℕ). is_some (lookup (asks l) es))
    (c.key_of-key.ensures.value ∙ ap (λ (n : List ℕ). guid ++ n) c.as_bytes-name.ensures.value)
    ∙ lookup_some bytes_of_key guid name es c.key_of-key.ensures.sized c.self.invariant.keyed
    ∙ ap (λ (ps : List Change). has_key c.args.guid.now name ps) c.self.view_is
