use Rattle.std.proofs.Common.{◌≡◌, ◌∙◌, ◌++◌, ◌∷◌, [], List, ap, sym, subst, map, Some, Option}
use Rattle.std.proofs.lemmas.List.{append-nil}
use Rattle.std.proofs.lemmas.Map.Iter.{rest_so_far, rest_all}
use Rattle.std.specs.List.{flat_map, list_any}
use Rattle.std.specs.List.Sorted.{IsStrictlySortedBy}
use Rattle.std.specs.Map.{keys_of}
use Rattle.std.specs.Map.Iter.{deref_pair}
use Rattle.var_log.specs.declared.change.Change.{Change}
use Rattle.var_log.specs.declared.seen.Held.{Held}
use Rattle.var_log.specs.declared.seen.Key.{Key}
use Rattle.var_log.specs.Changes.{has_key, guid_of, name_of, is_of}
use Rattle.var_log.specs.Opens.{AreLeftBy}
use Rattle.var_log.specs.Seen.{as_change, key_order, set_in, set_with, last_changes}
use Rattle.var_log.proofs.SettleLemmas.{are_left, no_key_before, one_more_set}
use Rattle.var_log.proofs.settling.settle.Goals as goal

pub push-requires : goal.push-requires
push-requires c =
    let key = c.in-Some.key.now in
    let left = c.in-Some.left.now in
    let done = map deref_pair c.loop-key.yielded in
    let begun = c.into_iter-key-iterator.ensures.into_iter_gives in
    let entries = sym begun.0 ∙ rest_so_far deref_pair c.loop-key.yielded c.into_iter-key-iterator.result
    c.loop-key.key-iterator c.loop-key.yielded_by
    ∙ ap (λ (l : List (Key × Option Held)). done ++ l) c.in-Some.ensures.steps in
    ap (λ (d : Change). has_key (guid_of d) (name_of d) c.loop-key.live.items) c.in_ok-set_of.ensures.value
    ∙ ap (list_any (is_of key.guid key.name.now)) c.loop-key.invariant
    ∙ no_key_before done key left c.next.new.self
    (subst (λ (es : List (Key × Option Held)). IsStrictlySortedBy key_order (keys_of es)) entries begun.5)

pub loop-key-preserved-in_ok-push : goal.loop-key-preserved-in_ok-push
loop-key-preserved-in_ok-push c =
    c.in_ok-push.ensures.ok
    ∙ ap (λ (d : Change). c.loop-key.live.items ++ d ∷ []) c.in_ok-set_of.ensures.value
    ∙ ap (λ (l : List Change). l ++ set_with c.in-Some.key.now (Some c.in-Some-left.held)) c.loop-key.invariant
    ∙ ap (λ (o : Option Held). flat_map set_in (map deref_pair c.loop-key.yielded) ++ set_with c.in-Some.key.now o)
    (sym c.in-Some-left.is)
    ∙ one_more_set c.loop-key.yielded (c.in-Some.key, c.in-Some.left)

pub loop-key-preserved : goal.loop-key-preserved
loop-key-preserved c =
    c.loop-key.invariant
    ∙ sym (append-nil (flat_map set_in (map deref_pair c.loop-key.yielded)))
    ∙ ap (λ (o : Option Held). flat_map set_in (map deref_pair c.loop-key.yielded) ++ set_with c.in-Some.key.now o)
    (sym c.in_default.is)
    ∙ one_more_set c.loop-key.yielded (c.in-Some.key, c.in-Some.left)

pub returns : goal.returns
returns c =
    let changes = c.args.changes.now in
    let begun = c.into_iter-key-iterator.ensures.into_iter_gives in
    let none = rest_all deref_pair c.loop-key.key-iterator c.next.new.self c.next.result c.in-None.is
    c.next.ensures.steps in
    let all : c.in_ok-last.last.entries ≡ map deref_pair c.loop-key.yielded =
    sym begun.0 ∙ rest_so_far deref_pair c.loop-key.yielded c.into_iter-key-iterator.result
    c.loop-key.key-iterator c.loop-key.yielded_by
    ∙ ap (λ (l : List (Key × Option Held)). map deref_pair c.loop-key.yielded ++ l) none
    ∙ append-nil (map deref_pair c.loop-key.yielded) in
    let last : map deref_pair c.loop-key.yielded ≡ last_changes changes =
    sym all ∙ c.in_ok-last.ensures.value in
    record {
      value = subst (λ (l : List Change). AreLeftBy (map as_change changes) l)
          (sym (c.loop-key.invariant ∙ ap (flat_map set_in) last))
          (are_left changes (subst (λ (es : List (Key × Option Held)). IsStrictlySortedBy key_order (keys_of es))
          c.in_ok-last.ensures.value begun.5));
    }
