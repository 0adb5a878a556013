use Rattle.std.proofs.Common.{◌∙◌, ◌++◌, ap, sym, subst, List, map}
use Rattle.std.proofs.lemmas.List.{append-nil}
use Rattle.std.proofs.lemmas.Map.Iter.{rest_all, rest_so_far}
use Rattle.std.specs.List.{list_any}
use Rattle.std.specs.List.Sorted.{IsStrictlySortedBy}
use Rattle.std.specs.Map.{values_of}
use Rattle.std.specs.Map.Iter.{deref_pair}
use Rattle.var_log.specs.declared.change.Change.{Change}
use Rattle.var_log.specs.Changes.{guid_of, has_key, is_of, name_of}
use Rattle.var_log.specs.Opens.{change_order}
use Rattle.var_store.specs.Keys.{Key, bytes_of_key}
use Rattle.var_store.specs.Places.{AreLive, sets_of}
use Rattle.var_store.proofs.Entries.{live_of, no_set_before}
use Rattle.var_store.proofs.places.Places.live.Goals as goal

pub push-requires : goal.push-requires
push-requires c =
    let done = map deref_pair c.loop-change.yielded in
    let begun = c.into_iter-change-iterator.ensures.into_iter_gives in
    let entries = sym begun.0 ∙ rest_so_far deref_pair c.loop-change.yielded c.into_iter-change-iterator.result
    c.loop-change.change-iterator c.loop-change.yielded_by
    ∙ ap (λ (l : List (Key × Change)). done ++ l) c.in-Some.ensures.steps in
    ap (λ (d : Change). has_key (guid_of d) (name_of d) c.loop-change.live.items) c.in_ok-copy_of.ensures.value
    ∙ ap (list_any (is_of (guid_of c.in-Some.change.now).bytes (name_of c.in-Some.change.now))) c.loop-change.invariant
    ∙ no_set_before done (_, c.in-Some.change.now) c.next.new.self
    (subst (λ (es : List (Key × Change)). IsStrictlySortedBy change_order (values_of es)) entries
    c.self.invariant.ordered)

pub returns : goal.returns
returns c =
    let begun = c.into_iter-change-iterator.ensures.into_iter_gives in
    let none = rest_all deref_pair c.loop-change.change-iterator c.next.new.self c.next.result c.in-None.is
    c.next.ensures.steps in
    let all = sym begun.0 ∙ rest_so_far deref_pair c.loop-change.yielded c.into_iter-change-iterator.result
    c.loop-change.change-iterator c.loop-change.yielded_by
    ∙ ap (λ (l : List (Key × Change)). map deref_pair c.loop-change.yielded ++ l) none
    ∙ append-nil (map deref_pair c.loop-change.yielded) in
    let items = c.loop-change.invariant
    ∙ ap (λ (l : List (Key × Change)). sets_of (values_of l)) (sym all) in
    record {
      value = subst (λ (ps : List Change). AreLive ps c.loop-change.live.items) c.self.view_is
          (subst (λ (l : List Change). AreLive (values_of c.self.inside.map.entries) l) (sym items)
          (live_of bytes_of_key c.self.inside.map.entries c.self.invariant));
    }
