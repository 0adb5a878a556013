use Rattle.std.proofs.Common.{◌∙◌, ◌++◌, ap, sym, subst, List, map}
use Rattle.std.proofs.lemmas.List.{append-nil}
use Rattle.std.proofs.lemmas.Map.Iter.{rest_all, rest_so_far}
use Rattle.std.specs.Map.{values_of}
use Rattle.std.specs.Map.Iter.{deref_pair}
use Rattle.var_log.specs.declared.change.Change.{Change}
use Rattle.var_log.specs.Changes.{after, no_variables}
use Rattle.var_store.specs.declared.names.VarName.{VarName}
use Rattle.var_store.specs.Keys.{Key}
use Rattle.var_store.specs.Places.{AreNames, sets_of}
use Rattle.var_store.proofs.NamesMade.{are_names, name_pair}
use Rattle.var_store.proofs.places.Places.names.Goals as goal

pub returns : goal.returns
returns c =
    let begun = c.into_iter-change-iterator.ensures.into_iter_gives in
    let none = rest_all deref_pair c.loop-change.change-iterator c.next.new.self c.next.result c.in-None.is
    c.next.ensures.steps in
    let all = sym begun.0 ∙ rest_so_far deref_pair c.loop-change.yielded c.into_iter-change-iterator.result
    c.loop-change.change-iterator c.loop-change.yielded_by
    ∙ ap (λ (l : List (Key × Change)). map deref_pair c.loop-change.yielded ++ l) none
    ∙ append-nil (map deref_pair c.loop-change.yielded) in
    let items = c.loop-change.invariant
    ∙ ap (λ (l : List (Key × Change)). map name_pair (sets_of (values_of l))) (sym all) in
    record {
      value = subst (λ (ps : List Change). AreNames (after no_variables ps) c.loop-change.names.items) c.self.view_is
          (subst (λ (l : List VarName). AreNames (after no_variables (values_of c.self.inside.map.entries)) l)
          (sym items) (are_names (values_of c.self.inside.map.entries) c.self.invariant.ordered));
    }
