use Rattle.std.proofs.Common.{◌≡◌, Bool, rules, ap, sym, ◌∙◌}
use Rattle.std.specs.Cmp.Lexicographic.{slice_cmp}
use Rattle.std.specs.Ordering.{is_lt, nat_cmp}
use Rattle.std.specs.Str.{str_to_ascii_uppercase}
use Rattle.std.proofs.lemmas.List.Sorted.{answers_always}
use Rattle.bench_model.specs.Files.{ListedFile}
use Rattle.reference_machine.specs.Names.{is_taken_before}
use Rattle.reference_machine.proofs.Sorted.{names_in_order, sorted_in_order, taken_before_is}
use Rattle.update_inbox.proofs.folder.put_in_order.Goals as goal

pub returns-in-Ok-clause-order : goal.returns-in-Ok-clause-order
returns-in-Ok-clause-order c =
    let before : ListedFile → ListedFile → Bool = λ a b. is_taken_before a.name b.name in
    let answers = answers_always _ (λ a r. is_lt r ≡ before a.0.now a.1.0.now) _
    (λ f a r next called.
    let is : r ≡ slice_cmp nat_cmp (str_to_ascii_uppercase a.0.now.name)
    (str_to_ascii_uppercase a.1.0.now.name) = search rules in
    ap is_lt is ∙ sym (taken_before_is a.0.now.name a.1.0.now.name)) in
    let o = names_in_order (λ (x : ListedFile). x.name) in
    sorted_in_order before o _ _ (c.in-Ok.ensures.sorted before o answers)
    (c.sort_by.ensures.stable before o answers)
