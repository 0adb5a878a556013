use Rattle.std.proofs.Common.{ap, sym, ◌∙◌, refl, length}
use Rattle.bench_model.specs.Files.{File, ListedFile}
use Rattle.reference_machine.specs.Names.{is_taken_before}
use Rattle.reference_machine.specs.Order.{in_order}
use Rattle.reference_machine.proofs.Sorted.{map_ordered}
use Rattle.update_inbox.proofs.folder.files_in_order.Goals as goal

pub returns-in_ok-ordered-in-Ok-clause-value : goal.returns-in_ok-ordered-in-Ok-clause-value
returns-in_ok-ordered-in-Ok-clause-value g c =
    c.in_ok-ordered-in-Ok.ensures
    ∙ ap (in_order (λ (x y : ListedFile). is_taken_before x.name y.name)) c.in-Ok.ensures.reads
    ∙ sym (map_ordered
    (λ (x : File). record { name = x.name; serial = x.serial; size = length x.bytes })
    (λ x y. is_taken_before x.name y.name) (λ x y. is_taken_before x.name y.name) (λ x y. refl)
    (g.V.BenchState.state c.args.volume.now).contents.rest.folder.files)
