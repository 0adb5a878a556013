-- The capsule files of the folder as a boot takes them (UEFI 2.10, 8.5.5).
use Rattle.std.specs.Prelude.{◌≡◌, List}
use Rattle.bench_model.specs.Bench.{BenchValue}
use Rattle.bench_model.specs.Files.{ListedFile, listed}
use Rattle.reference_machine.specs.Names.{is_taken_before}
use Rattle.reference_machine.specs.Order.{in_order}
use Rattle.update_inbox.specs.declared.fault.InboxFault.{InboxFault}
use Rattle.update_inbox.specs.declared.fault.InboxFault.TheVariants as inbox

-- a listing tells the files of the folder in the order in which a boot takes them
abbrev pub ListsInOrder : List ListedFile → BenchValue → Type 0
ListsInOrder files b =
    files ≡ listed (in_order (λ x y. is_taken_before x.name y.name) b.contents.rest.folder.files)

-- why the files of the folder were not told: the volume failed, or memory ran out
abbrev pub IsFolderFault : InboxFault → Type 0
IsFolderFault inbox.Invalid = ⊥
IsFolderFault inbox.Unsupported = ⊥
IsFolderFault inbox.Resources = ⊥
IsFolderFault inbox.Flash = ⊥
IsFolderFault inbox.Volume = Unit {0}
IsFolderFault inbox.NoBank = ⊥
IsFolderFault inbox.Memory = Unit {0}
