-- Work in the words of different machines: what calls keep keeps it.
use Rattle.std.proofs.Common.{◌≡◌, ℕ, List, [], ◌∷◌, ◌++◌, flat_map, drop}
use Rattle.std.proofs.Common.{refl, sym, ◌∙◌, ap, Bool, not}
use Rattle.std.specs.Prelude.{if◌then◌else◌}
use Rattle.std.specs.List.{list_any}
use Rattle.bench_model.specs.Boards.{BoardValue}
use Rattle.bench_model.specs.Files.{File}
use Rattle.bench_model.specs.declared.segment.Segment.{Segment}
use Rattle.reference_machine.specs.Boots.{BootTask, file_delivery}
use Rattle.reference_machine.specs.Boots.{folder_tasks, is_file, unit_tasks}
use Rattle.reference_machine.specs.Boots.BootBatch.{Clears, Prunes, Unstages}
use Rattle.reference_machine.specs.Boots.BootTask.{Commits, Removes}
use Rattle.reference_machine.specs.Deliveries.{units}
use Rattle.reference_machine.specs.Formats.{Formats}
use Rattle.reference_machine.specs.Machine.{Machine}
use Rattle.reference_machine.specs.Names.{is_taken_before}
use Rattle.reference_machine.specs.Order.{in_order}
use Rattle.reference_machine.specs.Spent.{spent}
use Rattle.reference_machine.specs.declared.snapshot.StagedPair.{StagedPair}
use Rattle.cap_boot.specs.Keeps.{KeepsFolder}
use Rattle.cap_boot.specs.Tasks.{memory_tasks, pairs_tasks}
use Rattle.cap_boot.proofs.Onward.{SameGround}

-- the work on a delivery by memory, by what it depends on
abbrev pub memory_work : Formats → StagedPair → List Segment → BoardValue → List BootTask
memory_work f p memory board =
    unit_tasks (units f (record {
      route = 0;
      serial = p.serial;
      name = [];
      bytes = f.coalesced memory p.address;
    }) board)

-- the work on staged deliveries, by what it depends on
abbrev staged_work : Formats → List StagedPair → List Segment → BoardValue → List BootTask
staged_work f ps memory board =
    flat_map (λ p. Commits (Unstages p) ∷ memory_work f p memory board) ps

pub memory_same : (f : Formats) (p : StagedPair) (a b : Machine) → SameGround a b
    → memory_tasks f p a ≡ memory_tasks f p b
memory_same f p a b g =
    ap (λ (m : List Segment). memory_work f p m a.board) (sym g.memory)
    ∙ ap (memory_work f p b.memory) (sym g.board)

pub pairs_same : (f : Formats) (ps : List StagedPair) (a b : Machine) → SameGround a b
    → pairs_tasks f ps a ≡ pairs_tasks f ps b
pairs_same f ps a b g =
    ap (λ (m : List Segment). staged_work f ps m a.board) (sym g.memory)
    ∙ ap (staged_work f ps b.memory) (sym g.board)

-- the work on a file, by what it depends on
abbrev pub file_work : Formats → File → ℕ → BoardValue → List BootTask
file_work f x n board =
    unit_tasks (drop n (units f (file_delivery x) board)) ++ Removes x.serial ∷ []

-- the work on the folder, by what it depends on
abbrev folder_work : Formats → Bool → List File → List ℕ → (ℕ → ℕ) → BoardValue → List BootTask
folder_work f asked files progress count board =
    if asked
    then (if list_any (λ s. not (is_file files s)) progress then Commits Prunes ∷ [] else [])
    ++ flat_map (λ x. file_work f x (count x.serial) board)
    (in_order (λ a b. is_taken_before a.name b.name) files)
    ++ Commits Clears ∷ []
    else []

pub folder_same : (f : Formats) (a b : Machine) → SameGround a b → KeepsFolder a b
    → folder_tasks f a ≡ folder_tasks f b
folder_same f a b g k =
    let counts : (λ (s : ℕ). spent a.list s) ≡ (λ (s : ℕ). spent b.list s) =
    λ i s. (sym (k.spent s)) i in
    ap (λ (t : Bool). folder_work f t a.files a.in_progress (spent a.list) a.board) (sym k.asked)
    ∙ ap (λ (t : List File). folder_work f b.is_signalled t a.in_progress (spent a.list) a.board)
    (sym k.files)
    ∙ ap (λ (t : List ℕ). folder_work f b.is_signalled b.files t (spent a.list) a.board)
    (sym k.progress)
    ∙ ap (λ (t : ℕ → ℕ). folder_work f b.is_signalled b.files b.in_progress t a.board) counts
    ∙ ap (folder_work f b.is_signalled b.files b.in_progress (spent b.list)) (sym g.board)

pub folder_kept : (m : Machine) → KeepsFolder m m
folder_kept m = record { asked = refl; files = refl; progress = refl; spent = λ s. refl }

pub folder_then : (a b c : Machine) → KeepsFolder a b → KeepsFolder b c → KeepsFolder a c
folder_then a b c p q = record {
  asked = q.asked ∙ p.asked;
  files = q.files ∙ p.files;
  progress = q.progress ∙ p.progress;
  spent = λ s. q.spent s ∙ p.spent s;
}
