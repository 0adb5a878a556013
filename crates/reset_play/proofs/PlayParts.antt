-- The parts of a boot on lists.
use Rattle.std.proofs.Common.{◌≡◌, ℕ, ◌+◌, ◌<◌, List, [], ◌∷◌, ◌++◌, find, drop, get_or, length}
use Rattle.std.proofs.Common.{refl, sym, ap, arith, nat_lt, flat_map, ◌∙◌, Option, Some, None, Bool}
use Rattle.std.proofs.Common.{drop-cons, add-one, option_map, unwrap_or, IsTrue, true, cond}
use Rattle.std.specs.List.{list_all}
use Rattle.reference_machine.specs.declared.snapshot.StagedPair.{StagedPair}
use Rattle.reference_machine.specs.declared.unit.End.{End}
use Rattle.reference_machine.specs.declared.unit.End.TheVariants.{Refused, Sealed}
use Rattle.reference_machine.specs.declared.unit.Kind.TheVariants.{Try, Heal}
use Rattle.reference_machine.specs.declared.unit.UnitKey.{UnitKey}
use Rattle.reference_machine.specs.Boots.{BootTask, BootState, after_unit, next, boot_of}
use Rattle.reference_machine.specs.Boots.{boot_start, tasks_with, staged_tasks, pair_tasks}
use Rattle.reference_machine.specs.Boots.{folder_tasks, file_tasks, files_in_order, prune_tasks}
use Rattle.reference_machine.specs.Boots.{settled, settled_with, element_of, course_of_try}
use Rattle.reference_machine.specs.Boots.{with_claim, with_element, with_lines, one_step, next_line}
use Rattle.reference_machine.specs.Boots.BootBatch.{Settles, Does, Clears}
use Rattle.reference_machine.specs.Boots.BootTask.{Commits}
use Rattle.reference_machine.specs.Deliveries.{fmp_guid}
use Rattle.reference_machine.specs.Formats.{Item}
use Rattle.bench_model.specs.Files.{File}
use Rattle.reference_machine.specs.Machine.{Machine}
use Rattle.reference_machine.specs.Names.{is_taken_before}
use Rattle.reference_machine.specs.Order.{in_order}
use Rattle.reset_play.specs.Plays.{has_one_device, is_thin_on}
use Rattle.reference_machine.specs.Report.{ReportValue}
use Rattle.reference_machine.specs.Spent.{Element, is_open}
use Rattle.reference_machine.specs.Spent.Standing.{Open, Closed}
use Rattle.delivery_formats.specs.TrueFormats.{true_formats}
use Rattle.reset_play.specs.Thin.{thin_item}
use Rattle.reference_machine.specs.Verdicts.{refusal}
use Rattle.reset_play.specs.Whole.{task_done, tasks_done, file_key, file_unit, heal_tasks}
use Rattle.reset_play.specs.Whole.{marked_tasks, all_marked_tasks, marks_of}
use Rattle.reset_play.proofs.OneUnit.{ordered_all, works_marked}
use Rattle.reset_play.proofs.VerdictLemmas.{no_section}
use Rattle.reset_play.proofs.Finishing.{progress, boot_finish, finish_append}

no_staged : (n : Machine) → n.staged ≡ [] → staged_tasks true_formats n ≡ []
no_staged n e =
    ap (λ (s : List StagedPair). flat_map (pair_tasks true_formats n)
    (in_order (λ a b. nat_lt a.serial b.serial) s)) e

settled_staged : (m : Machine) (end : End) (o : Option Element)
    → (settled_with m end o).staged ≡ m.staged
settled_staged m end None = refl
settled_staged m end (Some e) = refl

by_found : (m : Machine) → m.staged ≡ [] → (o : Option Element)
    → tasks_done true_formats (progress m [] (boot_start true_formats m Sealed).report)
    (tasks_with true_formats m Sealed o)
    ≡ tasks_done true_formats
    (tasks_done true_formats (progress m [] (boot_start true_formats m Sealed).report)
    (heal_tasks o))
    (folder_tasks true_formats
    (tasks_done true_formats (progress m [] (boot_start true_formats m Sealed).report)
    (heal_tasks o)).machine)
by_found m none None =
    ap (λ w. tasks_done true_formats (progress m [] (boot_start true_formats m Sealed).report)
    (w ++ folder_tasks true_formats m)) (no_staged m none)
by_found m none (Some e) =
    ap (λ w. tasks_done true_formats
    (task_done true_formats (progress m [] (boot_start true_formats m Sealed).report)
    (Commits (Settles Heal Sealed)))
    (w ++ folder_tasks true_formats (settled m Sealed)))
    (no_staged (settled m Sealed) (settled_staged m Sealed (find is_open m.list) ∙ none))

-- a boot is what heals, and then the folder's work, where no delivery waits in memory
pub boot_parts : (m : Machine) → m.staged ≡ [] → (b : BootState)
    → b ≡ tasks_done true_formats (progress m [] (boot_start true_formats m Sealed).report)
    (heal_tasks (find is_open m.list))
    → tasks_done true_formats b (folder_tasks true_formats b.machine)
    ≡ boot_of true_formats m Sealed
boot_parts m none b is =
    ap (λ p. tasks_done true_formats p (folder_tasks true_formats p.machine)) is
    ∙ sym (by_found m none (find is_open m.list)) ∙ sym (boot_finish true_formats m Sealed)

-- a refused unit of a file
pub tried_refused : (m : Machine) (r : ReportValue) (x : File) (status : ℕ) (e : Element)
    → refusal true_formats m (file_unit x) ≡ Some status
    → e ≡ element_of true_formats (file_unit x) (Closed (Some (Refused status)) m.now)
    → progress (with_element m e) [] (with_lines r (next_line m Try e ∷ []))
    ≡ task_done true_formats (progress m [] r) (Commits (Does (file_unit x)))
tried_refused m r x status e h is =
    ap (λ (p : Element). progress (with_element m p) [] (with_lines r (next_line m Try p ∷ []))) is
    ∙ sym (ap (λ o. next true_formats
    (after_unit true_formats (progress m (Commits (Does (file_unit x)) ∷ []) r) (file_unit x) []
    (course_of_try o))) h)

-- one that is claimed
pub tried_claimed : (m : Machine) (r : ReportValue) (x : File) (e : Element)
    → refusal true_formats m (file_unit x) ≡ None → e ≡ element_of true_formats (file_unit x) Open
    → task_done true_formats (progress (with_claim m e) [] (one_step r))
    (Commits (Settles Try Sealed))
    ≡ task_done true_formats (progress m [] r) (Commits (Does (file_unit x)))
tried_claimed m r x e h is =
    ap (λ (p : Element). task_done true_formats (progress (with_claim m p) [] (one_step r))
    (Commits (Settles Try Sealed))) is
    ∙ sym (ap (λ o. next true_formats
    (after_unit true_formats (progress m (Commits (Does (file_unit x)) ∷ []) r) (file_unit x) []
    (course_of_try o))) h)

-- the work on the files that are left, of which one is next
pub marked_next : (xs : List File) (marks : List Bool) (i : ℕ) (x : File) (mark : Bool)
    → length marks ≡ length xs → i < length xs
    → all_marked_tasks (drop i xs) (drop i marks)
    ≡ marked_tasks (get_or xs i x) (get_or marks i mark)
    ++ all_marked_tasks (drop (i + 1) xs) (drop (i + 1) marks)
marked_next xs marks i x mark long h =
    let lt : i < length marks = omega arith in
    rw (drop-cons xs i x h, drop-cons marks i mark lt, add-one i) refl

-- the attempt of a file, by its parts
abbrev attempt_with : UnitKey → Item → ℕ → ℕ → List ℕ → List ℕ → Element
attempt_with key item version floor dependency payload = record {
  kind = Try;
  key = key;
  capsule = fmp_guid;
  head = item.head;
  version = version;
  floor = floor;
  dependency = dependency;
  payload = payload;
  standing = Open;
}

abbrev attempt_built : UnitKey → Item → ℕ → ℕ → List ℕ → Element
attempt_built key item version floor payload = attempt_with key item version floor [] payload

pub attempt_is : (x : File) (item : Item) (key : UnitKey) (version floor : ℕ) (payload : List ℕ)
    → item ≡ thin_item x.bytes → key ≡ file_key x
    → version ≡ unwrap_or (option_map (λ p. p.version) (true_formats.parts item.image 0)) 0
    → floor ≡ unwrap_or (option_map (λ p. p.lowest) (true_formats.parts item.image 0)) 0
    → payload ≡ unwrap_or (option_map (λ p. p.payload) (true_formats.parts item.image 0)) []
    → record {
      kind = Try;
      key = key;
      capsule = fmp_guid;
      head = item.head;
      version = version;
      floor = floor;
      dependency = [];
      payload = payload;
      standing = Open;
    }
    ≡ element_of true_formats (file_unit x) Open
attempt_is x item key version floor payload is k v l p =
    ap (λ (n : UnitKey). attempt_built n item version floor payload) k
    ∙ ap (λ (n : ℕ). attempt_built (file_key x) item n floor payload) v
    ∙ ap (λ (n : ℕ). attempt_built (file_key x) item
    (unwrap_or (option_map (λ q. q.version) (true_formats.parts item.image 0)) 0) n payload) l
    ∙ ap (λ (n : List ℕ). attempt_built (file_key x) item
    (unwrap_or (option_map (λ q. q.version) (true_formats.parts item.image 0)) 0)
    (unwrap_or (option_map (λ q. q.lowest) (true_formats.parts item.image 0)) 0) n) p
    ∙ ap (λ (i : Item). attempt_built (file_key x) i
    (unwrap_or (option_map (λ q. q.version) (true_formats.parts i.image 0)) 0)
    (unwrap_or (option_map (λ q. q.lowest) (true_formats.parts i.image 0)) 0)
    (unwrap_or (option_map (λ q. q.payload) (true_formats.parts i.image 0)) [])) is
    ∙ ap (λ (n : List ℕ). attempt_with (file_key x) (thin_item x.bytes)
    (unwrap_or (option_map (λ q. q.version) (true_formats.parts (thin_item x.bytes).image 0)) 0)
    (unwrap_or (option_map (λ q. q.lowest) (true_formats.parts (thin_item x.bytes).image 0)) 0) n
    (unwrap_or (option_map (λ q. q.payload) (true_formats.parts (thin_item x.bytes).image 0)) []))
    (no_section (thin_item x.bytes).image)

-- one file of those that are left is done
pub files_step : (xs : List File) (marks : List Bool) (i : ℕ) (x : File) (mark : Bool)
    (b done : BootState) → x ≡ get_or xs i x → length marks ≡ length xs → i < length xs
    → done ≡ tasks_done true_formats b (marked_tasks x (get_or marks i mark))
    → tasks_done true_formats done (all_marked_tasks (drop (i + 1) xs) (drop (i + 1) marks))
    ≡ tasks_done true_formats b (all_marked_tasks (drop i xs) (drop i marks))
files_step xs marks i x mark b done is long h ok =
    let rest : List BootTask = all_marked_tasks (drop (i + 1) xs) (drop (i + 1) marks) in
    let all : all_marked_tasks (drop i xs) (drop i marks)
    ≡ marked_tasks (get_or xs i x) (get_or marks i mark) ++ rest =
    marked_next xs marks i x mark long h in
    ap (λ (p : BootState). tasks_done true_formats p rest) ok
    ∙ ap (λ (y : File). tasks_done true_formats
    (tasks_done true_formats b (marked_tasks y (get_or marks i mark))) rest) is
    ∙ sym (finish_append true_formats (marked_tasks (get_or xs i x) (get_or marks i mark)) rest b)
    ∙ sym (ap (tasks_done true_formats b) all)

-- the work on the folder, in its parts
pub folder_parts : (m : Machine) (xs : List File) (marks : List Bool) (b0 b1 b2 b3 : BootState)
    → m.is_signalled ≡ true → IsTrue (has_one_device m.board)
    → IsTrue (list_all (λ (x : File). is_thin_on m.board x.bytes) m.files)
    → xs ≡ files_in_order m → marks ≡ marks_of m.list xs
    → b1 ≡ tasks_done true_formats b0 (prune_tasks m)
    → b2 ≡ tasks_done true_formats b1 (all_marked_tasks xs marks)
    → b3 ≡ task_done true_formats b2 (Commits Clears)
    → b3 ≡ tasks_done true_formats b0 (folder_tasks true_formats m)
folder_parts m xs marks b0 b1 b2 b3 asked one all is marked pruned done cleared =
    let files : List BootTask = flat_map (file_tasks true_formats m) (files_in_order m) in
    let all_in_order : IsTrue
    (list_all (λ (x : File). is_thin_on m.board x.bytes) (files_in_order m)) =
    ordered_all (λ (x : File). is_thin_on m.board x.bytes)
    (λ a b. is_taken_before a.name b.name) m.files all in
    let works : files ≡ all_marked_tasks xs marks =
    works_marked m (files_in_order m) one all_in_order
    ∙ ap (λ (ys : List File). all_marked_tasks ys (marks_of m.list ys)) (sym is)
    ∙ ap (all_marked_tasks xs) (sym marked) in
    let folder : folder_tasks true_formats m ≡ (prune_tasks m ++ files) ++ Commits Clears ∷ [] =
    ap (λ t. cond t ((prune_tasks m ++ files) ++ Commits Clears ∷ []) []) asked in
    cleared
    ∙ ap (λ (p : BootState). task_done true_formats p (Commits Clears))
    (done ∙ ap (λ (p : BootState). tasks_done true_formats p (all_marked_tasks xs marks)) pruned
    ∙ ap (tasks_done true_formats (tasks_done true_formats b0 (prune_tasks m))) (sym works)
    ∙ sym (finish_append true_formats (prune_tasks m) files b0))
    ∙ sym (finish_append true_formats (prune_tasks m ++ files) (Commits Clears ∷ []) b0)
    ∙ ap (tasks_done true_formats b0) (sym folder)
