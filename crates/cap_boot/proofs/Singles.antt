-- The single steps: the batch that each takes, and a removal of a file.
use Rattle.std.proofs.Common.{◌≡◌, inl, inr, ℕ, ◌+◌, ◌<◌, ◌^◌, ◌==◌, Bool, true, false, not, List}
use Rattle.std.proofs.Common.{[], ◌∷◌, ◌++◌, filter, find, cond, length, refl, sym, ◌∙◌, ap, subst}
use Rattle.std.proofs.Common.{IsTrue, Ok, Err, Some, ◌≢◌}
use Rattle.std.specs.List.{list_all}
use Rattle.std.proofs.lemmas.Bool.{eqb-true}
use Rattle.std.specs.Prelude.{Option}
use Rattle.bench_model.specs.Bench.{BenchValue, ChangesContents, Contents, RemoveStops}
use Rattle.bench_model.specs.Bench.{Removes}
use Rattle.bench_model.specs.Bench.{after_remove}
use Rattle.bench_model.specs.Boards.{IsBoard}
use Rattle.bench_model.specs.Files.{File, FolderValue, without_serial}
use Rattle.dev_claims.specs.Batches.{clear_changes, unstage_changes}
use Rattle.dev_claims.proofs.DropLaws.{clear_holds}
use Rattle.dev_claims.proofs.Unstaged.{unstage_holds}
use Rattle.reference_machine.specs.Boots.{BootState, BootTask, after, next, one_step}
use Rattle.reference_machine.specs.Boots.BootBatch.{Clears, Unstages}
use Rattle.reference_machine.specs.Boots.BootTask.{Commits, Removes as RemovesFile}
use Rattle.reference_machine.specs.Machine.{Machine}
use Rattle.reference_machine.specs.Report.{ReportValue}
use Rattle.reference_machine.specs.Stops.{is_folder_task, is_in_folder, is_removal}
use Rattle.reference_machine.specs.declared.snapshot.StagedPair.{StagedPair}
use Rattle.stored_vars.specs.Stands.{Holds}
use Rattle.var_log.specs.Changes.{Variables}
use Rattle.var_store.specs.Stores.{HeldStore, variables_of}
use Rattle.cap_boot.specs.declared.fault.BootFault.TheVariants.{Volume}
use Rattle.cap_boot.specs.Going.{Goes, IsFolder, nothing}
use Rattle.cap_boot.specs.Keeps.{KeepsFolder, KeepsOthers}
use Rattle.cap_boot.specs.Situations.{IsAt, IsOpen, IsReady, IsUnderWay, Situation}
use Rattle.cap_boot.specs.Stands.{IsClean, KeepsRegions, OutsideIs, Setting}
use Rattle.cap_boot.specs.Tasks.{clear_tasks, removal_tasks, unstage_tasks}
use Rattle.cap_boot.proofs.Batches.{TakesNext, few_steps, taken_by}
use Rattle.cap_boot.proofs.Files.{IsCalm, at_folder}
use Rattle.cap_boot.proofs.Frames.{at_same, open_same}
use Rattle.cap_boot.proofs.Stable.{at_stands}
use Rattle.cap_boot.proofs.Works.{rest_stopped}

-- what is beside the store does not depend on what the store alone holds
pub outside_of : (x : Setting) (s : Contents) (m : Machine) (staged : List StagedPair)
    (asked : Bool) (progress : List ℕ) (batches : ℕ) → OutsideIs x s m
    → OutsideIs x s (record m {
      staged = staged;
      is_signalled = asked;
      in_progress = progress;
      batches = batches;
    })
outside_of x s m staged asked progress batches o = record {
  board = o.board;
  devices = λ d lt bytes is.
      let fits = o.devices d lt bytes is in
      record {
        slot = fits.slot;
        begun = record { are = fits.begun.are; tells = fits.begun.tells };
      };
  folder = o.folder;
  memory = o.memory;
}

-- the board of a boot under way is a board
pub board_now : (x : Setting) (b : BootState) (y : Situation) → IsUnderWay x b → IsAt x b y
    → IsBoard b.machine.board
board_now x b y way at = subst IsBoard (sym at.outside.board) way.is_board

-- ---- the files were taken

pub clears_next : (x : Setting) (y : Situation)
    → TakesNext x y (clear_changes (variables_of y.store)) one_step clear_tasks
clears_next x y b rest way left at =
    let m = b.machine in
    taken_by x y (clear_changes (variables_of y.store)) one_step b (Commits Clears ∷ rest) rest left
    (record {
      counts = refl;
      holds = clear_holds (variables_of y.store) m (board_now x b y way at) at.stores.variables;
      number = refl;
      outside = outside_of x y.bench.contents m m.staged false [] (m.batches + 1) at.outside;
      behind = refl;
      report = refl;
    })

-- ---- a staged delivery is taken out

abbrev pub unstaged_told : ℕ → ReportValue → ReportValue
unstaged_told serial r =
    record r { steps = r.steps + 1; unstaged = r.unstaged ++ serial ∷ [] }

pub unstages_next : (pair : StagedPair) (x : Setting) (y : Situation)
    → TakesNext x y (unstage_changes (variables_of y.store) pair.serial)
    (unstaged_told pair.serial) (unstage_tasks pair)
unstages_next pair x y b rest way left at =
    let m = b.machine in
    taken_by x y (unstage_changes (variables_of y.store) pair.serial) (unstaged_told pair.serial) b
    (Commits (Unstages pair) ∷ rest) rest left (record {
      counts = refl;
      holds = unstage_holds (variables_of y.store) m pair.serial (board_now x b y way at)
          at.stores.variables;
      number = refl;
      outside = outside_of x y.bench.contents m
          (filter (λ (q : StagedPair). not (q.serial == pair.serial)) m.staged) m.is_signalled
          m.in_progress (m.batches + 1) at.outside;
      behind = refl;
      report = refl;
    })

pub unstaging_keeps : (pair : StagedPair) (x : Setting) (b : BootState) (rest : List BootTask)
    → b.left ≡ unstage_tasks pair b.machine ++ rest
    → KeepsFolder b.machine (next x.formats b).machine
unstaging_keeps pair x b rest left =
    subst (λ (l : List BootTask). KeepsFolder b.machine (after x.formats b l).machine) (sym left)
    (record { asked = refl; files = refl; progress = refl; spent = λ serial. refl })

-- ---- a file is taken out of the folder

abbrev pub removed_told : ℕ → ReportValue → ReportValue
removed_told serial r =
    record r { steps = r.steps + 1; removed = r.removed ++ serial ∷ [] }

-- all but the store is that of the machine without the file
outside_removed : (x : Setting) (s : Contents) (m : Machine) (serial : ℕ) → OutsideIs x s m
    → OutsideIs x (after_remove s serial)
    (record m { files = filter (λ (f : File). not (f.serial == serial)) m.files })
outside_removed x s m serial o = record {
  board = o.board;
  devices = λ d lt bytes is.
      let fits = o.devices d lt bytes is in
      record {
        slot = fits.slot;
        begun = record { are = fits.begun.are; tells = fits.begun.tells };
      };
  folder = ap (λ (f : FolderValue). without_serial f serial) o.folder;
  memory = o.memory;
}

-- what the store holds does not depend on the files
holds_removed : (variables : Variables) (m : Machine) (files : List File) → Holds variables m
    → Holds variables (record m { files = files })
holds_removed variables m files h = record {
  devices = h.devices;
  claims = h.claims;
  results = h.results;
  greatest = h.greatest;
  last = h.last;
  staged = h.staged;
  serial = h.serial;
  asked = h.asked;
  progress = h.progress;
  others = h.others;
}

-- an open store stays open where the folder alone changes
open_removed : (store : HeldStore) (a c : BenchValue) (serial : ℕ) → Removes serial a c
    → IsOpen store a → IsOpen store c
open_removed store a c serial is o =
    open_same store (record a { contents = after_remove a.contents serial }) c is (record {
      banks = record {
        there = o.banks.there;
        same = o.banks.same;
        low = o.banks.low;
        high = o.banks.high;
      };
      stands = record {
        log = record {
          lies = record {
            size = o.stands.log.lies.size;
            told = λ told.
                let l = o.stands.log.lies.told told in
                record { first = l.first; second = l.second; is = l.is };
          };
          format = o.stands.log.format;
        };
        store = o.stands.store;
      };
      fresh = o.fresh;
    })

pub ready_removed : (store : HeldStore) (a c : BenchValue) (serial : ℕ) → Removes serial a c
    → IsReady store a → IsReady store c
ready_removed store a c serial is r = record {
  opened = open_removed store a c serial is r.opened;
  clean = λ told. subst IsClean (sym is) (r.clean (ap (λ (s : Contents). s.told) (sym is) ∙ told));
}

-- the regions stay
pub regions_removed : (a c : BenchValue) (serial : ℕ) → RemoveStops serial a c
    → ChangesContents a c → KeepsRegions a c
regions_removed a c serial (inl same) frame = record {
  told = ap (λ (s : Contents). s.told) same;
  count = ap (λ (s : Contents). s.regions) same;
  long = λ k. ap (λ (s : Contents). length (s.bytes k)) same;
  orders = frame.orders;
}
regions_removed a c serial (inr is) frame = record {
  told = ap (λ (s : Contents). s.told) is;
  count = ap (λ (s : Contents). s.regions) is;
  long = λ k. ap (λ (s : Contents). length (s.bytes k)) is;
  orders = frame.orders;
}

-- the situation of a store, a bench and the value of a report
abbrev pub at_report : HeldStore → BenchValue → ReportValue → Situation
at_report store bench report = record { store = store; bench = bench; report = report }

-- the boot after the removal
removed_at : (x : Setting) (serial : ℕ) (b : BootState) (rest : List BootTask) (store : HeldStore)
    (a c : BenchValue) (r : ReportValue) → b.left ≡ RemovesFile serial ∷ rest
    → IsAt x b (at_report store a r) → Removes serial a c
    → IsAt x (next x.formats b) (at_report store c (removed_told serial r))
removed_at x serial b rest store a c r left at is =
    let m = b.machine in
    let files : List File = filter (λ (f : File). not (f.serial == serial)) m.files in
    subst (λ (l : List BootTask). IsAt x (after x.formats b l)
    (at_report store c (removed_told serial r))) (sym left) (record {
      told = ap (λ (s : Contents). s.told) is ∙ at.told;
      opened = open_removed store a c serial is at.opened;
      stores = record {
        variables = holds_removed (variables_of store) m files at.stores.variables;
        number = at.stores.number;
      };
      outside = subst (λ (s : Contents). OutsideIs x s (record m { files = files })) (sym is)
          (outside_removed x a.contents m serial at.outside);
      report = ap (removed_told serial) at.report;
    })

-- another file is found as before
find_other : (s serial : ℕ) (xs : List File) → s ≢ serial
    → find (λ (f : File). f.serial == s) (filter (λ (f : File). not (f.serial == serial)) xs)
    ≡ find (λ (f : File). f.serial == s) xs
find_other s serial [] other = refl
find_other s serial (y ∷ ys) other =
    by_test (find_other s serial ys other) (y.serial == serial) refl
  where
    not_it : (t : Bool) → (y.serial == s) ≡ t → (y.serial == serial) ≡ true
        → (y.serial == s) ≡ false
    not_it true k e = absurd (other (sym (eqb-true y.serial s k) ∙ eqb-true y.serial serial e))
    not_it false k e = k

    by_test : find (λ (f : File). f.serial == s)
        (filter (λ (f : File). not (f.serial == serial)) ys)
        ≡ find (λ (f : File). f.serial == s) ys
        → (b : Bool) → (y.serial == serial) ≡ b
        → find (λ (f : File). f.serial == s)
        (cond (not b) (y ∷ filter (λ (f : File). not (f.serial == serial)) ys)
        (filter (λ (f : File). not (f.serial == serial)) ys))
        ≡ cond (y.serial == s) (Some y) (find (λ (f : File). f.serial == s) ys)
    by_test rest false e = ap (λ (o : Option File). cond (y.serial == s) (Some y) o) rest
    by_test rest true e =
        rest ∙ sym (ap (λ (t : Bool). cond t (Some y) (find (λ (f : File). f.serial == s) ys))
        (not_it (y.serial == s) refl e))

removal_keeps : (x : Setting) (serial : ℕ) (b : BootState) (rest : List BootTask)
    → b.left ≡ RemovesFile serial ∷ rest
    → KeepsOthers serial b.machine (next x.formats b).machine
removal_keeps x serial b rest left =
    subst (λ (l : List BootTask). KeepsOthers serial b.machine (after x.formats b l).machine)
    (sym left) (record {
      files = λ s other. find_other s serial b.machine.files other;
      spent = λ s other. refl;
    })

pub remove_goes : {T : Type 0} (x : Setting) (serial : ℕ) (store : HeldStore) (a c : BenchValue)
    (r q : ReportValue) (u : T) → Removes serial a c
    → (r.steps + 1 < 2 ^ 32 → q ≡ removed_told serial r)
    → Goes x IsFolder (KeepsOthers serial) (removal_tasks serial) nothing (at_report store a r)
    (Ok u) (at_report store c q)
remove_goes x serial store a c r q u is told = record {
  from = λ b rest way may left at. record {
    steps = 1;
    left = ap (λ (l : List BootTask). (after x.formats b l).left) left;
    at = subst (λ (v : ReportValue). IsAt x (next x.formats b) (at_report store c v))
        (sym (told (few_steps x b (at_report store a r) way at)))
        (removed_at x serial b rest store a c r left at is);
    keeps = removal_keeps x serial b rest left;
  };
}

-- a removal that failed: it was done or it was not
pub remove_fails : {T : Type 0} (x : Setting) (serial : ℕ) (store : HeldStore) (a c : BenchValue)
    (r : ReportValue) → RemoveStops serial a c
    → Goes {T = T} x IsFolder (KeepsOthers serial) (removal_tasks serial) nothing
    (at_report store a r) (Err Volume) (at_report store c r)
remove_fails x serial store a c r stops = record {
  from = λ b rest way may left at.
      let folder : IsTrue (is_in_folder b) =
      at_folder x b way (subst IsCalm (sym left) tt)
      (ap (list_all is_folder_task) left ∙ may.1) in
      let removal : IsTrue (is_removal b.left) = ap is_removal left in
      record {
        steps = 0;
        stopped = elim stops [
          | inl same ↦ rest_stopped x Volume way.start b (at_report store c r)
              (at_same x b (at_report store a r) (at_report store c r) refl same refl at)
              (at.report, (may.0, folder, inl refl))
          | inr is ↦ record {
            one = (next x.formats b).machine;
            other = (next x.formats b).machine;
            one_is = (at.report, (may.0, folder, inr (removal, refl)));
            other_is = (at.report, (may.0, folder, inr (removal, refl)));
            either = at_stands x (next x.formats b)
                (at_report store c (removed_told serial r))
                (removed_at x serial b rest store a c r left at is);
          }
        ];
      };
}
