-- The step that drops the progress of files that are gone: there is a batch exactly where the boot
-- of the machine has one.
use Rattle.std.proofs.Common.{◌≡◌, ◌⊎◌, inl, inr, ℕ, suc, ◌+◌, ◌<◌, ◌≤◌, ◌^◌, ◌==◌, Bool, true, false}
use Rattle.std.proofs.Common.{not, ◌||◌, cond, true≢false, List, [], ◌∷◌, ◌++◌, filter, find, length}
use Rattle.std.proofs.Common.{refl, sym, ap, ◌∙◌, subst, arith, Ok, Err, None, Some}
use Rattle.std.specs.Prelude.{Option, is_some, option_map}
use Rattle.std.specs.List.{list_any}
use Rattle.std.proofs.lemmas.Bool.{eqb-true}
use Rattle.std.proofs.lemmas.Bool.Decides.{nat_tests}
use Rattle.bench_model.specs.Bench.{BenchValue}
use Rattle.bench_model.specs.Files.{FolderValue}
use Rattle.dev_claims.specs.Batches.{has_serial, prune_changes}
use Rattle.dev_claims.specs.Batches.{progress_change}
use Rattle.dev_claims.proofs.DropLaws.{prune_holds}
use Rattle.dev_claims.proofs.Due.{progress_fits}
use Rattle.reference_machine.specs.Boots.{BootState, BootTask, after, is_file, next, one_step}
use Rattle.reference_machine.specs.Boots.{prune_tasks}
use Rattle.reference_machine.specs.Boots.BootBatch.{Prunes}
use Rattle.reference_machine.specs.Boots.BootTask.{Commits}
use Rattle.reference_machine.specs.Machine.{Machine}
use Rattle.reference_machine.specs.Report.{ReportValue}
use Rattle.reference_machine.specs.Spent.{spent}
use Rattle.stored_vars.specs.Holds.{progress_of}
use Rattle.stored_vars.specs.Stands.{Holds, ProgressFits}
use Rattle.stored_vars.specs.declared.progress.ProgressEntry.{ProgressEntry}
use Rattle.var_log.specs.Changes.{Variables}
use Rattle.var_log.specs.Logs.{ChangesBanks}
use Rattle.var_log.specs.declared.change.Change.{Change}
use Rattle.var_store.specs.Stores.{HeldStore, variables_of}
use Rattle.cap_boot.specs.declared.fault.BootFault.{BootFault}
use Rattle.cap_boot.specs.declared.fault.BootFault.TheVariants as boot
use Rattle.cap_boot.specs.Commits.{DropsAs, IsUntouched, LeavesBatch, LeavesDrop}
use Rattle.cap_boot.specs.Going.{Goes, IsAny, nothing}
use Rattle.cap_boot.specs.Keeps.{KeepsFiles}
use Rattle.cap_boot.specs.Situations.{IsAt, IsReady, Situation}
use Rattle.cap_boot.specs.Stands.{Setting}
use Rattle.cap_boot.specs.Tasks.{ListsFiles}
use Rattle.cap_boot.proofs.Batches.{TakesNext, batch_fails, batch_goes, taken_by}
use Rattle.cap_boot.proofs.Batches.{untouched_stands, untouched_told}
use Rattle.cap_boot.proofs.Onward.{reached_now}
use Rattle.cap_boot.proofs.Singles.{at_report, board_now, outside_of}

-- ---- there is progress to drop exactly where the machine has some

or_true_second : (a b : Bool) → b ≡ true → (a || b) ≡ true
or_true_second true b h = refl
or_true_second false b h = h

or_cases : (a b : Bool) → (a || b) ≡ true → (a ≡ true) ⊎ (b ≡ true)
or_cases true b h = inl refl
or_cases false b h = inr h

same_number : (n : ℕ) → (n == n) ≡ true
same_number n = grind (arith, nat_tests)

both_ways : (a b : Bool) → (a ≡ true → b ≡ true) → (b ≡ true → a ≡ true) → a ≡ b
both_ways true b f g = sym (f refl)
both_ways false true f g = g refl
both_ways false false f g = refl

-- an item that passes a test, by its number
record Passes {X : Type 0} (key : X → ℕ) (q : ℕ → Bool) (xs : List X) : Type 0 where
  number : ℕ
  is : q number ≡ true
  there : list_any (λ x. key x == number) xs ≡ true

passes_of : {X : Type 0} (key : X → ℕ) (q : ℕ → Bool) (xs : List X)
    → list_any (λ x. q (key x)) xs ≡ true → Passes key q xs
passes_of key q [] any = absurd (true≢false (sym any))
passes_of key q (x ∷ xs) any =
    elim (or_cases (q (key x)) (list_any (λ y. q (key y)) xs) any) [
      | inl here ↦ record {
        number = key x;
        is = here;
        there = ap (λ b. b || list_any (λ y. key y == key x) xs) (same_number (key x));
      }
      | inr later ↦ (
          let p = passes_of key q xs later in
          record {
            number = p.number;
            is = p.is;
            there = or_true_second (key x == p.number) _ p.there;
          }
          )
    ]

any_of : {X : Type 0} (key : X → ℕ) (q : ℕ → Bool) (xs : List X) (n : ℕ) → q n ≡ true
    → list_any (λ x. key x == n) xs ≡ true → list_any (λ x. q (key x)) xs ≡ true
any_of key q [] n is any = any
any_of key q (x ∷ xs) n is any =
    elim (or_cases (key x == n) (list_any (λ y. key y == n) xs) any) [
      | inl here ↦ (
          let same : key x ≡ n = eqb-true (key x) n here in
          ap (λ b. b || list_any (λ y. q (key y)) xs) (ap q same ∙ is)
          )
      | inr later ↦ or_true_second (q (key x)) _ (any_of key q xs n is later)
    ]

-- two lists with the same numbers pass a test of numbers alike
any_alike : {X Y : Type 0} (f : X → ℕ) (g : Y → ℕ) (q : ℕ → Bool) (xs : List X) (ys : List Y)
    → ((n : ℕ) → list_any (λ x. f x == n) xs ≡ list_any (λ y. g y == n) ys)
    → list_any (λ x. q (f x)) xs ≡ list_any (λ y. q (g y)) ys
any_alike f g q xs ys same =
    both_ways (list_any (λ x. q (f x)) xs) (list_any (λ y. q (g y)) ys)
    (λ any. let p = passes_of f q xs any in
    any_of g q ys p.number p.is (sym (same p.number) ∙ p.there))
    (λ any. let p = passes_of g q ys any in
    any_of f q xs p.number p.is (same p.number ∙ p.there))

found_any : {X : Type 0} (p : X → Bool) (xs : List X) → is_some (find p xs) ≡ list_any p xs
found_any p [] = refl
found_any p (x ∷ xs) =
    elim (p x) as (λ b. is_some (cond b (Some x) (find p xs)) ≡ (b || list_any p xs)) [
      | true ↦ refl
      | false ↦ found_any p xs
    ]

mapped_some : {X Y : Type 0} (f : X → Y) (o : Option X) → is_some (option_map f o) ≡ is_some o
mapped_some f None = refl
mapped_some f (Some x) = refl

some_test : {X : Type 0} (b : Bool) (x : X) → is_some (cond b (Some x) None) ≡ b
some_test true x = refl
some_test false x = refl

-- the serials of what is stored are those of the machine
same_serials : (variables : Variables) (m : Machine) → Holds variables m → (n : ℕ)
    → list_any (λ s. s == n) m.in_progress
    ≡ list_any (λ (e : ProgressEntry). e.serial == n) (progress_of variables)
same_serials variables m h n =
    let es = progress_of variables in
    sym (some_test (list_any (λ s. s == n) m.in_progress) (spent m.list n))
    ∙ sym (ap is_some (h.progress n))
    ∙ mapped_some (λ (e : ProgressEntry). e.units) (find (λ (e : ProgressEntry). e.serial == n) es)
    ∙ found_any (λ (e : ProgressEntry). e.serial == n) es

-- those that are kept are all, or fewer
kept_all : (p : ProgressEntry → Bool) (es : List ProgressEntry)
    → list_any (λ e. not (p e)) es ≡ false → length (filter p es) ≡ length es
kept_all p [] none = refl
kept_all p (e ∷ es) none = by_test (kept_all p es) (p e) none
  where
    by_test : (list_any (λ x. not (p x)) es ≡ false → length (filter p es) ≡ length es) → (b : Bool)
        → (not b || list_any (λ x. not (p x)) es) ≡ false
        → length (cond b (e ∷ filter p es) (filter p es)) ≡ suc (length es)
    by_test later true h = ap (λ n. suc n) (later h)
    by_test later false h = absurd (true≢false h)

kept_most : (p : ProgressEntry → Bool) (es : List ProgressEntry)
    → length (filter p es) ≤ length es
kept_most p [] = omega arith
kept_most p (e ∷ es) =
    elim (p e) as (λ b. length (cond b (e ∷ filter p es) (filter p es)) ≤ suc (length es)) [
      | true ↦ omega (arith, kept_most p es)
      | false ↦ omega (arith, kept_most p es)
    ]

kept_fewer : (p : ProgressEntry → Bool) (es : List ProgressEntry)
    → list_any (λ e. not (p e)) es ≡ true → length (filter p es) < length es
kept_fewer p [] any = absurd (true≢false (sym any))
kept_fewer p (e ∷ es) any = by_test (kept_fewer p es) (p e) any
  where
    by_test : (list_any (λ x. not (p x)) es ≡ true → length (filter p es) < length es) → (b : Bool)
        → (not b || list_any (λ x. not (p x)) es) ≡ true
        → length (cond b (e ∷ filter p es) (filter p es)) < suc (length es)
    by_test later true h = omega (arith, later h)
    by_test later false h = omega (arith, kept_most p es)

-- both have something to drop, or neither has
pub prune_agrees : (variables : Variables) (m : Machine) (serials : List ℕ) → Holds variables m
    → ((s : ℕ) → has_serial serials s ≡ is_file m.files s)
    → ((prune_changes variables serials ≡ []) × (prune_tasks m ≡ []))
    ⊎ ((0 < length (prune_changes variables serials)) × (prune_tasks m ≡ Commits Prunes ∷ []))
prune_agrees variables m serials h same = by_test (list_any (λ e. not (p e)) es) refl
  where
    es : List ProgressEntry
    es = progress_of variables

    p : ProgressEntry → Bool
    p e = has_serial serials e.serial

    gone : list_any (λ s. not (is_file m.files s)) m.in_progress ≡ list_any (λ e. not (p e)) es
    gone =
        any_alike (λ (s : ℕ). s) (λ (e : ProgressEntry). e.serial) (λ s. not (is_file m.files s))
        m.in_progress es (same_serials variables m h)
        ∙ (λ i. list_any (λ (e : ProgressEntry). not (sym (same e.serial) i)) es)

    by_test : (b : Bool) → list_any (λ e. not (p e)) es ≡ b
        → ((prune_changes variables serials ≡ []) × (prune_tasks m ≡ []))
        ⊎ ((0 < length (prune_changes variables serials)) × (prune_tasks m ≡ Commits Prunes ∷ []))
    by_test false none =
        let long : length (filter p es) ≡ length es = kept_all p es none in
        let test : (length (filter p es) == length es) ≡ true = grind (arith, nat_tests, long) in
        inl (
          ap (λ b. cond b [] (progress_change (filter p es) ∷ [])) test,
          ap (λ b. cond b (Commits Prunes ∷ []) []) (gone ∙ none),
        )
    by_test true any =
        let short : length (filter p es) < length es = kept_fewer p es any in
        let test : (length (filter p es) == length es) ≡ false = grind (arith, nat_tests, short) in
        let is : prune_changes variables serials ≡ progress_change (filter p es) ∷ [] =
        ap (λ b. cond b [] (progress_change (filter p es) ∷ [])) test in
        inr (
          subst (λ (cs : List Change). 0 < length cs) (sym is) (omega arith),
          ap (λ b. cond b (Commits Prunes ∷ []) []) (gone ∙ any),
        )

-- ---- the step

-- the serials are those of the machine's files
files_of_now : (x : Setting) (b : BootState) (y : Situation) (serials : List ℕ) → IsAt x b y
    → ListsFiles serials y.bench → (s : ℕ) → has_serial serials s ≡ is_file b.machine.files s
files_of_now x b y serials at lists s =
    lists s ∙ ap (λ (f : FolderValue). is_file f.files s) at.outside.folder

agrees_now : (x : Setting) (b : BootState) (y : Situation) (serials : List ℕ) → IsAt x b y
    → ListsFiles serials y.bench
    → ((prune_changes (variables_of y.store) serials ≡ []) × (prune_tasks b.machine ≡ []))
    ⊎ ((0 < length (prune_changes (variables_of y.store) serials))
    × (prune_tasks b.machine ≡ Commits Prunes ∷ []))
agrees_now x b y serials at lists =
    prune_agrees (variables_of y.store) b.machine serials at.stores.variables
    (files_of_now x b y serials at lists)

no_length : (cs : List Change) → cs ≡ [] → 0 < length cs → ⊥
no_length cs is some =
    let none : length cs ≡ 0 = ap length is in omega (arith, none, some)

-- with something to drop, the batch is next
left_of : (x : Setting) (b : BootState) (rest : List BootTask) (y : Situation) (serials : List ℕ)
    → IsAt x b y → ListsFiles serials y.bench
    → 0 < length (prune_changes (variables_of y.store) serials)
    → b.left ≡ prune_tasks b.machine ++ rest → b.left ≡ Commits Prunes ∷ rest
left_of x b rest y serials at lists some left =
    elim (agrees_now x b y serials at lists) [
      | inl none ↦ absurd (no_length (prune_changes (variables_of y.store) serials) none.0 some)
      | inr is ↦ left ∙ ap (λ (w : List BootTask). w ++ rest) is.1
    ]

prunes_next : (x : Setting) (y : Situation) (serials : List ℕ) → ListsFiles serials y.bench
    → 0 < length (prune_changes (variables_of y.store) serials)
    → TakesNext x y (prune_changes (variables_of y.store) serials) one_step prune_tasks
prunes_next x y serials lists some b rest way left at =
    let m = b.machine in
    let now : b.left ≡ Commits Prunes ∷ rest = left_of x b rest y serials at lists some left in
    let wide : ProgressFits m = progress_fits x.formats x.board m way.limits way.is_board
    (reached_now x b way) in
    taken_by x y (prune_changes (variables_of y.store) serials) one_step b (Commits Prunes ∷ rest)
    rest now (record {
      counts = refl;
      holds = prune_holds (variables_of y.store) m serials (board_now x b y way at) wide
          (files_of_now x b y serials at lists) at.stores.variables;
      number = refl;
      outside = outside_of x y.bench.contents m m.staged m.is_signalled
          (filter (is_file m.files) m.in_progress) (m.batches + 1) at.outside;
      behind = refl;
      report = refl;
    })

pruning_keeps : (x : Setting) (y : Situation) (serials : List ℕ) → ListsFiles serials y.bench
    → 0 < length (prune_changes (variables_of y.store) serials) → (b : BootState)
    (rest : List BootTask) → IsAt x b y → b.left ≡ prune_tasks b.machine ++ rest
    → KeepsFiles b.machine (next x.formats b).machine
pruning_keeps x y serials lists some b rest at left =
    subst (λ (l : List BootTask). KeepsFiles b.machine (after x.formats b l).machine)
    (sym (left_of x b rest y serials at lists some left))
    (record { files = refl; spent = λ serial. refl })

-- there was nothing to drop
nothing_dropped : {T : Type 0} (x : Setting) (y : Situation) (serials : List ℕ) (u : T)
    → ListsFiles serials y.bench → prune_changes (variables_of y.store) serials ≡ []
    → Goes x IsAny KeepsFiles prune_tasks nothing y (Ok u) y
nothing_dropped x y serials u lists none = record {
  from = λ b rest way may left at. record {
    steps = 0;
    left = elim (agrees_now x b y serials at lists) [
      | inl idle ↦ left ∙ ap (λ (w : List BootTask). w ++ rest) idle.1
      | inr some ↦ absurd (no_length (prune_changes (variables_of y.store) serials) none some.0)
    ];
    at = at;
    keeps = record { files = refl; spent = λ serial. refl };
  };
}

-- progress was dropped, or there was none to drop
pub drop_goes : {T : Type 0} (x : Setting) (s t : HeldStore) (before now : BenchValue)
    (r q : ReportValue) (serials : List ℕ) (u : T) (done : Bool) → ListsFiles serials before
    → DropsAs (prune_changes (variables_of s) serials) s t before now done
    → (done ≡ true → r.steps + 1 < 2 ^ 32 → q ≡ one_step r) → (done ≡ false → q ≡ r)
    → ChangesBanks before now → IsReady t now
    → Goes x IsAny KeepsFiles prune_tasks nothing (at_report s before r) (Ok u) (at_report t now q)
drop_goes x s t before now r q serials u true lists d told same f ready =
    batch_goes x IsAny KeepsFiles prune_tasks (at_report s before r) (at_report t now q)
    (prune_changes (variables_of s) serials) one_step u
    (prunes_next x (at_report s before r) serials lists d.0)
    (λ b rest way at left.
    pruning_keeps x (at_report s before r) serials lists d.0 b rest at left) (λ v p. refl) (told refl) f d.1 ready
drop_goes {T} x s t before now r q serials u false lists d told same f ready =
    let y = at_report s before r in
    subst (λ (z : Situation). Goes {T = T} x IsAny KeepsFiles prune_tasks nothing y (Ok u) z)
    (ap (λ (v : HeldStore). at_report v before r) (sym d.1)
    ∙ ap (λ (b : BenchValue). at_report t b r) (sym d.2)
    ∙ ap (λ (v : ReportValue). at_report t now v) (sym (same refl)))
    (nothing_dropped x y serials u lists d.0)

-- progress was not dropped
pub drop_fails : {T : Type 0} (x : Setting) (s t : HeldStore) (before now : BenchValue)
    (r : ReportValue) (serials : List ℕ) (fault : BootFault) → ListsFiles serials before
    → ChangesBanks before now
    → LeavesDrop (prune_changes (variables_of s) serials) s t before now fault
    → Goes {T = T} x IsAny KeepsFiles prune_tasks nothing (at_report s before r) (Err fault)
    (at_report t now r)
drop_fails {T} x s t before now r serials fault lists f leaves =
    by_changes (prune_changes (variables_of s) serials) refl leaves
  where
    y : Situation
    y = at_report s before r

    z : Situation
    z = at_report t now r

    idle : IsUntouched s t before now
        → Goes {T = T} x IsAny KeepsFiles prune_tasks nothing y (Err boot.Memory) z
    idle u = record {
      from = λ b rest way may left at. record {
        steps = 0;
        stopped = record {
          one = b.machine;
          other = b.machine;
          one_is = (untouched_told x y z b at refl u, refl);
          other_is = (untouched_told x y z b at refl u, refl);
          either = untouched_stands x y z b at u;
        };
      };
    }

    by_changes : (cs : List Change) → prune_changes (variables_of s) serials ≡ cs
        → LeavesDrop cs s t before now fault
        → Goes {T = T} x IsAny KeepsFiles prune_tasks nothing y (Err fault) z
    by_changes [] is left =
        subst (λ (e : BootFault). Goes {T = T} x IsAny KeepsFiles prune_tasks nothing y (Err e) z)
        (sym left.0) (idle left.1)
    by_changes (c ∷ rest) is left =
        let some : 0 < length (prune_changes (variables_of s) serials) =
        subst (λ (l : List Change). 0 < length l) (sym is) (omega arith) in
        batch_fails x IsAny KeepsFiles prune_tasks y z (prune_changes (variables_of s) serials)
        one_step fault (prunes_next x y serials lists some) refl f
        (subst (λ (l : List Change). LeavesBatch l s t before now fault) (sym is) left)
