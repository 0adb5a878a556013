-- The list of a platform: closed elements, and perhaps one that is open behind them.
use Rattle.std.proofs.Common.{◌≡◌, ℕ, ◌+◌, ◌&&◌, Bool, true, false, cond, not, IsTrue, List, []}
use Rattle.std.proofs.Common.{◌∷◌, ◌++◌, map, filter, find, length, count_by, refl, sym, ap, ◌∙◌}
use Rattle.std.proofs.Common.{subst, Option, Some, None, IsSome, is_some, append-nil}
use Rattle.std.proofs.lemmas.List.Sums.{length-filter}
use Rattle.std.specs.List.{list_all}
use Rattle.bench_model.specs.Boards.{BoardValue}
use Rattle.reference_machine.specs.declared.unit.UnitLine.{UnitLine}
use Rattle.bench_model.specs.Files.{File}
use Rattle.reference_machine.specs.Machine.{Machine, first_moment}
use Rattle.cu_base.specs.declared.time.EfiTime.{EfiTime}
use Rattle.reference_machine.specs.declared.unit.End.{End}
use Rattle.reference_machine.specs.declared.unit.End.TheVariants.{Sealed}
use Rattle.reference_machine.specs.declared.unit.Kind.{Kind}
use Rattle.reference_machine.specs.Boots.{BootState, closed_with, progress_with, next_line}
use Rattle.reference_machine.specs.Boots.{settled_with, with_lines}
use Rattle.reference_machine.specs.Boots.BootBatch.{Settles}
use Rattle.reference_machine.specs.Boots.BootTask.{Commits}
use Rattle.reference_machine.specs.Report.{ReportValue}
use Rattle.reference_machine.specs.Results.{line_of}
use Rattle.delivery_formats.specs.TrueFormats.{true_formats}
use Rattle.reference_machine.specs.Spent.{Element, is_open, is_closed}
use Rattle.reset_play.specs.Whole.{open_rest, is_claim_open, task_done}
use Rattle.reference_machine.proofs.Lists.{NoneOpen, find_none, find_last, closed_more, closed}
use Rattle.reference_machine.proofs.Tests.{both_left, both_right}

not_open : (b : Bool) → not b ≡ true → b ≡ false
not_open true h = cc
not_open false h = refl

-- closed elements are not open
pub none_open : (xs : List Element) → IsTrue (list_all is_closed xs) → NoneOpen xs
none_open [] h = tt
none_open (x ∷ xs) h = (
  not_open (is_open x) (both_left (is_closed x) _ h),
  none_open xs (both_right (is_closed x) _ h),
)

never_both : (e : Element) → None ≡ Some e → ⊥
never_both e h = cc

-- where nothing is open, nothing is held
pub none_held : (xs : List Element) (o : Option Element) → IsTrue (list_all is_closed xs)
    → IsTrue (is_claim_open o) → find is_open (xs ++ open_rest o) ≡ None → o ≡ None
none_held xs None all is_held rests = refl
none_held xs (Some e) all is_held rests =
    absurd (never_both e (sym rests ∙ find_last xs e (none_open xs all) is_held))

some_of : {X : Type 0} (a : Option X) → a ≡ None → IsSome a → ⊥
some_of None e s = cc
some_of (Some x) e s = cc

-- where something is open, it is held
pub some_held : (xs : List Element) (o : Option Element) → IsTrue (list_all is_closed xs) → o ≡ None
    → IsSome (find is_open (xs ++ open_rest o)) → ⊥
some_held xs o all e s =
    some_of (find is_open (xs ++ open_rest o))
    (ap (λ p. find is_open (xs ++ open_rest p)) e ∙ ap (find is_open) (append-nil xs)
    ∙ find_none xs (none_open xs all)) s

pub rests_held : (xs : List Element) (o : Option Element) → IsTrue (list_all is_closed xs)
    → o ≡ None → find is_open (xs ++ open_rest o) ≡ None
rests_held xs o all e =
    ap (λ p. find is_open (xs ++ open_rest p)) e ∙ ap (find is_open) (append-nil xs)
    ∙ find_none xs (none_open xs all)

pub pends_held : (xs : List Element) (e : Element) → IsTrue (list_all is_closed xs)
    → IsTrue (is_open e) → IsSome (find is_open (xs ++ e ∷ []))
pends_held xs e all h = subst IsSome (sym (find_last xs e (none_open xs all) h)) refl

-- all closed, with one more
both : (a b : Bool) → a ≡ true → b ≡ true → IsTrue (a && b)
both true b h k = k
both false b h k = h

pub all_closed_more : (xs : List Element) (e : Element) → IsTrue (list_all is_closed xs)
    → IsTrue (is_closed e) → IsTrue (list_all is_closed (xs ++ e ∷ []))
all_closed_more [] e all h = both (is_closed e) true h refl
all_closed_more (x ∷ xs) e all h =
    both (is_closed x) _ (both_left (is_closed x) _ all)
    (all_closed_more xs e (both_right (is_closed x) _ all) h)

closed_kept : (xs : List Element) (o : Option Element) → IsTrue (list_all is_closed xs)
    → IsTrue (is_claim_open o) → filter is_closed (xs ++ open_rest o) ≡ xs
closed_kept [] None all h = refl
closed_kept [] (Some e) all h = let open_not : is_closed e ≡ false = ap not h in rw open_not refl
closed_kept (x ∷ xs) o all h =
    ap (λ b. cond b (x ∷ filter is_closed (xs ++ open_rest o))
    (filter is_closed (xs ++ open_rest o))) (both_left (is_closed x) _ all)
    ∙ ap (λ l. x ∷ l) (closed_kept xs o (both_right (is_closed x) _ all) h)

-- how many of them are closed
pub count_held : (xs : List Element) (o : Option Element) → IsTrue (list_all is_closed xs)
    → IsTrue (is_claim_open o) → count_by is_closed (xs ++ open_rest o) ≡ length xs
count_held xs o all h =
    sym (length-filter is_closed (xs ++ open_rest o)) ∙ ap length (closed_kept xs o all h)

-- what is open of them
pub opened_held : (xs : List Element) (e : Element) → IsTrue (list_all is_closed xs)
    → IsTrue (is_open e) → filter is_open (xs ++ e ∷ []) ≡ e ∷ []
opened_held [] e all h = ap (λ b. cond b (e ∷ []) []) h
opened_held (x ∷ xs) e all h =
    ap (λ b. cond b (x ∷ filter is_open (xs ++ e ∷ [])) (filter is_open (xs ++ e ∷ [])))
    (not_open (is_open x) (both_left (is_closed x) _ all))
    ∙ opened_held xs e (both_right (is_closed x) _ all) h

pub found_held : (xs : List Element) (e : Element) → IsTrue (list_all is_closed xs)
    → IsTrue (is_open e) → find is_open (xs ++ e ∷ []) ≡ Some e
found_held xs e all h = find_last xs e (none_open xs all) h

pub settled_held : (end : End) (now : EfiTime) (xs : List Element) (e : Element)
    → IsTrue (list_all is_closed xs) → IsTrue (is_open e)
    → map (closed_with end now) (xs ++ e ∷ []) ≡ xs ++ closed e end now ∷ []
settled_held end now xs e all h = closed_more end now xs e (none_open xs all) h

pub closed_open : (end : End) (now : EfiTime) (e : Element) → IsTrue (is_open e)
    → closed_with end now e ≡ closed e end now
closed_open end now e h = ap (λ b. cond b (closed e end now) e) h

-- one more element
pub held_more : (xs : List Element) (o : Option Element) (e : Element) → o ≡ None
    → (xs ++ open_rest o) ++ e ∷ [] ≡ xs ++ e ∷ []
held_more xs o e h =
    ap (λ p. (xs ++ open_rest p) ++ e ∷ []) h ∙ ap (λ l. l ++ e ∷ []) (append-nil xs)

pub held_none : (xs : List Element) (o : Option Element) → o ≡ None → xs ++ open_rest o ≡ xs
held_none xs o h = ap (λ p. xs ++ open_rest p) h ∙ append-nil xs

-- a finished boot of a platform, by its parts
abbrev pub built : BoardValue → List File → ℕ → Bool → List Element → List ℕ → ℕ → Option ℕ → ℕ
    → List UnitLine → List ℕ → List ℕ → Option ℕ → BootState
built board files last asked list in_progress batches opened steps lines unstaged removed pending =
    record {
      machine = record {
        board = board;
        now = first_moment;
        files = files;
        last_file = last;
        memory = [];
        staged = [];
        last_staged = 0;
        is_signalled = asked;
        list = list;
        in_progress = in_progress;
        batches = batches;
        failed = false;
      };
      left = [];
      report = record {
        opened = opened;
        steps = steps;
        lines = lines;
        unstaged = unstaged;
        removed = removed;
        pending = pending;
      };
    }

pub built_same : (board : BoardValue) (files : List File) (last : ℕ) (asked : Bool)
    (list list' : List Element) (in_progress in_progress' : List ℕ) (batches : ℕ)
    (opened : Option ℕ) (steps : ℕ) (lines lines' : List UnitLine) (unstaged removed : List ℕ)
    (pending : Option ℕ)
    → list ≡ list' → in_progress ≡ in_progress' → lines ≡ lines'
    → built board files last asked list in_progress batches opened steps lines unstaged removed
    pending ≡ built board files last asked list' in_progress' batches opened steps lines'
    unstaged removed pending
built_same board files last asked list list' in_progress in_progress' batches opened steps lines
    lines' unstaged removed pending e k l =
    ap (λ x. built board files last asked x in_progress batches opened steps lines unstaged removed
    pending) e
    ∙ (ap (λ x. built board files last asked list' x batches opened steps lines unstaged removed
    pending) k
    ∙ ap (λ x. built board files last asked list' in_progress' batches opened steps x unstaged
    removed pending) l)

-- the open element of a platform, settled
pub settled_whole : (board : BoardValue) (files : List File) (last : ℕ) (asked : Bool)
    (done : List Element) (e : Element) (in_progress : List ℕ) (batches : ℕ) (opened : Option ℕ)
    (steps : ℕ) (lines : List UnitLine) (unstaged removed : List ℕ) (pending : Option ℕ)
    (kind : Kind)
    → IsTrue (list_all is_closed done) → IsTrue (is_open e)
    → built board files last asked (done ++ closed e Sealed first_moment ∷ [])
    (progress_with in_progress e.key) (batches + 1) opened (steps + 1)
    (lines ++ line_of board kind (length done) (closed e Sealed first_moment)
    ∷ []) unstaged removed pending
    ≡ task_done true_formats
    (built board files last asked
    (done ++ e ∷ []) in_progress batches opened steps lines unstaged removed pending)
    (Commits (Settles kind Sealed))
settled_whole board files last asked done e in_progress batches opened steps lines unstaged removed
    pending kind all h =
    let found : find is_open (done ++ e ∷ []) ≡ Some e = found_held done e all h in
    let open_ones : filter is_open (done ++ e ∷ []) ≡ e ∷ [] = opened_held done e all h in
    let list : map (closed_with Sealed first_moment) (done ++ e ∷ [])
    ≡ done ++ closed e Sealed first_moment ∷ [] =
    settled_held Sealed first_moment done e all h in
    let count : count_by is_closed (done ++ e ∷ []) ≡ length done =
    count_held done (Some e) all h in
    let is : closed_with Sealed first_moment e ≡ closed e Sealed first_moment =
    closed_open Sealed first_moment e h in
    let m : Machine =
    (built board files last asked
    (done ++ e ∷ []) in_progress batches opened steps lines unstaged removed pending).machine in
    let r : ReportValue =
    (built board files last asked
    (done ++ e ∷ []) in_progress batches opened steps lines unstaged removed pending).report in
    let build : Option Element → List Element → BootState =
    λ o es. record {
      machine = settled_with m Sealed o;
      left = [];
      report = with_lines r
          (map (λ x. next_line m kind (closed_with Sealed first_moment x)) es);
    } in
    let told : line_of board kind (count_by is_closed (done ++ e ∷ []))
    (closed_with Sealed first_moment e)
    ≡ line_of board kind (length done) (closed e Sealed first_moment) =
    ap (λ k. line_of board kind k (closed_with Sealed first_moment e)) count
    ∙ ap (line_of board kind (length done)) is in
    sym (
    ap (λ o. build o (filter is_open (done ++ e ∷ []))) found
    ∙ ap (build (Some e)) open_ones
    ∙ built_same board files last asked _ _ _ _ (batches + 1) opened
    (steps + 1) _ _ unstaged removed pending list refl (ap (λ l. lines ++ l ∷ []) told)
    )

-- what is held is found open
pub held_pends : (xs : List Element) (o : Option Element) → IsTrue (list_all is_closed xs)
    → IsTrue (is_claim_open o) → is_some o ≡ true → IsSome (find is_open (xs ++ open_rest o))
held_pends xs None all h some = cc
held_pends xs (Some e) all h some = pends_held xs e all h
