-- A batch that takes a staged delivery out leaves the variables of the machine without it.
use Rattle.std.proofs.Common.{◌≡◌, ℕ, zero, suc, ◌+◌, ◌<◌, ◌≤◌, ◌==◌, Bool, true, false, ◌&&◌, ◌||◌}
use Rattle.std.proofs.Common.{cond, inl, inr, not, List, [], ◌∷◌, filter, filter_map, map, Option}
use Rattle.std.proofs.Common.{Some, None, option_map}
use Rattle.std.proofs.Common.{unwrap_or, refl, sym, ap, ◌∙◌, subst, arith, nat_lt}
use Rattle.std.specs.List.{AllByRecursion, cons_option, list_any, range_with_len}
use Rattle.std.specs.Prelude.{option_and_then}
use Rattle.std.proofs.lemmas.Bool.{cases_eq, eq-eqb, eqb-true, or_left, or_right}
use Rattle.std.proofs.lemmas.Map.Views.{any-filter_same}
use Rattle.bench_model.specs.Boards.{IsBoard}
use Rattle.reference_machine.specs.Machine.{Machine}
use Rattle.reference_machine.specs.Order.{in_order}
use Rattle.reference_machine.specs.declared.snapshot.StagedPair.{StagedPair}
use Rattle.reference_machine.proofs.Apart.{all_imply}
use Rattle.dev_claims.specs.Batches.{keeps_serial, unstage_changes}
use Rattle.dev_claims.specs.Steps.{unstaged}
use Rattle.stored_vars.specs.Edits.{delete_of}
use Rattle.stored_vars.specs.Holds.{bytes_in, pairs_of, staged_at, staged_of}
use Rattle.stored_vars.specs.Numbers.{pair_in}
use Rattle.stored_vars.specs.Stands.{Holds}
use Rattle.stored_vars.specs.Variables.{is_variable}
use Rattle.stored_vars.specs.declared.variable.StoredVar.{StoredVar}
use Rattle.stored_vars.specs.declared.variable.StoredVar.TheVariants.{Device, Progress, Serial}
use Rattle.stored_vars.specs.declared.variable.StoredVar.TheVariants.{Stage, OsIndications}
use Rattle.stored_vars.specs.declared.variable.StoredVar.TheVariants.{CapsuleMax, CapsuleLast}
use Rattle.stored_vars.specs.declared.variable.StoredVar.TheVariants.{Outcome}
use Rattle.stored_vars.proofs.Alike.{asked_alike, entries_alike, serial_alike, units_alike}
use Rattle.stored_vars.proofs.Frames.{AreVariables, Edit, change_of, edited, platforms_after}
use Rattle.stored_vars.proofs.Frames.{read_after, told, told_beside}
use Rattle.stored_vars.proofs.Frames.Edit.{Deletes}
use Rattle.stored_vars.proofs.Kept.{stage_within, tells_units, units_stay}
use Rattle.stored_vars.proofs.Sorting.{all_filtered, filter_ordered}
use Rattle.var_log.specs.Changes.{Variables, after}

-- ---- the deletes of staging variables

abbrev deletes : List ℕ → List Edit
deletes ks = map (λ k. Deletes (Stage k)) ks

deletes_are : (ks : List ℕ) → map change_of (deletes ks) ≡ map (λ k. delete_of (Stage k)) ks
deletes_are [] = refl
deletes_are (k ∷ ks) = ap (λ cs. delete_of (Stage k) ∷ cs) (deletes_are ks)

within_range : (k n : ℕ) → AllByRecursion (λ j. j < k + n) (range_with_len k n)
within_range k zero = tt
within_range k (suc n) = (
  omega arith,
  all_imply (λ j. j < k + 1 + n) (λ j. j < k + suc n) (λ j h. omega arith)
      (range_with_len (k + 1) n) (within_range (k + 1) n),
)

deletes_within : (ks : List ℕ) → AllByRecursion (λ k. k < 8) ks → AreVariables (deletes ks)
deletes_within [] all = tt
deletes_within (k ∷ ks) all = (stage_within k all.0, deletes_within ks all.1)

-- a class of variables that is of no staging variable
abbrev is_beside : (StoredVar → Bool) → Type 0
is_beside within = (k : ℕ) → within (Stage k) ≡ false

deletes_beside : (within : StoredVar → Bool) → is_beside within → (ks : List ℕ)
    → AllByRecursion (λ e. within (edited e) ≡ false) (deletes ks)
deletes_beside within no_stage [] = tt
deletes_beside within no_stage (k ∷ ks) = (no_stage k, deletes_beside within no_stage ks)

told_deletes : (ks : List ℕ) (j : ℕ) (b : Option (List ℕ))
    → told (deletes ks) (Stage j) b ≡ cond (list_any (λ k. k == j) ks) None b
told_deletes [] j b = refl
told_deletes (k ∷ ks) j b = by_test (k == j) (told_deletes ks j)
  where
    by_test : (t : Bool)
        → ((c : Option (List ℕ)) → told (deletes ks) (Stage j) c
        ≡ cond (list_any (λ i. i == j) ks) None c)
        → told (deletes ks) (Stage j) (cond t None b)
        ≡ cond (◌||◌ t (list_any (λ i. i == j) ks)) None b
    by_test true rest = rest None ∙ none_twice (list_any (λ i. i == j) ks)
      where
        none_twice : (t : Bool) → ◌≡◌ {A = Option (List ℕ)} (cond t None None) None
        none_twice true = refl
        none_twice false = refl
    by_test false rest = rest b

in_range : (k n j : ℕ) → k ≤ j → j < k + n → list_any (λ i. i == j) (range_with_len k n) ≡ true
in_range k zero j low high = absurd (omega arith)
in_range k (suc n) j low high = elim (cases_eq k j) [
  | inl same ↦ or_left (k == j) _ (eq-eqb k j same)
  | inr apart ↦
      or_right (k == j) _ (in_range (k + 1) n j (omega (arith, apart)) (omega arith))
]

-- which numbers the batch deletes
chosen : (q : ℕ → Bool) (j : ℕ) → j < 8
    → list_any (λ i. i == j) (filter q (range_with_len 0 8)) ≡ q j
chosen q j h =
    any-filter_same (λ i. i == j) q (q j) (λ k same. ap q (eqb-true k j same)) (range_with_len 0 8)
    ∙ ap (λ t. q j && t) (in_range 0 8 j (omega arith) h)
    ∙ and_true (q j)
  where
    and_true : (b : Bool) → (b && true) ≡ b
    and_true true = refl
    and_true false = refl

-- ---- the pairs that stay

-- what is there, where it passes
abbrev kept : {X : Type 0} → (X → Bool) → Option X → Option X
kept p None = None
kept p (Some x) = cond (p x) (Some x) None

filter_mapped : {X : Type 0} (p : X → Bool) (f g : ℕ → Option X) (k n : ℕ)
    → ((j : ℕ) → j < k + n → g j ≡ kept p (f j))
    → filter_map g (range_with_len k n) ≡ filter p (filter_map f (range_with_len k n))
filter_mapped p f g k zero all = refl
filter_mapped {X} p f g k (suc n) all =
    by_here (f k) (g k) (all k (omega arith))
    (filter_map g (range_with_len (k + 1) n)) (filter_map f (range_with_len (k + 1) n))
    (filter_mapped p f g (k + 1) n (λ j h. all j (omega arith)))
  where
    by_here : (o o' : Option X) → o' ≡ kept p o → (gs fs : List X) → gs ≡ filter p fs
        → cons_option o' gs
        ≡ filter p (cons_option o fs)
    by_here None o' e gs fs rest = ap (λ z. cons_option z gs) e ∙ rest
    by_here (Some x) o' e gs fs rest =
        ap (λ z. cons_option z gs) e ∙ by_test (p x)
      where
        by_test : (b : Bool) → cons_option (cond b (Some x) None) gs
            ≡ cond b (x ∷ filter p fs) (filter p fs)
        by_test true = ap (λ l. x ∷ l) rest
        by_test false = rest

-- a delivery is not of a serial
abbrev is_other : ℕ → StagedPair → Bool
is_other serial p = not (p.serial == serial)

-- what is read of a variable whose delivery goes where it has the serial
pair_kept : (serial : ℕ) (b : Option (List ℕ)) (o : Option StagedPair)
    → option_and_then pair_in b ≡ o
    → option_and_then pair_in
    (cond (unwrap_or (option_map (λ (p : StagedPair). p.serial == serial) o) false) None b)
    ≡ kept (is_other serial) o
pair_kept serial b None e = e
pair_kept serial b (Some p) e = by_test (p.serial == serial)
  where
    by_test : (t : Bool)
        → option_and_then pair_in (cond t None b) ≡ cond (not t) (Some p) None
    by_test true = refl
    by_test false = e

-- ---- the law

-- all variables but those that keep a delivery
abbrev is_no_stage : StoredVar → Bool
is_no_stage (Device d) = true
is_no_stage Progress = true
is_no_stage Serial = true
is_no_stage (Stage k) = false
is_no_stage OsIndications = true
is_no_stage CapsuleMax = true
is_no_stage CapsuleLast = true
is_no_stage (Outcome n) = true

pub unstage_holds : (variables : Variables) (m : Machine) (serial : ℕ) → IsBoard m.board
    → Holds variables m
    → Holds (after variables (unstage_changes variables serial)) (unstaged m serial)
unstage_holds variables m serial is h =
    subst (λ cs. Holds (after variables cs) (unstaged m serial)) (deletes_are ks) holds
  where
    ks : List ℕ
    ks = filter (keeps_serial variables serial) (range_with_len 0 8)

    es : List Edit
    es = deletes ks

    new : Variables
    new = after variables (map change_of es)

    within : AreVariables es
    within =
        deletes_within ks
        (all_filtered (λ k. k < 8) (keeps_serial variables serial) (range_with_len 0 8)
        (within_range 0 8))

    beside : (w : StoredVar) → is_no_stage w ≡ true → is_variable w ≡ true
        → bytes_in new w ≡ bytes_in variables w
    beside w other is_w =
        read_after variables es w within is_w
        ∙ told_beside is_no_stage es w (bytes_in variables w)
        (deletes_beside is_no_stage (λ k. refl) ks) other

    at : (j : ℕ) → j < 0 + 8
        → staged_at new j ≡ kept (is_other serial) (staged_at variables j)
    at j low =
        ap (option_and_then pair_in)
        (read_after variables es (Stage j) within (stage_within j low)
        ∙ told_deletes ks j (bytes_in variables (Stage j))
        ∙ ap (λ t. cond t None (bytes_in variables (Stage j)))
        (chosen (keeps_serial variables serial) j low))
        ∙ pair_kept serial (bytes_in variables (Stage j)) (staged_at variables j) refl

    staged : staged_of new
        ≡ in_order (λ (a b : StagedPair). nat_lt a.serial b.serial)
        (filter (is_other serial) m.staged)
    staged =
        ap (in_order (λ (a b : StagedPair). nat_lt a.serial b.serial))
        (filter_mapped (is_other serial) (staged_at variables) (staged_at new) 0 8 at)
        ∙ sym (filter_ordered (λ (p : StagedPair). p.serial) (is_other serial)
        (pairs_of variables))
        ∙ ap (filter (is_other serial)) h.staged
        ∙ filter_ordered (λ (p : StagedPair). p.serial) (is_other serial) m.staged

    holds : Holds new (unstaged m serial)
    holds =
        let units = units_stay variables m es is within
        (deletes_beside tells_units (λ k. refl) ks) h in
        record {
          devices = units.devices;
          claims = units.claims;
          results = units.results;
          greatest = units.greatest;
          last = units.last;
          staged = staged;
          serial = serial_alike new variables (beside Serial refl refl) ∙ h.serial;
          asked = asked_alike new variables (beside OsIndications refl refl) ∙ h.asked;
          progress = λ s.
              units_alike new variables s
              (entries_alike new variables (beside Progress refl refl)) ∙ h.progress s;
          others = platforms_after variables es within h.others;
        }
