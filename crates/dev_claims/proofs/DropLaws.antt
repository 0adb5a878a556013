-- Batches that drop progress leave the variables of the machine without it: of the files that are
-- gone, and of all files once they are taken.
use Rattle.std.proofs.Common.{◌≡◌, ℕ, ◌≤◌, ◌==◌, Bool, true, false, ◌&&◌, cond, List}
use Rattle.std.proofs.Common.{[], ◌∷◌, filter, length, map, Option, Some, None, option_map}
use Rattle.std.proofs.Common.{unwrap_or, refl, sym, ap, ◌∙◌, subst, arith}
use Rattle.std.specs.List.{AllByRecursion, list_any}
use Rattle.std.specs.Prelude.{bit_and, option_and_then}
use Rattle.std.proofs.lemmas.Bool.{eqb-true}
use Rattle.std.proofs.lemmas.Map.Views.{any-filter_same}
use Rattle.bench_model.specs.Boards.{IsBoard}
use Rattle.reference_machine.specs.Boots.{is_file}
use Rattle.reference_machine.specs.Machine.{Machine}
use Rattle.reference_machine.specs.Spent.{spent}
use Rattle.dev_claims.specs.Batches.{clear_changes, entries_of, has_serial}
use Rattle.dev_claims.specs.Batches.{progress_change, progress_dropped, prune_changes}
use Rattle.dev_claims.specs.Steps.{cleared, pruned}
use Rattle.stored_vars.specs.Edits.{set_of}
use Rattle.stored_vars.specs.Holds.{bytes_in, indications_of, progress_of}
use Rattle.stored_vars.specs.Numbers.{number_bytes, number_in}
use Rattle.stored_vars.specs.Progress.{IsProgress, progress_bytes, progress_in}
use Rattle.stored_vars.specs.Stands.{Holds, ProgressFits, units_kept, units_on}
use Rattle.stored_vars.specs.Variables.{is_variable}
use Rattle.stored_vars.specs.declared.progress.ProgressEntry.{ProgressEntry}
use Rattle.stored_vars.specs.declared.variable.StoredVar.{StoredVar}
use Rattle.stored_vars.specs.declared.variable.StoredVar.TheVariants.{Device, Progress, Serial}
use Rattle.stored_vars.specs.declared.variable.StoredVar.TheVariants.{Stage, OsIndications}
use Rattle.stored_vars.specs.declared.variable.StoredVar.TheVariants.{CapsuleMax, CapsuleLast}
use Rattle.stored_vars.specs.declared.variable.StoredVar.TheVariants.{Outcome}
use Rattle.stored_vars.proofs.Alike.{asked_alike, entries_alike, serial_alike, staged_alike}
use Rattle.stored_vars.proofs.Entries.{entries_read, entries_wide, found, found_kept, kept_entries}
use Rattle.stored_vars.proofs.Frames.{AreVariables, Edit, change_of, edited, platforms_after}
use Rattle.stored_vars.proofs.Frames.{read_after, told, told_beside}
use Rattle.stored_vars.proofs.Frames.Edit.{Deletes, Sets}
use Rattle.stored_vars.proofs.Kept.{stage_within, tells_units, units_stay}
use Rattle.stored_vars.proofs.OtherLaws.{number_again}
use Rattle.var_log.specs.Changes.{Variables, after}

-- ---- once the capsule files are taken

abbrev drop_edits : Option (List ℕ) → List Edit
drop_edits None = []
drop_edits (Some bytes) = Deletes Progress ∷ []

abbrev clear_edits : List ℕ → Option (List ℕ) → List Edit
clear_edits bytes o = Sets OsIndications bytes ∷ drop_edits o

clear_is : (bytes : List ℕ) (o : Option (List ℕ))
    → map change_of (clear_edits bytes o) ≡ set_of OsIndications bytes ∷ progress_dropped o
clear_is bytes None = refl
clear_is bytes (Some b) = refl

clear_within : (bytes : List ℕ) (o : Option (List ℕ)) → AreVariables (clear_edits bytes o)
clear_within bytes None = (refl, tt)
clear_within bytes (Some b) = (refl, (refl, tt))

clear_drops : (bytes : List ℕ) (o : Option (List ℕ))
    → told (clear_edits bytes o) Progress o ≡ None
clear_drops bytes None = refl
clear_drops bytes (Some b) = refl

clear_asks : (bytes : List ℕ) (o b : Option (List ℕ))
    → told (clear_edits bytes o) OsIndications b ≡ Some bytes
clear_asks bytes None b = refl
clear_asks bytes (Some c) b = refl

-- the other variables
abbrev is_beside : StoredVar → Bool
is_beside (Device d) = true
is_beside Progress = false
is_beside Serial = true
is_beside (Stage k) = true
is_beside OsIndications = false
is_beside CapsuleMax = true
is_beside CapsuleLast = true
is_beside (Outcome n) = true

clear_beside : (within : StoredVar → Bool) → within OsIndications ≡ false
    → within Progress ≡ false → (bytes : List ℕ) (o : Option (List ℕ))
    → AllByRecursion (λ e. within (edited e) ≡ false) (clear_edits bytes o)
clear_beside within a b bytes None = (a, tt)
clear_beside within a b bytes (Some c) = (a, (b, tt))

-- the bit goes, and no other is there
bit_gone : (t : Bool) (x : ℕ) → x ≡ cond t 4 0 → bit_and x 0xFFFFFFFFFFFFFFFB ≡ 0
bit_gone true x e = ap (λ n. bit_and n 0xFFFFFFFFFFFFFFFB) e
bit_gone false x e = ap (λ n. bit_and n 0xFFFFFFFFFFFFFFFB) e

pub clear_holds : (variables : Variables) (m : Machine) → IsBoard m.board → Holds variables m
    → Holds (after variables (clear_changes variables)) (cleared m)
clear_holds variables m is h =
    subst (λ cs. Holds (after variables cs) (cleared m)) (clear_is value stored) holds
  where
    value : List ℕ
    value = number_bytes (bit_and (indications_of variables) 0xFFFFFFFFFFFFFFFB)

    stored : Option (List ℕ)
    stored = bytes_in variables Progress

    es : List Edit
    es = clear_edits value stored

    new : Variables
    new = after variables (map change_of es)

    within : AreVariables es
    within = clear_within value stored

    beside : (w : StoredVar) → is_beside w ≡ true → is_variable w ≡ true
        → bytes_in new w ≡ bytes_in variables w
    beside w other is_w =
        read_after variables es w within is_w
        ∙ told_beside is_beside es w (bytes_in variables w)
        (clear_beside is_beside refl refl value stored) other

    zero_is : value ≡ number_bytes 0
    zero_is = ap number_bytes (bit_gone m.is_signalled (indications_of variables) h.asked)

    asked : indications_of new ≡ 0
    asked =
        ap (λ b. unwrap_or (option_and_then number_in b) 0)
        (read_after variables es OsIndications within refl
        ∙ clear_asks value stored (bytes_in variables OsIndications) ∙ ap Some zero_is)
        ∙ ap (λ o. unwrap_or o 0) (number_again 0 (omega arith))

    gone : progress_of new ≡ []
    gone =
        ap (λ b. unwrap_or (option_and_then progress_in b) [])
        (read_after variables es Progress within refl ∙ clear_drops value stored)

    holds : Holds new (cleared m)
    holds =
        let units = units_stay variables m es is within
        (clear_beside tells_units refl refl value stored) h in
        record {
          devices = units.devices;
          claims = units.claims;
          results = units.results;
          greatest = units.greatest;
          last = units.last;
          staged = staged_alike new variables (λ k low. beside (Stage k) refl (stage_within k low))
              ∙ h.staged;
          serial = serial_alike new variables (beside Serial refl refl) ∙ h.serial;
          asked = asked;
          progress = λ s.
              ap (λ (l : List ProgressEntry).
              option_map (λ (e : ProgressEntry). e.units) (found l s)) gone;
          others = platforms_after variables es within h.others;
        }

-- ---- the progress of files that are gone

abbrev progress_edit : List ProgressEntry → Edit
progress_edit [] = Deletes Progress
progress_edit (e ∷ es) = Sets Progress (progress_bytes (e ∷ es))

abbrev prune_edits : Bool → List ProgressEntry → List Edit
prune_edits all kept = cond all [] (progress_edit kept ∷ [])

prune_is : (all : Bool) (kept : List ProgressEntry)
    → map change_of (prune_edits all kept) ≡ cond all [] (progress_change kept ∷ [])
prune_is true kept = refl
prune_is false [] = refl
prune_is false (e ∷ es) = refl

prune_within : (all : Bool) (kept : List ProgressEntry) → AreVariables (prune_edits all kept)
prune_within true kept = tt
prune_within false [] = (refl, tt)
prune_within false (e ∷ es) = (refl, tt)

prune_beside : (within : StoredVar → Bool) → within Progress ≡ false → (all : Bool)
    (kept : List ProgressEntry)
    → AllByRecursion (λ e. within (edited e) ≡ false) (prune_edits all kept)
prune_beside within h true kept = tt
prune_beside within h false [] = (h, tt)
prune_beside within h false (e ∷ es) = (h, tt)

-- what is read of progress once the batch was made
pruned_entries : (variables new : Variables) (kept : List ProgressEntry) (all : Bool)
    → IsProgress kept → (all ≡ true → kept ≡ progress_of variables)
    → bytes_in new Progress ≡ told (prune_edits all kept) Progress (bytes_in variables Progress)
    → progress_of new ≡ kept
pruned_entries variables new kept true is same e =
    entries_alike new variables e ∙ sym (same refl)
pruned_entries variables new [] false is same e =
    ap (λ b. unwrap_or (option_and_then progress_in b) []) e
pruned_entries variables new (x ∷ xs) false is same e = entries_read new (x ∷ xs) is e

-- a filter that keeps as many keeps all
filter_least : {X : Type 0} (p : X → Bool) (xs : List X) → length (filter p xs) ≤ length xs
filter_least p [] = omega arith
filter_least p (x ∷ xs) =
    let rest : length (filter p xs) ≤ length xs = filter_least p xs in
    elim (p x) as (λ b. length (cond b (x ∷ filter p xs) (filter p xs)) ≤ length (x ∷ xs)) [
      | true ↦ omega arith
      | false ↦ omega arith
    ]

filter_all : {X : Type 0} (p : X → Bool) (xs : List X) → length (filter p xs) ≡ length xs
    → filter p xs ≡ xs
filter_all p [] e = refl
filter_all p (x ∷ xs) e = by_test (filter_least p xs) (filter_all p xs) (p x) e
  where
    by_test : length (filter p xs) ≤ length xs
        → (length (filter p xs) ≡ length xs → filter p xs ≡ xs) → (b : Bool)
        → length (cond b (x ∷ filter p xs) (filter p xs)) ≡ length (x ∷ xs)
        → cond b (x ∷ filter p xs) (filter p xs) ≡ x ∷ xs
    by_test least rest true k = ap (λ l. x ∷ l) (rest (omega (arith, k)))
    by_test least rest false k = absurd (omega (arith, k, least))

pub prune_holds : (variables : Variables) (m : Machine) (serials : List ℕ) → IsBoard m.board
    → ProgressFits m → ((s : ℕ) → has_serial serials s ≡ is_file m.files s) → Holds variables m
    → Holds (after variables (prune_changes variables serials)) (pruned m)
prune_holds variables m serials is wide same h =
    subst (λ cs. Holds (after variables cs) (pruned m)) (prune_is all kept) holds
  where
    kept : List ProgressEntry
    kept = entries_of (progress_of variables) serials

    all : Bool
    all = length kept == length (progress_of variables)

    es : List Edit
    es = prune_edits all kept

    new : Variables
    new = after variables (map change_of es)

    within : AreVariables es
    within = prune_within all kept

    beside : (w : StoredVar) → is_beside w ≡ true → is_variable w ≡ true
        → bytes_in new w ≡ bytes_in variables w
    beside w other is_w =
        read_after variables es w within is_w
        ∙ told_beside is_beside es w (bytes_in variables w)
        (prune_beside is_beside refl all kept) other

    asks : StoredVar → Bool
    asks (Device d) = false
    asks Progress = false
    asks Serial = false
    asks (Stage k) = false
    asks OsIndications = true
    asks CapsuleMax = false
    asks CapsuleLast = false
    asks (Outcome n) = false

    entries : progress_of new ≡ kept
    entries =
        pruned_entries variables new kept all
        (kept_entries (λ (e : ProgressEntry). has_serial serials e.serial)
        (progress_of variables) (entries_wide variables m h.progress wide))
        (λ t. filter_all (λ (e : ProgressEntry). has_serial serials e.serial)
        (progress_of variables)
        (eqb-true (length kept) (length (progress_of variables)) t))
        (read_after variables es Progress within refl)

    stays : (s : ℕ) → list_any (λ t. t == s) (filter (is_file m.files) m.in_progress)
        ≡ (is_file m.files s && list_any (λ t. t == s) m.in_progress)
    stays s =
        any-filter_same (λ t. t == s) (is_file m.files) (is_file m.files s)
        (λ k e. ap (is_file m.files) (eqb-true k s e)) m.in_progress

    by_file : (s : ℕ) (b : Bool)
        → option_map (λ (e : ProgressEntry). e.units)
        (cond b (found (progress_of variables) s) None)
        ≡ cond (b && list_any (λ t. t == s) m.in_progress) (Some (spent m.list s)) None
    by_file s true = h.progress s
    by_file s false = refl

    progress : (s : ℕ) → units_kept new s ≡ units_on (pruned m) s
    progress s =
        ap (λ (l : List ProgressEntry).
        option_map (λ (e : ProgressEntry). e.units) (found l s)) entries
        ∙ ap (option_map (λ (e : ProgressEntry). e.units))
        (found_kept (has_serial serials) (progress_of variables) s
        ∙ ap (λ b. cond b (found (progress_of variables) s) None) (same s))
        ∙ by_file s (is_file m.files s)
        ∙ ap (λ b. cond b (Some (spent m.list s)) None) (sym (stays s))

    holds : Holds new (pruned m)
    holds =
        let units = units_stay variables m es is within
        (prune_beside tells_units refl all kept) h in
        record {
          devices = units.devices;
          claims = units.claims;
          results = units.results;
          greatest = units.greatest;
          last = units.last;
          staged = staged_alike new variables (λ k low. beside (Stage k) refl (stage_within k low))
              ∙ h.staged;
          serial = serial_alike new variables (beside Serial refl refl) ∙ h.serial;
          asked = asked_alike new variables
              (read_after variables es OsIndications within refl
              ∙ told_beside asks es OsIndications (bytes_in variables OsIndications)
              (prune_beside asks refl all kept) refl) ∙ h.asked;
          progress = progress;
          others = platforms_after variables es within h.others;
        }
