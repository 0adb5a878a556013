-- Entries by rising serials: those that are kept of them, one that is put among them, and how wide
-- they are where they tell the progress of a machine.
use Rattle.std.proofs.Common.{◌≡◌, ℕ, ◌<◌, ◌^◌, ◌==◌, Bool, true, false, cond, List, []}
use Rattle.std.proofs.Common.{◌∷◌, ◌++◌, filter, find, nat_lt, Option, Some, None, option_map}
use Rattle.std.proofs.Common.{unwrap_or, refl, sym, ap, ◌∙◌, arith}
use Rattle.std.specs.List.{AllByRecursion, list_any}
use Rattle.std.specs.Prelude.{option_and_then}
use Rattle.std.proofs.lemmas.Bool.{and_from, and_parts, eq-eqb, eqb-true, false_from_ne_true}
use Rattle.std.proofs.lemmas.Bool.{lt-ltb, ltb-true}
use Rattle.reference_machine.specs.Machine.{Machine}
use Rattle.reference_machine.specs.Spent.{spent}
use Rattle.reference_machine.proofs.Filing.{has_all}
use Rattle.stored_vars.specs.Holds.{bytes_in, progress_of}
use Rattle.stored_vars.specs.Progress.{IsEntry, IsProgress, are_rising, entries_at}
use Rattle.stored_vars.specs.Progress.{is_progress, progress_bytes, progress_in}
use Rattle.stored_vars.specs.Stands.{ProgressFits, units_kept, units_on}
use Rattle.stored_vars.specs.declared.progress.ProgressEntry.{ProgressEntry}
use Rattle.stored_vars.specs.declared.variable.StoredVar.TheVariants.{Progress}
use Rattle.stored_vars.proofs.ProgressLaws.{progress_again}
use Rattle.reference_machine.proofs.Apart.{all_imply}
use Rattle.stored_vars.proofs.Sorting.{all_filtered}
use Rattle.var_log.specs.Changes.{Variables}

-- ---- rising serials, each below all later ones

abbrev pub Rising : List ProgressEntry → Type 0
Rising [] = Unit {0}
Rising (e ∷ es) = AllByRecursion (λ x. e.serial < x.serial) es × Rising es

pub rising_from : (es : List ProgressEntry) → are_rising es ≡ true → Rising es
rising_from [] h = tt
rising_from (e ∷ []) h = (tt, tt)
rising_from (e ∷ x ∷ xs) h =
    let parts = and_parts (nat_lt e.serial x.serial) (are_rising (x ∷ xs)) h in
    let low : e.serial < x.serial = ltb-true e.serial x.serial parts.0 in
    let rest = rising_from (x ∷ xs) parts.1 in (
      (
        low,
        all_imply (λ (y : ProgressEntry). x.serial < y.serial)
            (λ (y : ProgressEntry). e.serial < y.serial) (λ y k. omega arith) xs rest.0,
      ),
      rest,
    )

pub rising_test : (es : List ProgressEntry) → Rising es → are_rising es ≡ true
rising_test [] r = refl
rising_test (e ∷ []) r = refl
rising_test (e ∷ x ∷ xs) r =
    and_from (nat_lt e.serial x.serial) (are_rising (x ∷ xs)) (lt-ltb e.serial x.serial r.0.0)
    (rising_test (x ∷ xs) r.1)

pub rising_filtered : (p : ProgressEntry → Bool) (es : List ProgressEntry) → Rising es
    → Rising (filter p es)
rising_filtered p [] r = tt
rising_filtered p (e ∷ es) r =
    elim (p e) as (λ b. Rising (cond b (e ∷ filter p es) (filter p es))) [
      | true ↦ (
        all_filtered (λ (x : ProgressEntry). e.serial < x.serial) p es r.0,
        rising_filtered p es r.1,
      )
      | false ↦ rising_filtered p es r.1
    ]

pub all_joined : (P : ProgressEntry → Type 0) (xs ys : List ProgressEntry) → AllByRecursion P xs
    → AllByRecursion P ys → AllByRecursion P (xs ++ ys)
all_joined P [] ys a b = b
all_joined P (x ∷ xs) ys a b = (a.0, all_joined P xs ys a.1 b)

pub rising_joined : (xs ys : List ProgressEntry) (e : ProgressEntry)
    → AllByRecursion (λ x. x.serial < e.serial) xs → AllByRecursion (λ y. e.serial < y.serial) ys
    → Rising xs → Rising ys → Rising (xs ++ e ∷ ys)
rising_joined [] ys e low high r s = (high, s)
rising_joined (x ∷ xs) ys e low high r s = (
  all_joined (λ y. x.serial < y.serial) xs (e ∷ ys) r.0 (
    low.0,
    all_imply (λ (y : ProgressEntry). e.serial < y.serial)
        (λ (y : ProgressEntry). x.serial < y.serial) (λ y k. omega (arith, low.0)) ys high,
  ),
  rising_joined xs ys e low.1 high r.1 s,
)

-- ---- finding an entry by its serial

abbrev pub found : List ProgressEntry → ℕ → Option ProgressEntry
found es serial = find (λ e. e.serial == serial) es

-- an entry is found by its own serial
found_itself : (es : List ProgressEntry) → Rising es
    → AllByRecursion (λ e. found es e.serial ≡ Some e) es
found_itself [] r = tt
found_itself (e ∷ es) r = (
  ap (λ b. cond b (Some e) (found es e.serial)) (eq-eqb e.serial e.serial refl),
  later es r.0 (found_itself es r.1),
)
  where
    later : (xs : List ProgressEntry) → AllByRecursion (λ x. e.serial < x.serial) xs
        → AllByRecursion (λ (x : ProgressEntry). found es x.serial ≡ Some x) xs
        → AllByRecursion (λ (x : ProgressEntry). found (e ∷ es) x.serial ≡ Some x) xs
    later [] low all = tt
    later (x ∷ xs) low all =
        let apart : (e.serial == x.serial) ≡ false =
        false_from_ne_true (e.serial == x.serial) (λ same.
        let one : e.serial ≡ x.serial = eqb-true e.serial x.serial same in
        absurd (omega (arith, low.0, one))) in
        (ap (λ b. cond b (Some e) (found es x.serial)) apart ∙ all.0, later xs low.1 all.1)

-- of entries that are kept by their serials
pub found_kept : (q : ℕ → Bool) (es : List ProgressEntry) (serial : ℕ)
    → found (filter (λ e. q e.serial) es) serial ≡ cond (q serial) (found es serial) None
found_kept q [] serial =
    elim (q serial) as (λ b. ◌≡◌ {A = Option ProgressEntry} None (cond b None None)) [
      | true ↦ refl
      | false ↦ refl
    ]
found_kept q (e ∷ es) serial =
    by_test (found_kept q es serial) (e.serial == serial) refl (q e.serial) refl
  where
    rest : List ProgressEntry
    rest = filter (λ x. q x.serial) es

    by_test : found rest serial ≡ cond (q serial) (found es serial) None → (b : Bool)
        → (e.serial == serial) ≡ b → (c : Bool) → q e.serial ≡ c
        → found (cond c (e ∷ rest) rest) serial
        ≡ cond (q serial) (cond b (Some e) (found es serial)) None
    by_test later true same true passes =
        ap (λ t. cond t (Some e) (found rest serial)) same
        ∙ sym (ap (λ t. cond t (Some e) None)
        (ap q (sym (eqb-true e.serial serial same)) ∙ passes))
    by_test later true same false fails =
        later
        ∙ ap (λ t. cond t (found es serial) None)
        (ap q (sym (eqb-true e.serial serial same)) ∙ fails)
        ∙ sym (ap (λ t. cond t (Some e) None)
        (ap q (sym (eqb-true e.serial serial same)) ∙ fails))
    by_test later false apart true passes =
        ap (λ t. cond t (Some e) (found rest serial)) apart ∙ later
    by_test later false apart false fails = later

-- ---- what is stored

-- entries that were written are what is read
pub entries_read : (variables : Variables) (es : List ProgressEntry) → IsProgress es
    → bytes_in variables Progress ≡ Some (progress_bytes es) → progress_of variables ≡ es
entries_read variables es is e =
    ap (λ b. unwrap_or (option_and_then progress_in b) []) e
    ∙ ap (λ o. unwrap_or o []) (progress_again es is)

-- what is read rises
pub entries_rise : (variables : Variables) → Rising (progress_of variables)
entries_rise variables = by_bytes (bytes_in variables Progress)
  where
    by_test : (b : List ℕ) (t : Bool) → is_progress b ≡ t
        → Rising (unwrap_or (cond t (Some (entries_at b)) None) [])
    by_test b true h = rising_from (entries_at b) (and_parts _ (are_rising (entries_at b)) h).1
    by_test b false h = tt

    by_bytes : (o : Option (List ℕ)) → Rising (unwrap_or (option_and_then progress_in o) [])
    by_bytes None = tt
    by_bytes (Some b) = by_test b (is_progress b) refl

-- entries of a machine's progress have their width
each_wide : (variables : Variables) (m : Machine)
    → ((serial : ℕ) → units_kept variables serial ≡ units_on m serial) → ProgressFits m
    → (es : List ProgressEntry)
    → AllByRecursion (λ e. found (progress_of variables) e.serial ≡ Some e) es
    → AllByRecursion IsEntry es
each_wide variables m same wide [] all = tt
each_wide variables m same wide (e ∷ es) all = (
  by_test (list_any (λ s. s == e.serial) m.in_progress) refl,
  each_wide variables m same wide es all.1,
)
  where
    here : Some e.units ≡ units_on m e.serial
    here = sym (ap (option_map (λ (x : ProgressEntry). x.units)) all.0) ∙ same e.serial

    by_test : (b : Bool) → list_any (λ s. s == e.serial) m.in_progress ≡ b → IsEntry e
    by_test true h =
        let are = has_all (λ s. (s < 2 ^ 64) × (spent m.list s < 2 ^ 32)) m.in_progress e.serial
        wide h in
        let units : Some e.units ≡ Some (spent m.list e.serial) =
        here ∙ ap (λ t. cond t (Some (spent m.list e.serial)) None) h in
        let number : e.units ≡ spent m.list e.serial = cc in
        record { serial = are.0; units = omega (arith, number, are.1) }
    by_test false h =
        let none : Some e.units ≡ None =
        here ∙ ap (λ t. cond t (Some (spent m.list e.serial)) None) h in
        absurd cc

pub entries_wide : (variables : Variables) (m : Machine)
    → ((serial : ℕ) → units_kept variables serial ≡ units_on m serial) → ProgressFits m
    → IsProgress (progress_of variables)
entries_wide variables m same wide =
    let rise : Rising (progress_of variables) = entries_rise variables in
    record {
      each = each_wide variables m same wide (progress_of variables)
          (found_itself (progress_of variables) rise);
      rising = rising_test (progress_of variables) rise;
    }

-- those that are kept of entries are entries
pub kept_entries : (p : ProgressEntry → Bool) (es : List ProgressEntry) → IsProgress es
    → IsProgress (filter p es)
kept_entries p es is = record {
  each = all_filtered IsEntry p es is.each;
  rising = rising_test (filter p es) (rising_filtered p es (rising_from es is.rising));
}
