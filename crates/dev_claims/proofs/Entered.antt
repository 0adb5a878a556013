-- Progress with the units of one file put among it.
use Rattle.std.proofs.Common.{◌≡◌, ◌⊎◌, ℕ, ◌<◌, ◌^◌, ◌==◌, Bool, true, false, cond, List, []}
use Rattle.std.proofs.Common.{◌∷◌, ◌++◌, ◌||◌, filter, max, nat_lt, Option, Some, None}
use Rattle.std.proofs.Common.{refl, sym, ap, ◌∙◌, arith, inl, inr}
use Rattle.std.specs.List.{AllByRecursion, list_any}
use Rattle.std.specs.Option.{option_or}
use Rattle.std.proofs.lemmas.Bool.{cases_order, eq-eqb, eqb-true, le-ltb, lt-ltb, ltb-true, ne_eqb}
use Rattle.std.proofs.lemmas.List.Folds.{find-append, list_any-append}
use Rattle.reference_machine.specs.Boots.{progress_with}
use Rattle.reference_machine.specs.declared.unit.UnitKey.{UnitKey}
use Rattle.dev_claims.specs.Units.{with_units}
use Rattle.stored_vars.specs.Progress.{IsEntry, IsProgress, units_among}
use Rattle.stored_vars.specs.declared.progress.ProgressEntry.{ProgressEntry}
use Rattle.stored_vars.proofs.Entries.{Rising, all_joined, found, found_kept, rising_filtered}
use Rattle.stored_vars.proofs.Entries.{rising_from, rising_joined, rising_test}
use Rattle.stored_vars.proofs.Sorting.{all_filtered}

-- the entry that is put in
abbrev pub put_of : List ProgressEntry → ℕ → ℕ → ProgressEntry
put_of entries serial units =
    record { serial = serial; units = max (units_among entries serial) units }

or_none : (o : Option ProgressEntry) → option_or o None ≡ o
or_none None = refl
or_none (Some e) = refl

-- what is found: the new entry by its serial, and others as before
pub found_with : (entries : List ProgressEntry) (serial units other : ℕ)
    → found (with_units entries serial units) other
    ≡ cond (serial == other) (Some (put_of entries serial units)) (found entries other)
found_with entries serial units other =
    find-append (λ (e : ProgressEntry). e.serial == other)
    (filter (λ (e : ProgressEntry). nat_lt e.serial serial) entries)
    (put_of entries serial units
    ∷ filter (λ (e : ProgressEntry). nat_lt serial e.serial) entries)
    ∙ ap (λ o. option_or o (cond (serial == other) (Some (put_of entries serial units))
    (found (filter (λ (e : ProgressEntry). nat_lt serial e.serial) entries) other)))
    (found_kept (λ s. nat_lt s serial) entries other)
    ∙ ap (λ o. option_or (cond (nat_lt other serial) (found entries other) None)
    (cond (serial == other) (Some (put_of entries serial units)) o))
    (found_kept (λ s. nat_lt serial s) entries other)
    ∙ by_order (cases_order serial other)
  where
    here : Option ProgressEntry
    here = found entries other

    put : Option ProgressEntry
    put = Some (put_of entries serial units)

    chosen : (a b c : Bool) → nat_lt other serial ≡ a → (serial == other) ≡ b
        → nat_lt serial other ≡ c
        → option_or (cond (nat_lt other serial) here None)
        (cond (serial == other) put (cond (nat_lt serial other) here None))
        ≡ option_or (cond a here None) (cond b put (cond c here None))
    chosen a b c p q r =
        ap (λ x. option_or (cond x here None)
        (cond (serial == other) put (cond (nat_lt serial other) here None))) p
        ∙ ap (λ x. option_or (cond a here None)
        (cond x put (cond (nat_lt serial other) here None))) q
        ∙ ap (λ x. option_or (cond a here None) (cond b put (cond x here None))) r

    by_order : (◌⊎◌ (serial ≡ other)
        (◌⊎◌ (serial < other) (other < serial)))
        → option_or (cond (nat_lt other serial) here None)
        (cond (serial == other) put (cond (nat_lt serial other) here None))
        ≡ cond (serial == other) put here
    by_order (inl same) =
        chosen false true false (le-ltb other serial (omega (arith, same)))
        (eq-eqb serial other same) (le-ltb serial other (omega (arith, same)))
        ∙ sym (ap (λ x. cond x put here) (eq-eqb serial other same))
    by_order (inr (inl low)) =
        let apart : (serial == other) ≡ false =
        ne_eqb serial other (λ k. omega (arith, k, low)) in
        chosen false false true (le-ltb other serial (omega arith)) apart
        (lt-ltb serial other low)
        ∙ sym (ap (λ x. cond x put here) apart)
    by_order (inr (inr high)) =
        let apart : (serial == other) ≡ false =
        ne_eqb serial other (λ k. omega (arith, k, high)) in
        chosen true false false (lt-ltb other serial high) apart
        (le-ltb serial other (omega arith))
        ∙ or_none here
        ∙ sym (ap (λ x. cond x put here) apart)

-- those below a serial are below it, and those above it above
low_kept : (serial : ℕ) (es : List ProgressEntry)
    → AllByRecursion (λ (e : ProgressEntry). e.serial < serial)
    (filter (λ (e : ProgressEntry). nat_lt e.serial serial) es)
low_kept serial [] = tt
low_kept serial (e ∷ es) = by_test (low_kept serial es) (nat_lt e.serial serial) refl
  where
    by_test : AllByRecursion (λ (x : ProgressEntry). x.serial < serial)
        (filter (λ (x : ProgressEntry). nat_lt x.serial serial) es)
        → (b : Bool) → nat_lt e.serial serial ≡ b
        → AllByRecursion (λ (x : ProgressEntry). x.serial < serial)
        (cond b (e ∷ filter (λ (x : ProgressEntry). nat_lt x.serial serial) es)
        (filter (λ (x : ProgressEntry). nat_lt x.serial serial) es))
    by_test rest true h = (ltb-true e.serial serial h, rest)
    by_test rest false h = rest

high_kept : (serial : ℕ) (es : List ProgressEntry)
    → AllByRecursion (λ (e : ProgressEntry). serial < e.serial)
    (filter (λ (e : ProgressEntry). nat_lt serial e.serial) es)
high_kept serial [] = tt
high_kept serial (e ∷ es) = by_test (high_kept serial es) (nat_lt serial e.serial) refl
  where
    by_test : AllByRecursion (λ (x : ProgressEntry). serial < x.serial)
        (filter (λ (x : ProgressEntry). nat_lt serial x.serial) es)
        → (b : Bool) → nat_lt serial e.serial ≡ b
        → AllByRecursion (λ (x : ProgressEntry). serial < x.serial)
        (cond b (e ∷ filter (λ (x : ProgressEntry). nat_lt serial x.serial) es)
        (filter (λ (x : ProgressEntry). nat_lt serial x.serial) es))
    by_test rest true h = (ltb-true serial e.serial h, rest)
    by_test rest false h = rest

pub with_entries : (entries : List ProgressEntry) (serial units : ℕ) → IsProgress entries
    → serial < 2 ^ 64 → max (units_among entries serial) units < 2 ^ 32
    → IsProgress (with_units entries serial units)
with_entries entries serial units is low few =
    let lows = filter (λ (e : ProgressEntry). nat_lt e.serial serial) entries in
    let highs = filter (λ (e : ProgressEntry). nat_lt serial e.serial) entries in
    let rise : Rising entries = rising_from entries is.rising in
    record {
      each = all_joined IsEntry lows (put_of entries serial units ∷ highs)
          (all_filtered IsEntry (λ (e : ProgressEntry). nat_lt e.serial serial) entries is.each) (
            record { serial = low; units = few },
            all_filtered IsEntry (λ (e : ProgressEntry). nat_lt serial e.serial) entries is.each,
          );
      rising = rising_test (with_units entries serial units)
          (rising_joined lows highs (put_of entries serial units) (low_kept serial entries)
          (high_kept serial entries)
          (rising_filtered (λ (e : ProgressEntry). nat_lt e.serial serial) entries rise)
          (rising_filtered (λ (e : ProgressEntry). nat_lt serial e.serial) entries rise));
    }

-- the serials of stored progress with that of a unit of a file
pub stored_with : (in_progress : List ℕ) (key : UnitKey) (serial : ℕ)
    → (key.ticket.route == 1) ≡ true
    → list_any (λ s. s == serial) (progress_with in_progress key)
    ≡ ((key.ticket.serial == serial) || list_any (λ s. s == serial) in_progress)
stored_with in_progress key serial file =
    ap (λ b. list_any (λ s. s == serial)
    (cond b (cond (list_any (λ s. s == key.ticket.serial) in_progress) in_progress
    (in_progress ++ key.ticket.serial ∷ [])) in_progress)) file
    ∙ by_there (list_any (λ s. s == key.ticket.serial) in_progress) refl
    (key.ticket.serial == serial) refl
  where
    turned : (a b : Bool) → (a || (b || false)) ≡ (b || a)
    turned true true = refl
    turned true false = refl
    turned false true = refl
    turned false false = refl

    by_there : (t : Bool) → list_any (λ s. s == key.ticket.serial) in_progress ≡ t → (c : Bool)
        → (key.ticket.serial == serial) ≡ c
        → list_any (λ s. s == serial)
        (cond t in_progress (in_progress ++ key.ticket.serial ∷ []))
        ≡ ((key.ticket.serial == serial) || list_any (λ s. s == serial) in_progress)
    by_there true h true same =
        ap (λ n. list_any (λ s. s == n) in_progress)
        (sym (eqb-true key.ticket.serial serial same))
        ∙ h ∙ sym (ap (λ b. b || list_any (λ s. s == serial) in_progress) same)
    by_there true h false apart =
        sym (ap (λ b. b || list_any (λ s. s == serial) in_progress) apart)
    by_there false h c k =
        list_any-append (λ s. s == serial) in_progress (key.ticket.serial ∷ [])
        ∙ turned (list_any (λ s. s == serial) in_progress) (key.ticket.serial == serial)
