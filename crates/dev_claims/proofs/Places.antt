-- Changes of a batch that go from place to place are of different variables.
use Rattle.std.proofs.Common.{◌≡◌, ℕ, ◌<◌, ◌≤◌, ◌==◌, Bool, true, false, cond, length, ◌||◌, List}
use Rattle.std.proofs.Common.{[], ◌∷◌, ◌++◌, refl}
use Rattle.std.proofs.Common.{sym, ap, ◌∙◌, subst, arith, Option, None, Some}
use Rattle.std.specs.Str.{bytes_eq}
use Rattle.std.proofs.lemmas.Bool.{and_parts, false_from_ne_true}
use Rattle.std.proofs.lemmas.Slice.Eq.{bytes_eq-Decides}
use Rattle.bench_model.specs.declared.limits.TheConstants.{MAX_DEVICES}
use Rattle.dev_claims.specs.Batches.{entries_of, progress_change, prune_changes}
use Rattle.dev_claims.specs.ClosedBy.{IsLine, IsOnDevice, MayClose, StartsNothing}
use Rattle.dev_claims.specs.Places.{AreBefore, IsBefore, place_of}
use Rattle.reference_machine.specs.declared.unit.End.{End}
use Rattle.reference_machine.specs.declared.unit.End.TheVariants.{Refused, Sealed, Kept, Lost}
use Rattle.reference_machine.specs.declared.unit.UnitLine.{UnitLine}
use Rattle.reference_machine.proofs.Apart.{all_imply, all_more}
use Rattle.stored_vars.specs.Edits.{set_of}
use Rattle.stored_vars.specs.Variables.{guid_of, is_variable, name_of}
use Rattle.stored_vars.specs.Holds.{progress_of}
use Rattle.stored_vars.specs.declared.progress.ProgressEntry.{ProgressEntry}
use Rattle.stored_vars.specs.declared.variable.StoredVar.{StoredVar}
use Rattle.stored_vars.specs.declared.variable.StoredVar.TheVariants.{Progress}
use Rattle.stored_vars.proofs.VariableLaws.{names_apart}
use Rattle.var_log.specs.Changes as changes
use Rattle.var_log.specs.Changes.{Variables, has_key}
use Rattle.var_log.specs.declared.change.Change.{Change}

-- a variable from a place on is of no change before it
pub no_key : (place : ℕ) (v : StoredVar) (batch : List Change) → is_variable v ≡ true
    → place ≤ place_of v → AreBefore place batch → has_key (guid_of v) (name_of v) batch ≡ false
no_key place v [] is from all = refl
no_key place v (c ∷ rest) is from (first, all) =
    let apart : changes.is_of (guid_of v).bytes (name_of v) c ≡ false =
    false_from_ne_true _ (λ same.
    let parts = and_parts (bytes_eq (changes.guid_of c).bytes (guid_of v).bytes)
    (bytes_eq (changes.name_of c) (name_of v)) same in
    let names = (bytes_eq-Decides _ _).0 parts.1 in
    let one : first.variable ≡ v =
    names_apart first.variable v first.within is (sym first.name_is ∙ names) in
    let places = ap place_of one in
    absurd (omega (arith, places, from, first.before))) in
    ap (λ b. b || has_key (guid_of v) (name_of v) rest) apart
    ∙ no_key place v rest is from all

-- the same changes before a later place
pub as_before : (place later : ℕ) (batch : List Change) → place ≤ later → AreBefore place batch
    → AreBefore later batch
as_before place later batch le all =
    all_imply (IsBefore place) (IsBefore later) (λ c k. record {
      variable = k.variable;
      within = k.within;
      name_is = k.name_is;
      guid_is = k.guid_is;
      before = omega (arith, k.before);
    }) batch all

-- the set of such a variable is of no change before it
pub new_key : (place : ℕ) (v : StoredVar) (bytes : List ℕ) (c : Change) (batch : List Change)
    → c ≡ set_of v bytes → is_variable v ≡ true → place ≤ place_of v → AreBefore place batch
    → has_key (changes.guid_of c) (changes.name_of c) batch ≡ false
new_key place v bytes c batch e is from all =
    ap (λ d. has_key (changes.guid_of d) (changes.name_of d) batch) e
    ∙ no_key place v batch is from all

-- one more change of a variable before a later place
pub one_more : (place later : ℕ) (v : StoredVar) (bytes : List ℕ) (c : Change)
    (batch new : List Change) → new ≡ batch ++ c ∷ [] → c ≡ set_of v bytes
    → is_variable v ≡ true → place ≤ later → place_of v < later → AreBefore place batch
    → AreBefore later new
one_more place later v bytes c batch new made e is up before all =
    subst (AreBefore later) (sym made)
    (all_more (IsBefore later) batch c (as_before place later batch up all) (record {
      variable = v;
      within = is;
      name_is = ap changes.name_of e;
      guid_is = ap changes.guid_of e;
      before = before;
    }))

-- the device of an end
pub ended_device : (line : UnitLine) (end : Option End) (of : End) → IsOnDevice line end
    → end ≡ Some of → line.key.device < MAX_DEVICES
ended_device line end of may e = subst (IsOnDevice line) e may

-- a line of a unit that starts no SetImage is one that a batch may be made of
pub may_close : (line : UnitLine) → MayClose line → IsLine line
may_close line may = record {
  device = by_end line.end may.starts_nothing;
  status = may.status;
  name = may.name;
}
  where
    by_end : (end : Option End) → StartsNothing line end → IsOnDevice line end
    by_end None h = tt
    by_end (Some (Refused status)) h = h
    by_end (Some Sealed) h = absurd h
    by_end (Some Kept) h = absurd h
    by_end (Some Lost) h = absurd h

-- the batch that drops progress is of one variable
pub prune_places : (variables : Variables) (serials : List ℕ)
    → AreBefore 5 (prune_changes variables serials)
prune_places variables serials =
    by_test (length (entries_of (progress_of variables) serials) == length (progress_of variables))
    (entries_of (progress_of variables) serials)
  where
    here : (es : List ProgressEntry) → IsBefore 5 (progress_change es)
    here [] = record {
      variable = Progress;
      within = refl;
      name_is = refl;
      guid_is = refl;
      before = omega arith;
    }
    here (e ∷ es) = record {
      variable = Progress;
      within = refl;
      name_is = refl;
      guid_is = refl;
      before = omega arith;
    }

    by_test : (t : Bool) (es : List ProgressEntry)
        → AreBefore 5 (cond t [] (progress_change es ∷ []))
    by_test true es = tt
    by_test false es = (here es, tt)

pub prune_few : (variables : Variables) (serials : List ℕ)
    → length (prune_changes variables serials) ≤ 8
prune_few variables serials =
    by_test (length (entries_of (progress_of variables) serials) == length (progress_of variables))
  where
    by_test : (t : Bool) → length (cond t []
        (progress_change (entries_of (progress_of variables) serials) ∷ [])) ≤ 8
    by_test true = omega arith
    by_test false = omega arith
