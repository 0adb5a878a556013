-- The refusal of changes, one after another.
use Rattle.std.proofs.Common.{◌≡◌, ◌∙◌, ℕ, zero, suc, ◌+◌, ◌<◌, List, [], ◌∷◌, ◌++◌, length, take}
use Rattle.std.proofs.Common.{refl, sym, ap, arith, true, false, Option, Some, None, get_or}
use Rattle.std.specs.Prelude.{is_some, Err, IfNone}
use Rattle.std.specs.List.{AllByRecursion, flat_map}
use Rattle.std.proofs.lemmas.Bool.{true≢false}
use Rattle.cu_base.specs.Refusals.{Row, first_refusal}
use Rattle.cu_base.proofs.Rows.{first-none, first-parts, first-some, of_each}
use Rattle.var_log.specs.declared.change.Change.{Change}
use Rattle.var_store.specs.declared.fault.StoreFault.{StoreFault}
use Rattle.var_store.specs.declared.fault.StoreFault.TheVariants.{Log, BadName, TooBig, Memory}
use Rattle.var_store.specs.Answers.{PreparesAs, change_rows, refusal_of}

abbrev IsLimit : StoreFault → Type 0
IsLimit (Log fault) = ⊥
IsLimit BadName = Unit {0}
IsLimit TooBig = Unit {0}
IsLimit Memory = ⊥

only_limits : (cs : List Change) → AllByRecursion (λ (r : Row StoreFault). IsLimit r.refusal) (flat_map change_rows cs)
only_limits [] = tt
only_limits (c ∷ cs) = (tt, (tt, only_limits cs))

is_limit : (cs : List Change) (fault : StoreFault) → refusal_of cs ≡ Some fault → IsLimit fault
is_limit cs fault is = of_each IsLimit (flat_map change_rows cs) fault (only_limits cs) is

pub refused : (cs : List Change) (fault : StoreFault) → refusal_of cs ≡ Some fault → PreparesAs cs (Err fault)
refused cs (Log fault) is = is_limit cs (Log fault) is
refused cs BadName is = is
refused cs TooBig is = is
refused cs Memory is = absurd (is_limit cs Memory is)

here_case : (c : Change) (rows : List (Row StoreFault)) (r : Option StoreFault)
    → r ≡ first_refusal (change_rows c) → is_some r ≡ true → r ≡ first_refusal (change_rows c ++ rows)
here_case c rows (Some x) is some = sym (first-some (change_rows c) rows x (sym is))
here_case c rows None is some = absurd (true≢false (sym some))

pub refusal_at : (cs : List Change) (i : ℕ) (d : Change) (r : Option StoreFault)
    → refusal_of (take i cs) ≡ None → i < length cs → r ≡ first_refusal (change_rows (get_or cs i d))
    → is_some r ≡ true → r ≡ refusal_of cs
refusal_at [] i d r none within is some = absurd (omega arith)
refusal_at (c ∷ cs) zero d r none within is some = here_case c (flat_map change_rows cs) r is some
refusal_at (c ∷ cs) (suc i) d r none within is some =
    let parts = first-parts (change_rows c) (flat_map change_rows (take i cs)) none in
    refusal_at cs i d r parts.1 (omega arith) is some
    ∙ sym (first-none (change_rows c) (flat_map change_rows cs) parts.0)

pub refusal_on : (cs : List Change) (i : ℕ) (d : Change) → refusal_of (take i cs) ≡ None → i < length cs
    → first_refusal (change_rows (get_or cs i d)) ≡ None → refusal_of (take (suc i) cs) ≡ None
refusal_on [] i d none within is = absurd (omega arith)
refusal_on (c ∷ cs) zero d none within is = first-none (change_rows c) [] is
refusal_on (c ∷ cs) (suc i) d none within is =
    let parts = first-parts (change_rows c) (flat_map change_rows (take i cs)) none in
    first-none (change_rows c) (flat_map change_rows (take (suc i) cs)) parts.0
    ∙ refusal_on cs i d parts.1 (omega arith) is

pub none_from : (r : Option StoreFault) → is_some r ≡ false → r ≡ None
none_from None is = refl
none_from (Some x) is = absurd (true≢false is)

pub if_none : (P : Type 0) (r : Option StoreFault) → is_some r ≡ false → IfNone r P → P
if_none P None is p = p
if_none P (Some x) is p = absurd (true≢false is)

pub get_or_any : (cs : List Change) (i : ℕ) (d e : Change) → i < length cs → get_or cs i d ≡ get_or cs i e
get_or_any [] i d e within = absurd (omega arith)
get_or_any (c ∷ cs) zero d e within = refl
get_or_any (c ∷ cs) (suc i) d e within = get_or_any cs i d e (omega arith)

pub refusal_next : (cs : List Change) (i : ℕ) (d : Change) → refusal_of (take i cs) ≡ None → i < length cs
    → first_refusal (change_rows (get_or cs i d)) ≡ None → refusal_of (take (i + 1) cs) ≡ None
refusal_next cs i d none within is =
    let next : i + 1 ≡ suc i = omega arith in
    ap (λ (n : ℕ). refusal_of (take n cs)) next ∙ refusal_on cs i d none within is
