-- A unit is closed by the changes that its line and its GUIDs tell.
use Rattle.std.proofs.Common.{◌≡◌, ℕ, List, ◌∷◌, ◌++◌, refl, sym, ap, ◌∙◌, subst, Option, Some}
use Rattle.std.proofs.Common.{None}
use Rattle.bench_model.specs.Boards.{BoardValue}
use Rattle.cu_base.specs.declared.time.EfiTime.{EfiTime}
use Rattle.dev_claims.specs.ClosedBy.{element_told, ids_of, IsUntried}
use Rattle.dev_claims.specs.Units.{close_changes, device_changes, greatest_changes, next_result}
use Rattle.dev_claims.specs.Units.{progress_changes, result_changes}
use Rattle.reference_machine.specs.Results.{fmp_part, line_of, result_at, status_with}
use Rattle.reference_machine.specs.Spent.{Element, end_in, end_of}
use Rattle.reference_machine.specs.Spent.Standing.{Closed}
use Rattle.reference_machine.specs.declared.snapshot.CapsuleResult.{CapsuleResult}
use Rattle.reference_machine.specs.declared.unit.End.{End}
use Rattle.reference_machine.specs.declared.unit.End.TheVariants.{Refused, Sealed, Kept, Lost}
use Rattle.reference_machine.specs.declared.unit.Kind.{Kind}
use Rattle.reference_machine.specs.declared.unit.Kind.TheVariants.{Try, Heal, Skip, NoTarget, Bad}
use Rattle.report_tables.specs.declared.result.FmpResult.{FmpResult}
use Rattle.stored_vars.specs.Edits.{set_of}
use Rattle.stored_vars.specs.Holds.{bytes_in}
use Rattle.stored_vars.specs.Last.{last_bytes}
use Rattle.stored_vars.specs.declared.variable.StoredVar.TheVariants.{CapsuleLast, CapsuleMax}
use Rattle.var_log.specs.Changes.{Variables}
use Rattle.var_log.specs.declared.change.Change.{Change}

-- the element that the line and the GUIDs of an element tell
abbrev told_of : BoardValue → ℕ → Element → EfiTime → Element
told_of board k e at = element_told (line_of board e.kind k e) (ids_of e) at

same_device : (board : BoardValue) (variables : Variables) (k : ℕ) (e : Element) (at : EfiTime)
    (end : Option End) → IsUntried end
    → device_changes board variables e end
    ≡ device_changes board variables (told_of board k e at) end
same_device board variables k e at None is = refl
same_device board variables k e at (Some (Refused status)) is = refl
same_device board variables k e at (Some Sealed) is = absurd is
same_device board variables k e at (Some Kept) is = absurd is
same_device board variables k e at (Some Lost) is = absurd is

same_part : (board : BoardValue) (k : ℕ) (e : Element) (at : EfiTime) (kind : Kind)
    → fmp_part board e kind ≡ fmp_part board (told_of board k e at) kind
same_part board k e at Try = refl
same_part board k e at Heal = refl
same_part board k e at Skip = refl
same_part board k e at NoTarget = refl
same_part board k e at Bad = refl

abbrev result_with : Element → ℕ → EfiTime → Option End → Option FmpResult → Option CapsuleResult
result_with e number at end part = Some (record {
  number = number;
  variable = record {
    guid = e.capsule;
    time = at;
    status = status_with e.kind end;
    fmp = part;
  };
})

pub closed_as_told : (board : BoardValue) (variables : Variables) (k : ℕ) (e : Element)
    (end : Option End) (at : EfiTime) → e.standing ≡ Closed end at → IsUntried end
    → close_changes board variables e ≡ close_changes board variables (told_of board k e at)
closed_as_told board variables k e end at closed is =
    let number : ℕ = next_result board variables in
    let ends : end_of e ≡ end = ap end_in closed in
    let last : List Change = greatest_changes board (bytes_in variables CapsuleMax)
    ++ (set_of CapsuleLast (last_bytes number) ∷ progress_changes variables e.key) in
    let device : device_changes board variables e (end_of e)
    ≡ device_changes board variables (told_of board k e at) (end_of e) =
    same_device board variables k e at (end_of e) (subst IsUntried (sym ends) is) in
    let result : result_at board number e e.standing
    ≡ result_with e number at (end_of e) (fmp_part board (told_of board k e at) e.kind) =
    ap (result_at board number e) closed
    ∙ ap (λ o. result_with e number at o (fmp_part board e e.kind)) (sym ends)
    ∙ ap (result_with e number at (end_of e)) (same_part board k e at e.kind) in
    ap (λ d. d ++ (result_changes (result_at board number e e.standing) ++ last)) device
    ∙ ap (λ r. device_changes board variables (told_of board k e at) (end_of e)
    ++ (result_changes r ++ last)) result
