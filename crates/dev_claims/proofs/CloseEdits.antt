-- The changes of a batch that closes a unit, and what each variable reads as behind them.
use Rattle.std.proofs.Common.{◌≡◌, ℕ, ◌+◌, ◌-◌, ◌^◌, ◌==◌, Bool, true, false, cond, List, [], ◌∷◌}
use Rattle.std.proofs.Common.{◌++◌}
use Rattle.std.proofs.Common.{map, min, Option, Some, None, refl, ap, ◌∙◌}
use Rattle.bench_model.specs.Boards.{BoardValue}
use Rattle.cu_base.specs.declared.time.EfiTime.{EfiTime}
use Rattle.reference_machine.specs.Results.{fmp_part, result_at, status_with}
use Rattle.reference_machine.specs.Spent.{Element, end_in}
use Rattle.reference_machine.specs.Spent.Standing.{Closed}
use Rattle.reference_machine.specs.declared.unit.End.{End}
use Rattle.report_tables.specs.Results.{result_bytes}
use Rattle.dev_claims.specs.Units.{close_changes, device_changes, greatest_changes, next_result}
use Rattle.dev_claims.specs.Units.{progress_changes, result_changes, state_after, with_units}
use Rattle.stored_vars.specs.Edits.{set_of}
use Rattle.stored_vars.specs.Holds.{bytes_in, device_of, progress_of}
use Rattle.stored_vars.specs.Last.{last_bytes}
use Rattle.stored_vars.specs.Progress.{progress_bytes}
use Rattle.stored_vars.specs.Records.{record_bytes}
use Rattle.stored_vars.specs.Variables.{is_variable}
use Rattle.stored_vars.specs.declared.variable.StoredVar.{StoredVar}
use Rattle.stored_vars.specs.declared.variable.StoredVar.TheVariants.{Device, Progress}
use Rattle.stored_vars.specs.declared.variable.StoredVar.TheVariants.{CapsuleMax, CapsuleLast}
use Rattle.stored_vars.specs.declared.variable.StoredVar.TheVariants.{Outcome}
use Rattle.stored_vars.proofs.Frames.{AreVariables, Edit, change_of, is_same, told, told_joined}
use Rattle.stored_vars.proofs.Frames.{variables_joined}
use Rattle.stored_vars.proofs.Frames.Edit.{Sets}
use Rattle.var_log.specs.Changes.{Variables}

-- ---- the parts of the batch

-- the bytes of the record of the device on which an element ended
abbrev pub device_bytes : BoardValue → Variables → Element → End → List ℕ
device_bytes board variables e end = record_bytes (record {
  state = state_after e end (device_of board variables e.key.device);
  claim = None;
})

abbrev pub device_part : BoardValue → Variables → Element → Option End → List Edit
device_part board variables e None = []
device_part board variables e (Some end) =
    Sets (Device e.key.device) (device_bytes board variables e end) ∷ []

-- the bytes of the result of an element that was closed
abbrev pub outcome_bytes : BoardValue → Element → Option End → EfiTime → List ℕ
outcome_bytes board e end at = result_bytes (record {
  guid = e.capsule;
  time = at;
  status = status_with e.kind end;
  fmp = fmp_part board e e.kind;
})

abbrev pub greatest_part : BoardValue → Option (List ℕ) → List Edit
greatest_part board None = Sets CapsuleMax (last_bytes board.result_max) ∷ []
greatest_part board (Some bytes) = []

-- the bytes of progress with the unit of an element
abbrev pub entered_bytes : Variables → Element → List ℕ
entered_bytes variables e = progress_bytes
    (with_units (progress_of variables) e.key.ticket.serial (min (e.key.unit + 1) (2 ^ 32 - 1)))

abbrev pub progress_part : Variables → Element → Bool → List Edit
progress_part variables e file = cond file (Sets Progress (entered_bytes variables e) ∷ []) []

-- all of it
abbrev pub close_edits : BoardValue → Variables → Element → Option End → EfiTime
    → Option (List ℕ) → Bool → List Edit
close_edits board variables e end at greatest file =
    device_part board variables e end
    ++ (Sets (Outcome (next_result board variables)) (outcome_bytes board e end at)
    ∷ (greatest_part board greatest
    ++ (Sets CapsuleLast (last_bytes (next_result board variables))
    ∷ progress_part variables e file)))

-- ---- these are the changes

parts_are : (board : BoardValue) (variables : Variables) (e : Element) (at : EfiTime)
    (end : Option End) (greatest : Option (List ℕ)) (file : Bool)
    → device_changes board variables e end
    ++ (set_of (Outcome (next_result board variables)) (outcome_bytes board e end at)
    ∷ (greatest_changes board greatest
    ++ (set_of CapsuleLast (last_bytes (next_result board variables))
    ∷ cond file (set_of Progress (entered_bytes variables e) ∷ []) [])))
    ≡ map change_of (close_edits board variables e end at greatest file)
parts_are board variables e at None None true = refl
parts_are board variables e at None None false = refl
parts_are board variables e at None (Some bytes) true = refl
parts_are board variables e at None (Some bytes) false = refl
parts_are board variables e at (Some end) None true = refl
parts_are board variables e at (Some end) None false = refl
parts_are board variables e at (Some end) (Some bytes) true = refl
parts_are board variables e at (Some end) (Some bytes) false = refl

pub close_is : (board : BoardValue) (variables : Variables) (e : Element) (end : Option End)
    (at : EfiTime) → e.standing ≡ Closed end at
    → close_changes board variables e
    ≡ map change_of (close_edits board variables e end at (bytes_in variables CapsuleMax)
    (e.key.ticket.route == 1))
close_is board variables e end at closed_at =
    ap (λ s. device_changes board variables e (end_in s)
    ++ (result_changes (result_at board (next_result board variables) e s)
    ++ (greatest_changes board (bytes_in variables CapsuleMax)
    ++ (set_of CapsuleLast (last_bytes (next_result board variables))
    ∷ progress_changes variables e.key)))) closed_at
    ∙ parts_are board variables e at end (bytes_in variables CapsuleMax)
    (e.key.ticket.route == 1)

-- ---- what is read

module _ (board : BoardValue) (variables : Variables) (e : Element) (end : Option End)
    (at : EfiTime) (greatest : Option (List ℕ)) (file : Bool) where
  es : List Edit
  es = close_edits board variables e end at greatest file

  -- its variables are within their limits
  pub close_within : ((c : End) → end ≡ Some c → is_variable (Device e.key.device) ≡ true)
      → is_variable (Outcome (next_result board variables)) ≡ true
      → AreVariables (close_edits board variables e end at greatest file)
  close_within device outcome =
      variables_joined (device_part board variables e end) _ (of_device end device) (
        outcome,
        variables_joined (greatest_part board greatest) _ (of_greatest greatest)
            (refl, of_progress file),
      )
    where
      of_device : (c : Option End)
          → ((d : End) → c ≡ Some d → is_variable (Device e.key.device) ≡ true)
          → AreVariables (device_part board variables e c)
      of_device None h = tt
      of_device (Some d) h = (h d refl, tt)

      of_greatest : (o : Option (List ℕ)) → AreVariables (greatest_part board o)
      of_greatest None = (refl, tt)
      of_greatest (Some bytes) = tt

      of_progress : (b : Bool) → AreVariables (progress_part variables e b)
      of_progress true = (refl, tt)
      of_progress false = tt

  -- part by part
  told_close : (w : StoredVar) (b : Option (List ℕ))
      → told (close_edits board variables e end at greatest file) w b
      ≡ told (progress_part variables e file) w
      (cond (is_same CapsuleLast w) (Some (last_bytes (next_result board variables)))
      (told (greatest_part board greatest) w
      (cond (is_same (Outcome (next_result board variables)) w)
      (Some (outcome_bytes board e end at)) (told (device_part board variables e end) w b))))
  told_close w b =
      told_joined (device_part board variables e end)
      (Sets (Outcome (next_result board variables)) (outcome_bytes board e end at)
      ∷ (greatest_part board greatest
      ++ (Sets CapsuleLast (last_bytes (next_result board variables))
      ∷ progress_part variables e file))) w b
      ∙ told_joined (greatest_part board greatest)
      (Sets CapsuleLast (last_bytes (next_result board variables))
      ∷ progress_part variables e file) w
      (cond (is_same (Outcome (next_result board variables)) w)
      (Some (outcome_bytes board e end at)) (told (device_part board variables e end) w b))

  device_off : (w : StoredVar) (b : Option (List ℕ)) → ((d : ℕ) → is_same (Device d) w ≡ false)
      → told (device_part board variables e end) w b ≡ b
  device_off w b off = by_end end
    where
      by_end : (c : Option End) → told (device_part board variables e c) w b ≡ b
      by_end None = refl
      by_end (Some d) =
          ap (λ t. cond t (Some (device_bytes board variables e d)) b) (off e.key.device)

  greatest_off : (w : StoredVar) (b : Option (List ℕ)) → is_same CapsuleMax w ≡ false
      → told (greatest_part board greatest) w b ≡ b
  greatest_off w b off = by_greatest greatest
    where
      by_greatest : (o : Option (List ℕ)) → told (greatest_part board o) w b ≡ b
      by_greatest None = ap (λ t. cond t (Some (last_bytes board.result_max)) b) off
      by_greatest (Some bytes) = refl

  progress_off : (w : StoredVar) (b : Option (List ℕ)) → is_same Progress w ≡ false
      → told (progress_part variables e file) w b ≡ b
  progress_off w b off = by_file file
    where
      by_file : (t : Bool) → told (progress_part variables e t) w b ≡ b
      by_file true = ap (λ t. cond t (Some (entered_bytes variables e)) b) off
      by_file false = refl

  -- variables that the batch does not name
  pub close_beside : (w : StoredVar) (b : Option (List ℕ))
      → ((d : ℕ) → is_same (Device d) w ≡ false)
      → ((n : ℕ) → is_same (Outcome n) w ≡ false) → is_same CapsuleMax w ≡ false
      → is_same CapsuleLast w ≡ false → is_same Progress w ≡ false
      → told (close_edits board variables e end at greatest file) w b ≡ b
  close_beside w b no_device no_outcome no_max no_last no_progress =
      told_close w b
      ∙ progress_off w _ no_progress
      ∙ ap (λ t. cond t (Some (last_bytes (next_result board variables)))
      (told (greatest_part board greatest) w
      (cond (is_same (Outcome (next_result board variables)) w)
      (Some (outcome_bytes board e end at)) (told (device_part board variables e end) w b))))
      no_last
      ∙ greatest_off w _ no_max
      ∙ ap (λ t. cond t (Some (outcome_bytes board e end at))
      (told (device_part board variables e end) w b)) (no_outcome (next_result board variables))
      ∙ device_off w b no_device

  pub close_device : (d : ℕ) (b : Option (List ℕ))
      → told (close_edits board variables e end at greatest file) (Device d) b
      ≡ told (device_part board variables e end) (Device d) b
  close_device d b =
      told_close (Device d) b
      ∙ progress_off (Device d) _ refl
      ∙ greatest_off (Device d) _ refl

  pub close_outcome : (n : ℕ) (b : Option (List ℕ))
      → told (close_edits board variables e end at greatest file) (Outcome n) b
      ≡ cond (next_result board variables == n) (Some (outcome_bytes board e end at)) b
  close_outcome n b =
      told_close (Outcome n) b
      ∙ progress_off (Outcome n) _ refl
      ∙ greatest_off (Outcome n) _ refl
      ∙ ap (cond (next_result board variables == n) (Some (outcome_bytes board e end at)))
      (device_off (Outcome n) b (λ d. refl))

  pub close_greatest : (b : Option (List ℕ))
      → told (close_edits board variables e end at greatest file) CapsuleMax b
      ≡ told (greatest_part board greatest) CapsuleMax b
  close_greatest b =
      told_close CapsuleMax b
      ∙ progress_off CapsuleMax _ refl
      ∙ ap (told (greatest_part board greatest) CapsuleMax) (device_off CapsuleMax b (λ d. refl))

  pub close_last : (b : Option (List ℕ))
      → told (close_edits board variables e end at greatest file) CapsuleLast b
      ≡ Some (last_bytes (next_result board variables))
  close_last b = told_close CapsuleLast b ∙ progress_off CapsuleLast _ refl

  pub close_progress : (b : Option (List ℕ))
      → told (close_edits board variables e end at greatest file) Progress b
      ≡ told (progress_part variables e file) Progress b
  close_progress b =
      told_close Progress b
      ∙ ap (told (progress_part variables e file) Progress)
      (greatest_off Progress _ refl ∙ device_off Progress b (λ d. refl))
