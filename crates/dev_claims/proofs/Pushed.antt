-- What the parts of a batch that closes a unit come to.
use Rattle.std.proofs.Common.{◌≡◌, ◌≤◌, ◌+◌, ◌-◌, ◌*◌, ◌^◌, ℕ, cond, min, Bool, true, false, ◌||◌}
use Rattle.std.proofs.Common.{◌&&◌, ◌==◌, nat_le, List, [], ◌∷◌}
use Rattle.std.proofs.Common.{◌++◌, length, arith, refl, append_assoc, sym, ap, ◌∙◌, Option, Some}
use Rattle.std.proofs.Common.{None}
use Rattle.std.proofs.lemmas.Bool.{and_parts}
use Rattle.std.proofs.lemmas.Bool.Decides.{nat_tests}
use Rattle.std.proofs.lemmas.List.{length-append}
use Rattle.cu_base.specs.declared.guid.Guid.{Guid}
use Rattle.bench_model.specs.Files.{is_file_name}
use Rattle.report_tables.specs.Results.{fmp_bytes}
use Rattle.report_tables.specs.Units.{unit_bytes}
use Rattle.report_tables.proofs.UnitLemmas.{length-unit_bytes}
use Rattle.stored_vars.specs.Records.{is_key_name}
use Rattle.bench_model.specs.Boards.{BoardValue}
use Rattle.cu_base.specs.declared.device_state.DevState.{DevState}
use Rattle.cu_base.specs.declared.status.EfiStatus.{EfiStatus}
use Rattle.cu_base.specs.declared.time.EfiTime.{EfiTime}
use Rattle.dev_claims.specs.ClosedBy.{element_with}
use Rattle.dev_claims.specs.Units.{close_changes, device_changes, greatest_changes, next_result}
use Rattle.dev_claims.specs.Units.{progress_changes, result_changes, state_with, with_units}
use Rattle.reference_machine.specs.Spent.{Element, end_of}
use Rattle.reference_machine.specs.declared.snapshot.CapsuleResult.{CapsuleResult}
use Rattle.stored_vars.specs.Last.{last_bytes}
use Rattle.stored_vars.specs.Progress.{progress_bytes}
use Rattle.dev_claims.specs.declared.closing.UnitIds.{UnitIds}
use Rattle.reference_machine.specs.Results.{fmp_part, result_at, status_with}
use Rattle.reference_machine.specs.declared.unit.End.{End}
use Rattle.reference_machine.specs.declared.unit.UnitLine.{UnitLine}
use Rattle.report_tables.specs.Results.{result_bytes}
use Rattle.report_tables.specs.declared.result.FmpResult.{FmpResult}
use Rattle.stored_vars.specs.Edits.{set_of}
use Rattle.stored_vars.specs.Holds.{bytes_in, device_of, progress_of}
use Rattle.stored_vars.specs.Records.{record_bytes}
use Rattle.stored_vars.specs.declared.variable.StoredVar.TheVariants.{CapsuleLast, CapsuleMax}
use Rattle.stored_vars.specs.declared.variable.StoredVar.TheVariants.{Device, Outcome, Progress}
use Rattle.var_log.specs.Changes.{Variables}
use Rattle.var_log.specs.declared.change.Change.{Change}

-- the record of a device on which an image of this version and floor ended
abbrev pub ended_bytes : DevState → ℕ → ℕ → End → List ℕ
ended_bytes old version floor end = record_bytes (record {
  state = state_with version floor end old;
  claim = None;
})

-- a batch with one more set of it has the record of the device of a unit that ended
pub device_pushed : (board : BoardValue) (variables : Variables) (line : UnitLine) (floor : ℕ)
    (end : Option End) (of : End) (old : DevState) (value : List ℕ) (c : Change)
    (batch new : List Change) → new ≡ batch ++ c ∷ [] → c ≡ set_of (Device line.key.device) value
    → value ≡ ended_bytes old line.version floor of
    → old ≡ device_of board variables line.key.device → end ≡ Some of
    → (ids : UnitIds) (now : EfiTime)
    → new ≡ batch ++ device_changes board variables (element_with line floor ids now) end
device_pushed board variables line floor end of old value c batch new made is bytes state e ids
    now =
    made ∙ ap (λ d. batch ++ d ∷ []) is
    ∙ ap (λ b. batch ++ set_of (Device line.key.device) b ∷ []) bytes
    ∙ ap (λ s. batch ++ set_of (Device line.key.device)
    (ended_bytes s line.version floor of) ∷ []) state
    ∙ sym (ap (λ o. batch ++ device_changes board variables (element_with line floor ids now) o) e)

-- a batch with one more set of it has the result of a unit
pub result_pushed : (board : BoardValue) (number : ℕ) (line : UnitLine) (floor : ℕ) (ids : UnitIds)
    (now : EfiTime) (part : Option FmpResult) (value : List ℕ) (c : Change)
    (batch new : List Change) → new ≡ batch ++ c ∷ [] → c ≡ set_of (Outcome number) value
    → value ≡ result_bytes (record {
      guid = ids.capsule;
      time = now;
      status = line.status;
      fmp = part;
    })
    → line.status ≡ status_with line.kind line.end
    → part ≡ fmp_part board (element_with line floor ids now) line.kind
    → new ≡ batch ++ result_changes (result_at board number (element_with line floor ids now)
    (element_with line floor ids now).standing)
result_pushed board number line floor ids now part value c batch new made is bytes status same =
    made ∙ ap (λ d. batch ++ d ∷ []) is
    ∙ ap (λ b. batch ++ set_of (Outcome number) b ∷ []) bytes
    ∙ ap (λ (s : EfiStatus). batch ++ set_of (Outcome number) (result_bytes (record {
      guid = ids.capsule;
      time = now;
      status = s;
      fmp = part;
    })) ∷ []) status
    ∙ ap (λ (p : Option FmpResult). batch ++ set_of (Outcome number) (result_bytes (record {
      guid = ids.capsule;
      time = now;
      status = status_with line.kind line.end;
      fmp = p;
    })) ∷ []) same

-- the name in a key is short
pub short_name : (name : List ℕ) → is_key_name name ≡ true → length name ≤ 40
short_name name is = by_test (length name == 0) (is_file_name name) refl refl is
  where
    by_test : (a b : Bool) → (length name == 0) ≡ a → is_file_name name ≡ b → (a || b) ≡ true
        → length name ≤ 40
    by_test true b ea eb h = grind (arith, nat_tests)
    by_test false true ea eb h =
        let low : (nat_le 1 (length name) && nat_le (length name) 40) ≡ true =
        (and_parts (nat_le 1 (length name) && nat_le (length name) 40) _ eb).0 in
        let most = (and_parts (nat_le 1 (length name)) (nat_le (length name) 40) low).1 in
        grind (arith, nat_tests)
    by_test false false ea eb h = absurd cc

-- the part on a payload of short texts is short
pub short_part : (payload index : ℕ) (guid : Guid) (file target : List ℕ)
    → length guid.bytes ≤ 16 → length file ≤ 40 → length target ≤ 16
    → length (fmp_bytes (Some (record {
      payload = payload;
      index = index;
      type_id = guid;
      file = file;
      target = target;
    }))) ≤ 400
short_part payload index guid file target id low_file low_target =
    let files : length (unit_bytes file) ≡ 2 * length file + 2 = length-unit_bytes file in
    let targets : length (unit_bytes target) ≡ 2 * length target + 2 = length-unit_bytes target in
    let first : length (guid.bytes ++ unit_bytes file)
    ≡ length guid.bytes + length (unit_bytes file) =
    length-append guid.bytes (unit_bytes file) in
    let all : length ((guid.bytes ++ unit_bytes file) ++ unit_bytes target)
    ≡ length (guid.bytes ++ unit_bytes file) + length (unit_bytes target) =
    length-append (guid.bytes ++ unit_bytes file) (unit_bytes target) in
    omega arith

-- the parts of a batch, one behind another, where two of them go by the number of the result
pub close_made : (d : List Change) (r : ℕ → List Change) (g : List Change) (l : ℕ → Change)
    (p : List Change) (n m : ℕ) (c : Change) (b0 b1 b2 b3 b4 new : List Change) → b0 ≡ []
    → b1 ≡ b0 ++ d → b2 ≡ b1 ++ r n → b3 ≡ b2 ++ g → b4 ≡ b3 ++ c ∷ [] → c ≡ l n
    → new ≡ b4 ++ p → n ≡ m → new ≡ d ++ (r m ++ (g ++ (l m ∷ p)))
close_made d r g l p n m c b0 b1 b2 b3 b4 new e0 e1 e2 e3 e4 is made number =
    made ∙ ap (λ b. b ++ p) e4 ∙ append_assoc b3 (c ∷ []) p
    ∙ ap (λ b. b ++ (c ∷ p)) e3 ∙ append_assoc b2 g (c ∷ p)
    ∙ ap (λ b. b ++ (g ++ (c ∷ p))) e2 ∙ append_assoc b1 (r n) (g ++ (c ∷ p))
    ∙ ap (λ b. b ++ (r n ++ (g ++ (c ∷ p)))) (e1 ∙ ap (λ b. b ++ d) e0)
    ∙ ap (λ x. d ++ (r n ++ (g ++ (x ∷ p)))) is
    ∙ ap (λ k. d ++ (r k ++ (g ++ (l k ∷ p)))) number

few_joined : {X : Type 0} (d r g p : List X) (last : X) → length d ≤ 1 → length r ≤ 1
    → length g ≤ 1 → length p ≤ 1 → length (d ++ (r ++ (g ++ (last ∷ p)))) ≤ 8
few_joined d r g p last one two three four =
    let a : length (g ++ (last ∷ p)) ≡ length g + length (last ∷ p) =
    length-append g (last ∷ p) in
    let b : length (r ++ (g ++ (last ∷ p))) ≡ length r + length (g ++ (last ∷ p)) =
    length-append r (g ++ (last ∷ p)) in
    let c : length (d ++ (r ++ (g ++ (last ∷ p)))) ≡ length d + length (r ++ (g ++ (last ∷ p))) =
    length-append d (r ++ (g ++ (last ∷ p))) in
    omega arith

-- a unit is closed by few changes
pub close_few : (board : BoardValue) (variables : Variables) (e : Element)
    → length (close_changes board variables e) ≤ 8
close_few board variables e =
    few_joined (device_changes board variables e (end_of e))
    (result_changes (result_at board (next_result board variables) e e.standing))
    (greatest_changes board (bytes_in variables CapsuleMax)) (progress_changes variables e.key)
    (set_of CapsuleLast (last_bytes (next_result board variables))) (few_device (end_of e))
    (few_result (result_at board (next_result board variables) e e.standing))
    (few_greatest (bytes_in variables CapsuleMax)) (few_progress (e.key.ticket.route == 1))
  where
    few_device : (end : Option End) → length (device_changes board variables e end) ≤ 1
    few_device None = omega arith
    few_device (Some end) = omega arith

    few_result : (r : Option CapsuleResult) → length (result_changes r) ≤ 1
    few_result None = omega arith
    few_result (Some r) = omega arith

    few_greatest : (o : Option (List ℕ)) → length (greatest_changes board o) ≤ 1
    few_greatest None = omega arith
    few_greatest (Some bytes) = omega arith

    few_progress : (t : Bool) → length (cond t
        (set_of Progress (progress_bytes (with_units (progress_of variables) e.key.ticket.serial
        (min (e.key.unit + 1) (2 ^ 32 - 1)))) ∷ []) []) ≤ 1
    few_progress true = omega arith
    few_progress false = omega arith
