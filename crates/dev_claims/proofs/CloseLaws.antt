-- A batch that closes a unit leaves the variables of the machine with it closed.
use Rattle.std.proofs.Common.{◌≡◌, ℕ, ◌+◌, ◌-◌, ◌<◌, ◌≤◌, ◌^◌, ◌==◌, Bool, true, false, ◌&&◌, ◌||◌}
use Rattle.std.proofs.Common.{cond, List, [], ◌∷◌, ◌++◌, filter, find, length, map, max, min}
use Rattle.std.proofs.Common.{Option}
use Rattle.std.proofs.Common.{Some, None, option_map, unwrap_or, refl, sym, ap, ◌∙◌, subst, arith}
use Rattle.std.specs.List.{list_any}
use Rattle.std.specs.Prelude.{option_and_then}
use Rattle.std.proofs.Math.Nat.{mod-lt}
use Rattle.std.proofs.lemmas.Bool.{eqb-true, ne_eqb}
use Rattle.bench_model.specs.Boards.{BoardValue, IsBoard}
use Rattle.cu_base.specs.declared.device_state.DevState.{DevState}
use Rattle.cu_base.specs.declared.time.EfiTime.{EfiTime}
use Rattle.report_tables.specs.Names.{number_behind}
use Rattle.report_tables.specs.Results.{result_bytes}
use Rattle.reference_machine.specs.Boots.{progress_with, staged_in_order}
use Rattle.reference_machine.specs.Machine.{Machine}
use Rattle.reference_machine.specs.Results.{attempt_status, last_result, result_at, result_number}
use Rattle.reference_machine.specs.Results.{state_of}
use Rattle.reference_machine.specs.Spent.{Element, is_closed, is_on, is_open}
use Rattle.reference_machine.specs.Spent.{is_standing_open, spent}
use Rattle.reference_machine.specs.Spent.Standing.{Closed}
use Rattle.reference_machine.specs.declared.snapshot.CapsuleResult.{CapsuleResult}
use Rattle.reference_machine.specs.declared.unit.End.{End}
use Rattle.reference_machine.specs.declared.unit.End.TheVariants.{Refused, Sealed, Kept, Lost}
use Rattle.reference_machine.proofs.Lists.{NoneOpen}
use Rattle.dev_claims.specs.Next.{MayEnd}
use Rattle.dev_claims.specs.Units.{close_changes, next_result, state_after, with_units}
use Rattle.dev_claims.proofs.CloseEdits.{close_beside, close_device, close_edits, close_greatest}
use Rattle.dev_claims.proofs.CloseEdits.{close_is, close_last, close_outcome, close_progress}
use Rattle.dev_claims.proofs.CloseEdits.{close_within, device_bytes, device_part, greatest_part}
use Rattle.dev_claims.proofs.CloseEdits.{outcome_bytes, progress_part}
use Rattle.dev_claims.proofs.Entered.{found_with, put_of, stored_with, with_entries}
use Rattle.dev_claims.proofs.OneMore.{greatest_closed, last_closed, next_is, result_closed}
use Rattle.dev_claims.proofs.OneMore.{spent_closed, state_beside, state_on}
use Rattle.stored_vars.specs.Holds.{bytes_in, claim_of, device_of, factory_state, indications_of}
use Rattle.stored_vars.specs.Holds.{last_result_of, last_staged_of, progress_of, result_of}
use Rattle.stored_vars.specs.Holds.{staged_of}
use Rattle.stored_vars.specs.Last.{last_bytes, last_in}
use Rattle.stored_vars.specs.Progress.{IsProgress, units_among}
use Rattle.stored_vars.specs.Records.{IsRecord, IsState, record_bytes, record_in, state_in}
use Rattle.stored_vars.specs.Stands.{Holds, claim_for, claim_on, greatest_on, result_on}
use Rattle.stored_vars.specs.Stands.{units_kept}
use Rattle.stored_vars.specs.Variables.{is_variable}
use Rattle.stored_vars.specs.declared.claim.DevRec.{DevRec}
use Rattle.stored_vars.specs.declared.progress.ProgressEntry.{ProgressEntry}
use Rattle.stored_vars.specs.declared.variable.StoredVar.{StoredVar}
use Rattle.stored_vars.specs.declared.variable.StoredVar.TheVariants.{Device, Progress, Serial}
use Rattle.stored_vars.specs.declared.variable.StoredVar.TheVariants.{Stage, OsIndications}
use Rattle.stored_vars.specs.declared.variable.StoredVar.TheVariants.{CapsuleMax, CapsuleLast}
use Rattle.stored_vars.specs.declared.variable.StoredVar.TheVariants.{Outcome}
use Rattle.stored_vars.proofs.Alike.{asked_alike, claim_alike, device_alike, entries_alike}
use Rattle.stored_vars.proofs.Alike.{serial_alike, staged_alike, units_alike}
use Rattle.stored_vars.proofs.Entries.{entries_read, found}
use Rattle.stored_vars.proofs.Frames.{AllPlatforms, AreVariables, Edit, change_of, platforms_after}
use Rattle.stored_vars.proofs.Frames.{is_same, read_after, told}
use Rattle.stored_vars.proofs.Kept.{device_within, result_low, result_within, stage_within}
use Rattle.stored_vars.proofs.OtherLaws.{last_again}
use Rattle.stored_vars.proofs.RecordLaws.{record_again, state_read}
use Rattle.var_log.specs.Changes.{Variables, after}

-- an element that is about to stand behind a list, and variables that hold the machine with that
-- list; `front` has none open
pub record Closes (variables : Variables) (m : Machine) (front : List Element) (e : Element)
    (end : Option End) (at : EfiTime) : Type 0 where
  pub board : IsBoard m.board
  pub none : NoneOpen front
  pub closed_at : e.standing ≡ Closed end at
  pub ends : MayEnd m.board e end
  pub devices : (d : ℕ) → d < length m.board.devices
      → device_of m.board variables d ≡ state_of m.board front d
  pub unclaimed : (d : ℕ) → d < length m.board.devices → is_on d e ≡ false
      → claim_of variables d ≡ None
  pub results : (n : ℕ) → n ≤ m.board.result_max
      → result_of variables n ≡ result_on m.board front n
  pub greatest : bytes_in variables CapsuleMax ≡ greatest_on m.board front
  pub last : last_result_of variables ≡ last_result m.board front
  pub staged : staged_of variables ≡ staged_in_order m
  pub serial : last_staged_of variables ≡ m.last_staged
  pub asked : indications_of variables ≡ cond m.is_signalled 4 0
  pub progress : (serial : ℕ) → units_kept variables serial
      ≡ cond (list_any (λ s. s == serial) m.in_progress) (Some (spent front serial)) None
  pub others : AllPlatforms variables
  pub entries : IsProgress (progress_of variables)
  pub unit : e.key.ticket.route ≡ 1 → e.key.unit ≡ spent front e.key.ticket.serial
  pub few : e.key.unit + 1 < 2 ^ 32
  pub low : e.key.ticket.serial < 2 ^ 64
  pub version : e.version < 2 ^ 32
  pub floor : e.floor < 2 ^ 32
  pub state : e.key.device < length m.board.devices
      → IsState (state_of m.board front e.key.device)

-- ---- small facts

-- no claim is open where no element is
pub no_claim : (list : List Element) (d : ℕ) → NoneOpen list → claim_on list d ≡ None
no_claim list d none = ap (option_map claim_for) (none_found list none)
  where
    none_found : (es : List Element) → NoneOpen es → find (λ e. is_open e && is_on d e) es ≡ None
    none_found [] h = refl
    none_found (e ∷ es) h =
        ap (λ b. cond (b && is_on d e) (Some e) (find (λ x. is_open x && is_on d x) es)) h.0
        ∙ none_found es h.1

closed_more : (front : List Element) (e : Element) → NoneOpen front → is_open e ≡ false
    → NoneOpen (front ++ e ∷ [])
closed_more [] e none h = (h, tt)
closed_more (x ∷ xs) e none h = (none.0, closed_more xs e none.1 h)

state_wide : (e : Element) (end : End) (s : DevState) → IsState s → e.version < 2 ^ 32
    → e.floor < 2 ^ 32 → attempt_status end < 2 ^ 32 → IsState (state_after e end s)
state_wide e (Refused status) s is v f h = record {
  version = is.version;
  floor = is.floor;
  last_version = v;
  last_status = h;
}
state_wide e Sealed s is v f h = record {
  version = v;
  floor = omega (arith, is.floor, f);
  last_version = v;
  last_status = h;
}
state_wide e Kept s is v f h = record {
  version = is.version;
  floor = is.floor;
  last_version = v;
  last_status = h;
}
state_wide e Lost s is v f h = record {
  version = omega arith;
  floor = is.floor;
  last_version = v;
  last_status = h;
}

-- the record of a device is read from what was set
pub record_set : (board : BoardValue) (new : Variables) (d : ℕ) (r : DevRec) → IsRecord d r
    → bytes_in new (Device d) ≡ Some (record_bytes r)
    → (device_of board new d ≡ r.state) × (claim_of new d ≡ r.claim)
record_set board new d r is e = (
  ap (λ b. unwrap_or (option_and_then state_in b) (factory_state board d)) e
      ∙ ap (λ o. unwrap_or o (factory_state board d))
      (state_read d (record_bytes r)
      ∙ ap (option_map (λ (x : DevRec). x.state)) (record_again d r is)),
  ap (λ b. option_and_then (λ (x : DevRec). x.claim) (option_and_then (record_in d) b)) e
      ∙ ap (option_and_then (λ (x : DevRec). x.claim)) (record_again d r is),
)

-- the name of the greatest result, stored before or now
greatest_set : (board : BoardValue) (o : Option (List ℕ)) (some : Bool)
    → o ≡ cond some (Some (last_bytes board.result_max)) None
    → told (greatest_part board o) CapsuleMax o ≡ Some (last_bytes board.result_max)
greatest_set board None some e = refl
greatest_set board (Some b) true e = e
greatest_set board (Some b) false e = absurd cc

-- ---- the new variables

module _ (variables : Variables) (m : Machine) (front : List Element) (e : Element)
    (end : Option End) (at : EfiTime) (c : Closes variables m front e end at) where
  count : ℕ
  count = length (filter is_closed front)

  next_eq : next_result m.board variables ≡ result_number m.board (length (filter is_closed front))
  next_eq = ap (λ o. number_behind o m.board.result_max) c.last ∙ next_is m.board front

  next_low : next_result m.board variables ≤ m.board.result_max
  next_low =
      let below : result_number m.board (length (filter is_closed front)) < m.board.result_max + 1 =
      mod-lt (length (filter is_closed front)) (omega arith) in
      omega (arith, next_eq, below)

  on_board : (k : End) → end ≡ Some k → e.key.device < length m.board.devices
  on_board k is = by_end end is c.ends
    where
      by_end : (o : Option End) → o ≡ Some k → MayEnd m.board e o
          → e.key.device < length m.board.devices
      by_end None h ends = absurd cc
      by_end (Some x) h ends = ends.0

  abbrev es : List Edit
  es = close_edits m.board variables e end at (bytes_in variables CapsuleMax)
      (e.key.ticket.route == 1)

  abbrev new : Variables
  new = after variables (map change_of es)

  within : AreVariables es
  within =
      close_within m.board variables e end at (bytes_in variables CapsuleMax)
      (e.key.ticket.route == 1)
      (λ k is. device_within m.board e.key.device c.board (on_board k is))
      (result_within m.board (next_result m.board variables) c.board next_low)

  read : (w : StoredVar) → is_variable w ≡ true
      → bytes_in new w ≡ told es w (bytes_in variables w)
  read w is = read_after variables es w within is

  device_read : (d : ℕ) → d < length m.board.devices
      → bytes_in new (Device d)
      ≡ told (device_part m.board variables e end) (Device d) (bytes_in variables (Device d))
  device_read d low =
      read (Device d) (device_within m.board d c.board low)
      ∙ close_device m.board variables e end at (bytes_in variables CapsuleMax)
      (e.key.ticket.route == 1) d (bytes_in variables (Device d))

  -- state and claim of a device
  abbrev Device_is : ℕ → Type 0
  Device_is d =
      (device_of m.board new d ≡ state_of m.board (front ++ e ∷ []) d) × (claim_of new d ≡ None)

  device_off : (d : ℕ) → d < length m.board.devices → is_on d e ≡ false
      → bytes_in new (Device d) ≡ bytes_in variables (Device d) → Device_is d
  device_off d low off same = (
    device_alike m.board new variables d same ∙ c.devices d low
        ∙ sym (state_beside front e end at c.closed_at m.board d off),
    claim_alike new variables d same ∙ c.unclaimed d low off,
  )

  device_on : (k : End) → e.standing ≡ Closed (Some k) at → MayEnd m.board e (Some k) → (d : ℕ)
      → e.key.device ≡ d → is_on d e ≡ true
      → bytes_in new (Device d) ≡ Some (device_bytes m.board variables e k) → Device_is d
  device_on k closed_at ends d same on is =
      let r : DevRec = record {
        state = state_after e k (device_of m.board variables e.key.device);
        claim = None;
      } in
      let before : device_of m.board variables e.key.device ≡ state_of m.board front e.key.device =
      c.devices e.key.device ends.0 in
      let wide : IsState r.state =
      state_wide e k (device_of m.board variables e.key.device)
      (subst IsState (sym before) (c.state ends.0)) c.version c.floor ends.1 in
      let parts = record_set m.board new d r (record { state = wide; claim = tt }) is in (
        parts.0 ∙ ap (state_after e k) (before ∙ ap (state_of m.board front) same)
            ∙ sym (state_on m.board front e k at closed_at d on),
        parts.1,
      )

  device_is : (d : ℕ) → d < length m.board.devices → Device_is d
  device_is d low = by_end end c.closed_at c.ends (device_read d low)
    where
      by_on : (k : End) → e.standing ≡ Closed (Some k) at → MayEnd m.board e (Some k)
          → (b : Bool) → (e.key.device == d) ≡ b
          → bytes_in new (Device d) ≡ cond b (Some (device_bytes m.board variables e k))
          (bytes_in variables (Device d)) → Device_is d
      by_on k closed_at ends true on is =
          device_on k closed_at ends d (eqb-true e.key.device d on) on is
      by_on k closed_at ends false off is = device_off d low off is

      by_end : (o : Option End) → e.standing ≡ Closed o at → MayEnd m.board e o
          → bytes_in new (Device d)
          ≡ told (device_part m.board variables e o) (Device d) (bytes_in variables (Device d))
          → Device_is d
      by_end None closed_at ends is =
          device_off d low (ne_eqb e.key.device d (λ k. omega (arith, k, ends, low))) is
      by_end (Some k) closed_at ends is = by_on k closed_at ends (e.key.device == d) refl is

  result_is : (n : ℕ) → n ≤ m.board.result_max
      → result_of new n ≡ result_on m.board (front ++ e ∷ []) n
  result_is n low =
      read (Outcome n) (result_within m.board n c.board low)
      ∙ close_outcome m.board variables e end at (bytes_in variables CapsuleMax)
      (e.key.ticket.route == 1) n (bytes_in variables (Outcome n))
      ∙ ap (λ k. cond (k == n) (Some (outcome_bytes m.board e end at))
      (bytes_in variables (Outcome n))) next_eq
      ∙ ap (λ o. cond (result_number m.board (length (filter is_closed front)) == n) o
      (bytes_in variables (Outcome n)))
      (sym (ap (λ s. option_map (λ (r : CapsuleResult). result_bytes r.variable)
      (result_at m.board n e s)) c.closed_at))
      ∙ ap (cond (result_number m.board (length (filter is_closed front)) == n)
      (option_map (λ (r : CapsuleResult). result_bytes r.variable)
      (result_at m.board n e e.standing))) (c.results n low)
      ∙ sym (result_closed front e end at c.closed_at m.board n low)

  greatest_is : bytes_in new CapsuleMax ≡ greatest_on m.board (front ++ e ∷ [])
  greatest_is =
      read CapsuleMax refl
      ∙ close_greatest m.board variables e end at (bytes_in variables CapsuleMax)
      (e.key.ticket.route == 1) (bytes_in variables CapsuleMax)
      ∙ greatest_set m.board (bytes_in variables CapsuleMax) (list_any is_closed front) c.greatest
      ∙ sym (greatest_closed front e end at c.closed_at m.board)

  last_is : last_result_of new ≡ last_result m.board (front ++ e ∷ [])
  last_is =
      ap (option_and_then last_in)
      (read CapsuleLast refl
      ∙ close_last m.board variables e end at (bytes_in variables CapsuleMax)
      (e.key.ticket.route == 1) (bytes_in variables CapsuleLast))
      ∙ last_again (next_result m.board variables)
      (result_low m.board (next_result m.board variables) c.board next_low)
      ∙ ap Some next_eq
      ∙ sym (last_closed front e end at c.closed_at m.board)

  beside : (w : StoredVar)
      → ((d : ℕ) → is_same (Device d) w ≡ false)
      → ((n : ℕ) → is_same (Outcome n) w ≡ false)
      → is_same CapsuleMax w ≡ false
      → is_same CapsuleLast w ≡ false
      → is_same Progress w ≡ false → is_variable w ≡ true
      → bytes_in new w ≡ bytes_in variables w
  beside w a b x y z is =
      read w is
      ∙ close_beside m.board variables e end at (bytes_in variables CapsuleMax)
      (e.key.ticket.route == 1) w (bytes_in variables w) a b x y z

  -- ---- progress

  abbrev Progress_is : ℕ → Type 0
  Progress_is serial = units_kept new serial
      ≡ cond (list_any (λ s. s == serial) (progress_with m.in_progress e.key))
      (Some (spent (front ++ e ∷ []) serial)) None

  spent_is : (serial : ℕ) → spent (front ++ e ∷ []) serial
      ≡ spent front serial + cond ((e.key.ticket.route == 1) && (e.key.ticket.serial == serial)) 1 0
  spent_is serial = spent_closed front e end at c.closed_at serial

  memory_progress : (e.key.ticket.route == 1) ≡ false
      → bytes_in new Progress ≡ bytes_in variables Progress → (serial : ℕ) → Progress_is serial
  memory_progress off is serial =
      units_alike new variables serial (entries_alike new variables is)
      ∙ c.progress serial
      ∙ ap (λ n. cond (list_any (λ s. s == serial) m.in_progress) (Some n) None)
      (sym (spent_is serial
      ∙ ap (λ b. spent front serial + cond (b && (e.key.ticket.serial == serial)) 1 0) off
      ∙ omega arith))
      ∙ ap (λ l. cond (list_any (λ s. s == serial) l) (Some (spent (front ++ e ∷ []) serial)) None)
      (sym (ap (λ b. cond b (cond (list_any (λ s. s == e.key.ticket.serial) m.in_progress)
      m.in_progress (m.in_progress ++ e.key.ticket.serial ∷ [])) m.in_progress) off))

  -- the units of the file as they are stored
  abbrev units : ℕ
  units = min (e.key.unit + 1) (2 ^ 32 - 1)

  among : units_among (progress_of variables) e.key.ticket.serial
      ≤ spent front e.key.ticket.serial
  among =
      by_there (list_any (λ s. s == e.key.ticket.serial) m.in_progress)
      (units_among (progress_of variables) e.key.ticket.serial)
      (ap (λ o. unwrap_or o 0) (c.progress e.key.ticket.serial))
    where
      by_there : (b : Bool) (n : ℕ)
          → n ≡ unwrap_or (cond b (Some (spent front e.key.ticket.serial)) None) 0
          → n ≤ spent front e.key.ticket.serial
      by_there true n h = omega (arith, h)
      by_there false n h = omega (arith, h)

  entered : (e.key.ticket.route == 1) ≡ true
      → max (units_among (progress_of variables) e.key.ticket.serial)
      (min (e.key.unit + 1) (2 ^ 32 - 1)) ≡ spent front e.key.ticket.serial + 1
  entered file =
      let number : e.key.unit ≡ spent front e.key.ticket.serial =
      c.unit (eqb-true e.key.ticket.route 1 file) in
      omega (arith, number, among, c.few)

  few_entered : (e.key.ticket.route == 1) ≡ true
      → max (units_among (progress_of variables) e.key.ticket.serial)
      (min (e.key.unit + 1) (2 ^ 32 - 1)) < 2 ^ 32
  few_entered file =
      let number : e.key.unit ≡ spent front e.key.ticket.serial =
      c.unit (eqb-true e.key.ticket.route 1 file) in
      omega (arith, number, entered file, c.few)

  file_progress : (e.key.ticket.route == 1) ≡ true
      → progress_of new ≡ with_units (progress_of variables) e.key.ticket.serial units
      → (serial : ℕ) → Progress_is serial
  file_progress file is serial =
      ap (λ (l : List ProgressEntry).
      option_map (λ (x : ProgressEntry). x.units) (found l serial)) is
      ∙ ap (option_map (λ (x : ProgressEntry). x.units))
      (found_with (progress_of variables) e.key.ticket.serial units serial)
      ∙ by_same (e.key.ticket.serial == serial) refl
      ∙ ap (λ n. cond ((e.key.ticket.serial == serial) || list_any (λ s. s == serial) m.in_progress)
      (Some n) None)
      (sym (spent_is serial
      ∙ ap (λ b. spent front serial + cond (b && (e.key.ticket.serial == serial)) 1 0) file))
      ∙ ap (λ b. cond b (Some (spent (front ++ e ∷ []) serial)) None)
      (sym (stored_with m.in_progress e.key serial file))
    where
      by_same : (b : Bool) → (e.key.ticket.serial == serial) ≡ b
          → option_map (λ (x : ProgressEntry). x.units)
          (cond (e.key.ticket.serial == serial)
          (Some (put_of (progress_of variables) e.key.ticket.serial units))
          (found (progress_of variables) serial))
          ≡ cond ((e.key.ticket.serial == serial) || list_any (λ s. s == serial) m.in_progress)
          (Some (spent front serial + cond (e.key.ticket.serial == serial) 1 0)) None
      by_same true same =
          ap (λ t. option_map (λ (x : ProgressEntry). x.units)
          (cond t (Some (put_of (progress_of variables) e.key.ticket.serial units))
          (found (progress_of variables) serial))) same
          ∙ ap Some (entered file
          ∙ ap (λ n. spent front n + 1) (eqb-true e.key.ticket.serial serial same))
          ∙ sym (ap (λ t. cond (t || list_any (λ s. s == serial) m.in_progress)
          (Some (spent front serial + cond t 1 0)) None) same)
      by_same false apart =
          ap (λ t. option_map (λ (x : ProgressEntry). x.units)
          (cond t (Some (put_of (progress_of variables) e.key.ticket.serial units))
          (found (progress_of variables) serial))) apart
          ∙ c.progress serial
          ∙ ap (λ n. cond (list_any (λ s. s == serial) m.in_progress) (Some n) None) (omega arith)
          ∙ sym (ap (λ t. cond (t || list_any (λ s. s == serial) m.in_progress)
          (Some (spent front serial + cond t 1 0)) None) apart)

  progress_is : (serial : ℕ) → Progress_is serial
  progress_is serial =
      by_file (e.key.ticket.route == 1) refl
      (read Progress refl
      ∙ close_progress m.board variables e end at (bytes_in variables CapsuleMax)
      (e.key.ticket.route == 1) (bytes_in variables Progress))
    where
      by_file : (b : Bool) → (e.key.ticket.route == 1) ≡ b
          → bytes_in new Progress
          ≡ told (progress_part variables e b) Progress (bytes_in variables Progress)
          → Progress_is serial
      by_file true file is =
          file_progress file
          (entries_read new (with_units (progress_of variables) e.key.ticket.serial units)
          (with_entries (progress_of variables) e.key.ticket.serial units c.entries c.low
          (few_entered file)) is) serial
      by_file false off is = memory_progress off is serial

  -- ---- all of it

  pub closes_holds : Holds (after variables (close_changes m.board variables e)) (record m {
    list = front ++ e ∷ [];
    in_progress = progress_with m.in_progress e.key;
    batches = m.batches + 1;
  })
  closes_holds =
      let open_no : is_open e ≡ false = ap is_standing_open c.closed_at in
      subst (λ cs. Holds (after variables cs) (record m {
        list = front ++ e ∷ [];
        in_progress = progress_with m.in_progress e.key;
        batches = m.batches + 1;
      })) (sym (close_is m.board variables e end at c.closed_at)) (record {
        devices = λ d low. (device_is d low).0;
        claims = λ d low.
            (device_is d low).1
            ∙ sym (no_claim (front ++ e ∷ []) d (closed_more front e c.none open_no));
        results = result_is;
        greatest = greatest_is;
        last = last_is;
        staged = staged_alike new variables
            (λ k low. beside (Stage k) (λ d. refl) (λ n. refl) refl refl refl (stage_within k low))
            ∙ c.staged;
        serial = serial_alike new variables
            (beside Serial (λ d. refl) (λ n. refl) refl refl refl refl) ∙ c.serial;
        asked = asked_alike new variables
            (beside OsIndications (λ d. refl) (λ n. refl) refl refl refl refl) ∙ c.asked;
        progress = progress_is;
        others = platforms_after variables es within c.others;
      })
