-- A delivery by memory as an event.
use Rattle.std.proofs.Common.{◌≡◌, ◌⊎◌, inl, inr, ℕ, zero, suc, ◌+◌, ◌-◌, ◌^◌, ◌<◌, ◌≤◌, ◌||◌, Bool}
use Rattle.std.proofs.Common.{true, false, List, [], ◌∷◌, ◌++◌, length, refl, sym, ap, subst, ◌∙◌}
use Rattle.std.proofs.Common.{cond, arith, Option, None, Some, nat_le, nat_lt, find}
use Rattle.std.proofs.Common.{filter_map}
use Rattle.std.specs.Prelude.{IfSome, is_none, is_some, option_map, if◌then◌else◌}
use Rattle.std.proofs.lemmas.Bool.Decides.{nat_tests}
use Rattle.std.specs.List.{cons_option, range_with_len}
use Rattle.bench_model.specs.Bench.{BenchValue}
use Rattle.bench_model.specs.Boards.{BoardValue, IsBoard}
use Rattle.bench_model.specs.declared.segment.Segment.{Segment}
use Rattle.cap_boot.specs.Stands.{ReadsAs, Setting}
use Rattle.cap_boot.proofs.Openings.{opened_stores}
use Rattle.delivery_formats.specs.TrueFormats.{true_formats}
use Rattle.reference_machine.specs.Events.{InputBytes, IsIn, Outcome, Step, coalesced_refusal}
use Rattle.reference_machine.specs.Events.{failed}
use Rattle.reference_machine.specs.Events.{in_doubt, opened, plain, stage_done, stage_faults}
use Rattle.reference_machine.specs.Events.{stage_refusal, staging_refusal, with_staged}
use Rattle.reference_machine.specs.Formats.{Formats}
use Rattle.reference_machine.specs.Machine.{Machine}
use Rattle.reference_machine.specs.TraceValues.{AnswerValue}
use Rattle.reference_machine.specs.TraceValues.AnswerValue.{FlashFault, Resources, Serial}
use Rattle.reference_machine.specs.declared.event.Event.TheVariants.{Stage}
use Rattle.reference_machine.specs.declared.limits.TheConstants.{MAX_STAGED}
use Rattle.reference_machine.specs.declared.snapshot.StagedPair.{StagedPair}
use Rattle.reference_machine.proofs.Ordered.{ordered_length}
use Rattle.reference_machine.proofs.Reached.{apart}
use Rattle.scatter_list.specs.Coalesced.{coalesced_of}
use Rattle.stored_vars.specs.Holds.{last_staged_of, pairs_of, staged_at}
use Rattle.stored_vars.specs.Stands.{Holds}
use Rattle.update_inbox.specs.Answers.{NotesOpening}
use Rattle.update_inbox.specs.Batches.{HasStoredRead, MayHaveStored, MayHaveStoredRead}
use Rattle.var_log.specs.Logs.{ChangesBanks}
use Rattle.update_inbox.specs.Staging.{IsDelivery, IsTaken, Takes, free_stage, list_refusal}
use Rattle.update_inbox.specs.Staging.{next_delivery, stage_batch}
use Rattle.update_inbox.specs.declared.staging.Delivery.{Delivery}
use Rattle.update_inbox.proofs.RequestLaws.{full, stage_holds}
use Rattle.var_log.specs.Changes.{Variables}
use Rattle.var_store.specs.Stores.{store_value, variables_of}
use Rattle.bench_play.specs.declared.known.Known.{Known}
use Rattle.bench_play.specs.Happens.{Happens, IsCutOff, IsKnown}
use Rattle.bench_play.proofs.RequestEvents.{HasRows, IsRequest, WasStopped, outside_asked}
use Rattle.bench_play.proofs.RequestEvents.{request_cut, request_done, request_fails}
use Rattle.bench_play.proofs.RequestEvents.{request_refused}

-- ---- how many deliveries wait

most : {X : Type 0} (f : ℕ → Option X) (a n : ℕ)
    → length (filter_map f (range_with_len a n)) ≤ n
most f a zero = omega arith
most {X} f a (suc n) = by_first (f a) (most f (a + 1) n)
  where
    by_first : (o : Option X) → length (filter_map f (range_with_len (a + 1) n)) ≤ n
        → length (cons_option o (filter_map f (range_with_len (a + 1) n))) ≤ suc n
    by_first None le = omega (arith, le)
    by_first (Some x) le = omega (arith, le)

-- where a number of a range is free, fewer come of it
fewer : {X : Type 0} (f : ℕ → Option X) (a n k : ℕ)
    → find (λ j. is_none (f j)) (range_with_len a n) ≡ Some k
    → length (filter_map f (range_with_len a n)) < n
fewer f a zero k h = absurd cc
fewer {X} f a (suc n) k h =
    by_first (f a) refl h (most f (a + 1) n) (λ e. fewer f (a + 1) n k e)
  where
    by_first : (o : Option X) → f a ≡ o
        → cond (is_none o) (Some a) (find (λ j. is_none (f j)) (range_with_len (a + 1) n)) ≡ Some k
        → length (filter_map f (range_with_len (a + 1) n)) ≤ n
        → (find (λ j. is_none (f j)) (range_with_len (a + 1) n) ≡ Some k
        → length (filter_map f (range_with_len (a + 1) n)) < n)
        → length (cons_option o (filter_map f (range_with_len (a + 1) n))) < suc n
    by_first None e q le rest = omega (arith, le)
    by_first (Some x) e q le rest = let lt = rest q in omega (arith, lt)

waiting : (v : Variables) (m : Machine) → Holds v m → length m.staged ≡ length (pairs_of v)
waiting v m h =
    let a = ordered_length (λ (p q : StagedPair). nat_lt p.serial q.serial) (pairs_of v) in
    let b = ordered_length (λ (p q : StagedPair). nat_lt p.serial q.serial) m.staged in
    let c = ap (λ (l : List StagedPair). length l) h.staged in
    omega (arith, a, b, c)

-- no more deliveries are taken
abbrev pub is_full : Machine → Bool
is_full m = nat_le MAX_STAGED (length m.staged) || nat_le (2 ^ 64 - 1) m.last_staged

none_some : {A : Type 0} {x : A} → None ≡ Some x → ⊥
none_some e = cc

module _ (v : Variables) (m : Machine) (address : ℕ) (h : Holds v m) where
  abbrev serial_of : Option Delivery → Option ℕ
  serial_of = option_map (λ d. d.pair.serial)

  abbrev next_of : Bool → Option ℕ → Option Delivery
  next_of last free = if last then None else option_map (λ k. record {
    number = k;
    pair = record { serial = last_staged_of v + 1; address = address };
  }) free

  has_room : (k : ℕ) → free_stage v ≡ Some k → nat_le MAX_STAGED (length m.staged) ≡ false
  has_room k is =
      let lt : length (pairs_of v) < 8 = fewer (staged_at v) 0 8 k is in
      let same = waiting v m h in
      let few : length m.staged < 8 = omega (arith, lt, same) in
      grind (arith, nat_tests, few)

  has_none : free_stage v ≡ None → nat_le MAX_STAGED (length m.staged) ≡ true
  has_none is =
      let all : length (pairs_of v) ≡ 8 = full (staged_at v) 0 8 is in
      let same = waiting v m h in
      let many : 8 ≤ length m.staged = omega (arith, all, same) in
      grind (arith, nat_tests, many)

  last_is : nat_le (2 ^ 64 - 1) (last_staged_of v) ≡ nat_le (2 ^ 64 - 1) m.last_staged
  last_is = ap (nat_le (2 ^ 64 - 1)) h.serial

  some_at : (last : Bool) (free : Option ℕ) (serial : ℕ)
      → nat_le (2 ^ 64 - 1) (last_staged_of v) ≡ last → free_stage v ≡ free
      → serial_of (next_of last free) ≡ Some serial
      → (is_full m ≡ false) × (serial ≡ m.last_staged + 1)
  some_at true free serial at is next = absurd (none_some next)
  some_at false None serial at is next = absurd (none_some next)
  some_at false (Some k) serial at is next =
      let e : last_staged_of v + 1 ≡ serial = cc in (
        ap (λ (b : Bool). b || nat_le (2 ^ 64 - 1) m.last_staged) (has_room k is)
            ∙ sym last_is ∙ at,
        sym e ∙ ap (λ (n : ℕ). n + 1) h.serial,
      )

  -- a delivery that is taken
  pub taken : (serial : ℕ) → serial_of (next_delivery address v) ≡ Some serial
      → (is_full m ≡ false) × (serial ≡ m.last_staged + 1)
  taken serial next = some_at (nat_le (2 ^ 64 - 1) (last_staged_of v)) (free_stage v) serial refl
      refl next

  or_true : (a : Bool) → (a || true) ≡ true
  or_true true = refl
  or_true false = refl

  none_at : (last : Bool) (free : Option ℕ)
      → nat_le (2 ^ 64 - 1) (last_staged_of v) ≡ last → free_stage v ≡ free
      → serial_of (next_of last free) ≡ None → is_full m ≡ true
  none_at true free at is next =
      ap (λ (b : Bool). nat_le MAX_STAGED (length m.staged) || b) (sym last_is ∙ at)
      ∙ or_true (nat_le MAX_STAGED (length m.staged))
  none_at false None at is next =
      ap (λ (b : Bool). b || nat_le (2 ^ 64 - 1) m.last_staged) (has_none is)
  none_at false (Some k) at is next = absurd (none_some (sym next))

  -- none is taken
  pub not_taken : serial_of (next_delivery address v) ≡ None → is_full m ≡ true
  not_taken next = none_at (nat_le (2 ^ 64 - 1) (last_staged_of v)) (free_stage v) refl refl next

-- ---- by the machine that is read

module _ (x : Setting) (formats : x.formats ≡ true_formats) (old : BenchValue) (address : ℕ)
    (m : Machine) (reads : ReadsAs x old.contents m) where
  holds_in : (t : Option ℕ) (takes : Takes address old t) → Holds (variables_of takes.store) m
  holds_in t takes =
      (opened_stores old.contents.bytes (store_value takes.store) m reads.store
      (takes.opened.is reads.told)).variables

  refusal_is : (refusal : Option AnswerValue) → list_refusal old address ≡ refusal
      → stage_refusal x.formats m address ≡ staging_refusal m refusal
  refusal_is refusal is =
      ap (λ (f : Formats). stage_refusal f m address) formats
      ∙ ap (λ (l : List Segment). staging_refusal m (coalesced_refusal (coalesced_of l address)))
      (sym reads.outside.memory)
      ∙ ap (staging_refusal m) is

  by_room : (full : Bool) → is_full m ≡ full
      → staging_refusal m None ≡ (if full then Some Resources else None)
  by_room full is = ap (λ (b : Bool). if b then Some Resources else None) is

  pub refused : (answer : AnswerValue) → list_refusal old address ≡ Some answer
      → stage_refusal x.formats m address ≡ Some answer
  refused answer is = refusal_is (Some answer) is

  pub resources : list_refusal old address ≡ None → Takes address old None
      → stage_refusal x.formats m address ≡ Some Resources
  resources passes takes =
      refusal_is None passes ∙ by_room true
      (not_taken (variables_of takes.store) m address (holds_in None takes) takes.is)

  pub passed : (serial : ℕ) → list_refusal old address ≡ None → Takes address old (Some serial)
      → (stage_refusal x.formats m address ≡ None) × (serial ≡ m.last_staged + 1)
  passed serial passes takes =
      let t = taken (variables_of takes.store) m address (holds_in (Some serial) takes) serial
      takes.is in (refusal_is None passes ∙ by_room false t.0, t.1)

  pub delivered : IsDelivery address old → stage_refusal x.formats m address ≡ None
  delivered d = (passed d.serial d.passes d.takes).0

-- ---- the rows of a delivery

-- a machine takes the delivery at an address
pub record MayStage (x : Setting) (address : ℕ) (m : Machine) : Type 0 where
  pub board : IsBoard m.board
  pub taken : stage_refusal x.formats m address ≡ None

row_unopened : (m : Machine) (address : ℕ) (r : Option AnswerValue)
    → IsIn {X = Outcome} (plain FlashFault, failed m) (stage_faults m address r)
row_unopened m address None = inl refl
row_unopened m address (Some answer) = inl refl

row_opening : (m : Machine) (address : ℕ) (r : Option AnswerValue)
    → IsIn {X = Outcome} (opened m FlashFault, failed m) (stage_faults m address r)
row_opening m address None = inr (inl refl)
row_opening m address (Some answer) = inr (inl refl)

row_doubt : (m : Machine) (address : ℕ) (r : Option AnswerValue)
    → IsIn {X = Outcome} (in_doubt m FlashFault, failed m) (stage_faults m address r)
row_doubt m address None = inr (inr (inl refl))
row_doubt m address (Some answer) = inr (inr (inl refl))

pub stage_rows : (x : Setting) (bytes_of : InputBytes) (address : ℕ) (m : Machine)
    → HasRows x bytes_of (Stage address) m
stage_rows x bytes_of address m = record {
  unopened = inl (inr (row_unopened m address (stage_refusal x.formats m address)));
  opening = inl (inr (row_opening m address (stage_refusal x.formats m address)));
  doubt = inl (inr (row_doubt m address (stage_refusal x.formats m address)));
  cut = inl refl;
}

room_in : (m : Machine) (r : Option AnswerValue) → staging_refusal m r ≡ None → is_full m ≡ false
room_in m (Some answer) is = absurd (none_some (sym is))
room_in m None is = by_full (is_full m) refl is
  where
    by_full : (full : Bool) → is_full m ≡ full → (if full then Some Resources else None) ≡ None
        → is_full m ≡ false
    by_full true at is = absurd (none_some (sym is))
    by_full false at is = at

or_false : (a b : Bool) → (a || b) ≡ false → (a ≡ false) × (b ≡ false)
or_false true b is = absurd (let e : true ≡ false = is in cc)
or_false false b is = (refl, is)

below : (a b : ℕ) → nat_le a b ≡ false → b < a
below a b is = grind (arith, nat_tests)

pub stage_request : (x : Setting) (bytes_of : InputBytes) (address : ℕ) → address < 2 ^ 64
    → (k : Known) (m : Machine) → IsKnown x k m → MayStage x address m
    → IsRequest x bytes_of (Stage address) (stage_batch address) m (with_staged m address)
stage_request x bytes_of address wide k m known may =
    let room = or_false (nat_le MAX_STAGED (length m.staged)) (nat_le (2 ^ 64 - 1) m.last_staged)
    (room_in m (coalesced_refusal (x.formats.coalesced m.memory address)) may.taken) in
    record {
      holds = λ v h. stage_holds v m address may.board (below 8 (length m.staged) room.0)
          (below (2 ^ 64 - 1) m.last_staged room.1)
          (apart x.formats x.board m known.reached).last_staged wide h;
      number = refl;
      outside = λ s o. outside_asked x s m
          (m.staged ++ record { serial = m.last_staged + 1; address = address } ∷ [])
          (m.last_staged + 1) m.is_signalled (m.batches + 1) o;
      now = refl;
      row = inl (inr (subst (λ (r : Option AnswerValue).
          IsIn {X = Outcome} (in_doubt m FlashFault, failed (with_staged m address))
          (stage_faults m address r)) (sym may.taken) (inr (inr (inr (inl refl))))));
      cut = inr (inl (sym (ap (λ (r : Option AnswerValue). (stage_done m address r).1) may.taken)));
    }

-- a delivery that was staged
pub stage_row : (x : Setting) (bytes_of : InputBytes) (address : ℕ) (m : Machine)
    → MayStage x address m
    → Step x.formats bytes_of m (Stage address) (opened m (Serial (m.last_staged + 1)))
    (with_staged m address)
stage_row x bytes_of address m may =
    inl (inl (sym (ap (λ (r : Option AnswerValue). stage_done m address r) may.taken)))

-- a delivery that was refused
pub refused_row : (x : Setting) (bytes_of : InputBytes) (address : ℕ) (m : Machine)
    (answer : AnswerValue) → stage_refusal x.formats m address ≡ Some answer
    → Step x.formats bytes_of m (Stage address) (opened m answer) m
refused_row x bytes_of address m answer is =
    inl (inl (sym (ap (λ (r : Option AnswerValue). stage_done m address r) is)))

-- where a delivery is refused, none is in doubt
pub none_in_doubt : (x : Setting) (old : BenchValue) (address : ℕ) (pending : Option ℕ)
    → IsTaken address old pending
    → ((m : Machine) → ReadsAs x old.contents m → IsDelivery address old → ⊥)
    → IfSome pending (λ number. (m : Machine) → ReadsAs x old.contents m → ⊥)
none_in_doubt x old address None taken never = tt
none_in_doubt x old address (Some number) taken never = λ m reads. never m reads taken

-- what is in doubt was allowed
pub allowed_in_doubt : (x : Setting) (k : Known) (old : BenchValue) (address : ℕ)
    (pending : Option ℕ) (formats : x.formats ≡ true_formats) → IsBoard x.board
    → IsTaken address old pending
    → IfSome pending (λ number. (m : Machine) → IsKnown x k m → ReadsAs x old.contents m
    → MayStage x address m)
allowed_in_doubt x k old address None formats board taken = tt
allowed_in_doubt x k old address (Some number) formats board taken = λ m known reads. record {
  board = subst (λ (b : BoardValue). IsBoard b) (sym reads.outside.board) board;
  taken = delivered x formats old address m reads taken;
}

-- ---- a delivery by its answer

module _ (x : Setting) (bytes_of : InputBytes) (address : ℕ) (wide : address < 2 ^ 64)
    (formats : x.formats ≡ true_formats) (board : IsBoard x.board) (k : Known)
    (old new : BenchValue) (banks : ChangesBanks old new) where
  pub stage_refuses : (answer : AnswerValue) (at pending : Option ℕ) → is_some at ≡ true
      → NotesOpening old at → IfSome at
      (λ seq. MayHaveStoredRead (stage_batch address) pending old new)
      → IsTaken address old pending
      → ((m : Machine) → ReadsAs x old.contents m
      → stage_refusal x.formats m address ≡ Some answer)
      → Happens x bytes_of (Stage address)
      (record { opened = at; pending = None; answer = answer }) k old.contents k new.contents
  stage_refuses answer at pending some notes kept taken refusal =
      request_refused x bytes_of (Stage address) (stage_batch address) k old new banks
      (stage_rows x bytes_of address) (MayStage x address) (λ m. with_staged m address)
      (stage_request x bytes_of address wide k) at pending some notes kept
      (none_in_doubt x old address pending taken (λ m reads d. none_some
      (sym (delivered x formats old address m reads d) ∙ refusal m reads))) answer
      (λ p its reads. refused_row x bytes_of address p answer (refusal p reads))

  pub stage_happens : (serial : ℕ) (at : Option ℕ) → is_some at ≡ true → NotesOpening old at
      → HasStoredRead (stage_batch address) old new → list_refusal old address ≡ None
      → Takes address old (Some serial)
      → Happens x bytes_of (Stage address)
      (record { opened = at; pending = None; answer = Serial serial }) k old.contents k
      new.contents
  stage_happens serial at some notes has passes takes =
      request_done x bytes_of (Stage address) (stage_batch address) k old new banks
      (stage_rows x bytes_of address) (MayStage x address) (λ m. with_staged m address)
      (stage_request x bytes_of address wide k) (λ p. Serial (p.last_staged + 1))
      (λ p its may. stage_row x bytes_of address p may) (λ p f. f) at some notes has
      (Serial serial) (λ p its reads.
      let t = passed x formats old address p reads serial passes takes in (
        record {
          board = subst (λ (b : BoardValue). IsBoard b) (sym reads.outside.board) board;
          taken = t.0;
        },
        ap (λ (n : ℕ). Serial n) t.1,
      ))

  -- what a delivery that was stopped leaves
  stage_stopped : (at pending : Option ℕ) → MayHaveStored (stage_batch address) pending old new
      → IfSome at (λ seq. MayHaveStoredRead (stage_batch address) pending old new)
      → NotesOpening old at
      → (pending ≡ None) ⊎ (pending ≡ option_map (λ n. n + 1) at)
      → IsTaken address old pending
      → WasStopped x bytes_of (Stage address) (stage_batch address) k old new banks
      (stage_rows x bytes_of address) (MayStage x address) (λ m. with_staged m address)
      (stage_request x bytes_of address wide k) at pending
  stage_stopped at pending images kept notes batch taken = record {
    images = images;
    kept = kept;
    opening = notes;
    batch_is = batch;
    allowed = allowed_in_doubt x k old address pending formats board taken;
  }

  pub stage_fails : (at pending : Option ℕ) → MayHaveStored (stage_batch address) pending old new
      → IfSome at (λ seq. MayHaveStoredRead (stage_batch address) pending old new)
      → NotesOpening old at
      → (pending ≡ None) ⊎ (pending ≡ option_map (λ n. n + 1) at)
      → IsTaken address old pending
      → Happens x bytes_of (Stage address)
      (record { opened = at; pending = pending; answer = FlashFault }) k old.contents
      (record k { failed = true }) new.contents
  stage_fails at pending images kept notes batch taken =
      request_fails x bytes_of (Stage address) (stage_batch address) k old new banks
      (stage_rows x bytes_of address) (MayStage x address) (λ m. with_staged m address)
      (stage_request x bytes_of address wide k) at pending
      (stage_stopped at pending images kept notes batch taken)

  pub stage_cut : (at pending : Option ℕ) → MayHaveStored (stage_batch address) pending old new
      → IfSome at (λ seq. MayHaveStoredRead (stage_batch address) pending old new)
      → NotesOpening old at
      → (pending ≡ None) ⊎ (pending ≡ option_map (λ n. n + 1) at)
      → IsTaken address old pending
      → IsCutOff x bytes_of (Stage address) k old.contents new.contents
  stage_cut at pending images kept notes batch taken =
      request_cut x bytes_of (Stage address) (stage_batch address) k old new banks
      (stage_rows x bytes_of address) (MayStage x address) (λ m. with_staged m address)
      (stage_request x bytes_of address wide k) at pending
      (stage_stopped at pending images kept notes batch taken)
