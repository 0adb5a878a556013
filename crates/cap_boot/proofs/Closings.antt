-- The step that closes a unit which starts no SetImage: its batch, and its line.
use Rattle.std.proofs.Common.{◌≡◌, ℕ, ◌+◌, ◌<◌, ◌==◌, ◌&&◌, List, []}
use Rattle.std.proofs.Common.{◌∷◌, ◌++◌, length, refl, sym, ap, ◌∙◌, subst, cond}
use Rattle.std.proofs.Common.{find, Option, None, Some}
use Rattle.std.specs.Prelude.{count_by}
use Rattle.std.specs.List.{list_any}
use Rattle.std.proofs.lemmas.Bool.{ne_eqb}
use Rattle.std.proofs.lemmas.List.Sums.{length-filter}
use Rattle.bench_model.specs.Boards.{BoardValue}
use Rattle.cu_base.specs.declared.time.EfiTime.{EfiTime}
use Rattle.dev_claims.specs.ClosedBy.{IsUntried, MayClose, StartsNothing, element_told, ids_of}
use Rattle.dev_claims.specs.Next.{IsNext, MayEnd}
use Rattle.dev_claims.specs.Units.{close_changes, next_result}
use Rattle.dev_claims.specs.declared.closing.UnitIds.{UnitIds}
use Rattle.dev_claims.proofs.Due.{due_is_next}
use Rattle.dev_claims.proofs.OneMore.{filter_front, next_is}
use Rattle.dev_claims.proofs.Told.{closed_as_told}
use Rattle.dev_claims.proofs.UnitLaws.{close_holds}
use Rattle.reference_machine.specs.Boots.{BootState, BootTask, after, after_unit, boot_start}
use Rattle.reference_machine.specs.Boots.{element_of, next, next_line, progress_with, with_element}
use Rattle.reference_machine.specs.Boots.{with_lines}
use Rattle.reference_machine.specs.Boots.BootBatch.{Does}
use Rattle.reference_machine.specs.Boots.BootTask.{Commits}
use Rattle.reference_machine.specs.Boots.Course.{Close}
use Rattle.reference_machine.specs.Deliveries.{BootUnit}
use Rattle.reference_machine.specs.Laws.{IsDue}
use Rattle.reference_machine.specs.Machine.{Machine}
use Rattle.reference_machine.specs.Report.{ReportValue}
use Rattle.reference_machine.specs.Results.{line_of, result_number}
use Rattle.reference_machine.specs.Results.{status_with}
use Rattle.reference_machine.specs.Spent.{Element, is_closed, is_of, is_open}
use Rattle.reference_machine.specs.Spent.Standing.{Closed}
use Rattle.reference_machine.specs.declared.unit.End.{End}
use Rattle.reference_machine.specs.declared.unit.End.TheVariants.{Refused, Sealed, Kept, Lost}
use Rattle.reference_machine.specs.declared.unit.Kind.{Kind}
use Rattle.reference_machine.specs.declared.unit.UnitKey.{UnitKey}
use Rattle.reference_machine.specs.declared.unit.UnitLine.{UnitLine}
use Rattle.reference_machine.proofs.Coming.{unit_due}
use Rattle.report_tables.specs.Names.{number_behind}
use Rattle.stored_vars.specs.Holds.{device_of}
use Rattle.stored_vars.specs.Records.{IsState}
use Rattle.stored_vars.specs.Stands.{Holds}
use Rattle.var_log.specs.Changes.{after as after_changes}
use Rattle.var_log.specs.declared.change.Change.{Change}
use Rattle.var_store.specs.Stores.{variables_of}
use Rattle.cap_boot.specs.Closing.{IsClosedBy, unit_work}
use Rattle.cap_boot.specs.Keeps.{KeepsUnit}
use Rattle.cap_boot.specs.Situations.{IsAt, IsUnderWay, Situation}
use Rattle.cap_boot.specs.Stands.{Setting}
use Rattle.cap_boot.proofs.Batches.{TakesBatch, TakesNext, taken_by}
use Rattle.cap_boot.proofs.Onward.{reached_now, steps_ground}
use Rattle.cap_boot.proofs.Spendings.{outside_untried, started_nothing}

-- nothing is open where a boot comes to a unit, and the unit is due
pub due_now : (x : Setting) (b : BootState) (u : BootUnit) (rest : List BootTask)
    → IsUnderWay x b → b.left ≡ Commits (Does u) ∷ rest
    → (find is_open b.machine.list ≡ None) × IsDue b.machine u.key
due_now x b u rest way left =
    subst (λ (c : BootState). (find is_open c.machine.list ≡ None) × IsDue c.machine u.key)
    (sym way.is)
    (unit_due x.formats x.board way.start way.limits way.is_board way.reached way.heal way.count
    way.is_held u rest (ap (λ (c : BootState). c.left) (sym way.is) ∙ left))

-- an end that a unit may be closed by starts nothing
pub untried_of : (line : UnitLine) (end : Option End) → StartsNothing line end → IsUntried end
untried_of line None is = tt
untried_of line (Some (Refused status)) is = tt
untried_of line (Some Sealed) is = absurd is
untried_of line (Some Kept) is = absurd is
untried_of line (Some Lost) is = absurd is

-- what a line tells is told by its parts that are looked at
told_alike : (a b : UnitLine) (ids also : UnitIds) (now then : EfiTime) → a.kind ≡ b.kind
    → a.key ≡ b.key → a.version ≡ b.version → a.end ≡ b.end → ids ≡ also → now ≡ then
    → element_told a ids now ≡ element_told b also then
told_alike a b ids also now then kind key version end is moment = λ i. record {
  kind = kind i;
  key = key i;
  capsule = (is i).capsule;
  head = record {
    version = 0;
    type_id = (is i).type_id;
    index = (is i).index;
    instance = 0;
    support = 0;
  };
  version = version i;
  floor = 0;
  dependency = [];
  payload = [];
  standing = Closed (end i) (moment i);
}

line_alike : (a b : UnitLine) → a.kind ≡ b.kind → a.key ≡ b.key → a.version ≡ b.version
    → a.end ≡ b.end → a.status ≡ b.status → a.result ≡ b.result → a ≡ b
line_alike a b kind key version end status result = λ i. record {
  kind = kind i;
  key = key i;
  version = version i;
  end = end i;
  status = status i;
  result = result i;
}

-- the line with the number of its result
abbrev pub numbered_line : UnitLine → ℕ → UnitLine
numbered_line line n = record line { result = n }

-- the report with the line
abbrev pub line_told : UnitLine → ReportValue → ReportValue
line_told line r = with_lines r (line ∷ [])

-- the moment of a boot under way
pub moment_now : (x : Setting) (b : BootState) → IsUnderWay x b → b.machine.now ≡ x.now
moment_now x b way =
    ap (λ (c : BootState). c.machine.now) way.is
    ∙ (steps_ground x.formats way.count (boot_start x.formats way.start way.heal)).now ∙ way.now

-- one more element of a unit keeps what is of other units
pub one_more_keeps : (m : Machine) (e : Element) (batches : ℕ)
    → KeepsUnit e.key m (record m {
      list = m.list ++ e ∷ [];
      in_progress = progress_with m.in_progress e.key;
      batches = batches;
    })
one_more_keeps m e batches = record {
  asked = refl;
  files = refl;
  progress = λ memory.
      ap (λ b. cond b (cond (list_any (λ s. s == e.key.ticket.serial) m.in_progress) m.in_progress
      (m.in_progress ++ e.key.ticket.serial ∷ [])) m.in_progress)
      (ne_eqb e.key.ticket.route 1 memory);
  spent = λ serial other.
      ap length (filter_front (λ (z : Element). is_of 1 serial z.key && is_closed z) m.list e
      (ap (λ b. b && is_closed e) other));
}

module _ (x : Setting) (y : Situation) (u : BootUnit) (line : UnitLine) (ids : UnitIds)
    (board : BoardValue) (now : EfiTime) (n : ℕ) (on_board : x.board ≡ board)
    (at_now : x.now ≡ now) (may : MayClose line) (is : IsClosedBy x u line ids y)
    (state : line.key.device < length board.devices
    → IsState (device_of board (variables_of y.store) line.key.device))
    (number : n ≡ next_result board (variables_of y.store)) where
  abbrev changes : List Change
  changes =
      close_changes board (variables_of y.store) (element_told line ids now)

  untried : IsUntried line.end
  untried = untried_of line line.end may.starts_nothing

  -- the element of the unit, closed in a machine of the moment
  abbrev element_at : EfiTime → Element
  element_at moment = element_of x.formats u (Closed line.end moment)

  changes_are : (b : BoardValue) (moment : EfiTime) → b ≡ board → moment ≡ now
      → close_changes b (variables_of y.store) (element_at moment) ≡ changes
  changes_are b moment same now_is =
      ap (λ (c : BoardValue). close_changes c (variables_of y.store) (element_at moment)) same
      ∙ closed_as_told board (variables_of y.store) 0 (element_at moment) line.end moment refl
      untried
      ∙ ap (close_changes board (variables_of y.store))
      (told_alike (line_of board u.kind 0 (element_at moment)) line (ids_of (element_at moment)) ids
      moment now (sym is.kind) (sym is.key) (sym is.version) refl (sym is.ids_are) now_is)

  next_now : (b : BootState) (rest : List BootTask) → IsUnderWay x b → IsAt x b y
      → b.left ≡ Commits (Does u) ∷ rest → b.machine.board ≡ board
      → IsNext b.machine (element_at b.machine.now)
  next_now b rest way at left same =
      let m : Machine = b.machine in
      due_is_next x.formats x.board m (element_at m.now) way.limits way.is_board
      (reached_now x b way) (due_now x b u rest way left).1 is.version_fits is.floor_fits
      (λ on. subst IsState (at.stores.variables.devices u.key.device on)
      (subst (λ (c : BoardValue). IsState (device_of c (variables_of y.store) u.key.device))
      (sym same)
      (subst (λ (k : UnitKey). IsState (device_of board (variables_of y.store) k.device)) is.key
      (state
      (subst (λ (k : UnitKey). k.device < length board.devices) (sym is.key)
      (subst (λ (c : BoardValue). u.key.device < length c.devices) same on))))))

  number_is : (m : Machine) → m.board ≡ board → Holds (variables_of y.store) m
      → n ≡ result_number m.board (count_by is_closed m.list)
  number_is m same h =
      number
      ∙ ap (λ (c : BoardValue). next_result c (variables_of y.store)) (sym same)
      ∙ ap (λ (o : Option ℕ). number_behind o m.board.result_max) h.last
      ∙ next_is m.board m.list
      ∙ ap (result_number m.board) (length-filter is_closed m.list)

  line_is : (m : Machine) → m.board ≡ board → Holds (variables_of y.store) m
      → next_line m u.kind (element_at m.now) ≡ numbered_line line n
  line_is m same h =
      line_alike (next_line m u.kind (element_at m.now)) (numbered_line line n) (sym is.kind)
      (sym is.key) (sym is.version) refl
      (ap (λ (k : Kind). status_with k line.end) (sym is.kind) ∙ sym may.status)
      (sym (number_is m same h))

  board_is : (b : BootState) → IsAt x b y → b.machine.board ≡ board
  board_is b at = at.outside.board ∙ on_board

  now_is : (b : BootState) → IsUnderWay x b → b.machine.now ≡ now
  now_is b way = moment_now x b way ∙ at_now

  -- the boot after the unit
  closed_at : (b : BootState) (rest : List BootTask) → IsUnderWay x b → IsAt x b y
      → after x.formats b (Commits (Does u) ∷ rest)
      ≡ after_unit x.formats b u rest (Close line.end)
  closed_at b rest way at = ap (after_unit x.formats b u rest) (is.course b way at)

  takes_closing : (b : BootState) (rest : List BootTask) → IsUnderWay x b
      → b.left ≡ Commits (Does u) ∷ rest → IsAt x b y
      → TakesBatch x y changes (line_told (numbered_line line n)) b (Commits (Does u) ∷ rest) rest
      (after_unit x.formats b u rest (Close line.end))
  takes_closing b rest way left at =
      let m : Machine = b.machine in
      let e : Element = element_at m.now in
      let same : m.board ≡ board = board_is b at in
      record {
        counts = refl;
        holds = subst (λ (cs : List Change). Holds (after_changes (variables_of y.store) cs)
            (with_element m e)) (changes_are m.board m.now same (now_is b way))
            (close_holds (variables_of y.store) m e line.end m.now
            (next_now b rest way at left same) refl
            (subst (λ (c : BoardValue). MayEnd c e line.end) (sym at.outside.board) is.ends)
            (due_now x b u rest way left).0 at.stores.variables);
        number = refl;
        outside = outside_untried x y.bench.contents m e (progress_with m.in_progress e.key)
            (m.batches + 1) (started_nothing e line.end m.now refl untried) at.outside;
        behind = refl;
        report = ap (λ (l : UnitLine). with_lines b.report (l ∷ []))
            (line_is m same at.stores.variables);
      }

  pub closes_next : TakesNext x y changes (line_told (numbered_line line n)) (unit_work u)
  closes_next b rest way left at =
      taken_by x y changes (line_told (numbered_line line n)) b (Commits (Does u) ∷ rest) rest left
      (subst (λ (c : BootState). TakesBatch x y changes (line_told (numbered_line line n)) b
      (Commits (Does u) ∷ rest) rest c) (sym (closed_at b rest way at))
      (takes_closing b rest way left at))

  pub closing_keeps : (b : BootState) (rest : List BootTask) → IsUnderWay x b → IsAt x b y
      → b.left ≡ unit_work u b.machine ++ rest
      → KeepsUnit u.key b.machine (next x.formats b).machine
  closing_keeps b rest way at left =
      subst (λ (l : List BootTask). KeepsUnit u.key b.machine (after x.formats b l).machine)
      (sym left)
      (subst (λ (c : BootState). KeepsUnit u.key b.machine c.machine)
      (sym (closed_at b rest way at))
      (one_more_keeps b.machine (element_at b.machine.now) (b.machine.batches + 1)))
