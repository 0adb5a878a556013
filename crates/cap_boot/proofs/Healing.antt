-- The step that closes the open unit of an earlier boot: its batch, and its line.
use Rattle.std.proofs.Common.{◌≡◌, inl, inr, ℕ, zero, suc, ◌+◌, ◌<◌, ◌≤◌, ◌^◌, ◌==◌, ◌&&◌, Bool}
use Rattle.std.proofs.Common.{true, false, cond, List, [], ◌∷◌, ◌++◌, filter, find, length, map, refl}
use Rattle.std.proofs.Common.{sym, ap, ◌∙◌, subst, arith, Option, Some, None, option_map, unwrap_or}
use Rattle.std.proofs.Common.{true≢false, IfSome, Err, Ok}
use Rattle.std.specs.Prelude.{count_by, is_some, option_and_then}
use Rattle.std.specs.List.{range_with_len}
use Rattle.std.proofs.lemmas.Bool.{and_right, cases_eq, eqb-true}
use Rattle.std.proofs.lemmas.Bool.Decides.{nat_tests}
use Rattle.bench_model.specs.Bench.{region_at, region_of}
use Rattle.bench_model.specs.Boards.{BoardValue}
use Rattle.bench_model.specs.Regions.{IsImage, IsStable}
use Rattle.cu_base.specs.declared.ticket.Ticket.{Ticket}
use Rattle.dev_claims.specs.Claimed.{IsWide, open_claim_of}
use Rattle.dev_claims.specs.Ended.{claim_settled, end_read, line_ended, open_line, open_settled}
use Rattle.dev_claims.specs.Ended.{end_by as claim_end, settled_by}
use Rattle.dev_claims.specs.Next.{IsNext}
use Rattle.dev_claims.specs.Units.{next_result, settle_changes}
use Rattle.dev_claims.proofs.Due.{due_is_next}
use Rattle.dev_claims.proofs.OneMore.{filter_last, next_is}
use Rattle.dev_claims.proofs.OpenClaims.{as_open, record_by}
use Rattle.dev_claims.proofs.SettledAlike.{settled_by_claim}
use Rattle.dev_claims.proofs.UnitLaws.{FoundAt, found_at, none_open, settle_holds}
use Rattle.fmp_slot.specs.Held.{HeldSlot}
use Rattle.reference_machine.specs.Boots.{BootState, BootTask, after, closed_with, next, next_line}
use Rattle.reference_machine.specs.Boots.{settled, settled_with, with_lines}
use Rattle.reference_machine.specs.Boots.BootBatch.{Settles}
use Rattle.reference_machine.specs.Boots.BootTask.{Commits}
use Rattle.reference_machine.specs.Laws.{IsDue, OpenIsLast}
use Rattle.reference_machine.specs.Machine.{Machine}
use Rattle.reference_machine.specs.Results.{attempt_status, result_number, state_of}
use Rattle.reference_machine.specs.Results.{status_with}
use Rattle.reference_machine.specs.Spent.{Element, Image, image_of, is_closed, is_on, is_open}
use Rattle.reference_machine.specs.Spent.{image_tried}
use Rattle.reference_machine.specs.declared.unit.End.{End}
use Rattle.reference_machine.specs.declared.unit.End.TheVariants.{Sealed, Kept}
use Rattle.reference_machine.specs.declared.unit.Kind.{Kind}
use Rattle.reference_machine.specs.declared.unit.Kind.TheVariants.{Heal}
use Rattle.reference_machine.specs.declared.unit.UnitLine.{UnitLine}
use Rattle.reference_machine.proofs.Coming.{settlement_due}
use Rattle.reference_machine.proofs.Lists.{NoneOpen, closed}
use Rattle.reference_machine.proofs.Reached.{open_last}
use Rattle.report_tables.specs.Names.{number_behind}
use Rattle.stored_vars.specs.Holds.{bytes_in, claim_of, device_of, is_claimed, open_device_of}
use Rattle.stored_vars.specs.Records.{IsClaim, IsState, has_claim, is_flagged, is_record}
use Rattle.stored_vars.specs.Records.{record_in}
use Rattle.stored_vars.specs.declared.claim.DevRec.{DevRec}
use Rattle.stored_vars.specs.declared.variable.StoredVar.TheVariants.{Device}
use Rattle.stored_vars.specs.Stands.{Holds, claim_for}
use Rattle.stored_vars.specs.declared.claim.Claim.{Claim}
use Rattle.std.proofs.lemmas.List.Sums.{length-filter}
use Rattle.var_log.specs.Changes.{Variables, after as after_changes}
use Rattle.var_log.specs.Logs.{ChangesBanks}
use Rattle.var_log.specs.declared.change.Change.{Change}
use Rattle.var_store.specs.Stores.{variables_of}
use Rattle.cap_boot.specs.Going.{Goes, IsAny, nothing}
use Rattle.cap_boot.specs.Keeps.{IsHealed}
use Rattle.cap_boot.specs.Situations.{IsAt, IsReady, IsUnderWay, Situation}
use Rattle.cap_boot.specs.Stands.{IsClean, MayHold, Setting, image_held, image_in, open_on}
use Rattle.cap_boot.specs.Tasks.{end_by, end_found, heal_by, heal_tasks}
use Rattle.cap_boot.specs.Tasks.{end_among, is_same_ticket}
use Rattle.cap_boot.specs.Commits.{IsStored, LeavesBatch}
use Rattle.cap_boot.specs.declared.fault.BootFault.{BootFault}
use Rattle.cap_boot.proofs.Batches.{TakesBatch, TakesNext, batch_fails, batch_goes, taken_by}
use Rattle.cap_boot.proofs.Closings.{line_told, moment_now}
use Rattle.cap_boot.proofs.HealSlots.{open_device_low}
use Rattle.cap_boot.proofs.Onward.{reached_now}
use Rattle.cap_boot.proofs.OpenUnits.{IsOpenUnit, held_other, open_unit, same_ticket_self}
use Rattle.cap_boot.proofs.Settled.{AgreesWithEnd, IsLastOpen, IsOfOther, none_on, outside_settled}
use Rattle.cap_boot.proofs.Spendings.{find_front}
use Rattle.cap_boot.proofs.Stable.{stable_image}

-- ---- the claim that is open is that of the open unit

-- an open unit is the last of its list
pub last_open : (m : Machine) (e : Element)
    → OpenIsLast m.list → find is_open m.list ≡ Some e
    → IsLastOpen m.list e
last_open m e alone found =
    let at : FoundAt m.list e = found_at m.list e found in
    record {
      front = at.front;
      parts = at.parts ∙ ap (λ (l : List Element). at.front ++ e ∷ l)
          (alone at.front at.rest e at.parts at.is_it);
      none = at.none;
      is_it = at.is_it;
    }

-- on another device no unit is open
other_none : (list : List Element) (e : Element) (d : ℕ) → IsLastOpen list e
    → is_on d e ≡ false → open_on list d ≡ None
other_none list e d at off =
    ap (λ (l : List Element). open_on l d) at.parts
    ∙ find_front (λ (x : Element). is_open x && is_on d x) at.front e
    (and_right (is_open e) (is_on d e) off)
    ∙ none_on at.front d at.none

own_open : (list : List Element) (e : Element) (d : ℕ) → IsLastOpen list e → is_on d e ≡ true
    → open_on list d ≡ Some e
own_open list e d at on =
    ap (λ (l : List Element). open_on l d) at.parts ∙ find_at at.front at.none
  where
    here : (is_open e && is_on d e) ≡ true
    here = ap (λ b. b && is_on d e) at.is_it ∙ on

    find_at : (es : List Element) → NoneOpen es → open_on (es ++ e ∷ []) d ≡ Some e
    find_at [] h = ap (λ b. cond b (Some e) None) here
    find_at (x ∷ xs) h =
        ap (λ b. cond (b && is_on d x) (Some x) (open_on (xs ++ e ∷ []) d)) h.0
        ∙ find_at xs h.1

no_claim_some : (o : Option Claim) → o ≡ None → is_some o ≡ true → ⊥
no_claim_some o none some = true≢false (sym some ∙ ap is_some none)

-- where the store has an open claim a unit is open, and the claim is its
pub record IsOpenIn (variables : Variables) (m : Machine) (e : Element) : Type 0 where
  pub found : find is_open m.list ≡ Some e
  pub at : IsLastOpen m.list e
  pub claim : open_claim_of m.board variables ≡ Some (claim_for e)
  pub own : claim_of variables e.key.device ≡ Some (claim_for e)

pub open_in : (variables : Variables) (m : Machine) (d : ℕ) → Holds variables m
    → OpenIsLast m.list
    → d < length m.board.devices → open_device_of m.board variables ≡ Some d
    → (e : Element) × IsOpenIn variables m e
open_in variables m d h alone low first = by_open (find is_open m.list) refl
  where
    some : is_some (claim_of variables d) ≡ true
    some =
        ap is_some (sym (ap (option_and_then (claim_of variables)) first))
        ∙ as_open m.board variables ∙ ap is_some first

    by_open : (o : Option Element) → find is_open m.list ≡ o
        → (e : Element) × IsOpenIn variables m e
    by_open None is =
        absurd (no_claim_some (claim_of variables d)
        (h.claims d low ∙ ap (option_map claim_for) (none_on m.list d (none_open m.list is))) some)
    by_open (Some e) is =
        let at : IsLastOpen m.list e = last_open m e alone is in
        (e, by_device at (is_on d e) refl)
      where
        by_device : IsLastOpen m.list e → (b : Bool) → is_on d e ≡ b → IsOpenIn variables m e
        by_device at false off =
            absurd (no_claim_some (claim_of variables d)
            (h.claims d low ∙ ap (option_map claim_for) (other_none m.list e d at off)) some)
        by_device at true on =
            let its : claim_of variables d ≡ Some (claim_for e) =
            h.claims d low ∙ ap (option_map claim_for) (own_open m.list e d at on) in
            record {
              found = is;
              at = at;
              claim = ap (option_and_then (claim_of variables)) first ∙ its;
              own = subst (λ (k : ℕ). claim_of variables k ≡ Some (claim_for e))
                  (sym (eqb-true e.key.device d on)) its;
            }

-- ---- how it ended

ticket_equal : (a b : Ticket) → is_same_ticket a b ≡ true → a ≡ b
ticket_equal a b h =
    by_parts (a.route == b.route) (a.capsule == b.capsule) (a.item == b.item)
    (a.serial == b.serial) refl refl refl refl h
  where
    by_parts : (r c i s : Bool) → (a.route == b.route) ≡ r → (a.capsule == b.capsule) ≡ c
        → (a.item == b.item) ≡ i → (a.serial == b.serial) ≡ s → (r && c && i && s) ≡ true → a ≡ b
    by_parts true true true true p q u v k = λ j. record {
      route = eqb-true a.route b.route p j;
      capsule = eqb-true a.capsule b.capsule q j;
      item = eqb-true a.item b.item u j;
      serial = eqb-true a.serial b.serial v j;
    }
    by_parts true true true false p q u v k = absurd (let e : false ≡ true = k in cc)
    by_parts true true false s p q u v k = absurd (let e : false ≡ true = k in cc)
    by_parts true false i s p q u v k = absurd (let e : false ≡ true = k in cc)
    by_parts false c i s p q u v k = absurd (let e : false ≡ true = k in cc)

-- a device that may hold this with the unit open holds what its end says
pub agrees_now : (e : Element) (before image : Option Image) → IsOfOther e before
    → MayHold before (Some e) image
    → AgreesWithEnd before e (end_by e.key.ticket image) image
agrees_now e before None other holds = refl
agrees_now e before (Some i) other holds = by_ticket (is_same_ticket i.ticket e.key.ticket) refl
  where
    other_ticket : (o : Option Image) → Some i ≡ o → IsOfOther e o → i.ticket ≡ e.key.ticket → ⊥
    other_ticket None is of_it same = cc
    other_ticket (Some j) is of_it same =
        of_it (ap (λ (k : Image). k.ticket) (let z : j ≡ i = cc in z) ∙ same)

    by_ticket : (b : Bool) → is_same_ticket i.ticket e.key.ticket ≡ b
        → AgreesWithEnd before e (cond b Sealed Kept) (Some i)
    by_ticket true is = elim holds [
      | inl same ↦ absurd (other_ticket before same other
          (ticket_equal i.ticket e.key.ticket is))
      | inr more ↦ elim more [
        | inl none ↦ absurd (let z : Some i ≡ None = none in cc)
        | inr tried ↦ tried
      ]
    ]
    by_ticket false is = elim holds [
      | inl same ↦ same
      | inr more ↦ elim more [
        | inl none ↦ absurd (let z : Some i ≡ None = none in cc)
        | inr tried ↦ absurd (true≢false
            (sym (ap (λ (t : Ticket). is_same_ticket t e.key.ticket)
            (ap (λ (k : Image). k.ticket) (let z : i ≡ image_tried e = cc in z))
            ∙ same_ticket_self e.key.ticket) ∙ is))
      ]
    ]

end_alike : (slot : Option HeldSlot) (ticket : Ticket)
    → claim_end ticket slot ≡ end_by ticket (option_map image_held slot)
end_alike None ticket = refl
end_alike (Some h) ticket = refl

-- the end is one of a SetImage
held_status : (ticket : Ticket) (image : Option Image) → attempt_status (end_by ticket image) < 2 ^ 32
held_status ticket None = omega arith
held_status ticket (Some i) = by_ticket (is_same_ticket i.ticket ticket)
  where
    by_ticket : (b : Bool) → attempt_status (cond b Sealed Kept) < 2 ^ 32
    by_ticket true = omega arith
    by_ticket false = omega arith

open_filter : (list : List Element) (e : Element) → IsLastOpen list e
    → filter is_open list ≡ e ∷ []
open_filter list e at =
    ap (filter is_open) at.parts ∙ filter_last is_open at.front e at.is_it
    ∙ ap (λ (l : List Element). l ++ e ∷ []) (none_passes at.front at.none)
  where
    none_passes : (es : List Element) → NoneOpen es → filter is_open es ≡ []
    none_passes [] h = refl
    none_passes (z ∷ zs) h =
        ap (λ b. cond b (z ∷ filter is_open zs) (filter is_open zs)) h.0 ∙ none_passes zs h.1

line_alike : (a b : UnitLine) → a.kind ≡ b.kind → a.key ≡ b.key → a.version ≡ b.version
    → a.end ≡ b.end → a.status ≡ b.status → a.result ≡ b.result → a ≡ b
line_alike a b kind key version end status result = λ i. record {
  kind = kind i;
  key = key i;
  version = version i;
  end = end i;
  status = status i;
  result = result i;
}

-- ---- the step

module _ (x : Setting) (y : Situation) (d : ℕ) (line : UnitLine)
    (first : open_device_of x.board (variables_of y.store) ≡ Some d)
    (low : d < length x.board.devices) (wide : IsWide x.board (variables_of y.store) d)
    (clean : IsClean y.bench.contents) (regions : 2 + length x.board.devices ≤ y.bench.contents.regions)
    (is_line : open_line x.slot_of x.board y.store y.bench ≡ Some line) where
  abbrev vars : Variables
  vars = variables_of y.store

  abbrev changes : List Change
  changes = open_settled x.slot_of x.board x.now y.store y.bench

  -- the open unit of each boot that comes here
  pub open_at : (b : BootState) → IsUnderWay x b → IsAt x b y
      → (e : Element) × IsOpenIn vars b.machine e
  open_at b way at =
      open_in vars b.machine d at.stores.variables
      (open_last x.formats x.board b.machine (reached_now x b way))
      (subst (λ (c : BoardValue). d < length c.devices) (sym at.outside.board) low)
      (subst (λ (c : BoardValue). open_device_of c vars ≡ Some d) (sym at.outside.board) first)

  module _ (b : BootState) (rest : List BootTask) (way : IsUnderWay x b) (at : IsAt x b y)
      (left : b.left ≡ heal_tasks x y.bench.contents b.machine ++ rest) (e : Element)
      (open_e : IsOpenIn vars b.machine e) where
    abbrev m : Machine
    m = b.machine

    abbrev end : End
    end = end_found x y.bench.contents e

    on_board : m.board ≡ x.board
    on_board = at.outside.board

    unit_is : IsOpenUnit x.board e
    unit_is = open_unit x.formats x.board m e (reached_now x b way) open_e.at

    work_is : heal_tasks x y.bench.contents m ≡ Commits (Settles Heal end) ∷ []
    work_is =
        ap (λ (o : Option Element). heal_by
        (end_among x y.bench.contents o) o) open_e.found

    left_is : b.left ≡ Commits (Settles Heal end) ∷ rest
    left_is = left ∙ ap (λ (w : List BootTask). w ++ rest) work_is

    claim_board : open_claim_of x.board vars ≡ Some (claim_for e)
    claim_board =
        subst (λ (c : BoardValue). open_claim_of c vars ≡ Some (claim_for e)) on_board open_e.claim

    end_is : end_read x.slot_of y.bench.contents (claim_for e) ≡ end
    end_is = end_alike (x.slot_of (y.bench.contents.bytes (region_of e.key.device))) e.key.ticket

    changes_are : changes ≡ settle_changes m.board vars e end m.now
    changes_are =
        ap (λ (o : Option Claim). settled_by x.board vars x.now
        (end_read x.slot_of y.bench.contents) o) claim_board
        ∙ ap (λ (k : End). claim_settled x.board vars x.now (claim_for e) k) end_is
        ∙ settled_by_claim x.board vars e end x.now unit_is.is_for
        ∙ ap (λ (c : BoardValue). settle_changes c vars e end x.now) (sym on_board)
        ∙ ap (settle_changes m.board vars e end) (sym (moment_now x b way))

    fits : IsClaim d (claim_for e)
    fits =
        subst (λ (o : Option Claim). IfSome o (IsClaim d))
        (sym (ap (option_and_then (claim_of vars)) first) ∙ claim_board)
        wide.claim

    due : IsDue m e.key
    due = by_due
        (subst (λ (c : BootState).
        (z : Element) × (find is_open c.machine.list ≡ Some z) × IsDue c.machine z.key)
        (sym way.is)
        (settlement_due x.formats x.board way.start way.limits way.is_board way.reached way.heal
        way.count way.is_held Heal end rest
        (ap (λ (c : BootState). c.left) (sym way.is) ∙ left_is)))
      where
        by_due : (z : Element) × (find is_open m.list ≡ Some z) × IsDue m z.key → IsDue m e.key
        by_due (z, found, is) =
            subst (λ (w : Element). IsDue m w.key)
            (let k : Some z ≡ Some e = sym found ∙ open_e.found in let q : z ≡ e = cc in q) is

    device_is : e.key.device ≡ d
    device_is = fits.device

    state_fits : IsState (state_of m.board m.list e.key.device)
    state_fits =
        subst IsState
        (ap (λ (c : BoardValue). device_of c vars d) (sym on_board)
        ∙ ap (device_of m.board vars) (sym device_is)
        ∙ at.stores.variables.devices e.key.device
        (subst (λ (c : BoardValue). e.key.device < length c.devices) (sym on_board)
        unit_is.device)) wide.state

    next_is_it : IsNext m e
    next_is_it =
        due_is_next x.formats x.board m e way.limits way.is_board (reached_now x b way) due
        fits.version fits.floor (λ on. state_fits)

    agrees : (bytes : List ℕ)
        → IsImage (region_at y.bench.contents (region_of e.key.device)) bytes
        → AgreesWithEnd (image_of m.board m.list e.key.device) e end (image_in x.slot_of bytes)
    agrees bytes is =
        let k : ℕ = region_of e.key.device in
        let stable : IsStable (region_at y.bench.contents k) =
        clean k (omega (arith, unit_is.device, regions)) in
        let read : bytes ≡ y.bench.contents.bytes k =
        stable_image (region_at y.bench.contents k) bytes stable is in
        let image : Option Image = image_in x.slot_of bytes in
        let holds : MayHold (image_of m.board m.list e.key.device)
        (open_on m.list e.key.device) image =
        (at.outside.devices e.key.device unit_is.device bytes is).slot in
        subst (λ (z : List ℕ). AgreesWithEnd (image_of m.board m.list e.key.device) e
        (end_by e.key.ticket (image_in x.slot_of z)) image) read
        (agrees_now e (image_of m.board m.list e.key.device) image
        (held_other x.formats x.board m e (reached_now x b way) open_e.at)
        (subst (λ (o : Option Element). MayHold (image_of m.board m.list e.key.device) o image)
        (own_open m.list e e.key.device open_e.at (self_on e.key.device)) holds))
      where
        self_on : (n : ℕ) → (n == n) ≡ true
        self_on n = grind (arith, nat_tests)

    number_is : next_result x.board vars
        ≡ result_number m.board (count_by is_closed m.list)
    number_is =
        ap (λ (c : BoardValue). next_result c vars) (sym on_board)
        ∙ ap (λ (o : Option ℕ). number_behind o m.board.result_max) at.stores.variables.last
        ∙ next_is m.board m.list
        ∙ ap (result_number m.board) (length-filter is_closed m.list)

    line_is_it : Some line ≡ Some (line_ended x.board vars Heal (claim_for e) end)
    line_is_it =
        sym is_line
        ∙ ap (option_map (λ (c : Claim). line_ended x.board vars Heal c
        (end_read x.slot_of y.bench.contents c))) claim_board
        ∙ ap (λ (k : End). Some (line_ended x.board vars Heal (claim_for e) k)) end_is

    closed_line : next_line m Heal (closed e end m.now) ≡ line
    closed_line =
        line_alike (next_line m Heal (closed e end m.now))
        (line_ended x.board vars Heal (claim_for e) end) refl refl refl refl
        (ap (λ (k : Kind). status_with k (Some end)) unit_is.is_for.kind) (sym number_is)
        ∙ (let z : line_ended x.board vars Heal (claim_for e) end ≡ line =
        let w : Some line ≡ Some (line_ended x.board vars Heal (claim_for e) end) = line_is_it in
        cc in z)

    lines_are : map (λ (z : Element). next_line m Heal (closed_with end m.now z))
        (filter is_open m.list) ≡ line ∷ []
    lines_are =
        ap (map (λ (z : Element). next_line m Heal (closed_with end m.now z)))
        (open_filter m.list e open_e.at)
        ∙ ap (λ (c : Bool). next_line m Heal (cond c (closed e end m.now) e) ∷ []) open_e.at.is_it
        ∙ ap (λ (l : UnitLine). l ∷ []) closed_line

    pub heal_takes : TakesBatch x y changes (line_told line) b b.left rest (next x.formats b)
    heal_takes =
        taken_by x y changes (line_told line) b (Commits (Settles Heal end) ∷ rest) rest left_is
        (record {
          counts = refl;
          holds = subst (λ (cs : List Change). Holds (after_changes vars cs) (settled m end))
              (sym changes_are)
              (settle_holds vars m e end next_is_it open_e.found (
                subst (λ (c : BoardValue). e.key.device < length c.devices) (sym on_board)
                    unit_is.device,
                held_status e.key.ticket
                    (image_in x.slot_of (y.bench.contents.bytes (region_of e.key.device))),
              ) at.stores.variables);
          number = ap (λ (o : Option Element). (settled_with m end o).batches) open_e.found;
          outside = outside_settled x y.bench.contents m e end open_e.at open_e.found
              (held_other x.formats x.board m e (reached_now x b way) open_e.at) agrees at.outside;
          behind = refl;
          report = ap (with_lines b.report) lines_are;
        })

  pub heals_next : TakesNext x y changes (line_told line) (heal_tasks x y.bench.contents)
  heals_next b rest way left at =
      let o = open_at b way at in heal_takes b rest way at left o.0 o.1

  pub healing_keeps : (b : BootState) (rest : List BootTask) → IsUnderWay x b → IsAt x b y
      → b.left ≡ heal_tasks x y.bench.contents b.machine ++ rest
      → IsHealed x y.bench.contents b.machine (next x.formats b).machine
  healing_keeps b rest way at left =
      let o = open_at b way at in
      let e : Element = o.0 in
      ap (λ (w : List BootTask). (after x.formats b w).machine)
      (left_is b rest way at left e o.1)
      ∙ ap (settled_with b.machine (end_found x y.bench.contents e)) o.1.found
      ∙ sym (ap (λ (z : Option Element). settled_with b.machine
      (end_among x y.bench.contents z) z) o.1.found)

-- ---- nothing to heal

none_passes : (p : ℕ → Bool) (k n d : ℕ) → find p (range_with_len k n) ≡ None → k ≤ d
    → d < k + n → p d ≡ false
none_passes p k zero d none low high = absurd (omega (arith, low, high))
none_passes p k (suc n) d none low high =
    by_test (p k) refl none (λ later above. none_passes p (k + 1) n d later above (omega arith))
  where
    by_test : (b : Bool) → p k ≡ b → cond b (Some k) (find p (range_with_len (k + 1) n)) ≡ None
        → (find p (range_with_len (k + 1) n) ≡ None → k + 1 ≤ d → p d ≡ false) → p d ≡ false
    by_test true is found later = absurd (let e : Some k ≡ None = found in cc)
    by_test false is found later = elim (cases_eq k d) [
      | inl same ↦ ap p (sym same) ∙ is
      | inr apart ↦ later found (omega (arith, apart, low))
    ]

claimed_by : (d : ℕ) (o : Option (List ℕ)) (c : Claim)
    → option_and_then (λ (r : DevRec). r.claim) (option_and_then (record_in d) o) ≡ Some c
    → unwrap_or (option_map has_claim o) false ≡ true
claimed_by d None c is = absurd (let e : None ≡ Some c = is in cc)
claimed_by d (Some bytes) c is = by_tests (is_record bytes) (is_flagged bytes) is
  where
    by_tests : (r f : Bool)
        → option_and_then (λ (z : DevRec). z.claim) (record_by d bytes r f) ≡ Some c
        → (r && f) ≡ true
    by_tests true true k = refl
    by_tests true false k = absurd (let e : None ≡ Some c = k in cc)
    by_tests false f k = absurd (let e : None ≡ Some c = k in cc)

-- where the store has no open claim nothing is to be healed
pub nothing_healed : (x : Setting) (y : Situation)
    → open_device_of x.board (variables_of y.store) ≡ None
    → Goes x IsAny (IsHealed x y.bench.contents) (heal_tasks x y.bench.contents) nothing y
    (Ok (tt {0})) y
nothing_healed x y none = record {
  from = λ b rest way may left at.
      let is : find is_open b.machine.list ≡ None =
      unopened b way at (find is_open b.machine.list) refl in
      record {
        steps = 0;
        left = left ∙ ap (λ (o : Option Element).
            heal_by (end_among x y.bench.contents o) o ++ rest) is;
        at = at;
        keeps = sym (ap (λ (o : Option Element).
            settled_with b.machine (end_among x y.bench.contents o) o) is);
      };
}
  where
    unopened : (b : BootState) → IsUnderWay x b → IsAt x b y → (o : Option Element)
        → find is_open b.machine.list ≡ o → find is_open b.machine.list ≡ None
    unopened b way at None is = is
    unopened b way at (Some e) is =
        let m : Machine = b.machine in
        let last : IsLastOpen m.list e =
        last_open m e (open_last x.formats x.board m (reached_now x b way)) is in
        let d : ℕ = e.key.device in
        let low : d < length x.board.devices =
        (open_unit x.formats x.board m e (reached_now x b way) last).device in
        let there : d < length m.board.devices =
        subst (λ (c : BoardValue). d < length c.devices) (sym at.outside.board) low in
        let claim : claim_of (variables_of y.store) d ≡ Some (claim_for e) =
        at.stores.variables.claims d there
        ∙ ap (option_map claim_for) (own_open m.list e d last (same_number d)) in
        let off : is_claimed (variables_of y.store) d ≡ false =
        none_passes (is_claimed (variables_of y.store)) 0 (length x.board.devices) d none
        (omega arith) (omega (arith, low)) in
        absurd (true≢false
        (sym (claimed_by d (bytes_in (variables_of y.store) (Device d)) (claim_for e) claim) ∙ off))
      where
        same_number : (n : ℕ) → (n == n) ≡ true
        same_number n = grind (arith, nat_tests)

-- ---- the call

-- an open claim has a line
record HasLine (x : Setting) (y : Situation) : Type 0 where
  line : UnitLine
  is : open_line x.slot_of x.board y.store y.bench ≡ Some line

line_of_open : (x : Setting) (y : Situation) (d : ℕ)
    → open_device_of x.board (variables_of y.store) ≡ Some d → HasLine x y
line_of_open x y d first =
    by_claim (open_claim_of x.board (variables_of y.store)) refl
    (as_open x.board (variables_of y.store) ∙ ap is_some first)
  where
    by_claim : (o : Option Claim) → open_claim_of x.board (variables_of y.store) ≡ o
        → is_some o ≡ true → HasLine x y
    by_claim None is some = absurd (true≢false (sym some))
    by_claim (Some c) is some = record {
      line = line_ended x.board (variables_of y.store) Heal c
          (end_read x.slot_of y.bench.contents c);
      is = ap (option_map (λ (k : Claim). line_ended x.board (variables_of y.store) Heal k
          (end_read x.slot_of y.bench.contents k))) is;
    }

-- what is known of the open claim before it is settled
pub record IsClaimedAt (x : Setting) (y : Situation) (o : Option ℕ) : Type 0 where
  pub is : o ≡ open_device_of x.board (variables_of y.store)
  pub some : is_some o ≡ true
  pub wide : IfSome o (IsWide x.board (variables_of y.store))
  pub clean : y.bench.contents.told ≡ true → IsClean y.bench.contents
  pub regions : y.bench.contents.regions ≡ 2 + length x.board.devices

pub heal_goes : (x : Setting) (y z : Situation) (o : Option ℕ) (line : UnitLine)
    → IsClaimedAt x y o
    → (y.bench.contents.told ≡ true → open_line x.slot_of x.board y.store y.bench ≡ Some line)
    → (y.bench.contents.told ≡ true
    → IsStored (open_settled x.slot_of x.board x.now y.store y.bench) y.store z.store)
    → (y.report.steps + 1 < 2 ^ 32 → z.report ≡ line_told line y.report)
    → ChangesBanks y.bench z.bench → IsReady z.store z.bench
    → Goes x IsAny (IsHealed x y.bench.contents) (heal_tasks x y.bench.contents) nothing y
    (Ok (tt {0})) z
heal_goes x y z None line k is_line done report banks ready = absurd (true≢false (sym k.some))
heal_goes x y z (Some d) line k is_line done report banks ready = record {
  from = λ b rest way may left at.
      let first : open_device_of x.board (variables_of y.store) ≡ Some d = sym k.is in
      let low : d < length x.board.devices = open_device_low x.board (variables_of y.store) d first in
      let more : 2 + length x.board.devices ≤ y.bench.contents.regions = omega (arith, k.regions) in
      let clean : IsClean y.bench.contents = k.clean at.told in
      let it : Goes x IsAny (IsHealed x y.bench.contents) (heal_tasks x y.bench.contents) nothing y
      (Ok (tt {0})) z =
      batch_goes x IsAny (IsHealed x y.bench.contents) (heal_tasks x y.bench.contents) y z
      (open_settled x.slot_of x.board x.now y.store y.bench) (line_told line) tt
      (heals_next x y d line first low k.wide clean more (is_line at.told))
      (healing_keeps x y d line first low k.wide clean more (is_line at.told)) (λ q p. refl) report
      banks (done at.told) ready in
      it.from b rest way may left at;
}

pub heal_fails : (x : Setting) (y z : Situation) (o : Option ℕ) (fault : BootFault)
    → IsClaimedAt x y o
    → (y.bench.contents.told ≡ true
    → LeavesBatch (open_settled x.slot_of x.board x.now y.store y.bench) y.store z.store y.bench
    z.bench fault)
    → z.report ≡ y.report → ChangesBanks y.bench z.bench
    → Goes {T = Unit {0}} x IsAny (IsHealed x y.bench.contents) (heal_tasks x y.bench.contents)
    nothing y (Err fault) z
heal_fails x y z None fault k leaves report banks = absurd (true≢false (sym k.some))
heal_fails x y z (Some d) fault k leaves report banks = record {
  from = λ b rest way may left at.
      let first : open_device_of x.board (variables_of y.store) ≡ Some d = sym k.is in
      let low : d < length x.board.devices = open_device_low x.board (variables_of y.store) d first in
      let more : 2 + length x.board.devices ≤ y.bench.contents.regions = omega (arith, k.regions) in
      let l : HasLine x y = line_of_open x y d first in
      let it : Goes {T = Unit {0}} x IsAny (IsHealed x y.bench.contents)
      (heal_tasks x y.bench.contents) nothing y (Err fault) z =
      batch_fails x IsAny (IsHealed x y.bench.contents) (heal_tasks x y.bench.contents) y z
      (open_settled x.slot_of x.board x.now y.store y.bench) (line_told l.line) fault
      (heals_next x y d l.line first low k.wide (k.clean at.told) more l.is) report banks
      (leaves at.told) in
      it.from b rest way may left at;
}
