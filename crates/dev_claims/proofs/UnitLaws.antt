-- The batches of a unit leave the variables of the machine with its claim, with its element settled
-- and with its element closed.
use Rattle.std.proofs.Common.{◌≡◌, ℕ, ◌+◌, ◌<◌, ◌==◌, Bool, true, false, ◌&&◌, cond, List, []}
use Rattle.std.proofs.Common.{◌∷◌, ◌++◌, find, length, map, Option, Some, None, option_map, refl}
use Rattle.std.proofs.Common.{sym}
use Rattle.std.proofs.Common.{ap, ◌∙◌, subst}
use Rattle.std.specs.List.{list_any}
use Rattle.std.proofs.lemmas.Bool.{and_right, eqb-true}
use Rattle.cu_base.specs.declared.time.EfiTime.{EfiTime}
use Rattle.reference_machine.specs.Boots.{closed_with, progress_with, settled, settled_with}
use Rattle.reference_machine.specs.Boots.{with_claim, with_element}
use Rattle.reference_machine.specs.Machine.{Machine}
use Rattle.reference_machine.specs.Results.{last_result, state_of}
use Rattle.reference_machine.specs.Spent.{Element, Standing, is_on, is_open, is_standing_open}
use Rattle.reference_machine.specs.Spent.{spent}
use Rattle.reference_machine.specs.Spent.Standing.{Open, Closed}
use Rattle.reference_machine.specs.declared.unit.End.{End}
use Rattle.reference_machine.proofs.Lists.{NoneOpen, closed, closed_more}
use Rattle.dev_claims.specs.Next.{IsNext, MayEnd}
use Rattle.dev_claims.specs.Units.{claim_changes, close_changes, settle_changes}
use Rattle.dev_claims.proofs.CloseLaws.{Closes, closes_holds, no_claim, record_set}
use Rattle.dev_claims.proofs.OneMore.{greatest_open, last_open, results_open, spent_open}
use Rattle.dev_claims.proofs.OneMore.{state_open}
use Rattle.stored_vars.specs.Holds.{bytes_in, claim_of, device_of}
use Rattle.stored_vars.specs.Records.{IsClaim, IsState, record_bytes}
use Rattle.stored_vars.specs.Stands.{Holds, claim_for, claim_on, greatest_on, result_on}
use Rattle.stored_vars.specs.Variables.{is_variable}
use Rattle.stored_vars.specs.declared.claim.DevRec.{DevRec}
use Rattle.stored_vars.specs.declared.variable.StoredVar.{StoredVar}
use Rattle.stored_vars.specs.declared.variable.StoredVar.TheVariants.{Device, Progress, Serial}
use Rattle.stored_vars.specs.declared.variable.StoredVar.TheVariants.{Stage, OsIndications}
use Rattle.stored_vars.specs.declared.variable.StoredVar.TheVariants.{CapsuleMax, CapsuleLast}
use Rattle.stored_vars.specs.declared.variable.StoredVar.TheVariants.{Outcome}
use Rattle.stored_vars.proofs.Alike.{asked_alike, claim_alike, device_alike, entries_alike}
use Rattle.stored_vars.proofs.Alike.{last_alike}
use Rattle.stored_vars.proofs.Alike.{serial_alike, staged_alike, units_alike}
use Rattle.stored_vars.proofs.Entries.{entries_wide}
use Rattle.stored_vars.proofs.Frames.{AreVariables, Edit, change_of, platforms_after, read_after}
use Rattle.stored_vars.proofs.Frames.{told}
use Rattle.stored_vars.proofs.Frames.Edit.{Sets}
use Rattle.stored_vars.proofs.Kept.{device_within, result_within, stage_within}
use Rattle.var_log.specs.Changes.{Variables, after}

-- ---- the open element of a list

pub none_open : (list : List Element) → find is_open list ≡ None → NoneOpen list
none_open [] h = tt
none_open (x ∷ xs) h = by_test (is_open x) refl h (none_open xs)
  where
    by_test : (b : Bool) → is_open x ≡ b → cond b (Some x) (find is_open xs) ≡ None
        → (find is_open xs ≡ None → NoneOpen xs) → NoneOpen (x ∷ xs)
    by_test true e k rest = absurd cc
    by_test false e k rest = (e, rest k)

pub record FoundAt (list : List Element) (e : Element) : Type 0 where
  pub front : List Element
  pub rest : List Element
  pub parts : list ≡ front ++ e ∷ rest
  pub none : NoneOpen front
  pub is_it : is_open e ≡ true

pub found_at : (list : List Element) (e : Element) → find is_open list ≡ Some e → FoundAt list e
found_at [] e h = absurd cc
found_at (x ∷ xs) e h = by_test (is_open x) refl h (found_at xs e)
  where
    by_test : (b : Bool) → is_open x ≡ b → cond b (Some x) (find is_open xs) ≡ Some e
        → (find is_open xs ≡ Some e → FoundAt xs e) → FoundAt (x ∷ xs) e
    by_test true is k later =
        let same : x ≡ e = cc in
        record {
          front = [];
          rest = xs;
          parts = ap (λ y. y ∷ xs) same;
          none = tt;
          is_it = subst (λ y. is_open y ≡ true) same is;
        }
    by_test false is k later =
        let at = later k in
        record {
          front = x ∷ at.front;
          rest = at.rest;
          parts = ap (λ l. x ∷ l) at.parts;
          none = (is, at.none);
          is_it = at.is_it;
        }

open_standing : (s : Standing) → is_standing_open s ≡ true → s ≡ Open
open_standing Open h = refl
open_standing (Closed end at) h = absurd cc

-- the claim on a device by a list of which the last alone may be open
claim_last : (list : List Element) (e : Element) (d : ℕ) → NoneOpen list
    → claim_on (list ++ e ∷ []) d ≡ cond (is_open e && is_on d e) (Some (claim_for e)) None
claim_last list e d none =
    ap (option_map claim_for) (found list none) ∙ by_test (is_open e && is_on d e)
  where
    found : (es : List Element) → NoneOpen es
        → find (λ x. is_open x && is_on d x) (es ++ e ∷ [])
        ≡ cond (is_open e && is_on d e) (Some e) None
    found [] h = refl
    found (x ∷ xs) h =
        ap (λ b. cond (b && is_on d x) (Some x)
        (find (λ y. is_open y && is_on d y) (xs ++ e ∷ []))) h.0
        ∙ found xs h.1

    by_test : (b : Bool) → option_map claim_for (cond b (Some e) None)
        ≡ cond b (Some (claim_for e)) None
    by_test true = refl
    by_test false = refl

-- ---- a unit that is closed without a claim

pub close_holds : (variables : Variables) (m : Machine) (e : Element) (end : Option End)
    (at : EfiTime) → IsNext m e → e.standing ≡ Closed end at → MayEnd m.board e end
    → find is_open m.list ≡ None → Holds variables m
    → Holds (after variables (close_changes m.board variables e)) (with_element m e)
close_holds variables m e end at n closed_at ends none_is h =
    let none : NoneOpen m.list = none_open m.list none_is in
    closes_holds variables m m.list e end at (record {
      board = n.board;
      none = none;
      closed_at = closed_at;
      ends = ends;
      devices = h.devices;
      unclaimed = λ d low off. h.claims d low ∙ no_claim m.list d none;
      results = h.results;
      greatest = h.greatest;
      last = h.last;
      staged = h.staged;
      serial = h.serial;
      asked = h.asked;
      progress = h.progress;
      others = h.others;
      entries = entries_wide variables m h.progress n.progress;
      unit = n.unit;
      few = n.few;
      low = n.serial;
      version = n.version;
      floor = n.floor;
      state = n.state;
    })

-- ---- the open unit

settle_front : (variables : Variables) (m : Machine) (e : Element) (end : End)
    (front : List Element) → IsNext m e → MayEnd m.board e (Some end)
    → m.list ≡ front ++ e ∷ [] → NoneOpen front → is_open e ≡ true → Holds variables m
    → Closes variables m front (closed e end m.now) (Some end) m.now
settle_front variables m e end front n ends parts none is_it h =
    let open_is : e.standing ≡ Open = open_standing e.standing is_it in
    let state_is : (d : ℕ) → state_of m.board m.list d ≡ state_of m.board front d =
    λ d. ap (λ l. state_of m.board l d) parts ∙ state_open front e open_is m.board d in
    let spent_is : (s : ℕ) → spent m.list s ≡ spent front s =
    λ s. ap (λ l. spent l s) parts ∙ spent_open front e open_is s in
    record {
      board = n.board;
      none = none;
      closed_at = refl;
      ends = ends;
      devices = λ d low. h.devices d low ∙ state_is d;
      unclaimed = λ d low off.
          h.claims d low ∙ ap (λ l. claim_on l d) parts ∙ claim_last front e d none
          ∙ ap (λ b. cond b (Some (claim_for e)) None) (and_right (is_open e) (is_on d e) off);
      results = λ k low.
          h.results k low ∙ ap (λ l. result_on m.board l k) parts
          ∙ results_open front e open_is m.board k;
      greatest = h.greatest ∙ ap (greatest_on m.board) parts
          ∙ greatest_open front e open_is m.board;
      last = h.last ∙ ap (last_result m.board) parts
          ∙ last_open front e open_is m.board;
      staged = h.staged;
      serial = h.serial;
      asked = h.asked;
      progress = λ s.
          h.progress s
          ∙ ap (λ k. cond (list_any (λ t. t == s) m.in_progress) (Some k) None) (spent_is s);
      others = h.others;
      entries = entries_wide variables m h.progress n.progress;
      unit = λ route. n.unit route ∙ spent_is e.key.ticket.serial;
      few = n.few;
      low = n.serial;
      version = n.version;
      floor = n.floor;
      state = λ on. subst IsState (state_is e.key.device) (n.state on);
    }

pub settle_holds : (variables : Variables) (m : Machine) (e : Element) (end : End) → IsNext m e
    → find is_open m.list ≡ Some e → MayEnd m.board e (Some end) → Holds variables m
    → Holds (after variables (settle_changes m.board variables e end m.now)) (settled m end)
settle_holds variables m e end n found_is ends h =
    let at : FoundAt m.list e = found_at m.list e found_is in
    let alone : at.rest ≡ [] = n.open_last at.front at.rest e at.parts at.is_it in
    let parts : m.list ≡ at.front ++ e ∷ [] = at.parts ∙ ap (λ l. at.front ++ e ∷ l) alone in
    let list_is : map (closed_with end m.now) m.list ≡ at.front ++ closed e end m.now ∷ [] =
    ap (map (closed_with end m.now)) parts
    ∙ closed_more end m.now at.front e at.none at.is_it in
    let new_is : settled m end ≡ record m {
      list = at.front ++ closed e end m.now ∷ [];
      in_progress = progress_with m.in_progress e.key;
      batches = m.batches + 1;
    } =
    ap (settled_with m end) found_is
    ∙ ap (λ l. record m {
      list = l;
      in_progress = progress_with m.in_progress e.key;
      batches = m.batches + 1;
    }) list_is in
    subst (Holds (after variables (settle_changes m.board variables e end m.now))) (sym new_is)
    (closes_holds variables m at.front (closed e end m.now) (Some end) m.now
    (settle_front variables m e end at.front n ends parts at.none at.is_it h))

-- ---- a claim

module _ (variables : Variables) (m : Machine) (e : Element) (n : IsNext m e)
    (is_claim : IsClaim e.key.device (claim_for e)) (on : e.key.device < length m.board.devices)
    (open_is : e.standing ≡ Open) (none_is : find is_open m.list ≡ None)
    (h : Holds variables m) where
  abbrev claimed : DevRec
  claimed = record {
    state = device_of m.board variables e.key.device;
    claim = Some (claim_for e);
  }

  abbrev es : List Edit
  es = Sets (Device e.key.device) (record_bytes claimed) ∷ []

  abbrev new : Variables
  new = after variables (map change_of es)

  within : AreVariables es
  within = (device_within m.board e.key.device n.board on, tt)

  read : (w : StoredVar) → is_variable w ≡ true
      → bytes_in new w ≡ told es w (bytes_in variables w)
  read w is = read_after variables es w within is

  before : device_of m.board variables e.key.device ≡ state_of m.board m.list e.key.device
  before = h.devices e.key.device on

  abbrev Device_is : ℕ → Type 0
  Device_is d =
      (device_of m.board new d ≡ state_of m.board (m.list ++ e ∷ []) d)
      × (claim_of new d ≡ claim_on (m.list ++ e ∷ []) d)

  claim_is : (d : ℕ) (b : Bool) → is_on d e ≡ b
      → claim_on (m.list ++ e ∷ []) d ≡ cond b (Some (claim_for e)) None
  claim_is d b k =
      claim_last m.list e d (none_open m.list none_is)
      ∙ ap (λ t. cond (t && is_on d e) (Some (claim_for e)) None) (ap is_standing_open open_is)
      ∙ ap (λ t. cond t (Some (claim_for e)) None) k

  device_is : (d : ℕ) → d < length m.board.devices → Device_is d
  device_is d low =
      by_on (e.key.device == d) refl (read (Device d) (device_within m.board d n.board low))
    where
      by_on : (b : Bool) → (e.key.device == d) ≡ b
          → bytes_in new (Device d)
          ≡ cond b (Some (record_bytes claimed)) (bytes_in variables (Device d)) → Device_is d
      by_on true k is =
          let same : e.key.device ≡ d = eqb-true e.key.device d k in
          let parts = record_set m.board new d claimed (record {
            state = subst IsState (sym before) (n.state on);
            claim = subst (λ x. IsClaim x (claim_for e)) same is_claim;
          }) is in (
            parts.0 ∙ before ∙ ap (state_of m.board m.list) same
                ∙ sym (state_open m.list e open_is m.board d),
            parts.1 ∙ sym (claim_is d true k),
          )
      by_on false k is = (
        device_alike m.board new variables d is ∙ h.devices d low
            ∙ sym (state_open m.list e open_is m.board d),
        claim_alike new variables d is ∙ h.claims d low
            ∙ no_claim m.list d (none_open m.list none_is) ∙ sym (claim_is d false k),
      )

  pub claim_holds : Holds (after variables (claim_changes m.board variables (claim_for e)))
      (with_claim m e)
  claim_holds = record {
    devices = λ d low. (device_is d low).0;
    claims = λ d low. (device_is d low).1;
    results = λ k low.
        read (Outcome k) (result_within m.board k n.board low) ∙ h.results k low
        ∙ sym (results_open m.list e open_is m.board k);
    greatest = read CapsuleMax refl ∙ h.greatest ∙ sym (greatest_open m.list e open_is m.board);
    last = last_alike new variables (read CapsuleLast refl) ∙ h.last
        ∙ sym (last_open m.list e open_is m.board);
    staged = staged_alike new variables (λ k low. read (Stage k) (stage_within k low)) ∙ h.staged;
    serial = serial_alike new variables (read Serial refl) ∙ h.serial;
    asked = asked_alike new variables (read OsIndications refl) ∙ h.asked;
    progress = λ s.
        units_alike new variables s (entries_alike new variables (read Progress refl))
        ∙ h.progress s
        ∙ ap (λ k. cond (list_any (λ t. t == s) m.in_progress) (Some k) None)
        (sym (spent_open m.list e open_is s));
    others = platforms_after variables es within h.others;
  }
