-- What stands beside the store once the open element of a list is closed by what its device holds.
use Rattle.std.proofs.Common.{◌≡◌, ◌≢◌, ◌⊎◌, inl, inr, ℕ, ◌+◌, ◌<◌, Bool, true, false, ◌&&◌, cond, length, List}
use Rattle.std.proofs.Common.{[], ◌∷◌, ◌++◌, find, filter, map, refl, sym, ap, ◌∙◌, subst, IsTrue}
use Rattle.std.proofs.Common.{append_assoc, Option, None, Some, true≢false}
use Rattle.std.proofs.lemmas.Bool.{and_right, eqb-true}
use Rattle.bench_model.specs.Bench.{Contents, region_at, region_of}
use Rattle.bench_model.specs.Boards.{BoardValue}
use Rattle.bench_model.specs.Regions.{IsImage}
use Rattle.cu_base.specs.declared.ticket.Ticket.{Ticket}
use Rattle.cu_base.specs.declared.time.EfiTime.{EfiTime}
use Rattle.dev_claims.proofs.OneMore.{filter_front, filter_last, image_beside, image_set, image_stays}
use Rattle.reference_machine.specs.Boots.{closed_with, progress_with, settled, settled_with}
use Rattle.reference_machine.specs.Events.{IsIn}
use Rattle.reference_machine.specs.Machine.{Machine, folder_of}
use Rattle.reference_machine.specs.Spent.{Element, Image, end_in, end_of, image_left, image_of}
use Rattle.reference_machine.specs.Spent.{image_tried, is_attempt, is_attempted, is_on, is_open}
use Rattle.reference_machine.specs.Spent.{Standing, is_standing_open, left_by}
use Rattle.reference_machine.specs.Spent.Standing.{Closed, Open}
use Rattle.reference_machine.specs.declared.unit.End.{End}
use Rattle.reference_machine.specs.declared.unit.End.TheVariants.{Refused, Sealed, Kept, Lost}
use Rattle.reference_machine.proofs.Lists.{NoneOpen, closed, closed_more}
use Rattle.cap_boot.specs.Stands.{DeviceFits, MayHold, OutsideIs, Setting}
use Rattle.cap_boot.specs.Stands.{TellsOpen, image_in, open_on}
use Rattle.cap_boot.specs.Tickets.{AreBegun, IsSublist, WasStarted, attempts_on}
use Rattle.cap_boot.proofs.Spendings.{IsCut, cut_last, find_front}
use Rattle.cap_boot.proofs.Spendings.IsCut.{AtLast, Before}

-- a list whose last element is open, and nothing before it
pub record IsLastOpen (list : List Element) (e : Element) : Type 0 where
  pub front : List Element
  pub parts : list ≡ front ++ e ∷ []
  pub none : NoneOpen front
  pub is_it : is_open e ≡ true

-- what an end says that a device holds which held this image before
abbrev pub AgreesWithEnd : Option Image → Element → End → Option Image → Type 0
AgreesWithEnd before e (Refused status) image = ⊥
AgreesWithEnd before e Sealed image = image ≡ Some (image_tried e)
AgreesWithEnd before e Kept image = image ≡ before
AgreesWithEnd before e Lost image = image ≡ None

-- the image before is of another ticket
abbrev pub IsOfOther : Element → Option Image → Type 0
IsOfOther e None = Unit {0}
IsOfOther e (Some i) = i.ticket ≢ e.key.ticket

-- no open element of a list is on a device
pub none_on : (list : List Element) (d : ℕ) → NoneOpen list → open_on list d ≡ None
none_on [] d none = refl
none_on (e ∷ es) d none =
    ap (λ b. cond (b && is_on d e) (Some e) (open_on es d)) none.0 ∙ none_on es d none.1

open_is : (e : Element) → is_open e ≡ true → e.standing ≡ Open
open_is e h = by_standing e.standing h
  where
    by_standing : (s : Standing) → is_standing_open s ≡ true → s ≡ Open
    by_standing Open k = refl
    by_standing (Closed end at) k = absurd (let z : false ≡ true = k in cc)

module _ (board : BoardValue) (front : List Element) (e : Element) (end : End) (now : EfiTime)
    (none : NoneOpen front) (is_it : is_open e ≡ true) where
  abbrev last : Element
  last = closed e end now

  -- the list with the element open, and with it closed
  abbrev with_open : List Element
  with_open = front ++ e ∷ []

  abbrev with_closed : List Element
  with_closed = front ++ last ∷ []

  left_none : image_left e ≡ None
  left_none = ap (λ s. left_by (image_tried e) (end_in s)) (open_is e is_it)

  pub attempt_was : is_attempt e ≡ true
  attempt_was = ap is_attempted (open_is e is_it)

  pub image_was : (d : ℕ) → image_of board with_open d ≡ image_of board front d
  image_was d = image_stays board front e d left_none

  open_gone : (d : ℕ) → open_on with_closed d ≡ None
  open_gone d =
      find_front (λ (x : Element). is_open x && is_on d x) front last refl ∙ none_on front d none

  -- an element before the last one was started as before
  started_before : (d : ℕ) (begun : List Ticket) → AreBegun board with_open d begun
      → (before more : List Element) (x : Element) → front ≡ before ++ x ∷ more
      → IsTrue (is_on d x) → WasStarted (end_of x) (image_of board before d)
      → IsIn x.key.ticket begun
  started_before d begun are before more x is on was =
      are.started before (more ++ e ∷ []) x
      (ap (λ (l : List Element). l ++ e ∷ []) is ∙ append_assoc before (x ∷ more) (e ∷ [])) on was

  -- ---- another device

  beside_fits : (slot : Option Image) (d : ℕ) (begun : List Ticket) → is_on d e ≡ false
      → MayHold (image_of board with_open d) (open_on with_open d) slot
      → AreBegun board with_open d begun
      → MayHold (image_of board with_closed d) (open_on with_closed d) slot
      × AreBegun board with_closed d begun
  beside_fits slot d begun off holds are = (
    subst (λ (o : Option Element). MayHold (image_of board with_closed d) o slot)
        (sym (open_gone d))
        (subst (λ (i : Option Image). slot ≡ i) same
        (subst (λ (o : Option Element). MayHold (image_of board with_open d) o slot) was_none
        holds)),
    record {
      distinct = are.distinct;
      within = subst (IsSublist begun) attempts are.within;
      started = λ before rest x is on was.
          by_cut before rest x on was (cut_last front last before x rest is);
    },
  )
    where
      same : image_of board with_open d ≡ image_of board with_closed d
      same = image_beside board front e d off ∙ sym (image_beside board front last d off)

      was_none : open_on with_open d ≡ None
      was_none =
          find_front (λ (x : Element). is_open x && is_on d x) front e
          (and_right (is_open e) (is_on d e) off)
          ∙ none_on front d none

      attempts : attempts_on with_open d ≡ attempts_on with_closed d
      attempts =
          ap (map (λ (x : Element). x.key.ticket))
          (filter_front (λ (x : Element). is_on d x && is_attempt x) front e
          (ap (λ b. b && is_attempt e) off)
          ∙ sym (filter_front (λ (x : Element). is_on d x && is_attempt x) front last
          (ap (λ b. b && is_attempt last) off)))

      by_cut : (before rest : List Element) (x : Element) → IsTrue (is_on d x)
          → WasStarted (end_of x) (image_of board before d) → IsCut front last before x rest
          → IsIn x.key.ticket begun
      by_cut before rest x on was (AtLast gone is) =
          absurd (true≢false (sym on
          ∙ ap (λ (y : Element). is_on d y) (sym is) ∙ off))
      by_cut before rest x on was (Before more is) =
          started_before d begun are before more x is on was

  -- ---- its own device

  -- what the end leaves
  held_after : (d : ℕ) (slot : Option Image) → is_on d e ≡ true
      → AgreesWithEnd (image_of board front d) e end slot
      → slot ≡ image_of board with_closed d
  held_after d slot on agrees = by_end end refl agrees
    where
      left_is : (k : End) → end ≡ k → image_left last ≡ left_by (image_tried e) (Some k)
      left_is k h = ap (λ o. left_by (image_tried e) (Some o)) h

      by_end : (k : End) → end ≡ k → AgreesWithEnd (image_of board front d) e k slot
          → slot ≡ image_of board with_closed d
      by_end (Refused status) h a = absurd a
      by_end Sealed h a =
          a ∙ sym (image_set board front last d on (Some (image_tried e)) (left_is Sealed h))
      by_end Kept h a = a ∙ sym (image_stays board front last d (left_is Kept h))
      by_end Lost h a = a ∙ sym (image_set board front last d on None (left_is Lost h))

  is_attempt_after : (slot before : Option Image) → AgreesWithEnd before e end slot
      → is_attempt last ≡ true
  is_attempt_after slot before agrees = by_end end refl agrees
    where
      by_end : (k : End) → end ≡ k → AgreesWithEnd before e k slot
          → is_attempted (Closed (Some end) now) ≡ true
      by_end (Refused status) h a = absurd a
      by_end Sealed h a = ap (λ o. is_attempted (Closed (Some o) now)) h
      by_end Kept h a = ap (λ o. is_attempted (Closed (Some o) now)) h
      by_end Lost h a = ap (λ o. is_attempted (Closed (Some o) now)) h

  -- it was begun where its end tells that it was started
  begun_by_end : (d : ℕ) (slot before : Option Image) (begun : List Ticket)
      → IsOfOther e before → AgreesWithEnd before e end slot
      → (slot ≡ before) ⊎ IsIn e.key.ticket begun → WasStarted (Some end) before
      → IsIn e.key.ticket begun
  begun_by_end d slot before begun other agrees (inr is) was = is
  begun_by_end d slot before begun other agrees (inl same) was = by_end end agrees was
    where
      not_same : (o : Option Image) → Some (image_tried e) ≡ o → IsOfOther e o → ⊥
      not_same None h k = cc
      not_same (Some i) h k =
          k (let one : image_tried e ≡ i = cc in ap (λ (j : Image). j.ticket) (sym one))

      none_started : (o : Option Image) → None ≡ o → WasStarted (Some Lost) o → ⊥
      none_started None h k = k
      none_started (Some i) h k = absurd cc

      by_end : (k : End) → AgreesWithEnd before e k slot → WasStarted (Some k) before
          → IsIn e.key.ticket begun
      by_end (Refused status) a w = absurd a
      by_end Sealed a w = absurd (not_same before (sym a ∙ same) other)
      by_end Kept a w = absurd w
      by_end Lost a w = absurd (none_started before (sym a ∙ same) w)

  own_fits : (slot : Option Image) (d : ℕ) (begun : List Ticket) → is_on d e ≡ true
      → IsOfOther e (image_of board front d)
      → AgreesWithEnd (image_of board front d) e end slot
      → AreBegun board with_open d begun
      → TellsOpen begun (image_of board with_open d) (open_on with_open d) slot
      → MayHold (image_of board with_closed d) (open_on with_closed d) slot
      × AreBegun board with_closed d begun
  own_fits slot d begun on other agrees are tells = (
    subst (λ (o : Option Element). MayHold (image_of board with_closed d) o slot)
        (sym (open_gone d)) (held_after d slot on agrees),
    record {
      distinct = are.distinct;
      within = subst (IsSublist begun) attempts are.within;
      started = λ before rest x is at was.
          by_cut before rest x at was (cut_last front last before x rest is);
    },
  )
    where
      found : open_on with_open d ≡ Some e
      found = find_at front none
        where
          here : (is_open e && is_on d e) ≡ true
          here = ap (λ b. b && is_on d e) is_it ∙ on

          find_at : (es : List Element) → NoneOpen es → open_on (es ++ e ∷ []) d ≡ Some e
          find_at [] h = ap (λ b. cond b (Some e) None) here
          find_at (x ∷ xs) h =
              ap (λ b. cond (b && is_on d x) (Some x) (open_on (xs ++ e ∷ []) d)) h.0
              ∙ find_at xs h.1

      told : (slot ≡ image_of board front d) ⊎ IsIn e.key.ticket begun
      told =
          subst (λ (i : Option Image). (slot ≡ i) ⊎ IsIn e.key.ticket begun) (image_was d)
          (subst (λ (o : Option Element). TellsOpen begun (image_of board with_open d) o slot)
          found tells)

      attempts : attempts_on with_open d ≡ attempts_on with_closed d
      attempts =
          ap (map (λ (x : Element). x.key.ticket))
          (filter_last (λ (x : Element). is_on d x && is_attempt x) front e
          (ap (λ b. b && is_attempt e) on ∙ attempt_was))
          ∙ map_front front
          ∙ sym (ap (map (λ (x : Element). x.key.ticket))
          (filter_last (λ (x : Element). is_on d x && is_attempt x) front last
          (ap (λ b. b && is_attempt last) on
          ∙ is_attempt_after slot (image_of board front d) agrees)))
        where
          map_last : (es : List Element)
              → map (λ (x : Element). x.key.ticket) (es ++ e ∷ [])
              ≡ map (λ (x : Element). x.key.ticket) (es ++ last ∷ [])
          map_last [] = refl
          map_last (x ∷ xs) = ap (λ (ts : List Ticket). x.key.ticket ∷ ts) (map_last xs)

          map_front : (es : List Element)
              → map (λ (x : Element). x.key.ticket)
              (filter (λ (x : Element). is_on d x && is_attempt x) es ++ e ∷ [])
              ≡ map (λ (x : Element). x.key.ticket)
              (filter (λ (x : Element). is_on d x && is_attempt x) es ++ last ∷ [])
          map_front es = map_last (filter (λ (x : Element). is_on d x && is_attempt x) es)

      by_cut : (before rest : List Element) (x : Element) → IsTrue (is_on d x)
          → WasStarted (end_of x) (image_of board before d) → IsCut front last before x rest
          → IsIn x.key.ticket begun
      by_cut before rest x at was (AtLast gone is) =
          subst (λ (y : Element). IsIn y.key.ticket begun) is
          (begun_by_end d slot (image_of board front d) begun other agrees told
          (subst (λ (l : List Element). WasStarted (Some end) (image_of board l d)) (sym gone)
          (subst (λ (y : Element). WasStarted (end_of y) (image_of board before d)) (sym is) was)))
      by_cut before rest x at was (Before more is) =
          started_before d begun are before more x is at was

-- ---- all devices

-- all beside the store is that of the machine with the open element closed by what its device holds
-- in every image
pub outside_settled : (x : Setting) (s : Contents) (m : Machine) (e : Element) (end : End)
    → IsLastOpen m.list e → find is_open m.list ≡ Some e
    → IsOfOther e (image_of m.board m.list e.key.device)
    → ((bytes : List ℕ) → IsImage (region_at s (region_of e.key.device)) bytes
    → AgreesWithEnd (image_of m.board m.list e.key.device) e end (image_in x.slot_of bytes))
    → OutsideIs x s m → OutsideIs x s (settled m end)
outside_settled x s m e end at found other agrees o = record {
  board = ap (λ (n : Machine). n.board) new_is ∙ o.board;
  devices = λ d lt bytes is.
      subst (λ (n : Machine). DeviceFits x.slot_of n d (s.rest.begun d) bytes) (sym new_is)
      (by_device d lt bytes is (is_on d e) refl);
  folder = o.folder ∙ ap (λ (n : Machine). folder_of n)
      (sym new_is);
  memory = o.memory ∙ ap (λ (n : Machine). n.memory) (sym new_is);
}
  where
    new_is : settled m end ≡ record m {
      list = at.front ++ closed e end m.now ∷ [];
      in_progress = progress_with m.in_progress e.key;
      batches = m.batches + 1;
    }
    new_is =
        ap (settled_with m end) found
        ∙ ap (λ (l : List Element). record m {
          list = l;
          in_progress = progress_with m.in_progress e.key;
          batches = m.batches + 1;
        })
        (ap (map (closed_with end m.now)) at.parts
        ∙ closed_more end m.now at.front e at.none at.is_it)

    image_front : (d : ℕ) → image_of m.board m.list d ≡ image_of m.board at.front d
    image_front d =
        ap (λ (l : List Element). image_of m.board l d) at.parts
        ∙ image_was m.board at.front e end m.now at.none at.is_it d

    nothing_open : (d : ℕ) (slot : Option Image) (begun : List Ticket)
        → TellsOpen begun (image_of m.board (at.front ++ closed e end m.now ∷ []) d)
        (open_on (at.front ++ closed e end m.now ∷ []) d) slot
    nothing_open d slot begun =
        subst (λ (o : Option Element). TellsOpen begun
        (image_of m.board (at.front ++ closed e end m.now ∷ []) d) o slot)
        (sym (open_gone m.board at.front e end m.now at.none at.is_it d)) tt

    by_device : (d : ℕ) → d < length x.board.devices → (bytes : List ℕ)
        → IsImage (region_at s (region_of d)) bytes → (b : Bool) → is_on d e ≡ b
        → DeviceFits x.slot_of (record m {
          list = at.front ++ closed e end m.now ∷ [];
          in_progress = progress_with m.in_progress e.key;
          batches = m.batches + 1;
        }) d (s.rest.begun d) bytes
    by_device d lt bytes is false off =
        let fits = o.devices d lt bytes is in
        let slot : Option Image = image_in x.slot_of bytes in
        let begun : List Ticket = s.rest.begun d in
        let both = beside_fits m.board at.front e end m.now at.none at.is_it slot d begun off
        (subst (λ (l : List Element). MayHold (image_of m.board l d) (open_on l d) slot) at.parts
        fits.slot)
        (subst (λ (l : List Element). AreBegun m.board l d begun) at.parts fits.begun.are) in
        record {
          slot = both.0;
          begun = record { are = both.1; tells = nothing_open d slot begun };
        }
    by_device d lt bytes is true on =
        let fits = o.devices d lt bytes is in
        let slot : Option Image = image_in x.slot_of bytes in
        let begun : List Ticket = s.rest.begun d in
        let same : e.key.device ≡ d = eqb-true e.key.device d on in
        let both = own_fits m.board at.front e end m.now at.none at.is_it slot d begun on
        (subst (IsOfOther e) (ap (image_of m.board m.list) same ∙ image_front d) other)
        (subst (λ (i : Option Image). AgreesWithEnd i e end slot)
        (ap (image_of m.board m.list) same ∙ image_front d)
        (agrees bytes
        (subst (λ (k : ℕ). IsImage (region_at s (region_of k)) bytes) (sym same) is)))
        (subst (λ (l : List Element). AreBegun m.board l d begun) at.parts fits.begun.are)
        (subst (λ (l : List Element). TellsOpen begun (image_of m.board l d) (open_on l d) slot)
        at.parts fits.begun.tells) in
        record {
          slot = both.0;
          begun = record { are = both.1; tells = nothing_open d slot begun };
        }
