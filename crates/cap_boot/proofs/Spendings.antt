-- What stands beside the store once the list of spent units has one element more that tried nothing
-- or was refused.
use Rattle.std.proofs.Common.{◌≡◌, ℕ, Bool, false, ◌&&◌, cond, List, []}
use Rattle.std.proofs.Common.{◌∷◌, ◌++◌, find, map, refl, sym, ap, ◌∙◌, subst, IsTrue}
use Rattle.std.proofs.Common.{Option, None, Some}
use Rattle.std.proofs.lemmas.Bool.{and_right}
use Rattle.bench_model.specs.Bench.{Contents}
use Rattle.bench_model.specs.Boards.{BoardValue}
use Rattle.cu_base.specs.declared.ticket.Ticket.{Ticket}
use Rattle.cu_base.specs.declared.time.EfiTime.{EfiTime}
use Rattle.dev_claims.proofs.OneMore.{filter_front, image_stays}
use Rattle.dev_claims.specs.ClosedBy.{IsUntried}
use Rattle.reference_machine.specs.Events.{IsIn}
use Rattle.reference_machine.specs.Machine.{Machine}
use Rattle.reference_machine.specs.Spent.{Element, Image, end_in, end_of, image_left, image_of}
use Rattle.reference_machine.specs.Spent.{image_tried, is_attempt, is_attempted, is_on, is_open}
use Rattle.reference_machine.specs.Spent.{is_standing_open, left_by}
use Rattle.reference_machine.specs.Spent.Standing.{Closed}
use Rattle.reference_machine.specs.declared.unit.End.{End}
use Rattle.reference_machine.specs.declared.unit.End.TheVariants.{Refused, Sealed, Kept, Lost}
use Rattle.cap_boot.specs.Stands.{MayHold, OutsideIs, Setting}
use Rattle.cap_boot.specs.Stands.{TellsOpen, image_in, open_on}
use Rattle.cap_boot.specs.Tickets.{AreBegun, IsSublist, WasStarted, attempts_on}

-- ---- lists

-- one more item that fails a test is not found
pub find_front : {X : Type 0} (p : X → Bool) (xs : List X) (x : X) → p x ≡ false
    → find p (xs ++ x ∷ []) ≡ find p xs
find_front p [] x h = ap (λ b. cond b (Some x) None) h
find_front p (y ∷ ys) x h = ap (λ o. cond (p y) (Some y) o) (find_front p ys x h)

-- where a list with one item more is cut at an item: at the last, or before it
pub data IsCut {X : Type 0} (xs : List X) (x : X) (before : List X) (y : X) (rest : List X) :
    Type 0 where
  AtLast : xs ≡ before → x ≡ y → IsCut xs x before y rest
  Before : (more : List X) → xs ≡ before ++ y ∷ more → IsCut xs x before y rest

cut_one : {X : Type 0} (x : X) (before : List X) (y : X) (rest : List X)
    → x ∷ [] ≡ before ++ y ∷ rest → IsCut [] x before y rest
cut_one x [] y rest is = AtLast refl (let e : x ≡ y = cc in e)
cut_one x (b ∷ []) y rest is = absurd cc
cut_one x (b ∷ (c ∷ bs)) y rest is = absurd cc

pub cut_last : {X : Type 0} (xs : List X) (x : X) (before : List X) (y : X) (rest : List X)
    → xs ++ x ∷ [] ≡ before ++ y ∷ rest → IsCut xs x before y rest
cut_last [] x before y rest is = cut_one x before y rest is
cut_last (w ∷ ws) x [] y rest is = Before ws (let e : w ≡ y = cc in ap (λ v. v ∷ ws) e)
cut_last (w ∷ ws) x (b ∷ bs) y rest is = later (cut_last ws x bs y rest (let e : ws ++ x ∷ [] ≡
    bs ++ y ∷ rest = cc in e))
  where
    same : w ≡ b
    same = cc

    later : IsCut ws x bs y rest → IsCut (w ∷ ws) x (b ∷ bs) y rest
    later (AtLast e k) = AtLast (ap (λ v. v ∷ ws) same ∙ ap (λ l. b ∷ l) e) k
    later (Before more e) = Before more (ap (λ v. v ∷ ws) same ∙ ap (λ l. b ∷ l) e)

-- ---- an element that started nothing

pub record StartedNothing (e : Element) : Type 0 where
  pub closed : is_open e ≡ false
  pub left : image_left e ≡ None
  pub tried : is_attempt e ≡ false
  pub quiet : (before : Option Image) → WasStarted (end_of e) before → ⊥

pub started_nothing : (e : Element) (end : Option End) (at : EfiTime)
    → e.standing ≡ Closed end at → IsUntried end → StartedNothing e
started_nothing e end at closed is = record {
  closed = ap is_standing_open closed;
  left = ap (λ s. left_by (image_tried e) (end_in s)) closed ∙ none_left end is;
  tried = ap is_attempted closed ∙ no_attempt end is;
  quiet = λ before was. none_started end is before
      (subst (λ s. WasStarted (end_in s) before) closed was);
}
  where
    none_left : (o : Option End) → IsUntried o → left_by (image_tried e) o ≡ None
    none_left None k = refl
    none_left (Some (Refused status)) k = refl
    none_left (Some Sealed) k = absurd k
    none_left (Some Kept) k = absurd k
    none_left (Some Lost) k = absurd k

    no_attempt : (o : Option End) → IsUntried o → is_attempted (Closed o at) ≡ false
    no_attempt None k = refl
    no_attempt (Some (Refused status)) k = refl
    no_attempt (Some Sealed) k = absurd k
    no_attempt (Some Kept) k = absurd k
    no_attempt (Some Lost) k = absurd k

    none_started : (o : Option End) → IsUntried o → (before : Option Image)
        → WasStarted o before → ⊥
    none_started None k before was = was
    none_started (Some (Refused status)) k before was = was
    none_started (Some Sealed) k before was = k
    none_started (Some Kept) k before was = k
    none_started (Some Lost) k before was = k

module _ (board : BoardValue) (list : List Element) (e : Element) (n : StartedNothing e)
    (d : ℕ) where
  open_stays : open_on (list ++ e ∷ []) d ≡ open_on list d
  open_stays =
      find_front (λ (x : Element). is_open x && is_on d x) list e
      (ap (λ b. b && is_on d e) n.closed)

  image_kept : image_of board (list ++ e ∷ []) d ≡ image_of board list d
  image_kept = image_stays board list e d n.left

  attempts_stay : attempts_on (list ++ e ∷ []) d ≡ attempts_on list d
  attempts_stay =
      ap (map (λ (x : Element). x.key.ticket))
      (filter_front (λ (x : Element). is_on d x && is_attempt x) list e
      (and_right (is_on d e) (is_attempt e) n.tried))

  slot_stays : (image : Option Image) → MayHold (image_of board list d) (open_on list d) image
      → MayHold (image_of board (list ++ e ∷ []) d) (open_on (list ++ e ∷ []) d) image
  slot_stays image fits =
      subst (λ (o : Option Element). MayHold (image_of board (list ++ e ∷ []) d) o image)
      (sym open_stays)
      (subst (λ (i : Option Image). MayHold i (open_on list d) image) (sym image_kept) fits)

  begun_stays : (begun : List Ticket) → AreBegun board list d begun
      → AreBegun board (list ++ e ∷ []) d begun
  begun_stays begun are = record {
    distinct = are.distinct;
    within = subst (IsSublist begun) (sym attempts_stay) are.within;
    started = λ before rest x is on was. by_cut before rest x on was
        (cut_last list e before x rest is);
  }
    where
      by_cut : (before rest : List Element) (x : Element) → IsTrue (is_on d x)
          → WasStarted (end_of x) (image_of board before d) → IsCut list e before x rest
          → IsIn x.key.ticket begun
      by_cut before rest x on was (AtLast same is) =
          absurd (n.quiet (image_of board before d)
          (subst (λ (y : Element). WasStarted (end_of y) (image_of board before d)) (sym is) was))
      by_cut before rest x on was (Before more is) = are.started before more x is on was

  tells_stays : (begun : List Ticket) (image : Option Image)
      → TellsOpen begun (image_of board list d) (open_on list d) image
      → TellsOpen begun (image_of board (list ++ e ∷ []) d) (open_on (list ++ e ∷ []) d) image
  tells_stays begun image tells =
      subst (λ (o : Option Element). TellsOpen begun (image_of board (list ++ e ∷ []) d) o image)
      (sym open_stays)
      (subst (λ (i : Option Image). TellsOpen begun i (open_on list d) image) (sym image_kept)
      tells)

-- all beside the store is that of the machine with the element too
pub outside_untried : (x : Setting) (s : Contents) (m : Machine) (e : Element)
    (progress : List ℕ) (batches : ℕ) → StartedNothing e → OutsideIs x s m
    → OutsideIs x s
    (record m { list = m.list ++ e ∷ []; in_progress = progress; batches = batches })
outside_untried x s m e progress batches n o = record {
  board = o.board;
  devices = λ d lt bytes is.
      let fits = o.devices d lt bytes is in
      let image : Option Image = image_in x.slot_of bytes in
      record {
        slot = slot_stays m.board m.list e n d image fits.slot;
        begun = record {
          are = begun_stays m.board m.list e n d (s.rest.begun d) fits.begun.are;
          tells = tells_stays m.board m.list e n d (s.rest.begun d) image fits.begun.tells;
        };
      };
  folder = o.folder;
  memory = o.memory;
}
