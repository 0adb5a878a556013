-- A list of spent units between two steps of a boot: either nothing is open, or the last element
-- alone is.
use Rattle.std.proofs.Common.{◌≡◌, ◌≤◌, true, false, cond, List, [], ◌∷◌, ◌++◌, map, find, refl}
use Rattle.std.proofs.Common.{IsTrue, sym, ap, ◌∙◌, subst, append_assoc, append-nil, Some, None}
use Rattle.cu_base.specs.declared.time.EfiTime.{EfiTime}
use Rattle.reference_machine.specs.declared.unit.End.{End}
use Rattle.bench_model.specs.Boards.{BoardValue}
use Rattle.reference_machine.specs.Boots.{closed_with}
use Rattle.reference_machine.specs.Laws.{OpenIsLast, AttemptsReachFloor}
use Rattle.reference_machine.specs.Stops.{IsHeldEnd}
use Rattle.reference_machine.specs.Spent.{Element, Standing, is_open, is_attempt, floor_of}
use Rattle.reference_machine.specs.Spent.Standing.{Open, Closed}

-- no element is open
abbrev pub NoneOpen : List Element → Type 0
NoneOpen [] = Unit {0}
NoneOpen (e ∷ es) = (is_open e ≡ false) × NoneOpen es

-- each attempt has at least the version of the floor at its place, behind the elements before
abbrev pub Above : BoardValue → List Element → List Element → Type 0
Above board before [] = Unit {0}
Above board before (e ∷ es) =
    (IsTrue (is_attempt e) → floor_of board before e.key.device ≤ e.version)
    × Above board (before ++ e ∷ []) es

pub record Rests (board : BoardValue) (list : List Element) : Type 0 where
  pub none : NoneOpen list
  pub above : Above board [] list

pub record Pends (board : BoardValue) (list : List Element) : Type 0 where
  pub front : List Element
  pub last : Element
  pub parts : list ≡ front ++ last ∷ []
  pub none : NoneOpen front
  pub is_last : is_open last ≡ true
  pub above : Above board [] list

-- an element behind a list of elements above their floors
pub above_more : (board : BoardValue) (before list : List Element) (e : Element)
    → Above board before list
    → (IsTrue (is_attempt e) → floor_of board (before ++ list) e.key.device ≤ e.version)
    → Above board before (list ++ e ∷ [])
above_more board before [] e above h = (
  subst (λ b. IsTrue (is_attempt e) → floor_of board b e.key.device ≤ e.version)
      (append-nil before) h,
  tt,
)
above_more board before (x ∷ xs) e above h = (
  above.0,
  above_more board (before ++ x ∷ []) xs e above.1
      (subst (λ b. IsTrue (is_attempt e) → floor_of board b e.key.device ≤ e.version)
      (sym (append_assoc before (x ∷ []) xs)) h),
)

-- what is known of the last of such a list
pub above_last : (board : BoardValue) (before list : List Element) (e : Element)
    → Above board before (list ++ e ∷ [])
    → Above board before list
    × (IsTrue (is_attempt e) → floor_of board (before ++ list) e.key.device ≤ e.version)
above_last board before [] e above = (
  tt,
  subst (λ b. IsTrue (is_attempt e) → floor_of board b e.key.device ≤ e.version)
      (sym (append-nil before)) above.0,
)
above_last board before (x ∷ xs) e above =
    let rest = above_last board (before ++ x ∷ []) xs e above.1 in (
      (above.0, rest.0),
      subst (λ b. IsTrue (is_attempt e) → floor_of board b e.key.device ≤ e.version)
          (append_assoc before (x ∷ []) xs) rest.1,
    )

-- what is known at each place
pub above_at : (board : BoardValue) (before list rest : List Element) (e : Element)
    → Above board before (list ++ e ∷ rest) → IsTrue (is_attempt e)
    → floor_of board (before ++ list) e.key.device ≤ e.version
above_at board before [] rest e above h =
    subst (λ b. floor_of board b e.key.device ≤ e.version) (sym (append-nil before)) (above.0 h)
above_at board before (x ∷ xs) rest e above h =
    subst (λ b. floor_of board b e.key.device ≤ e.version) (append_assoc before (x ∷ []) xs)
    (above_at board (before ++ x ∷ []) xs rest e above.1 h)

pub reach_floor : (board : BoardValue) (list : List Element) → Above board [] list
    → AttemptsReachFloor board list
reach_floor board list above before rest e is h =
    above_at board [] before rest e (subst (Above board []) is above) h

-- none open: an element of it is not
pub none_at : (before rest : List Element) (e : Element) → NoneOpen (before ++ e ∷ rest)
    → is_open e ≡ false
none_at [] rest e none = none.0
none_at (x ∷ xs) rest e none = none_at xs rest e none.1

-- an open element of a list of which the last alone may be open is the last
pub open_at : (before rest front : List Element) (e last : Element)
    → before ++ e ∷ rest ≡ front ++ last ∷ [] → NoneOpen front → IsTrue (is_open e) → rest ≡ []
open_at [] [] front e last is none h = refl
open_at [] (r ∷ rs) [] e last is none h = cc
open_at [] (r ∷ rs) (x ∷ front) e last is none h = cc (none.0)
open_at (b ∷ bs) rest [] e last is none h =
    elim bs as (λ xs. b ∷ (xs ++ e ∷ rest) ≡ last ∷ []
    → rest ≡ []) [ [] ↦ λ k. cc | x ∷ xs ↦ λ k. cc ] is
open_at (b ∷ bs) rest (x ∷ front) e last is none h = let k : bs ++ e ∷ rest ≡ front ++ last ∷ [] =
    cc in open_at bs rest front e last k none.1 h

pub rests_last : (board : BoardValue) (list : List Element) → Rests board list → OpenIsLast list
rests_last board list r before rest e is h = let none : is_open e ≡ false =
    none_at before rest e (subst NoneOpen is r.none) in cc

pub pends_last : (board : BoardValue) (list : List Element) → Pends board list → OpenIsLast list
pends_last board list p before rest e is h =
    open_at before rest p.front e p.last (sym is ∙ p.parts) p.none h

-- closing what is open leaves a list with nothing open as it is, and closes the last element of the
-- other
pub closed_stays : (end : End) (now : EfiTime) (list : List Element) → NoneOpen list
    → map (closed_with end now) list ≡ list
closed_stays end now [] none = refl
closed_stays end now (e ∷ es) none =
    let head : closed_with end now e ≡ e =
    ap (λ b. cond b (record e { standing = Closed (Some end) now }) e) none.0 in
    let tail : map (closed_with end now) es ≡ es = closed_stays end now es none.1 in
    cc

abbrev pub closed : Element → End → EfiTime → Element
closed e end now = record e { standing = Closed (Some end) now }

pub closed_more : (end : End) (now : EfiTime) (front : List Element) (e : Element) → NoneOpen front
    → is_open e ≡ true
    → map (closed_with end now) (front ++ e ∷ []) ≡ front ++ closed e end now ∷ []
closed_more end now [] e none h = ap (λ b. cond b (closed e end now) e ∷ []) h
closed_more end now (x ∷ xs) e none h =
    let head : closed_with end now x ≡ x = ap (λ b. cond b (closed x end now) x) none.0 in
    let tail : map (closed_with end now) (xs ++ e ∷ []) ≡ xs ++ closed e end now ∷ [] =
    closed_more end now xs e none.1 h in
    cc

pub find_none : (list : List Element) → NoneOpen list → find is_open list ≡ None
find_none [] none = refl
find_none (e ∷ es) none = ap (λ b. cond b (Some e) (find is_open es)) none.0 ∙ find_none es none.1

pub find_last : (front : List Element) (e : Element) → NoneOpen front → is_open e ≡ true
    → find is_open (front ++ e ∷ []) ≡ Some e
find_last [] e none h = ap (λ b. cond b (Some e) None) h
find_last (x ∷ xs) e none h =
    ap (λ b. cond b (Some x) (find is_open (xs ++ e ∷ []))) none.0 ∙ find_last xs e none.1 h

-- one more element, none open
pub none_more : (list : List Element) (e : Element) → NoneOpen list → is_open e ≡ false
    → NoneOpen (list ++ e ∷ [])
none_more [] e none h = (h, tt)
none_more (x ∷ xs) e none h = (none.0, none_more xs e none.1 h)

-- an element that is closed by a held end was open, so it was an attempt before and after
pub attempt_open : (e : Element) → is_open e ≡ true → IsTrue (is_attempt e)
attempt_open e h = by_standing e.standing h
  where
    by_standing : (s : Standing) → Rattle.reference_machine.specs.Spent.is_standing_open s ≡ true
        → Rattle.reference_machine.specs.Spent.is_attempted s ≡ true
    by_standing Open k = refl
    by_standing (Closed end at) k = cc

-- the list with its open element closed
pub settled_list : (board : BoardValue) (list : List Element) (end : End) (now : EfiTime)
    → IsHeldEnd end → Pends board list → Rests board (map (closed_with end now) list)
settled_list board list end now held p =
    let is : map (closed_with end now) list ≡ p.front ++ closed p.last end now ∷ [] =
    ap (map (closed_with end now)) p.parts
    ∙ closed_more end now p.front p.last p.none p.is_last in
    let above = above_last board [] p.front p.last (subst (Above board []) p.parts p.above) in
    let more : Above board [] (p.front ++ closed p.last end now ∷ []) =
    above_more board [] p.front (closed p.last end now) above.0
    (λ _. above.1 (attempt_open p.last p.is_last)) in
    subst (Rests board) (sym is)
    (record { none = none_more p.front (closed p.last end now) p.none refl; above = more })
