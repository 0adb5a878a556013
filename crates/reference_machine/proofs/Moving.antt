-- How the lines of a boot and the bound on its moves grow with its steps.
use Rattle.std.proofs.Common.{◌≡◌, ℕ, zero, suc, ◌+◌, ◌≤◌, inl, inr, true, false, cond}
use Rattle.std.proofs.Common.{List, [], ◌∷◌, ◌++◌, length, map, filter, find, drop, sum_by, refl}
use Rattle.std.proofs.Common.{arith, sym, ap, ◌∙◌, subst, append-nil, Option, Some, None}
use Rattle.std.proofs.Common.{not, option_map, unwrap_or}
use Rattle.std.proofs.lemmas.List.{drop-append-le, length_push, map_push}
use Rattle.std.proofs.lemmas.List.Elements.{filter-append}
use Rattle.std.proofs.lemmas.List.Sums.{sum_by_push}
use Rattle.cu_base.specs.declared.time.EfiTime.{EfiTime}
use Rattle.reference_machine.specs.declared.snapshot.StagedPair.{StagedPair}
use Rattle.reference_machine.specs.declared.unit.End.{End}
use Rattle.reference_machine.specs.declared.unit.Kind.{Kind}
use Rattle.reference_machine.specs.declared.unit.UnitKey.{UnitKey}
use Rattle.reference_machine.specs.declared.unit.UnitLine.{UnitLine}
use Rattle.reference_machine.specs.Boots.{BootTask, BootState, Course, after, after_unit, next}
use Rattle.reference_machine.specs.Boots.{after_steps, boot_start, boot_at, closed_with}
use Rattle.reference_machine.specs.Boots.{course_of, element_of, next_line, settled, settled_with}
use Rattle.reference_machine.specs.Boots.BootBatch.{Settles, Unstages, Does, Prunes, Clears}
use Rattle.reference_machine.specs.Boots.BootTask.{Commits, Removes}
use Rattle.reference_machine.specs.Boots.Course.{Claim, Close}
use Rattle.reference_machine.specs.Deliveries.{BootUnit}
use Rattle.reference_machine.specs.Formats.{Formats}
use Rattle.reference_machine.specs.Machine.{Machine}
use Rattle.reference_machine.specs.Moves.{closed_since, element_in_hand, line_moves, move_bound}
use Rattle.reference_machine.specs.Spent.{Element, is_closed, is_open}
use Rattle.reference_machine.specs.Spent.Standing.{Open, Closed}
use Rattle.reference_machine.specs.Stops.{IsHeldEnd}
use Rattle.reference_machine.proofs.Going.{Going, Sound, boot_going, steps_going, start_going}
use Rattle.reference_machine.proofs.Lists.{NoneOpen, Pends, closed, closed_more, find_last}
use Rattle.reference_machine.proofs.Lists.{find_none}

-- closed elements of a list with one element more
closed_push : (list : List Element) (e : Element) → is_open e ≡ false
    → filter is_closed (list ++ e ∷ []) ≡ filter is_closed list ++ e ∷ []
closed_push list e h =
    filter-append is_closed list (e ∷ [])
    ∙ ap (λ b. filter is_closed list ++ cond (not b) (e ∷ []) []) h

open_push : (list : List Element) (e : Element) → is_open e ≡ true
    → filter is_closed (list ++ e ∷ []) ≡ filter is_closed list
open_push list e h =
    filter-append is_closed list (e ∷ [])
    ∙ ap (λ b. filter is_closed list ++ cond (not b) (e ∷ []) []) h
    ∙ append-nil (filter is_closed list)

-- open elements of a list of which the last alone is open
opened_last : (front : List Element) (e : Element) → NoneOpen front → is_open e ≡ true
    → filter is_open (front ++ e ∷ []) ≡ e ∷ []
opened_last [] e none h = rw h refl
opened_last (x ∷ xs) e none h =
    ap (λ b. cond b (x ∷ filter is_open (xs ++ e ∷ [])) (filter is_open (xs ++ e ∷ []))) none.0
    ∙ opened_last xs e none.1 h

-- no list of spent units loses closed elements
abbrev pub Within : List Element → List Element → Type 0
Within old list = length (filter is_closed old) ≤ length (filter is_closed list)

-- a step that closes an element, or that closes none
since_more : (old list list' : List Element) (e : Element) → Within old list
    → filter is_closed list' ≡ filter is_closed list ++ e ∷ []
    → closed_since old list' ≡ closed_since old list ++ e ∷ []
since_more old list list' e within is =
    ap (drop (length (filter is_closed old))) is
    ∙ drop-append-le (length (filter is_closed old)) (filter is_closed list) (e ∷ []) within

within_more : (old list list' : List Element) (e : Element) → Within old list
    → filter is_closed list' ≡ filter is_closed list ++ e ∷ [] → Within old list'
within_more old list list' e within is =
    let long : length (filter is_closed list') ≡ length (filter is_closed list ++ e ∷ []) =
    ap length is in
    let more : length (filter is_closed list ++ e ∷ []) ≡ length (filter is_closed list) + 1 =
    length_push (filter is_closed list) e in
    omega arith

-- moves for the lines so far and for the one in hand
abbrev hand : Formats → List BootTask → List Element → ℕ
hand f left list = unwrap_or (option_map line_moves (element_in_hand f left (find is_open list))) 0

abbrev total : Formats → List Element → List Element → List BootTask → ℕ
total f old list left = sum_by line_moves (closed_since old list) + hand f left list

line_total : (old list list' : List Element) (e : Element) (now later : ℕ) → Within old list
    → filter is_closed list' ≡ filter is_closed list ++ e ∷ [] → now ≡ line_moves e
    → sum_by line_moves (closed_since old list) + now
    ≤ sum_by line_moves (closed_since old list') + later
line_total old list list' e now later within is same =
    let sum : sum_by line_moves (closed_since old list')
    ≡ sum_by line_moves (closed_since old list) + line_moves e =
    ap (sum_by line_moves) (since_more old list list' e within is)
    ∙ sum_by_push line_moves (closed_since old list) e in
    omega arith

-- what is open is closed
module _ (m : Machine) (end : End) (p : Pends m.board m.list) where
  found : find is_open m.list ≡ Some p.last
  found = ap (find is_open) p.parts ∙ find_last p.front p.last p.none p.is_last

  settled_is : (settled m end).list ≡ p.front ++ closed p.last end m.now ∷ []
  settled_is =
      ap (λ o. (settled_with m end o).list) found
      ∙ ap (map (closed_with end m.now)) p.parts
      ∙ closed_more end m.now p.front p.last p.none p.is_last

  settle_closes : filter is_closed (settled m end).list
      ≡ filter is_closed m.list ++ closed p.last end m.now ∷ []
  settle_closes =
      ap (filter is_closed) settled_is
      ∙ closed_push p.front (closed p.last end m.now) refl
      ∙ sym (ap (λ (l : List Element). l ++ closed p.last end m.now ∷ [])
      (ap (filter is_closed) p.parts ∙ open_push p.front p.last p.is_last))

  opened : filter is_open m.list ≡ p.last ∷ []
  opened = ap (filter is_open) p.parts ∙ opened_last p.front p.last p.none p.is_last

-- the key of an element stays
same_key : (end : End) (now : EfiTime) (e : Element) → (closed_with end now e).key ≡ e.key
same_key end now e =
    elim (is_open e) as
    (λ b. (cond b (record e { standing = Closed (Some end) now }) e).key ≡ e.key) [
      | true ↦ refl
      | false ↦ refl
    ]

-- the keys that lines tell are those of the elements that were closed
abbrev line_keys : List UnitLine → List UnitKey
line_keys lines = map (λ l. l.key) lines

abbrev keys_since : List Element → List Element → List UnitKey
keys_since old list = map (λ e. e.key) (closed_since old list)

-- a state of a boot of a machine with this list
pub record Tells (old : List Element) (b : BootState) : Type 0 where
  pub within : Within old b.machine.list
  pub keys : line_keys b.report.lines ≡ keys_since old b.machine.list

tells_more : (old list list' : List Element) (lines : List UnitLine) (line : UnitLine)
    (e : Element) → Within old list → filter is_closed list' ≡ filter is_closed list ++ e ∷ []
    → line.key ≡ e.key → line_keys lines ≡ keys_since old list
    → line_keys (lines ++ line ∷ []) ≡ keys_since old list'
tells_more old list list' lines line e within is same keys =
    map_push (λ (l : UnitLine). l.key) lines line
    ∙ ap (λ (ks : List UnitKey). ks ++ line.key ∷ []) keys
    ∙ ap (λ (k : UnitKey). keys_since old list ++ k ∷ []) same
    ∙ sym (ap (map (λ (x : Element). x.key)) (since_more old list list' e within is)
    ∙ map_push (λ (x : Element). x.key) (closed_since old list) e)

unit_tells : (f : Formats) (old : List Element) (b : BootState) (u : BootUnit)
    (rest : List BootTask) (c : Course) → NoneOpen b.machine.list → Tells old b
    → Tells old (after_unit f b u rest c)
unit_tells f old b u rest Claim none t =
    let same : filter is_closed (b.machine.list ++ element_of f u Open ∷ [])
    ≡ filter is_closed b.machine.list = open_push b.machine.list (element_of f u Open) refl in
    record {
      within = subst (λ (xs : List Element). length (filter is_closed old) ≤ length xs) (sym same)
          t.within;
      keys = t.keys
          ∙ sym (ap (λ (xs : List Element).
          map (λ (e : Element). e.key) (drop (length (filter is_closed old)) xs)) same);
    }
unit_tells f old b u rest (Close end) none t =
    let e : Element = element_of f u (Closed end b.machine.now) in
    let is : filter is_closed (b.machine.list ++ e ∷ [])
    ≡ filter is_closed b.machine.list ++ e ∷ [] = closed_push b.machine.list e refl in
    record {
      within = within_more old b.machine.list (b.machine.list ++ e ∷ []) e t.within is;
      keys = tells_more old b.machine.list (b.machine.list ++ e ∷ []) b.report.lines
          (next_line b.machine u.kind e) e t.within is refl t.keys;
    }

settle_tells : (old : List Element) (b : BootState) (kind : Kind) (end : End)
    (rest : List BootTask) → Pends b.machine.board b.machine.list → Tells old b → (f : Formats)
    → Tells old (after f b (Commits (Settles kind end) ∷ rest))
settle_tells old b kind end rest p t f =
    let m : Machine = b.machine in
    let e : Element = closed p.last end m.now in
    let is : filter is_closed (settled m end).list ≡ filter is_closed m.list ++ e ∷ [] =
    settle_closes m end p in
    let lines : map (λ (x : Element). next_line m kind (closed_with end m.now x))
    (filter is_open m.list) ≡ next_line m kind (closed_with end m.now p.last) ∷ [] =
    ap (map (λ (x : Element). next_line m kind (closed_with end m.now x))) (opened m end p) in
    record {
      within = within_more old m.list (settled m end).list e t.within is;
      keys = ap (λ (ls : List UnitLine). line_keys (b.report.lines ++ ls)) lines
          ∙ tells_more old m.list (settled m end).list b.report.lines
          (next_line m kind (closed_with end m.now p.last)) e t.within is
          (same_key end m.now p.last) t.keys;
    }

after_tells : (f : Formats) (old : List Element) (b : BootState) (left : List BootTask)
    → Going b.machine left → Tells old b → Tells old (after f b left)
after_tells f old b [] g t = t
after_tells f old b (Commits (Settles kind end) ∷ rest) (inl g) t = absurd g.1
after_tells f old b (Commits (Settles kind end) ∷ rest) (inr g) t =
    settle_tells old b kind end rest g.0 t f
after_tells f old b (Commits (Unstages pair) ∷ rest) g t =
    record { within = t.within; keys = t.keys }
after_tells f old b (Commits (Does u) ∷ rest) (inl g) t =
    unit_tells f old b u rest (course_of f b.machine u u.kind) g.0.none t
after_tells f old b (Commits (Does u) ∷ rest) (inr g) t = absurd g.1
after_tells f old b (Commits Prunes ∷ rest) g t = record { within = t.within; keys = t.keys }
after_tells f old b (Commits Clears ∷ rest) g t = record { within = t.within; keys = t.keys }
after_tells f old b (Removes serial ∷ rest) g t = record { within = t.within; keys = t.keys }

steps_tell : (f : Formats) (old : List Element) (n : ℕ) (b : BootState)
    → Going b.machine b.left → Tells old b → Tells old (after_steps f n b)
steps_tell f old zero b g t = t
steps_tell f old (suc n) b g t =
    after_tells f old (after_steps f n b) (after_steps f n b).left (steps_going f n b g)
    (steps_tell f old n b g t)

none_since : (list : List Element) → closed_since list list ≡ []
none_since list = all_gone (filter is_closed list)
  where
    all_gone : (xs : List Element) → drop (length xs) xs ≡ []
    all_gone [] = refl
    all_gone (x ∷ xs) = all_gone xs

boot_tells : (f : Formats) (m : Machine) (h : End) (j : ℕ) → IsHeldEnd h → Sound m
    → Tells m.list (boot_at f m h j)
boot_tells f m h j held s =
    steps_tell f m.list j (boot_start f m h) (start_going f m h held s)
    (record {
      within = omega arith;
      keys = sym (ap (map (λ (e : Element). e.key)) (none_since m.list));
    })

-- the lines of a boot tell of the elements that it closed
pub lines_tell : (f : Formats) (m : Machine) (h : End) (j : ℕ) → IsHeldEnd h → Sound m
    → map (λ (l : UnitLine). l.key) (boot_at f m h j).report.lines
    ≡ map (λ (e : Element). e.key) (closed_since m.list (boot_at f m h j).machine.list)
lines_tell f m h j held s = (boot_tells f m h j held s).keys

-- the total after a step
same_total : (a n k : ℕ) → n ≡ k → a + n ≤ a + k
same_total a n k e = omega arith

hand_same : (f : Formats) (left rest : List BootTask) (list : List Element)
    → ((o : Option Element) → element_in_hand f left o ≡ element_in_hand f rest o)
    → hand f left list ≡ hand f rest list
hand_same f left rest list h =
    ap (λ o. unwrap_or (option_map line_moves o) 0) (h (find is_open list))

pass_unstage : (f : Formats) (pair : StagedPair) (rest : List BootTask) (o : Option Element)
    → element_in_hand f (Commits (Unstages pair) ∷ rest) o ≡ element_in_hand f rest o
pass_unstage f pair rest None = refl
pass_unstage f pair rest (Some e) = refl

pass_prune : (f : Formats) (rest : List BootTask) (o : Option Element)
    → element_in_hand f (Commits Prunes ∷ rest) o ≡ element_in_hand f rest o
pass_prune f rest None = refl
pass_prune f rest (Some e) = refl

pass_clear : (f : Formats) (rest : List BootTask) (o : Option Element)
    → element_in_hand f (Commits Clears ∷ rest) o ≡ element_in_hand f rest o
pass_clear f rest None = refl
pass_clear f rest (Some e) = refl

pass_removal : (f : Formats) (serial : ℕ) (rest : List BootTask) (o : Option Element)
    → element_in_hand f (Removes serial ∷ rest) o ≡ element_in_hand f rest o
pass_removal f serial rest None = refl
pass_removal f serial rest (Some e) = refl

unit_total : (f : Formats) (old : List Element) (b : BootState) (u : BootUnit)
    (rest : List BootTask) (c : Course) → NoneOpen b.machine.list → Within old b.machine.list
    → total f old b.machine.list (Commits (Does u) ∷ rest)
    ≤ total f old (after_unit f b u rest c).machine.list (after_unit f b u rest c).left
unit_total f old b u rest Claim none within =
    let list : List Element = b.machine.list in
    let e : Element = element_of f u Open in
    let since : closed_since old (list ++ e ∷ []) ≡ closed_since old list =
    ap (drop (length (filter is_closed old))) (open_push list e refl) in
    let before : hand f (Commits (Does u) ∷ rest) list ≡ line_moves e =
    ap (λ o. unwrap_or (option_map line_moves
    (element_in_hand f (Commits (Does u) ∷ rest) o)) 0) (find_none list none) in
    let behind : hand f (after_unit f b u rest Claim).left (list ++ e ∷ []) ≡ line_moves e =
    ap (λ o. unwrap_or (option_map line_moves
    (element_in_hand f (after_unit f b u rest Claim).left o)) 0) (find_last list e none refl) in
    let sums : sum_by line_moves (closed_since old (list ++ e ∷ []))
    ≡ sum_by line_moves (closed_since old list) = ap (sum_by line_moves) since in
    omega arith
unit_total f old b u rest (Close end) none within =
    let list : List Element = b.machine.list in
    let e : Element = element_of f u (Closed end b.machine.now) in
    let before : hand f (Commits (Does u) ∷ rest) list ≡ line_moves e =
    ap (λ o. unwrap_or (option_map line_moves
    (element_in_hand f (Commits (Does u) ∷ rest) o)) 0) (find_none list none) in
    line_total old list (list ++ e ∷ []) e (hand f (Commits (Does u) ∷ rest) list)
    (hand f rest (list ++ e ∷ [])) within (closed_push list e refl) before

after_total : (f : Formats) (old : List Element) (b : BootState) (left : List BootTask)
    → Going b.machine left → Within old b.machine.list → b.left ≡ left
    → total f old b.machine.list left
    ≤ total f old (after f b left).machine.list (after f b left).left
after_total f old b [] g within e =
    same_total (sum_by line_moves (closed_since old b.machine.list)) _ _
    (ap (λ (w : List BootTask). hand f w b.machine.list) (sym e))
after_total f old b (Commits (Settles kind end) ∷ rest) (inl g) within e = absurd g.1
after_total f old b (Commits (Settles kind end) ∷ rest) (inr g) within e =
    let before : hand f (Commits (Settles kind end) ∷ rest) b.machine.list ≡ line_moves g.0.last =
    ap (λ o. unwrap_or (option_map line_moves
    (element_in_hand f (Commits (Settles kind end) ∷ rest) o)) 0) (found b.machine end g.0) in
    line_total old b.machine.list (settled b.machine end).list
    (closed g.0.last end b.machine.now)
    (hand f (Commits (Settles kind end) ∷ rest) b.machine.list)
    (hand f rest (settled b.machine end).list) within (settle_closes b.machine end g.0) before
after_total f old b (Commits (Unstages pair) ∷ rest) g within e =
    same_total (sum_by line_moves (closed_since old b.machine.list)) _ _
    (hand_same f (Commits (Unstages pair) ∷ rest) rest b.machine.list (pass_unstage f pair rest))
after_total f old b (Commits (Does u) ∷ rest) (inl g) within e =
    unit_total f old b u rest (course_of f b.machine u u.kind) g.0.none within
after_total f old b (Commits (Does u) ∷ rest) (inr g) within e = absurd g.1
after_total f old b (Commits Prunes ∷ rest) g within e =
    same_total (sum_by line_moves (closed_since old b.machine.list)) _ _
    (hand_same f (Commits Prunes ∷ rest) rest b.machine.list (pass_prune f rest))
after_total f old b (Commits Clears ∷ rest) g within e =
    same_total (sum_by line_moves (closed_since old b.machine.list)) _ _
    (hand_same f (Commits Clears ∷ rest) rest b.machine.list (pass_clear f rest))
after_total f old b (Removes serial ∷ rest) g within e =
    same_total (sum_by line_moves (closed_since old b.machine.list)) _ _
    (hand_same f (Removes serial ∷ rest) rest b.machine.list (pass_removal f serial rest))

-- the bound on the moves of a boot grows with each step
pub bound_grows : (f : Formats) (m : Machine) (h : End) (j : ℕ) → IsHeldEnd h → Sound m
    → move_bound f m (boot_at f m h j) ≤ move_bound f m (boot_at f m h (suc j))
bound_grows f m h j held s =
    let b : BootState = boot_at f m h j in
    let more : total f m.list b.machine.list b.left
    ≤ total f m.list (next f b).machine.list (next f b).left =
    after_total f m.list b b.left (boot_going f m h j held s) (boot_tells f m h j held s).within
    refl in
    omega arith
