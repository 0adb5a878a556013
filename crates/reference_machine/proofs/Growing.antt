-- The list of spent units only grows, but for its last element closing.
use Rattle.std.proofs.Common.{◌≡◌, ℕ, zero, suc, inl, inr, List, [], ◌∷◌, ◌++◌, map, find, refl}
use Rattle.std.proofs.Common.{sym, ap, ◌∙◌, subst, append_assoc, append-nil, Option, Some, None}
use Rattle.reference_machine.specs.declared.event.Event.{Event}
use Rattle.reference_machine.specs.declared.unit.End.{End}
use Rattle.reference_machine.specs.Boots.{BootTask, BootState, Course, after, after_unit, next}
use Rattle.reference_machine.specs.Boots.{after_steps, boot_start, boot_at, boot_tasks, tasks_with}
use Rattle.reference_machine.specs.Boots.{closed_with, course_of, settled_with}
use Rattle.reference_machine.specs.Boots.BootTask.{Commits, Removes}
use Rattle.reference_machine.specs.Boots.BootBatch.{Settles, Unstages, Does, Prunes, Clears}
use Rattle.reference_machine.specs.Boots.Course.{Claim, Close}
use Rattle.reference_machine.specs.Deliveries.{BootUnit}
use Rattle.reference_machine.specs.Events.{InputBytes, Step}
use Rattle.reference_machine.specs.Formats.{Formats}
use Rattle.reference_machine.specs.Laws.{Grows, ClosesLast}
use Rattle.reference_machine.specs.Machine.{Machine}
use Rattle.reference_machine.specs.Spent.{Element, is_open}
use Rattle.reference_machine.specs.TraceValues.{EntryValue}
use Rattle.reference_machine.proofs.Going.{Sound}
use Rattle.reference_machine.proofs.Keeping.{Leads, step_leads}
use Rattle.reference_machine.proofs.Lists.{NoneOpen, Pends, closed, closed_more, closed_stays}
use Rattle.reference_machine.proofs.Lists.{find_last, none_more}

-- the list is this one and more
abbrev pub Extends : List Element → List Element → Type 0
Extends base list = (more : List Element) × (list ≡ base ++ more)

map_append : (g : Element → Element) (xs ys : List Element)
    → map g (xs ++ ys) ≡ map g xs ++ map g ys
map_append g [] ys = refl
map_append g (x ∷ xs) ys = ap (λ l. g x ∷ l) (map_append g xs ys)

one_more : (base list : List Element) (e : Element) → Extends base list
    → Extends base (list ++ e ∷ [])
one_more base list e (more, is) =
    (more ++ e ∷ [], ap (λ l. l ++ e ∷ []) is ∙ append_assoc base more (e ∷ []))

module _ (base : List Element) (none : NoneOpen base) where
  settled_extends : (m : Machine) (end : End) (o : Option Element) → Extends base m.list
      → Extends base (settled_with m end o).list
  settled_extends m end None x = x
  settled_extends m end (Some e) (more, is) = (
    map (closed_with end m.now) more,
    ap (map (closed_with end m.now)) is
        ∙ map_append (closed_with end m.now) base more
        ∙ ap (λ l. l ++ map (closed_with end m.now) more) (closed_stays end m.now base none),
  )

  unit_extends : (f : Formats) (b : BootState) (u : BootUnit) (rest : List BootTask) (c : Course)
      → Extends base b.machine.list → Extends base (after_unit f b u rest c).machine.list
  unit_extends f b u rest Claim x = one_more base b.machine.list _ x
  unit_extends f b u rest (Close end) x = one_more base b.machine.list _ x

  after_extends : (f : Formats) (b : BootState) (left : List BootTask) → Extends base b.machine.list
      → Extends base (after f b left).machine.list
  after_extends f b [] x = x
  after_extends f b (Commits (Settles kind end) ∷ rest) x =
      settled_extends b.machine end (find is_open b.machine.list) x
  after_extends f b (Commits (Unstages pair) ∷ rest) x = x
  after_extends f b (Commits (Does u) ∷ rest) x =
      unit_extends f b u rest (course_of f b.machine u u.kind) x
  after_extends f b (Commits Prunes ∷ rest) x = x
  after_extends f b (Removes serial ∷ rest) x = x
  after_extends f b (Commits Clears ∷ rest) x = x

  pub steps_extend : (f : Formats) (n : ℕ) (b : BootState) → Extends base b.machine.list
      → Extends base (after_steps f n b).machine.list
  steps_extend f zero b x = x
  steps_extend f (suc n) b x =
      after_extends f (after_steps f n b) (after_steps f n b).left (steps_extend f n b x)

-- the steps after the first one
pub steps_first : (f : Formats) (n : ℕ) (b : BootState)
    → after_steps f (suc n) b ≡ after_steps f n (next f b)
steps_first f zero b = refl
steps_first f (suc n) b = ap (next f) (steps_first f n b)

-- a boot that finds an open element closes it first
module _ (f : Formats) (m : Machine) (h : End) (p : Pends m.board m.list) where
  found : find is_open m.list ≡ Some p.last
  found = ap (find is_open) p.parts ∙ find_last p.front p.last p.none p.is_last

  abbrev base : List Element
  base = p.front ++ closed p.last h m.now ∷ []

  none : NoneOpen base
  none = none_more p.front (closed p.last h m.now) p.none refl

  tasks : boot_tasks f m h ≡ tasks_with f m h (Some p.last)
  tasks = ap (tasks_with f m h) found

  after_first : (next f (boot_start f m h)).machine.list ≡ base
  after_first =
      ap (λ (w : List BootTask). (after f (boot_start f m h) w).machine.list) tasks
      ∙ ap (λ o. (settled_with m h o).list) found
      ∙ ap (map (closed_with h m.now)) p.parts
      ∙ closed_more h m.now p.front p.last p.none p.is_last

  grown : (list : List Element) → Extends base list → ClosesLast m.list list
  grown list (more, is) = record {
    front = p.front;
    last = p.last;
    end = h;
    at = m.now;
    more = more;
    was_last = p.parts;
    was_open = p.is_last;
    closed = is ∙ append_assoc p.front (closed p.last h m.now ∷ []) more;
  }

  pub pending_grows : (n : ℕ) → Grows m.list (boot_at f m h n).machine.list
  pending_grows zero = inl ([], sym (append-nil m.list))
  pending_grows (suc n) =
      let start : Extends base (next f (boot_start f m h)).machine.list =
      ([], after_first ∙ sym (append-nil base)) in
      let there : Extends base (after_steps f n (next f (boot_start f m h))).machine.list =
      steps_extend base none f n (next f (boot_start f m h)) start in
      inr (grown (boot_at f m h (suc n)).machine.list
      (subst (λ (b : BootState). Extends base b.machine.list)
      (sym (steps_first f n (boot_start f m h))) there))

-- the list after any steps of a boot
pub boot_grows : (f : Formats) (m : Machine) (h : End) (j : ℕ) → Sound m
    → Grows m.list (boot_at f m h j).machine.list
boot_grows f m h j (inl r) =
    inl (steps_extend m.list r.none f j (boot_start f m h) ([], sym (append-nil m.list)))
boot_grows f m h j (inr p) = pending_grows f m h p j

-- the list after an event
pub event_grows : (f : Formats) (bytes_of : InputBytes) (m : Machine) (event : Event)
    (entry : EntryValue) (new : Machine) → Sound m → Step f bytes_of m event entry new
    → Grows m.list new.list
event_grows f bytes_of m event entry new sound s =
    step_leads f bytes_of m (λ (x : Machine). Grows m.list x.list) leads event entry new s
  where
    same : Grows m.list m.list
    same = inl ([], sym (append-nil m.list))

    leads : Leads f m (λ (x : Machine). Grows m.list x.list)
    leads = record {
      stays = same;
      fails = λ x g. g;
      later = λ moment. same;
      puts = λ file bytes e. same;
      asks = same;
      lays = λ address bytes. same;
      stages = λ address e. same;
      cold = same;
      warm = same;
      boots = λ h j held. boot_grows f m h j sound;
    }
