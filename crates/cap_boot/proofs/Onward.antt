-- What further steps of a boot keep.
use Rattle.std.proofs.Common.{◌≡◌, ℕ, zero, suc, ◌+◌, List, [], ◌∷◌, find, refl, sym, ◌∙◌, ap}
use Rattle.std.proofs.Common.{subst}
use Rattle.std.proofs.Common.{arith, zero-add, true, false, Option, None, Some}
use Rattle.reference_machine.specs.Boots.{BootState, BootTask, Course, after, after_steps}
use Rattle.reference_machine.specs.Boots.{after_unit}
use Rattle.reference_machine.specs.Boots.{boot_start, course_of, next, settled_with}
use Rattle.reference_machine.specs.Boots.BootBatch.{Settles, Unstages, Does, Prunes, Clears}
use Rattle.reference_machine.specs.Boots.BootTask.{Commits, Removes}
use Rattle.reference_machine.specs.Boots.Course.{Claim, Close}
use Rattle.reference_machine.specs.Deliveries.{BootUnit}
use Rattle.reference_machine.specs.Formats.{Formats}
use Rattle.reference_machine.specs.Laws.{IsReached}
use Rattle.reference_machine.specs.Laws.IsReached.{BySteps}
use Rattle.reference_machine.specs.Machine.{Machine}
use Rattle.reference_machine.specs.Spent.{Element, is_open}
use Rattle.reference_machine.specs.declared.unit.End.{End}
use Rattle.cap_boot.specs.Situations.{IsUnderWay}
use Rattle.cap_boot.specs.Stands.{Setting}

-- some steps, and then some more
pub more_steps : (f : Formats) (k j : ℕ) (b : BootState)
    → after_steps f k (after_steps f j b) ≡ after_steps f (k + j) b
more_steps f zero j b = ap (λ (n : ℕ). after_steps f n b) (sym (zero-add j))
more_steps f (suc k) j b =
    ap (next f) (more_steps f k j b)
    ∙ ap (λ (n : ℕ). after_steps f n b) (let e : suc (k + j) ≡ suc k + j = omega arith in e)

-- a boot that is under way is so after further steps
abbrev pub later : (x : Setting) (k : ℕ) (b : BootState) → IsUnderWay x b
    → IsUnderWay x (after_steps x.formats k b)
later x k b w = record {
  start = w.start;
  heal = w.heal;
  count = k + w.count;
  is = ap (after_steps x.formats k) w.is
      ∙ more_steps x.formats k w.count (boot_start x.formats w.start w.heal);
  reached = w.reached;
  is_held = w.is_held;
  now = w.now;
  limits = w.limits;
  is_board = w.is_board;
}

-- the machine of a boot under way is reached
pub reached_now : (x : Setting) (b : BootState) → IsUnderWay x b
    → IsReached x.formats x.board b.machine
reached_now x b w =
    subst (λ (c : BootState). IsReached x.formats x.board c.machine) (sym w.is)
    (BySteps w.start w.heal w.count w.reached w.is_held)

-- what no step changes
pub record SameGround (old new : Machine) : Type 0 where
  pub board : new.board ≡ old.board
  pub memory : new.memory ≡ old.memory
  pub now : new.now ≡ old.now

settled_ground : (m : Machine) (end : End) (o : Option Element)
    → SameGround m (settled_with m end o)
settled_ground m end None = record { board = refl; memory = refl; now = refl }
settled_ground m end (Some e) = record { board = refl; memory = refl; now = refl }

unit_ground : (f : Formats) (b : BootState) (u : BootUnit) (rest : List BootTask) (c : Course)
    → SameGround b.machine (after_unit f b u rest c).machine
unit_ground f b u rest Claim = record { board = refl; memory = refl; now = refl }
unit_ground f b u rest (Close end) = record { board = refl; memory = refl; now = refl }

after_ground : (f : Formats) (b : BootState) (left : List BootTask)
    → SameGround b.machine (after f b left).machine
after_ground f b [] = record { board = refl; memory = refl; now = refl }
after_ground f b (Commits (Settles kind end) ∷ rest) =
    settled_ground b.machine end (find is_open b.machine.list)
after_ground f b (Commits (Unstages pair) ∷ rest) =
    record { board = refl; memory = refl; now = refl }
after_ground f b (Commits (Does u) ∷ rest) =
    unit_ground f b u rest (course_of f b.machine u u.kind)
after_ground f b (Commits Prunes ∷ rest) = record { board = refl; memory = refl; now = refl }
after_ground f b (Removes serial ∷ rest) = record { board = refl; memory = refl; now = refl }
after_ground f b (Commits Clears ∷ rest) = record { board = refl; memory = refl; now = refl }

pub steps_ground : (f : Formats) (n : ℕ) (b : BootState)
    → SameGround b.machine (after_steps f n b).machine
steps_ground f zero b = record { board = refl; memory = refl; now = refl }
steps_ground f (suc n) b =
    let c = after_steps f n b in
    let p = steps_ground f n b in
    let q = after_ground f c c.left in
    record { board = q.board ∙ p.board; memory = q.memory ∙ p.memory; now = q.now ∙ p.now }

-- what is asked for after steps was asked for before them
settled_asked : (m : Machine) (end : End) (o : Option Element)
    → (settled_with m end o).is_signalled ≡ m.is_signalled
settled_asked m end None = refl
settled_asked m end (Some e) = refl

unit_asked : (f : Formats) (b : BootState) (u : BootUnit) (rest : List BootTask) (c : Course)
    → (after_unit f b u rest c).machine.is_signalled ≡ b.machine.is_signalled
unit_asked f b u rest Claim = refl
unit_asked f b u rest (Close end) = refl

after_asked : (f : Formats) (b : BootState) (left : List BootTask)
    → (after f b left).machine.is_signalled ≡ true → b.machine.is_signalled ≡ true
after_asked f b [] is = is
after_asked f b (Commits (Settles kind end) ∷ rest) is =
    sym (settled_asked b.machine end (find is_open b.machine.list)) ∙ is
after_asked f b (Commits (Unstages pair) ∷ rest) is = is
after_asked f b (Commits (Does u) ∷ rest) is =
    sym (unit_asked f b u rest (course_of f b.machine u u.kind)) ∙ is
after_asked f b (Commits Prunes ∷ rest) is = is
after_asked f b (Removes serial ∷ rest) is = is
after_asked f b (Commits Clears ∷ rest) is = absurd (let e : false ≡ true = is in cc)

pub asked_before : (f : Formats) (n : ℕ) (b : BootState)
    → (after_steps f n b).machine.is_signalled ≡ true → b.machine.is_signalled ≡ true
asked_before f zero b is = is
asked_before f (suc n) b is =
    asked_before f n b (after_asked f (after_steps f n b) (after_steps f n b).left is)

-- the machine that a boot started from was asked where that of now is
pub asked_at_start : (x : Setting) (b : BootState) (w : IsUnderWay x b)
    → b.machine.is_signalled ≡ true → w.start.is_signalled ≡ true
asked_at_start x b w is =
    asked_before x.formats w.count (boot_start x.formats w.start w.heal)
    (subst (λ (c : BootState). c.machine.is_signalled ≡ true) w.is is)
