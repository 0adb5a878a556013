-- In every machine that is reached the last serials have their width: no file is put and no delivery
-- is staged where none is left.
use Rattle.std.proofs.Common.{◌≡◌, ℕ, zero, suc, ◌+◌, ◌-◌, ◌<◌, ◌^◌, Bool, true, false, cond}
use Rattle.std.proofs.Common.{◌&&◌, ◌||◌, not, nat_le, nat_lt, List, [], ◌∷◌, length, find, refl, sym, ◌∙◌}
use Rattle.std.proofs.Common.{subst, arith, Option, Some, None}
use Rattle.std.proofs.lemmas.Bool.{leb-false}
use Rattle.bench_model.specs.Boards.{BoardValue}
use Rattle.bench_model.specs.Files.{bytes_in, has_file, others_than}
use Rattle.bench_model.specs.declared.outside_limits.TheConstants.{MAX_FILES, MAX_FOLDER_BYTES}
use Rattle.reference_machine.specs.Boots.{BootState, BootTask, Course, after, after_steps, after_unit}
use Rattle.reference_machine.specs.Boots.{boot_at, boot_start, course_of, settled_with}
use Rattle.reference_machine.specs.Boots.BootBatch.{Settles, Unstages, Does, Prunes, Clears}
use Rattle.reference_machine.specs.Boots.BootTask.{Commits, Removes}
use Rattle.reference_machine.specs.Boots.Course.{Claim, Close}
use Rattle.reference_machine.specs.Deliveries.{BootUnit}
use Rattle.reference_machine.specs.Events.{coalesced_refusal, staging_refusal}
use Rattle.reference_machine.specs.Formats.{Formats}
use Rattle.reference_machine.specs.Laws.{IsReached}
use Rattle.reference_machine.specs.Machine.{Machine}
use Rattle.reference_machine.specs.Spent.{Element, is_open}
use Rattle.reference_machine.specs.TraceValues.{AnswerValue}
use Rattle.reference_machine.specs.TraceValues.AnswerValue.{Resources}
use Rattle.reference_machine.specs.declared.limits.TheConstants.{MAX_STAGED}
use Rattle.reference_machine.specs.declared.unit.End.{End}
use Rattle.reference_machine.proofs.Keeping.{Keeps, reached_keeps}

-- the last serials of one machine are those of another
record AreSame (m n : Machine) : Type 0 where
  file : n.last_file ≡ m.last_file
  staged : n.last_staged ≡ m.last_staged

settled_same : (m : Machine) (end : End) (o : Option Element) → AreSame m (settled_with m end o)
settled_same m end None = record { file = refl; staged = refl }
settled_same m end (Some e) = record { file = refl; staged = refl }

unit_same : (f : Formats) (b : BootState) (u : BootUnit) (rest : List BootTask) (c : Course)
    → AreSame b.machine (after_unit f b u rest c).machine
unit_same f b u rest Claim = record { file = refl; staged = refl }
unit_same f b u rest (Close end) = record { file = refl; staged = refl }

after_same : (f : Formats) (b : BootState) (left : List BootTask)
    → AreSame b.machine (after f b left).machine
after_same f b [] = record { file = refl; staged = refl }
after_same f b (Commits (Settles kind end) ∷ rest) =
    settled_same b.machine end (find is_open b.machine.list)
after_same f b (Commits (Unstages pair) ∷ rest) = record { file = refl; staged = refl }
after_same f b (Commits (Does u) ∷ rest) = unit_same f b u rest (course_of f b.machine u u.kind)
after_same f b (Commits Prunes ∷ rest) = record { file = refl; staged = refl }
after_same f b (Commits Clears ∷ rest) = record { file = refl; staged = refl }
after_same f b (Removes serial ∷ rest) = record { file = refl; staged = refl }

steps_same : (f : Formats) (n : ℕ) (b : BootState)
    → AreSame b.machine (after_steps f n b).machine
steps_same f zero b = record { file = refl; staged = refl }
steps_same f (suc n) b =
    let before : AreSame b.machine (after_steps f n b).machine = steps_same f n b in
    let step : AreSame (after_steps f n b).machine (after_steps f (suc n) b).machine =
    after_same f (after_steps f n b) (after_steps f n b).left in
    record { file = step.file ∙ before.file; staged = step.staged ∙ before.staged }

-- the last serials have their width
pub record AreLow (m : Machine) : Type 0 where
  pub file : m.last_file < 2 ^ 64
  pub staged : m.last_staged < 2 ^ 64

third_false : (a b c : Bool) → (a || b || c) ≡ false → c ≡ false
third_false true b c h = cc
third_false false true c h = cc
third_false false false c h = h

second_false : (a b : Bool) → (a || b) ≡ false → b ≡ false
second_false true b h = cc
second_false false b h = h

not_refused : (m : Machine) (o : Option AnswerValue) → staging_refusal m o ≡ None
    → nat_le (2 ^ 64 - 1) m.last_staged ≡ false
not_refused m (Some answer) h = cc
not_refused m None h =
    second_false (nat_le MAX_STAGED (length m.staged)) (nat_le (2 ^ 64 - 1) m.last_staged)
    (by_test (nat_le MAX_STAGED (length m.staged) || nat_le (2 ^ 64 - 1) m.last_staged) h)
  where
    by_test : (b : Bool) → cond b (Some Resources) None ≡ None → b ≡ false
    by_test true h = cc
    by_test false h = refl

low_keeps : (f : Formats) → Keeps f AreLow
low_keeps f = record {
  fails = λ m p. record { file = p.file; staged = p.staged };
  later = λ m moment p. record { file = p.file; staged = p.staged };
  puts = λ m file bytes room p.
      let low : nat_le (2 ^ 64 - 1) m.last_file ≡ false = third_false
      (nat_le MAX_FILES (length m.files) && not (has_file file m.files))
      (nat_lt MAX_FOLDER_BYTES (bytes_in (others_than file m.files) + length bytes))
      (nat_le (2 ^ 64 - 1) m.last_file) room in
      record { file = omega (arith, leb-false _ _ low); staged = p.staged };
  asks = λ m p. record { file = p.file; staged = p.staged };
  lays = λ m address bytes p. record { file = p.file; staged = p.staged };
  stages = λ m address fits p.
      let low = not_refused m (coalesced_refusal (f.coalesced m.memory address)) fits in
      record { file = p.file; staged = omega (arith, leb-false _ _ low) };
  cold = λ m p. record { file = p.file; staged = p.staged };
  warm = λ m p. record { file = p.file; staged = p.staged };
  boots = λ m h j held p.
      let same : AreSame m (boot_at f m h j).machine = steps_same f j (boot_start f m h) in
      record {
        file = subst (λ (n : ℕ). n < 2 ^ 64) (sym same.file) p.file;
        staged = subst (λ (n : ℕ). n < 2 ^ 64) (sym same.staged) p.staged;
      };
}

pub serials_low : (f : Formats) (board : BoardValue) (m : Machine) → IsReached f board m
    → AreLow m
serials_low f board m r =
    reached_keeps f AreLow (low_keeps f) board m
    (record { file = omega arith; staged = omega arith }) r
