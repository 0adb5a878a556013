-- Files and staged deliveries stay apart.
use Rattle.std.proofs.Common.{◌≡◌, ℕ, zero, suc, ◌+◌, ◌≤◌, Bool, true, false, cond, not, ◌==◌, List}
use Rattle.std.proofs.Common.{[], ◌∷◌, ◌++◌, filter, find, refl, arith, Option, Some, None}
use Rattle.std.specs.List.{AllByRecursion}
use Rattle.std.proofs.lemmas.Bool.Decides.{nat_tests}
use Rattle.reference_machine.specs.declared.snapshot.StagedPair.{StagedPair}
use Rattle.reference_machine.specs.declared.unit.End.{End}
use Rattle.reference_machine.specs.Boots.{BootTask, BootState, Course, after, after_unit}
use Rattle.reference_machine.specs.Boots.{after_steps, boot_at, boot_start, course_of, settled_with}
use Rattle.reference_machine.specs.Boots.BootTask.{Commits, Removes}
use Rattle.reference_machine.specs.Boots.BootBatch.{Settles, Unstages, Does, Prunes, Clears}
use Rattle.reference_machine.specs.Boots.Course.{Claim, Close}
use Rattle.reference_machine.specs.Deliveries.{BootUnit}
use Rattle.reference_machine.specs.Events.{with_file}
use Rattle.reference_machine.specs.Formats.{Formats}
use Rattle.reference_machine.specs.Laws.{Distinct, AreApart, have_same_name}
use Rattle.bench_model.specs.Files.{File}
use Rattle.reference_machine.specs.Machine.{Machine}
use Rattle.bench_model.specs.Files.{is_same_name}
use Rattle.reference_machine.specs.Spent.{Element, is_open}
use Rattle.reference_machine.proofs.Keeping.{Keeps}

-- what holds of each item holds of each that is kept
pub all_kept : {X : Type 0} (P : X → Type 0) (keep : X → Bool) (xs : List X) → AllByRecursion P xs
    → AllByRecursion P (filter keep xs)
all_kept P keep [] all = tt
all_kept P keep (x ∷ xs) all =
    elim (keep x) as (λ b. AllByRecursion P (cond b (x ∷ filter keep xs) (filter keep xs))) [
      | true ↦ (all.0, all_kept P keep xs all.1)
      | false ↦ all_kept P keep xs all.1
    ]

-- and distinct items stay so
pub distinct_kept : {X : Type 0} (same : X → X → Bool) (keep : X → Bool) (xs : List X)
    → Distinct same xs → Distinct same (filter keep xs)
distinct_kept same keep [] d = tt
distinct_kept same keep (x ∷ xs) d =
    elim (keep x) as (λ b. Distinct same (cond b (x ∷ filter keep xs) (filter keep xs))) [
      | true ↦ (all_kept (λ y. same x y ≡ false) keep xs d.0, distinct_kept same keep xs d.1)
      | false ↦ distinct_kept same keep xs d.1
    ]

pass_more : {X : Type 0} (keep : X → Bool) (x : X) (xs : List X) (b : Bool) → keep x ≡ b
    → AllByRecursion (λ y. keep y ≡ true) xs
    → AllByRecursion (λ y. keep y ≡ true) (cond b (x ∷ xs) xs)
pass_more keep x xs true e all = (e, all)
pass_more keep x xs false e all = all

-- the kept items pass the test
pub kept_pass : {X : Type 0} (keep : X → Bool) (xs : List X)
    → AllByRecursion (λ x. keep x ≡ true) (filter keep xs)
kept_pass keep [] = tt
kept_pass keep (x ∷ xs) = pass_more keep x (filter keep xs) (keep x) refl (kept_pass keep xs)

pub all_imply : {X : Type 0} (P Q : X → Type 0) → ((x : X) → P x → Q x) → (xs : List X)
    → AllByRecursion P xs → AllByRecursion Q xs
all_imply P Q h [] all = tt
all_imply P Q h (x ∷ xs) all = (h x all.0, all_imply P Q h xs all.1)

pub all_both : {X : Type 0} (P Q R : X → Type 0) → ((x : X) → P x → Q x → R x) → (xs : List X)
    → AllByRecursion P xs → AllByRecursion Q xs → AllByRecursion R xs
all_both P Q R h [] p q = tt
all_both P Q R h (x ∷ xs) p q = (h x p.0 q.0, all_both P Q R h xs p.1 q.1)

pub all_more : {X : Type 0} (P : X → Type 0) (xs : List X) (y : X) → AllByRecursion P xs → P y
    → AllByRecursion P (xs ++ y ∷ [])
all_more P [] y all h = (h, tt)
all_more P (x ∷ xs) y all h = (all.0, all_more P xs y all.1 h)

-- one more item that is the same as none before
pub distinct_more : {X : Type 0} (same : X → X → Bool) (xs : List X) (y : X) → Distinct same xs
    → AllByRecursion (λ x. same x y ≡ false) xs → Distinct same (xs ++ y ∷ [])
distinct_more same [] y d all = (tt, tt)
distinct_more same (x ∷ xs) y d all =
    (all_more (λ z. same x z ≡ false) xs y d.0 all.0, distinct_more same xs y d.1 all.1)

pub no_longer : (b : Bool) → not b ≡ true → b ≡ false
no_longer true e = cc
no_longer false e = refl

below_next : (n last : ℕ) → n ≤ last → (n == last + 1) ≡ false
below_next n last h = grind (arith, nat_tests)

put_apart : (m : Machine) (name bytes : List ℕ) → AreApart m → AreApart (with_file m name bytes)
put_apart m name bytes a =
    let file : File = record { name = name; serial = m.last_file + 1; bytes = bytes } in
    let keep : File → Bool = λ x. not (is_same_name x.name name) in
    let below : AllByRecursion (λ x. x.serial ≤ m.last_file) (filter keep m.files) =
    all_kept (λ (x : File). x.serial ≤ m.last_file) keep m.files a.last_file in
    record {
      names = distinct_more have_same_name (filter keep m.files) file
          (distinct_kept have_same_name keep m.files a.names)
          (all_imply (λ x. keep x ≡ true) (λ x. have_same_name x file ≡ false)
          (λ x h. no_longer (is_same_name x.name name) h) (filter keep m.files)
          (kept_pass keep m.files));
      files = distinct_more (λ (x y : File). x.serial == y.serial) (filter keep m.files) file
          (distinct_kept (λ (x y : File). x.serial == y.serial) keep m.files a.files)
          (all_imply (λ (x : File). x.serial ≤ m.last_file)
          (λ (x : File). (x.serial == m.last_file + 1) ≡ false)
          (λ x h. below_next x.serial m.last_file h) (filter keep m.files) below);
      last_file = all_more (λ (x : File). x.serial ≤ m.last_file + 1) (filter keep m.files) file
          (all_imply (λ (x : File). x.serial ≤ m.last_file)
          (λ (x : File). x.serial ≤ m.last_file + 1) (λ x h. omega arith)
          (filter keep m.files) below) (omega arith);
      staged = a.staged;
      last_staged = a.last_staged;
    }

pub settled_apart : (m : Machine) (end : End) (o : Option Element) → AreApart m
    → AreApart (settled_with m end o)
settled_apart m end None a = a
settled_apart m end (Some e) a = record {
  names = a.names;
  files = a.files;
  last_file = a.last_file;
  staged = a.staged;
  last_staged = a.last_staged;
}

unit_apart : (f : Formats) (b : BootState) (u : BootUnit) (rest : List BootTask) (c : Course)
    → AreApart b.machine → AreApart (after_unit f b u rest c).machine
unit_apart f b u rest Claim a = record {
  names = a.names;
  files = a.files;
  last_file = a.last_file;
  staged = a.staged;
  last_staged = a.last_staged;
}
unit_apart f b u rest (Close end) a = record {
  names = a.names;
  files = a.files;
  last_file = a.last_file;
  staged = a.staged;
  last_staged = a.last_staged;
}

pub after_apart : (f : Formats) (b : BootState) (left : List BootTask) → AreApart b.machine
    → AreApart (after f b left).machine
after_apart f b [] a = a
after_apart f b (Commits (Settles kind end) ∷ rest) a =
    settled_apart b.machine end (find is_open b.machine.list) a
after_apart f b (Commits (Unstages pair) ∷ rest) a = record {
  names = a.names;
  files = a.files;
  last_file = a.last_file;
  staged = distinct_kept (λ (x y : StagedPair). x.serial == y.serial)
      (λ q. not (q.serial == pair.serial)) b.machine.staged a.staged;
  last_staged =
      all_kept (λ (p : StagedPair). p.serial ≤ b.machine.last_staged)
      (λ q. not (q.serial == pair.serial)) b.machine.staged a.last_staged;
}
after_apart f b (Commits (Does u) ∷ rest) a =
    unit_apart f b u rest (course_of f b.machine u u.kind) a
after_apart f b (Commits Prunes ∷ rest) a = record {
  names = a.names;
  files = a.files;
  last_file = a.last_file;
  staged = a.staged;
  last_staged = a.last_staged;
}
after_apart f b (Removes serial ∷ rest) a = record {
  names = distinct_kept have_same_name (λ x. not (x.serial == serial)) b.machine.files a.names;
  files = distinct_kept (λ (x y : File). x.serial == y.serial)
      (λ x. not (x.serial == serial)) b.machine.files a.files;
  last_file = all_kept (λ (x : File). x.serial ≤ b.machine.last_file)
      (λ x. not (x.serial == serial)) b.machine.files a.last_file;
  staged = a.staged;
  last_staged = a.last_staged;
}
after_apart f b (Commits Clears ∷ rest) a = record {
  names = a.names;
  files = a.files;
  last_file = a.last_file;
  staged = a.staged;
  last_staged = a.last_staged;
}

steps_apart : (f : Formats) (n : ℕ) (b : BootState) → AreApart b.machine
    → AreApart (after_steps f n b).machine
steps_apart f zero b a = a
steps_apart f (suc n) b a =
    after_apart f (after_steps f n b) (after_steps f n b).left (steps_apart f n b a)

pub boot_apart : (f : Formats) (m : Machine) (h : End) (j : ℕ) → AreApart m
    → AreApart (boot_at f m h j).machine
boot_apart f m h j a = steps_apart f j (boot_start f m h) a

pub apart_keeps : (f : Formats) → Keeps f AreApart
apart_keeps f = record {
  fails = λ m a. record {
    names = a.names;
    files = a.files;
    last_file = a.last_file;
    staged = a.staged;
    last_staged = a.last_staged;
  };
  later = λ m moment a. record {
    names = a.names;
    files = a.files;
    last_file = a.last_file;
    staged = a.staged;
    last_staged = a.last_staged;
  };
  puts = λ m file bytes e a. put_apart m file bytes a;
  asks = λ m a. record {
    names = a.names;
    files = a.files;
    last_file = a.last_file;
    staged = a.staged;
    last_staged = a.last_staged;
  };
  lays = λ m address bytes a. record {
    names = a.names;
    files = a.files;
    last_file = a.last_file;
    staged = a.staged;
    last_staged = a.last_staged;
  };
  stages = λ m address e a. record {
    names = a.names;
    files = a.files;
    last_file = a.last_file;
    staged = distinct_more (λ (x y : StagedPair). x.serial == y.serial) m.staged
        (record { serial = m.last_staged + 1; address = address }) a.staged
        (all_imply (λ (p : StagedPair). p.serial ≤ m.last_staged)
        (λ (p : StagedPair). (p.serial == m.last_staged + 1) ≡ false)
        (λ p h. below_next p.serial m.last_staged h) m.staged a.last_staged);
    last_staged =
        all_more (λ (p : StagedPair). p.serial ≤ m.last_staged + 1) m.staged
        (record { serial = m.last_staged + 1; address = address })
        (all_imply (λ (p : StagedPair). p.serial ≤ m.last_staged)
        (λ (p : StagedPair). p.serial ≤ m.last_staged + 1)
        (λ p h. omega arith) m.staged a.last_staged) (omega arith);
  };
  cold = λ m a. record {
    names = a.names;
    files = a.files;
    last_file = a.last_file;
    staged = a.staged;
    last_staged = a.last_staged;
  };
  warm = λ m a. record {
    names = a.names;
    files = a.files;
    last_file = a.last_file;
    staged = a.staged;
    last_staged = a.last_staged;
  };
  boots = λ m h j held a. boot_apart f m h j a;
}
