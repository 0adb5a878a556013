-- In every machine that is reached no two spent units are of one ticket on one device, each try is
-- aimed at its device, and each attempt is a try.
use Rattle.std.proofs.Common.{◌≡◌, ℕ, zero, suc, ◌==◌, not, Bool}
use Rattle.std.proofs.Common.{true, false, cond, List, [], ◌∷◌, ◌++◌, filter, find}
use Rattle.std.proofs.Common.{map, refl, sym, ap, ◌∙◌, subst}
use Rattle.std.proofs.Common.{Option, Some, None, true≢false}
use Rattle.std.specs.List.{AllByRecursion}
use Rattle.bench_model.specs.Boards.{BoardValue}
use Rattle.bench_model.specs.Files.{File}
use Rattle.cu_base.specs.declared.time.EfiTime.{EfiTime}
use Rattle.reference_machine.specs.Boots.{BootState, BootTask, Course, after, after_steps, after_unit}
use Rattle.reference_machine.specs.Boots.{closed_with, course_of}
use Rattle.reference_machine.specs.Boots.{course_of_try}
use Rattle.reference_machine.specs.Boots.{element_of, file_delivery}
use Rattle.reference_machine.specs.Boots.{settled_with}
use Rattle.reference_machine.specs.Boots.BootBatch.{Clears, Does, Prunes, Settles, Unstages}
use Rattle.reference_machine.specs.Boots.BootTask.{Commits, Removes}
use Rattle.reference_machine.specs.Boots.Course.{Claim, Close}
use Rattle.reference_machine.specs.Deliveries.{BootUnit, units}
use Rattle.reference_machine.specs.Events.{IsIn}
use Rattle.reference_machine.specs.Formats.{Formats}
use Rattle.reference_machine.specs.Laws.{Distinct}
use Rattle.reference_machine.specs.Machine.{Machine}
use Rattle.reference_machine.specs.Spent.{Element, Standing, is_attempt, is_attempted, is_of, is_open}
use Rattle.reference_machine.specs.Spent.{is_standing_open}
use Rattle.reference_machine.specs.Spent.Standing.{Closed, Open}
use Rattle.reference_machine.specs.Stops.{is_try}
use Rattle.reference_machine.specs.Verdicts.{refusal}
use Rattle.reference_machine.specs.declared.unit.End.{End}
use Rattle.reference_machine.specs.declared.unit.End.TheVariants.{Refused}
use Rattle.reference_machine.specs.declared.unit.Kind.{Kind}
use Rattle.reference_machine.specs.declared.unit.Kind.TheVariants.{Try, Heal, Skip, NoTarget, Bad}
use Rattle.reference_machine.specs.declared.unit.UnitKey.{UnitKey}
use Rattle.reference_machine.proofs.Apart.{all_imply, all_kept, all_more, distinct_more}
use Rattle.reference_machine.proofs.Keys.{keys_append, keys_closed, keys_of}
use Rattle.reference_machine.proofs.Keys.{unit_keys}
use Rattle.cap_boot.proofs.UnitTargets.{AimedUnit, IsAimed}
use Rattle.cap_boot.proofs.UnitTargets.{same_place}

-- ---- what is known of the keys, the elements and the units that are left

-- a key of a file that is there is that of one of its units
abbrev pub IsOwn : Formats → BoardValue → List File → UnitKey → Type 0
IsOwn f board files k =
    AllByRecursion (λ x. is_of 1 x.serial k ≡ true
    → IsIn k (unit_keys (units f (file_delivery x) board))) files

-- what is known of an element
pub record IsAimedElement (board : BoardValue) (e : Element) : Type 0 where
  pub aimed : is_try e.kind ≡ true → IsAimed board e.capsule e.head e.key.device
  pub tried : is_attempt e ≡ true → is_try e.kind ≡ true

-- and of all elements of a machine
pub record AreAimed (f : Formats) (board : BoardValue) (files : List File)
    (list : List Element) : Type 0 where
  pub apart : Distinct same_place (keys_of list)
  pub own : AllByRecursion (IsOwn f board files) (keys_of list)
  pub each : AllByRecursion (IsAimedElement board) list

-- no key is of the place of this one
abbrev pub OthersThan : UnitKey → List UnitKey → Type 0
OthersThan k keys = AllByRecursion (λ l. same_place l k ≡ false) keys

-- the units that are left are of other places than these keys, and than earlier ones
abbrev pub Fresh : List UnitKey → List BootTask → Type 0
Fresh keys [] = Unit {0}
Fresh keys (Commits (Settles kind end) ∷ rest) = Fresh keys rest
Fresh keys (Commits (Unstages pair) ∷ rest) = Fresh keys rest
Fresh keys (Commits (Does u) ∷ rest) = OthersThan u.key keys × Fresh (keys ++ u.key ∷ []) rest
Fresh keys (Commits Prunes ∷ rest) = Fresh keys rest
Fresh keys (Removes serial ∷ rest) = Fresh keys rest
Fresh keys (Commits Clears ∷ rest) = Fresh keys rest

-- each unit that is left passes
abbrev pub EachUnit : (BootUnit → Type 0) → List BootTask → Type 0
EachUnit P [] = Unit {0}
EachUnit P (Commits (Settles kind end) ∷ rest) = EachUnit P rest
EachUnit P (Commits (Unstages pair) ∷ rest) = EachUnit P rest
EachUnit P (Commits (Does u) ∷ rest) = P u × EachUnit P rest
EachUnit P (Commits Prunes ∷ rest) = EachUnit P rest
EachUnit P (Removes serial ∷ rest) = EachUnit P rest
EachUnit P (Commits Clears ∷ rest) = EachUnit P rest

-- what is known of a unit that is left
pub record IsAimedUnit (f : Formats) (board : BoardValue) (files : List File)
    (u : BootUnit) : Type 0 where
  pub own : IsOwn f board files u.key
  pub aimed : AimedUnit board u

-- with the work that is left
pub record AimedWork (f : Formats) (board : BoardValue) (files : List File) (list : List Element)
    (left : List BootTask) : Type 0 where
  pub are : AreAimed f board files list
  pub fresh : Fresh (keys_of list) left
  pub units : EachUnit (IsAimedUnit f board files) left

-- ---- steps

each_imply : (P Q : BootUnit → Type 0) → ((u : BootUnit) → P u → Q u) → (left : List BootTask)
    → EachUnit P left → EachUnit Q left
each_imply P Q h [] all = tt
each_imply P Q h (Commits (Settles kind end) ∷ rest) all = each_imply P Q h rest all
each_imply P Q h (Commits (Unstages pair) ∷ rest) all = each_imply P Q h rest all
each_imply P Q h (Commits (Does u) ∷ rest) all = (h u all.0, each_imply P Q h rest all.1)
each_imply P Q h (Commits Prunes ∷ rest) all = each_imply P Q h rest all
each_imply P Q h (Removes serial ∷ rest) all = each_imply P Q h rest all
each_imply P Q h (Commits Clears ∷ rest) all = each_imply P Q h rest all

-- closing what is open keeps what is known of an element
closed_aimed : (board : BoardValue) (end : End) (now : EfiTime) (e : Element)
    → IsAimedElement board e → IsAimedElement board (closed_with end now e)
closed_aimed board end now e a = by_test (is_open e) refl
  where
    by_test : (b : Bool) → is_open e ≡ b
        → IsAimedElement board (cond b (record e { standing = Closed (Some end) now }) e)
    by_test false h = a
    by_test true h = record {
      aimed = a.aimed;
      tried = λ any. a.tried (open_tried e.standing h);
    }
      where
        open_tried : (s : Standing) → is_standing_open s ≡ true → is_attempted s ≡ true
        open_tried Open k = refl
        open_tried (Closed o at) k = absurd (let z : false ≡ true = k in cc)

all_closed : (board : BoardValue) (end : End) (now : EfiTime) (list : List Element)
    → AllByRecursion (IsAimedElement board) list
    → AllByRecursion (IsAimedElement board) (map (closed_with end now) list)
all_closed board end now [] all = tt
all_closed board end now (e ∷ es) all =
    (closed_aimed board end now e all.0, all_closed board end now es all.1)

pub settled_aimed : (f : Formats) (board : BoardValue) (files : List File) (end : End) (now : EfiTime)
    (list : List Element) → AreAimed f board files list
    → AreAimed f board files (map (closed_with end now) list)
settled_aimed f board files end now list a = record {
  apart = subst (Distinct same_place) (sym (keys_closed end now list)) a.apart;
  own = subst (AllByRecursion (IsOwn f board files)) (sym (keys_closed end now list)) a.own;
  each = all_closed board end now list a.each;
}

-- one more element of a unit that was left
one_more : (f : Formats) (board : BoardValue) (files : List File) (list : List Element)
    (u : BootUnit) (rest : List BootTask) (standing : Standing)
    → (is_attempted standing ≡ true → is_try u.kind ≡ true)
    → AimedWork f board files list (Commits (Does u) ∷ rest)
    → AimedWork f board files (list ++ element_of f u standing ∷ []) rest
one_more f board files list u rest standing tried w =
    let e : Element = element_of f u standing in
    let keys : keys_of (list ++ e ∷ []) ≡ keys_of list ++ u.key ∷ [] = keys_append list (e ∷ []) in
    record {
      are = record {
        apart = subst (Distinct same_place) (sym keys)
            (distinct_more same_place (keys_of list) u.key w.are.apart w.fresh.0);
        own = subst (AllByRecursion (IsOwn f board files)) (sym keys)
            (all_more (IsOwn f board files) (keys_of list) u.key w.are.own w.units.0.own);
        each = all_more (IsAimedElement board) list e w.are.each
            (record { aimed = w.units.0.aimed; tried = tried });
      };
      fresh = subst (λ (ks : List UnitKey). Fresh ks rest) (sym keys) w.fresh.1;
      units = w.units.1;
    }

-- a claim is made of a try alone
claimed_tries : (f : Formats) (m : Machine) (u : BootUnit) (kind : Kind)
    → course_of f m u kind ≡ Claim → is_try kind ≡ true
claimed_tries f m u Try is = refl
claimed_tries f m u Heal is = absurd (let e : Close None ≡ Claim = is in cc)
claimed_tries f m u Skip is = absurd (let e : Close None ≡ Claim = is in cc)
claimed_tries f m u NoTarget is = absurd (let e : Close None ≡ Claim = is in cc)
claimed_tries f m u Bad is = absurd (let e : Close None ≡ Claim = is in cc)

none_course : (end : Option End) (at : EfiTime) → Close None ≡ Close end
    → is_attempted (Closed end at) ≡ false
none_course end at is =
    let e : None ≡ end = cc in ap (λ o. is_attempted (Closed o at)) (sym e)

-- what is closed at once is no attempt
untried_course : (f : Formats) (m : Machine) (u : BootUnit) (kind : Kind) (end : Option End)
    (at : EfiTime) → course_of f m u kind ≡ Close end → is_attempted (Closed end at) ≡ false
untried_course f m u Try end at is = by_refusal (refusal f m u) is
  where
    by_refusal : (o : Option ℕ) → course_of_try o ≡ Close end → is_attempted (Closed end at) ≡ false
    by_refusal None k = absurd (let e : Claim ≡ Close end = k in cc)
    by_refusal (Some status) k =
        let e : Some (Refused status) ≡ end = let z : Close (Some (Refused status)) ≡ Close end = k in cc in
        ap (λ o. is_attempted (Closed o at)) (sym e)
untried_course f m u Heal end at is = none_course end at is
untried_course f m u Skip end at is = none_course end at is
untried_course f m u NoTarget end at is = none_course end at is
untried_course f m u Bad end at is = none_course end at is

unit_aimed : (f : Formats) (board : BoardValue) (b : BootState) (u : BootUnit)
    (rest : List BootTask) (c : Course) → course_of f b.machine u u.kind ≡ c
    → AimedWork f board b.machine.files b.machine.list (Commits (Does u) ∷ rest)
    → AimedWork f board (after_unit f b u rest c).machine.files
    (after_unit f b u rest c).machine.list (after_unit f b u rest c).left
unit_aimed f board b u rest Claim is w =
    let n = one_more f board b.machine.files b.machine.list u rest Open
    (λ any. claimed_tries f b.machine u u.kind is) w in
    record { are = n.are; fresh = n.fresh; units = n.units }
unit_aimed f board b u rest (Close end) is w =
    one_more f board b.machine.files b.machine.list u rest (Closed end b.machine.now)
    (λ any. absurd (true≢false (sym any ∙ untried_course f b.machine u u.kind end b.machine.now is)))
    w

settled_work : (f : Formats) (board : BoardValue) (m : Machine) (end : End) (o : Option Element)
    (rest : List BootTask) → AimedWork f board m.files m.list rest
    → AimedWork f board (settled_with m end o).files (settled_with m end o).list rest
settled_work f board m end None rest w = w
settled_work f board m end (Some e) rest w = record {
  are = settled_aimed f board m.files end m.now m.list w.are;
  fresh = subst (λ (ks : List UnitKey). Fresh ks rest) (sym (keys_closed end m.now m.list)) w.fresh;
  units = w.units;
}

fewer_files : (f : Formats) (board : BoardValue) (keep : File → Bool) (files : List File)
    (list : List Element) (rest : List BootTask) → AimedWork f board files list rest
    → AimedWork f board (filter keep files) list rest
fewer_files f board keep files list rest w =
    let less : (k : UnitKey) → IsOwn f board files k → IsOwn f board (filter keep files) k =
    λ k own. all_kept (λ (x : File). is_of 1 x.serial k ≡ true
    → IsIn k (unit_keys (units f (file_delivery x) board))) keep files own in
    record {
      are = record {
        apart = w.are.apart;
        own = all_imply (IsOwn f board files) (IsOwn f board (filter keep files)) less
            (keys_of list) w.are.own;
        each = w.are.each;
      };
      fresh = w.fresh;
      units = each_imply (IsAimedUnit f board files) (IsAimedUnit f board (filter keep files))
          (λ u h. record { own = less u.key h.own; aimed = h.aimed }) rest w.units;
    }

after_aimed : (f : Formats) (board : BoardValue) (b : BootState) (left : List BootTask)
    → b.left ≡ left → AimedWork f board b.machine.files b.machine.list left
    → AimedWork f board (after f b left).machine.files (after f b left).machine.list
    (after f b left).left
after_aimed f board b [] is w =
    subst (AimedWork f board b.machine.files b.machine.list) (sym is) w
after_aimed f board b (Commits (Settles kind end) ∷ rest) is w =
    settled_work f board b.machine end (find is_open b.machine.list) rest
    (record { are = w.are; fresh = w.fresh; units = w.units })
after_aimed f board b (Commits (Unstages pair) ∷ rest) is w =
    record { are = w.are; fresh = w.fresh; units = w.units }
after_aimed f board b (Commits (Does u) ∷ rest) is w =
    unit_aimed f board b u rest (course_of f b.machine u u.kind) refl w
after_aimed f board b (Commits Prunes ∷ rest) is w =
    record { are = w.are; fresh = w.fresh; units = w.units }
after_aimed f board b (Removes serial ∷ rest) is w =
    fewer_files f board (λ x. not (x.serial == serial)) b.machine.files b.machine.list rest
    (record { are = w.are; fresh = w.fresh; units = w.units })
after_aimed f board b (Commits Clears ∷ rest) is w =
    record { are = w.are; fresh = w.fresh; units = w.units }

pub steps_aimed : (f : Formats) (board : BoardValue) (n : ℕ) (b : BootState)
    → AimedWork f board b.machine.files b.machine.list b.left
    → AimedWork f board (after_steps f n b).machine.files (after_steps f n b).machine.list
    (after_steps f n b).left
steps_aimed f board zero b w = w
steps_aimed f board (suc n) b w =
    after_aimed f board (after_steps f n b) (after_steps f n b).left refl (steps_aimed f board n b w)
