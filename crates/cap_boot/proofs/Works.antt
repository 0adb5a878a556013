-- How pieces of the work of a boot follow one another.
use Rattle.std.proofs.Common.{◌≡◌, ◌<◌, ◌≤◌, ℕ, ◌+◌, List, [], ◌∷◌, ◌++◌, length}
use Rattle.std.proofs.Common.{drop, get_or, flat_map, refl, sym, ◌∙◌, ap, subst, append_assoc}
use Rattle.std.proofs.Common.{add-one, drop-cons, Result, Ok, Err, Option, None}
use Rattle.std.proofs.lemmas.List.{drop_all}
use Rattle.reference_machine.specs.Boots.{BootState, BootTask, after_steps}
use Rattle.reference_machine.specs.Machine.{Machine}
use Rattle.cap_boot.specs.declared.fault.BootFault.{BootFault}
use Rattle.cap_boot.specs.declared.fault.BootFault.TheVariants.{Flash, NoBank, Memory}
use Rattle.cap_boot.specs.Going.{Goes, Tasks}
use Rattle.cap_boot.specs.Situations.{IsAt, IsStopped, IsUnderWay, Situation, StopsAt, StopsByFlash}
use Rattle.cap_boot.specs.Situations.{cause_of, told_at}
use Rattle.cap_boot.specs.Stands.{Setting}
use Rattle.cap_boot.proofs.Onward.{later, more_steps}
use Rattle.cap_boot.proofs.Stable.{at_stands}

-- a stop between two steps
pub rest_stopped : (x : Setting) (fault : BootFault) (start : Machine) (b : BootState)
    (y : Situation) → IsAt x b y
    → StopsAt x.formats start b (told_at y) (cause_of fault) b.machine
    → IsStopped x fault start b y
rest_stopped x fault start b y at here = record {
  one = b.machine;
  other = b.machine;
  one_is = here;
  other_is = here;
  either = at_stands x b y at;
}

pub flash_at_rest : (x : Setting) (start : Machine) (b : BootState) (y : Situation) → IsAt x b y
    → IsStopped x Flash start b y
flash_at_rest x start b y at =
    let none : y.store.log.pending ≡ None = at.opened.fresh.pending in
    rest_stopped x Flash start b y at (
      ap (λ (p : Option ℕ). record y.report { pending = p }) (sym none) ∙ at.report,
      subst (λ (p : Option ℕ). StopsByFlash x.formats b p b.machine) (sym none) refl,
    )

pub memory_at_rest : (x : Setting) (start : Machine) (b : BootState) (y : Situation) → IsAt x b y
    → IsStopped x Memory start b y
memory_at_rest x start b y at = rest_stopped x Memory start b y at (at.report, refl)

pub no_bank_at_rest : (x : Setting) (start : Machine) (b : BootState) (y : Situation) → IsAt x b y
    → IsStopped x NoBank start b y
no_bank_at_rest x start b y at = rest_stopped x NoBank start b y at (at.report, refl)

-- want of memory before anything was done
pub gave_up : {T : Type 0} (x : Setting) (Behind : Machine → List BootTask → Type 0)
    (Keeps : Machine → Machine → Type 0) (work more : Tasks) (y : Situation)
    → Goes {T = T} x Behind Keeps work more y (Err Memory) y
gave_up x Behind Keeps work more y = record {
  from = λ b rest way may left at.
      record { steps = 0; stopped = memory_at_rest x way.start b y at };
}

-- a fault of the flash before anything was done
pub flash_failed : {T : Type 0} (x : Setting) (Behind : Machine → List BootTask → Type 0)
    (Keeps : Machine → Machine → Type 0) (work more : Tasks) (y : Situation)
    → Goes {T = T} x Behind Keeps work more y (Err Flash) y
flash_failed x Behind Keeps work more y = record {
  from = λ b rest way may left at.
      record { steps = 0; stopped = flash_at_rest x way.start b y at };
}

-- nothing to do
pub goes_nowhere : {T : Type 0} (x : Setting) (Behind : Machine → List BootTask → Type 0)
    (Keeps : Machine → Machine → Type 0) (work : Tasks) (y : Situation) (u : T)
    → ((m : Machine) → Keeps m m) → Goes x Behind Keeps work work y (Ok u) y
goes_nowhere x Behind Keeps work y u same = record {
  from = λ b rest way may left at.
      record { steps = 0; left = left; at = at; keeps = same b.machine };
}

-- the same with other work behind it, which the call leaves as it is in the words of the machine
-- after it
pub with_behind : {T : Type 0} (x : Setting) {Behind Wider : Machine → List BootTask → Type 0}
    {Keeps : Machine → Machine → Type 0} {work more : Tasks} {y z : Situation}
    {r : Result T BootFault} (before after : Tasks)
    → ((start m : Machine) (rest : List BootTask) → Behind start rest
    → Wider start (before m ++ rest))
    → ((b : BootState) (k : ℕ) → IsUnderWay x b
    → Keeps b.machine (after_steps x.formats k b).machine
    → before b.machine ≡ after (after_steps x.formats k b).machine)
    → Goes x Wider Keeps work more y r z
    → Goes x Behind Keeps (λ m. work m ++ before m) (λ m. more m ++ after m) y r z
with_behind x {work = work} {more = more} {r = Ok u} before after may same d = record {
  from = λ b rest way fits left at.
      let p = d.from b (before b.machine ++ rest) way (may way.start b.machine rest fits)
      (left ∙ append_assoc (work b.machine) (before b.machine) rest) at in
      let c = after_steps x.formats p.steps b in
      record {
        steps = p.steps;
        left = p.left
            ∙ ap (λ (w : List BootTask). more c.machine ++ (w ++ rest))
            (same b p.steps way p.keeps)
            ∙ sym (append_assoc (more c.machine) (after c.machine) rest);
        at = p.at;
        keeps = p.keeps;
      };
}
with_behind x {work = work} {r = Err fault} before after may same d = record {
  from = λ b rest way fits left at.
      d.from b (before b.machine ++ rest) way (may way.start b.machine rest fits)
      (left ∙ append_assoc (work b.machine) (before b.machine) rest) at;
}

-- a fault in the first piece
pub stopped_first : {T U : Type 0} (x : Setting) {Behind : Machine → List BootTask → Type 0}
    {Keeps Other : Machine → Machine → Type 0} {work more last : Tasks} {y z : Situation}
    {fault : BootFault} → Goes {T = T} x Behind Keeps work more y (Err fault) z
    → Goes {T = U} x Behind Other work last y (Err fault) z
stopped_first x d = record { from = d.from }

-- one piece, and then another
pub then_goes : {T U : Type 0} (x : Setting) {Behind : Machine → List BootTask → Type 0}
    {First Second Both : Machine → Machine → Type 0} {work more last : Tasks}
    {y z v : Situation} {u : T} {r : Result U BootFault}
    → ((a b c : Machine) → First a b → Second b c → Both a c)
    → Goes x Behind First work more y (Ok u) z → Goes x Behind Second more last z r v
    → Goes x Behind Both work last y r v
then_goes x {Second = Second} {last = last} {v = v} {r = Ok w} join d e = record {
  from = λ b rest way may left at.
      let f = x.formats in
      let p = d.from b rest way may left at in
      let c = after_steps f p.steps b in
      let q = e.from c rest (later x p.steps b way) may p.left p.at in
      let same = more_steps f q.steps p.steps b in
      record {
        steps = q.steps + p.steps;
        left = subst (λ (n : BootState). n.left ≡ last n.machine ++ rest) same q.left;
        at = subst (λ (n : BootState). IsAt x n v) same q.at;
        keeps = join b.machine c.machine (after_steps f (q.steps + p.steps) b).machine p.keeps
            (subst (λ (n : BootState). Second c.machine n.machine) same q.keeps);
      };
}
then_goes x {v = v} {r = Err fault} join d e = record {
  from = λ b rest way may left at.
      let f = x.formats in
      let p = d.from b rest way may left at in
      let c = after_steps f p.steps b in
      let q = e.from c rest (later x p.steps b way) may p.left p.at in
      let same = more_steps f q.steps p.steps b in
      record {
        steps = q.steps + p.steps;
        stopped = subst (λ (n : BootState). IsStopped x fault way.start n v) same q.stopped;
      };
}

-- the same work in other words
pub works_as : {T : Type 0} (x : Setting) {Behind : Machine → List BootTask → Type 0}
    {Keeps : Machine → Machine → Type 0} {work also more : Tasks} {y z : Situation}
    {r : Result T BootFault}
    → ((b : BootState) → IsUnderWay x b → IsAt x b y → also b.machine ≡ work b.machine)
    → Goes x Behind Keeps work more y r z → Goes x Behind Keeps also more y r z
works_as x {work = work} {also = also} same d = record {
  from = λ b rest way may left at.
      d.from b rest way may (left ∙ ap (λ (w : List BootTask). w ++ rest) (same b way at)) at;
}

-- the work that is left in other words
pub leaves_as : {T : Type 0} (x : Setting) {Behind : Machine → List BootTask → Type 0}
    {Keeps : Machine → Machine → Type 0} {work more also : Tasks} {y z : Situation}
    {r : Result T BootFault} → ((m : Machine) → more m ≡ also m)
    → Goes x Behind Keeps work more y r z → Goes x Behind Keeps work also y r z
leaves_as x {r = Ok u} same d = record {
  from = λ b rest way may left at.
      let p = d.from b rest way may left at in
      record {
        steps = p.steps;
        left = p.left ∙ ap (λ (w : List BootTask). w ++ rest)
            (same (after_steps x.formats p.steps b).machine);
        at = p.at;
        keeps = p.keeps;
      };
}
leaves_as x {r = Err fault} same d = record { from = d.from }

-- less is kept
pub keeps_less : {T : Type 0} (x : Setting) {Behind : Machine → List BootTask → Type 0}
    {Keeps Less : Machine → Machine → Type 0} {work more : Tasks} {y z : Situation}
    {r : Result T BootFault} → ((a b : Machine) → Keeps a b → Less a b)
    → Goes x Behind Keeps work more y r z → Goes x Behind Less work more y r z
keeps_less x {r = Ok u} less d = record {
  from = λ b rest way may left at.
      let p = d.from b rest way may left at in
      record {
        steps = p.steps;
        left = p.left;
        at = p.at;
        keeps = less b.machine (after_steps x.formats p.steps b).machine p.keeps;
      };
}
keeps_less x {r = Err fault} less d = record { from = d.from }

-- where more may come behind than may here
pub goes_narrow : {T : Type 0} (x : Setting) {Behind Wider : Machine → List BootTask → Type 0}
    {Keeps : Machine → Machine → Type 0} {work more : Tasks} {y z : Situation}
    {r : Result T BootFault}
    → ((start : Machine) (rest : List BootTask) → Behind start rest → Wider start rest)
    → Goes x Wider Keeps work more y r z → Goes x Behind Keeps work more y r z
goes_narrow x narrow d = record {
  from = λ b rest way may left at. d.from b rest way (narrow way.start rest may) left at;
}

-- as the call's result
pub as_result : {T : Type 0} (x : Setting) {Behind : Machine → List BootTask → Type 0}
    {Keeps : Machine → Machine → Type 0} {work more : Tasks} {y z : Situation}
    {r s : Result T BootFault} → s ≡ r → Goes x Behind Keeps work more y r z
    → Goes x Behind Keeps work more y s z
as_result {T = T} x {Behind = Behind} {Keeps = Keeps} {work = work} {more = more} {y = y} {z = z}
    is d = subst (λ (q : Result T BootFault). Goes x Behind Keeps work more y q z) (sym is) d

-- pieces of work by a list, one more
one_more : {X : Type 0} (f : X → List BootTask) (xs : List X) (i : ℕ) (d : X) → i < length xs
    → f (get_or xs i d) ++ flat_map f (drop (i + 1) xs) ≡ flat_map f (drop i xs)
one_more f xs i d lt =
    let cut : drop i xs ≡ get_or xs i d ∷ drop (i + 1) xs = rw (add-one, drop-cons xs i d) in
    sym (ap (flat_map f) cut)

-- the next piece of a loop
pub loop_next : {X T U : Type 0} (x : Setting) {Behind Wider : Machine → List BootTask → Type 0}
    {Keeps One : Machine → Machine → Type 0} {work : Tasks} {y z v : Situation} {u : T}
    {r : Result U BootFault} (each : X → Tasks) (xs : List X) (i : ℕ) (d : X)
    → ((start m : Machine) (rest : List BootTask) → Behind start rest
    → Wider start (flat_map (λ a. each a m) (drop (i + 1) xs) ++ rest))
    → ((b : BootState) (k : ℕ) → IsUnderWay x b
    → One b.machine (after_steps x.formats k b).machine
    → flat_map (λ a. each a b.machine) (drop (i + 1) xs)
    ≡ flat_map (λ a. each a (after_steps x.formats k b).machine) (drop (i + 1) xs))
    → ((a b c : Machine) → Keeps a b → One b c → Keeps a c) → i < length xs
    → Goes x Behind Keeps work (λ m. flat_map (λ a. each a m) (drop i xs)) y (Ok u) z
    → Goes x Wider One (each (get_or xs i d)) (λ m. []) z r v
    → Goes x Behind Keeps work (λ m. flat_map (λ a. each a m) (drop (i + 1) xs)) y r v
loop_next x each xs i d may same join lt p q =
    let rest : Tasks = λ m. flat_map (λ a. each a m) (drop (i + 1) xs) in
    then_goes x join
    (leaves_as x (λ m. sym (one_more (λ a. each a m) xs i d lt)) p)
    (with_behind x rest rest may same q)

-- the loop is over
pub loop_out : {X T : Type 0} (x : Setting) {Behind : Machine → List BootTask → Type 0}
    {Keeps : Machine → Machine → Type 0} {work : Tasks} {y z : Situation} {u : T}
    (each : X → Tasks) (xs : List X) (i : ℕ) → length xs ≤ i
    → Goes x Behind Keeps work (λ m. flat_map (λ a. each a m) (drop i xs)) y (Ok u) z
    → Goes x Behind Keeps work (λ m. []) y (Ok u) z
loop_out {X = X} x each xs i le p =
    leaves_as x (λ m. ap (λ (ys : List X). flat_map (λ a. each a m) ys) (drop_all i xs le)) p

-- what holds of the start of each boot that comes here may be asked of it
pub goes_where : {T : Type 0} (x : Setting) {Behind : Machine → List BootTask → Type 0}
    {Keeps : Machine → Machine → Type 0} {work more : Tasks} {y z : Situation}
    {r : Result T BootFault} (P : Machine → Type 0)
    → ((b : BootState) (way : IsUnderWay x b) → IsAt x b y → P way.start)
    → Goes x (λ start rest. P start × Behind start rest) Keeps work more y r z
    → Goes x Behind Keeps work more y r z
goes_where x P holds d = record {
  from = λ b rest way may left at. d.from b rest way (holds b way at, may) left at;
}

-- a call from another situation at which each boot that comes there is also here
pub starts_at : {T : Type 0} (x : Setting) {Behind : Machine → List BootTask → Type 0}
    {Keeps : Machine → Machine → Type 0} {work more : Tasks} {y also z : Situation}
    {r : Result T BootFault}
    → ((b : BootState) → IsUnderWay x b → IsAt x b also → IsAt x b y)
    → Goes x Behind Keeps work more y r z → Goes x Behind Keeps work more also r z
starts_at x here d = record {
  from = λ b rest way may left at. d.from b rest way may left (here b way at);
}

-- the work that is left in other words, where the boot has come to
pub leaves_at : {T : Type 0} (x : Setting) {Behind : Machine → List BootTask → Type 0}
    {Keeps : Machine → Machine → Type 0} {work more also : Tasks} {y z : Situation} {u : T}
    → ((b : BootState) → IsUnderWay x b → IsAt x b z → more b.machine ≡ also b.machine)
    → Goes x Behind Keeps work more y (Ok u) z → Goes x Behind Keeps work also y (Ok u) z
leaves_at x same d = record {
  from = λ b rest way may left at.
      let p = d.from b rest way may left at in
      let c = after_steps x.formats p.steps b in
      record {
        steps = p.steps;
        left = p.left ∙ ap (λ (w : List BootTask). w ++ rest)
            (same c (later x p.steps b way) p.at);
        at = p.at;
        keeps = p.keeps;
      };
}
