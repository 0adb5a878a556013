-- In every machine that is reached no two spent units are of one ticket on one device, each try is
-- aimed at its device, and each attempt is a try.
use Rattle.std.proofs.Common.{◌≡◌, inl, inr, ℕ, ◌+◌, ◌==◌, not}
use Rattle.std.proofs.Common.{true, List, [], ◌∷◌, ◌++◌, filter, find, sym, ap}
use Rattle.std.proofs.Common.{◌∙◌, subst, arith, Some, None}
use Rattle.std.specs.List.{AllByRecursion}
use Rattle.bench_model.specs.Boards.{BoardValue}
use Rattle.bench_model.specs.Files.{File, is_same_name}
use Rattle.reference_machine.specs.Boots.{BootTask, boot_at, boot_start, boot_tasks, settled}
use Rattle.reference_machine.specs.Boots.{folder_tasks, settled_with, staged_tasks, tasks_with}
use Rattle.reference_machine.specs.Events.{with_file}
use Rattle.reference_machine.specs.Formats.{Formats}
use Rattle.reference_machine.specs.Laws.{AreApart, IsGiven, IsReached}
use Rattle.reference_machine.specs.Laws.IsReached.{Fresh as FreshBoard, ByEvent, BySteps}
use Rattle.reference_machine.specs.Machine.{Machine}
use Rattle.reference_machine.specs.Spent.{Element, is_of, is_open}
use Rattle.reference_machine.specs.Stops.{IsHeldEnd}
use Rattle.reference_machine.specs.declared.unit.End.{End}
use Rattle.reference_machine.specs.declared.unit.UnitKey.{UnitKey}
use Rattle.reference_machine.proofs.Apart.{all_kept, all_more, settled_apart}
use Rattle.reference_machine.proofs.Going.{Sound}
use Rattle.reference_machine.proofs.Keeping.{Leads, step_leads}
use Rattle.reference_machine.proofs.Keyed.{Keyed, settled_keys, settled_staged}
use Rattle.reference_machine.proofs.Keys.{keys_closed, keys_of}
use Rattle.reference_machine.proofs.Lists.{Rests, find_last, find_none, settled_list}
use Rattle.reference_machine.proofs.Reached.{apart, given, orderly, reached_sound, same_board}
use Rattle.cap_boot.proofs.Aimed.{AimedWork, AreAimed, Fresh, IsOwn, settled_aimed}
use Rattle.cap_boot.proofs.Aimed.{steps_aimed}
use Rattle.cap_boot.proofs.AimedStart.{both_true, equal_of, work_aimed}

-- ---- a boot

-- the same keys, staged deliveries and last serial
settled_keyed : (m : Machine) (end : End) (e : Element) → Keyed m
    → Keyed (settled_with m end (Some e))
settled_keyed m end e k =
    let keys : keys_of (settled_with m end (Some e)).list ≡ keys_of m.list =
    keys_closed end m.now m.list in
    subst (λ (ks : List UnitKey).
    Rattle.reference_machine.proofs.Keyed.AreKeyed ks m.staged m.last_staged) (sym keys) k

start_aimed : (f : Formats) (m : Machine) (h : End) → IsHeldEnd h → Sound m → AreApart m → Keyed m
    → AreAimed f m.board m.files m.list → AimedWork f m.board m.files m.list (boot_tasks f m h)
start_aimed f m h held (inl r) a k are =
    let is : boot_tasks f m h ≡ tasks_with f m h None =
    ap (tasks_with f m h) (find_none m.list r.none) in
    subst (AimedWork f m.board m.files m.list) (sym is) (work_aimed f m r.none a k are)
start_aimed f m h held (inr p) a k are =
    let found : find is_open m.list ≡ Some p.last =
    ap (find is_open) p.parts ∙ find_last p.front p.last p.none p.is_last in
    let is : boot_tasks f m h ≡ tasks_with f m h (Some p.last) = ap (tasks_with f m h) found in
    let healed : Machine = settled_with m h (Some p.last) in
    let same : settled m h ≡ healed = ap (settled_with m h) found in
    let rests : Rests healed.board healed.list = settled_list m.board m.list h m.now held p in
    let there : AimedWork f m.board m.files healed.list
    (staged_tasks f healed ++ folder_tasks f healed) =
    work_aimed f healed rests.none (settled_apart m h (Some p.last) a)
    (settled_keyed m h p.last k) (settled_aimed f m.board m.files h m.now m.list are) in
    let work : AimedWork f m.board m.files m.list
    (tasks_with f m h (Some p.last)) =
    subst (λ (n : Machine). AimedWork f m.board m.files m.list
    (Rattle.reference_machine.specs.Boots.BootTask.Commits
    (Rattle.reference_machine.specs.Boots.BootBatch.Settles
    Rattle.reference_machine.specs.declared.unit.Kind.TheVariants.Heal h)
    ∷ staged_tasks f n ++ folder_tasks f n)) (sym same) (record {
      are = are;
      fresh = subst (λ (ks : List UnitKey). Fresh ks
          (staged_tasks f healed ++ folder_tasks f healed)) (keys_closed h m.now m.list) there.fresh;
      units = there.units;
    }) in
    subst (AimedWork f m.board m.files m.list) (sym is) work

boot_aimed : (f : Formats) (board : BoardValue) (m : Machine) (h : End) (j : ℕ)
    → IsReached f board m → IsHeldEnd h → AreAimed f board m.files m.list
    → AreAimed f board (boot_at f m h j).machine.files (boot_at f m h j).machine.list
boot_aimed f board m h j r held are =
    let same : m.board ≡ board = same_board f board m r in
    subst (λ (b : BoardValue).
    AreAimed f b (boot_at f m h j).machine.files (boot_at f m h j).machine.list) same
    (steps_aimed f m.board j (boot_start f m h)
    (start_aimed f m h held (reached_sound f board m r) (apart f board m r)
    (orderly f board m r).keyed
    (subst (λ (b : BoardValue). AreAimed f b m.files m.list) (sym same) are))).are

-- ---- an event

given_key : (m : Machine) (list : List Element) → AllByRecursion (λ e. IsGiven m e.key) list
    → AllByRecursion (λ k. IsGiven m k) (keys_of list)
given_key m [] all = tt
given_key m (e ∷ es) all = (all.0, given_key m es all.1)

-- no key is of a file that was not there
not_new : (m : Machine) (k : UnitKey) → IsGiven m k → is_of 1 (m.last_file + 1) k ≡ true → ⊥
not_new m k (inl g) on =
    let route : k.ticket.route ≡ 1 = equal_of k.ticket.route 1
    (both_true (k.ticket.route == 1) (k.ticket.serial == m.last_file + 1) on).0 in
    omega (arith, route, g.0)
not_new m k (inr g) on =
    let serial : k.ticket.serial ≡ m.last_file + 1 = equal_of k.ticket.serial (m.last_file + 1)
    (both_true (k.ticket.route == 1) (k.ticket.serial == m.last_file + 1) on).1 in
    omega (arith, serial, g.1)

put_aimed : (f : Formats) (board : BoardValue) (m : Machine) (name bytes : List ℕ)
    → AllByRecursion (λ e. IsGiven m e.key) m.list → AreAimed f board m.files m.list
    → AreAimed f board (with_file m name bytes).files m.list
put_aimed f board m name bytes all are = record {
  apart = are.apart;
  own = more (keys_of m.list) are.own (given_key m m.list all);
  each = are.each;
}
  where
    more : (ks : List UnitKey) → AllByRecursion (IsOwn f board m.files) ks
        → AllByRecursion (λ k. IsGiven m k) ks
        → AllByRecursion (IsOwn f board (with_file m name bytes).files) ks
    more [] own g = tt
    more (k ∷ ks) own g = (
      all_more _ (filter (λ (x : File). not (is_same_name x.name name)) m.files)
          (record { name = name; serial = m.last_file + 1; bytes = bytes })
          (all_kept _ (λ (x : File). not (is_same_name x.name name)) m.files own.0)
          (λ on. absurd (not_new m k g.0 on)),
      more ks own.1 g.1,
    )

aimed_leads : (f : Formats) (board : BoardValue) (m : Machine) → IsReached f board m
    → AreAimed f board m.files m.list
    → Leads f m (λ n. AreAimed f board n.files n.list)
aimed_leads f board m r are = record {
  stays = are;
  fails = λ x q. q;
  later = λ moment. are;
  puts = λ file bytes e. put_aimed f board m file bytes (given f board m r).elements are;
  asks = are;
  lays = λ address bytes. are;
  stages = λ address e. are;
  cold = are;
  warm = are;
  boots = λ h j held. boot_aimed f board m h j r held are;
}

pub reached_aimed : (f : Formats) (board : BoardValue) (m : Machine) → IsReached f board m
    → AreAimed f board m.files m.list
reached_aimed f board m FreshBoard = record { apart = tt; own = tt; each = tt }
reached_aimed f board m (ByEvent bytes_of old event entry _ r s) =
    step_leads f bytes_of old (λ n. AreAimed f board n.files n.list)
    (aimed_leads f board old r (reached_aimed f board old r)) event entry m s
reached_aimed f board m (BySteps old h j r held) =
    boot_aimed f board old h j r held (reached_aimed f board old r)
