-- The work of a boot from its parts: the heal, the staged deliveries and the folder.
use Rattle.std.proofs.Common.{◌≡◌, sym, ◌∙◌, ap, Result, false, Ok}
use Rattle.bench_model.specs.Bench.{Contents}
use Rattle.reference_machine.specs.Boots.{after_steps, folder_tasks, staged_tasks}
use Rattle.reference_machine.specs.Machine.{Machine}
use Rattle.stored_vars.specs.Holds.{is_asked}
use Rattle.var_store.specs.Stores.{variables_of}
use Rattle.cap_boot.specs.declared.fault.BootFault.{BootFault}
use Rattle.cap_boot.specs.Going.{Goes, IsAny, IsNone, nothing}
use Rattle.cap_boot.specs.Keeps.{IsHealed, KeepsFolder, KeepsNothing}
use Rattle.cap_boot.specs.Situations.{Situation}
use Rattle.cap_boot.specs.Stands.{Setting}
use Rattle.cap_boot.specs.Tasks.{all_tasks, heal_tasks, healed, later_tasks}
use Rattle.cap_boot.proofs.Folders.{asked_is, folder_none}
use Rattle.cap_boot.proofs.Groups.{folder_same}
use Rattle.cap_boot.proofs.Onward.{steps_ground}
use Rattle.cap_boot.proofs.Works.{leaves_at, with_behind}

-- the heal, with all else behind it
pub heal_first : {T : Type 0} (x : Setting) (s : Contents) {y z : Situation}
    {r : Result T BootFault} → Goes x IsAny (IsHealed x s) (heal_tasks x s) nothing y r z
    → Goes x IsNone (IsHealed x s) (all_tasks x s) (later_tasks x.formats) y r z
heal_first x s d =
    with_behind x (λ m. later_tasks x.formats (healed x s m)) (later_tasks x.formats)
    (λ start m rest may. tt) (λ b k way kept. ap (later_tasks x.formats) (sym kept)) d

-- the staged deliveries, with the folder behind them
pub staged_first : {T : Type 0} (x : Setting) {y z : Situation} {r : Result T BootFault}
    → Goes x IsAny KeepsFolder (staged_tasks x.formats) nothing y r z
    → Goes x IsNone KeepsFolder (later_tasks x.formats) (folder_tasks x.formats) y r z
staged_first x d =
    with_behind x (folder_tasks x.formats) (folder_tasks x.formats) (λ start m rest may. tt)
    (λ b k way kept. folder_same x.formats b.machine (after_steps x.formats k b).machine
    (steps_ground x.formats k b) kept) d

-- where the files are not asked for, nothing is left
pub not_asked : {T : Type 0} (x : Setting) (s : Contents) {Keeps : Machine → Machine → Type 0}
    {y z : Situation} {u : T} → is_asked (variables_of z.store) ≡ false
    → Goes x IsNone Keeps (all_tasks x s) (folder_tasks x.formats) y (Ok u) z
    → Goes x IsNone Keeps (all_tasks x s) nothing y (Ok u) z
not_asked x s {z = z} asked d =
    leaves_at x (λ b way at.
    folder_none x.formats b.machine (sym (asked_is x b z at) ∙ asked)) d

pub healed_then : (x : Setting) (s : Contents) (a b c : Machine) → IsHealed x s a b
    → KeepsFolder b c → KeepsNothing a c
healed_then x s a b c p q = tt
