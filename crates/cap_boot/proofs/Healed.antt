-- The work of a boot in the words of its calls: the heal, and what comes behind it.
use Rattle.std.proofs.Common.{◌≡◌, ℕ, List, ◌∷◌, ◌++◌, find, refl, ap, Bool, true, false}
use Rattle.std.proofs.Common.{Option, None, Some}
use Rattle.std.specs.Prelude.{if◌then◌else◌}
use Rattle.bench_model.specs.Bench.{Contents, region_of}
use Rattle.cu_base.specs.declared.ticket.Ticket.{Ticket}
use Rattle.reference_machine.specs.Boots.{boot_tasks, folder_tasks, settled_with}
use Rattle.reference_machine.specs.Boots.{staged_tasks, tasks_with}
use Rattle.reference_machine.specs.Boots.BootBatch.{Settles}
use Rattle.reference_machine.specs.Boots.BootTask.{Commits}
use Rattle.reference_machine.specs.Formats.{Formats}
use Rattle.reference_machine.specs.Machine.{Machine}
use Rattle.reference_machine.specs.Spent.{Element, Image, is_open}
use Rattle.reference_machine.specs.Stops.{IsHeldEnd}
use Rattle.reference_machine.specs.declared.unit.End.{End}
use Rattle.reference_machine.specs.declared.unit.End.TheVariants.{Kept, Sealed}
use Rattle.reference_machine.specs.declared.unit.Kind.TheVariants.{Heal}
use Rattle.cap_boot.specs.Stands.{Setting, image_in}
use Rattle.cap_boot.specs.Tasks.{all_tasks, end_among, end_by, heal_by, heal_end, is_same_ticket}
use Rattle.cap_boot.specs.Tasks.{later_tasks}

tasks_by : (f : Formats) (m : Machine) (h : End) (o : Option Element) → find is_open m.list ≡ o
    → tasks_with f m h o ≡ heal_by h o ++ later_tasks f (settled_with m h o)
tasks_by f m h None is = refl
tasks_by f m h (Some e) is =
    ap (λ (n : Machine). Commits (Settles Heal h) ∷ (staged_tasks f n ++ folder_tasks f n))
    (ap (settled_with m h) is)

-- all work of a boot is that of its calls
pub all_work : (x : Setting) (s : Contents) (m : Machine)
    → boot_tasks x.formats m (heal_end x s m) ≡ all_tasks x s m
all_work x s m = tasks_by x.formats m (heal_end x s m) (find is_open m.list) refl

held_by : (ticket : Ticket) (image : Option Image) → IsHeldEnd (end_by ticket image)
held_by ticket None = tt
held_by ticket (Some image) = by_ticket (is_same_ticket image.ticket ticket)
  where
    by_ticket : (same : Bool) → IsHeldEnd (if same then Sealed else Kept)
    by_ticket true = tt
    by_ticket false = tt

held_among : (x : Setting) (s : Contents) (o : Option Element) → IsHeldEnd (end_among x s o)
held_among x s None = tt
held_among x s (Some e) = held_by e.key.ticket (image_in x.slot_of (s.bytes _))

-- a heal is told by what a device holds
pub held_end : (x : Setting) (s : Contents) (m : Machine) → IsHeldEnd (heal_end x s m)
held_end x s m = held_among x s (find is_open m.list)

end_same : (x : Setting) (s t : Contents) (o : Option Element)
    → ((d : ℕ) → t.bytes (region_of d) ≡ s.bytes (region_of d))
    → end_among x t o ≡ end_among x s o
end_same x s t None same = refl
end_same x s t (Some e) same =
    ap (λ (bytes : List ℕ). end_by e.key.ticket (image_in x.slot_of bytes)) (same e.key.device)

-- all work stays where the devices' bytes as read do
pub work_same : (x : Setting) (s t : Contents) (m : Machine)
    → ((d : ℕ) → t.bytes (region_of d) ≡ s.bytes (region_of d)) → all_tasks x t m ≡ all_tasks x s m
work_same x s t m same =
    ap (λ (end : End). heal_by end (find is_open m.list)
    ++ later_tasks x.formats (settled_with m end (find is_open m.list)))
    (end_same x s t (find is_open m.list) same)
