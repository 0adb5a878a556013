-- A boot from its opening and its work.
use Rattle.std.proofs.Common.{◌≡◌, ℕ, [], ◌++◌, refl, sym, ◌∙◌, ap, subst, true, Option}
use Rattle.std.proofs.Common.{None, Some, Result, Ok, Err, append-nil, arith}
use Rattle.std.specs.Prelude.{MatchResult, OnOk}
use Rattle.bench_model.specs.Bench.{BenchValue, region_of}
use Rattle.bench_model.specs.Boards.{IsBoard}
use Rattle.reference_machine.specs.Boots.{BootState, boot_at, boot_of, boot_start}
use Rattle.reference_machine.specs.Laws.{KeepsLimits}
use Rattle.reference_machine.specs.Machine.{Machine}
use Rattle.reference_machine.specs.Report.{ReportValue, nothing_done, report_value}
use Rattle.reference_machine.specs.declared.report.Report.{Report}
use Rattle.reference_machine.specs.declared.unit.End.{End}
use Rattle.var_log.specs.Logs.{ChangesBanks}
use Rattle.var_log.specs.Opens.{opened_store}
use Rattle.var_store.specs.Stores.{HeldStore, store_value}
use Rattle.cap_boot.specs.declared.fault.BootFault.{BootFault}
use Rattle.cap_boot.specs.Booting.{IsFinished, IsOpenedBoot, IsStoppedBoot}
use Rattle.cap_boot.specs.Going.{Goes, IsCome, IsNone, IsStoppedLater, nothing}
use Rattle.cap_boot.specs.Keeps.{KeepsNothing}
use Rattle.cap_boot.specs.Situations.{IsAt, IsOpen, IsReady, IsUnderWay, Situation, StopsAt}
use Rattle.cap_boot.specs.Situations.{cause_of, situation, told_at}
use Rattle.cap_boot.specs.Stands.{Setting, StandsForEither}
use Rattle.cap_boot.specs.Tasks.{all_tasks, heal_end}
use Rattle.cap_boot.proofs.Healed.{all_work, held_end, work_same}
use Rattle.cap_boot.proofs.Openings.{banks_outside, opened_stores}
use Rattle.cap_boot.proofs.Reports.{stop_agrees, whole}
use Rattle.cap_boot.proofs.Stable.{at_stands}

module _ (x : Setting) (m : Machine) (h : End) (y : Situation) (report : ReportValue)
    (told : report ≡ told_at y) where
  finished : IsCome x KeepsNothing nothing [] (boot_start x.formats m h) y
      → IsReady y.store y.bench → IsFinished x m h report y.bench
  finished p ready =
      let c = boot_at x.formats m h p.steps in
      let is : c ≡ boot_of x.formats m h = whole x.formats m h p.steps p.left in
      record {
        report_is = told ∙ p.at.report ∙ ap (λ (b : BootState). b.report) is;
        stands = subst
            (λ (b : BootState). StandsForEither x y.bench.contents b.machine b.machine) is
            (at_stands x c y p.at);
        clean = ready.clean p.at.told;
      }

  stopped : (fault : BootFault) → IsStoppedLater x fault m (boot_start x.formats m h) y
      → IsStoppedBoot x fault m h report y.bench
  stopped fault p =
      let c = boot_at x.formats m h p.steps in
      let agrees = λ (n : Machine) (is : StopsAt x.formats m c (told_at y) (cause_of fault) n).
      stop_agrees x.formats m h p.steps c refl report (cause_of fault) n
      (subst (λ (r : ReportValue). StopsAt x.formats m c r (cause_of fault) n) (sym told) is) in
      record {
        one = p.stopped.one;
        other = p.stopped.other;
        one_agrees = agrees p.stopped.one p.stopped.one_is;
        other_agrees = agrees p.stopped.other p.stopped.other_is;
        either = p.stopped.either;
      }

  of_result : {T : Type 0} (r : Result T BootFault) → OnOk r (IsReady y.store y.bench)
      → MatchResult r (λ _. IsCome x KeepsNothing nothing [] (boot_start x.formats m h) y)
      (λ fault. IsStoppedLater x fault m (boot_start x.formats m h) y)
      → MatchResult r (λ _. IsFinished x m h report y.bench)
      (λ fault. IsStoppedBoot x fault m h report y.bench)
  of_result (Ok u) ready p = finished p ready
  of_result (Err fault) ready p = stopped fault p

-- the boot of each machine that the bench as read stands for
pub boot_goes : {T : Type 0} (x : Setting) (old mid : BenchValue) (store : HeldStore)
    (begun : Report) (y : Situation) (r : Result T BootFault) (report : ReportValue)
    → KeepsLimits x.formats → IsBoard x.board → ChangesBanks old mid
    → (old.contents.told ≡ true → opened_store old.contents.bytes ≡ Some (store_value store))
    → IsOpen store mid
    → report_value begun ≡ record nothing_done { opened = Some store.log.seq }
    → Goes x IsNone KeepsNothing (all_tasks x mid.contents) nothing (situation store mid begun) r y
    → OnOk r (IsReady y.store y.bench) → report ≡ told_at y
    → IsOpenedBoot x old r report y.bench
boot_goes x old mid store begun y r report limits board banks value opened said goes ready told
    m reached now reads =
    let h = heal_end x old.contents m in
    let b : BootState = boot_start x.formats m h in
    let way : IsUnderWay x b = record {
      start = m;
      heal = h;
      count = 0;
      is = refl;
      reached = reached;
      is_held = held_end x old.contents m;
      now = now;
      limits = limits;
      is_board = board;
    } in
    let stores = opened_stores old.contents.bytes (store_value store) m reads.store
    (value reads.told) in
    let none : store.log.pending ≡ None = opened.fresh.pending in
    let at : IsAt x b (situation store mid begun) = record {
      told = banks.told ∙ reads.told;
      opened = opened;
      stores = stores;
      outside = banks_outside x old mid m banks reads.outside;
      report = ap (λ (q : ReportValue). record q { pending = store.log.pending }) said
          ∙ ap (λ (p : Option ℕ).
          record nothing_done { opened = Some store.log.seq; pending = p }) none
          ∙ ap (λ (n : ℕ). record nothing_done { opened = Some n }) stores.number;
    } in
    let same = λ (d : ℕ). banks.bytes (region_of d) (omega arith) in
    let left : b.left ≡ all_tasks x mid.contents m ++ [] =
    all_work x old.contents m ∙ sym (work_same x old.contents mid.contents m same)
    ∙ sym (append-nil (all_tasks x mid.contents m)) in
    of_result x m h y report told r ready (goes.from b [] way refl left at)
