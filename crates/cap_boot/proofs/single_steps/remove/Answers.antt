use Rattle.std.proofs.Common.{◌≡◌, ◌∷◌, ◌++◌, ◌+◌, [], ℕ, List, Err, ap, arith, rules, subst, sym, ◌∙◌}
use Rattle.reference_machine.specs.Report.{ReportValue, report_value}
use Rattle.cap_boot.specs.declared.fault.BootFault.TheVariants.{Memory, Volume}
use Rattle.cap_boot.specs.Going.{Goes, IsFolder, nothing}
use Rattle.cap_boot.specs.Keeps.{KeepsOthers}
use Rattle.cap_boot.specs.Tasks.{removal_tasks}
use Rattle.cap_boot.proofs.Singles.{at_report, remove_fails, remove_goes}
use Rattle.cap_boot.proofs.Works.{as_result, gave_up}
use Rattle.cap_boot.proofs.single_steps.remove.Goals as goal

pub returns-in_err-reserve-clause-does : goal.returns-in_err-reserve-clause-does
returns-in_err-reserve-clause-does g c x store =
    let bench = g.W.BenchState.state c.args.bench.now in
    let r = report_value c.args.report.now in
    let same = ap (λ (ns : List ℕ). record r { removed = ns }) c.reserve.ensures.frame in
    let is : c.from_residual.result ≡ Err Memory = search rules in
    as_result x is (subst (λ (q : ReportValue). Goes {T = Unit {0}} x IsFolder
    (KeepsOthers c.args.serial) (removal_tasks c.args.serial) nothing (at_report store bench r)
    (Err Memory) (at_report store bench q)) (sym same) (gave_up x _ _ _ _ _))

pub returns-in-Err-clause-does : goal.returns-in-Err-clause-does
returns-in-Err-clause-does g c x store =
    let old = g.W.BenchState.state c.args.bench.now in
    let new = g.W.BenchState.state c.remove.new.self in
    let r = report_value c.args.report.now in
    let same = ap (λ (ns : List ℕ). record r { removed = ns }) c.reserve.ensures.frame in
    subst (λ (q : ReportValue). Goes {T = Unit {0}} x IsFolder (KeepsOthers c.args.serial)
    (removal_tasks c.args.serial) nothing (at_report store old r) (Err Volume)
    (at_report store new q)) (sym same)
    (remove_fails x c.args.serial store old new r c.in-Err.ensures.err)

pub returns-clause-does : goal.returns-clause-does
returns-clause-does g c x store =
    let old = g.W.BenchState.state c.args.bench.now in
    let new = g.W.BenchState.state c.remove.new.self in
    let r = report_value c.args.report.now in
    let serial = c.args.serial in
    let list : c.push.new.self.items ≡ r.removed ++ serial ∷ [] =
    c.in_ok-push.ensures.ok ∙ ap (λ (ns : List ℕ). ns ++ serial ∷ []) c.reserve.ensures.frame in
    remove_goes x serial store old new r
    (record r { steps = c.saturating_add-report.result; removed = c.push.new.self.items }) tt
    c.in-Ok.ensures.ok (λ few.
    let count : c.saturating_add-report.result ≡ r.steps + 1 =
    omega (arith, c.saturating_add-report.ensures, few) in
    ap (λ (ns : List ℕ). record r { steps = c.saturating_add-report.result; removed = ns }) list
    ∙ ap (λ (n : ℕ). record r { steps = n; removed = r.removed ++ serial ∷ [] }) count)
