use Rattle.std.proofs.Common.{◌≡◌, ◌∷◌, ◌++◌, ◌+◌, ◌∙◌, [], ℕ, List, Err, ap, arith, refl, rules, subst}
use Rattle.std.proofs.Common.{sym}
use Rattle.dev_claims.specs.Batches.{unstage_changes}
use Rattle.reference_machine.specs.Report.{ReportValue, report_value}
use Rattle.var_log.specs.declared.change.Change.{Change}
use Rattle.var_store.specs.Stores.{variables_of}
use Rattle.cap_boot.specs.declared.fault.BootFault.TheVariants.{Memory}
use Rattle.cap_boot.specs.Commits.{IsStored, LeavesBatch}
use Rattle.cap_boot.specs.Going.{Goes, IsAny, nothing}
use Rattle.cap_boot.specs.Keeps.{KeepsFolder}
use Rattle.cap_boot.specs.Tasks.{unstage_tasks}
use Rattle.cap_boot.proofs.Batches.{batch_fails, batch_goes}
use Rattle.cap_boot.proofs.Singles.{at_report, unstaged_told, unstages_next, unstaging_keeps}
use Rattle.cap_boot.proofs.Works.{as_result, gave_up}
use Rattle.cap_boot.proofs.single_steps.unstage.Goals as goal

pub returns-in_err-reserve-clause-does : goal.returns-in_err-reserve-clause-does
returns-in_err-reserve-clause-does g c x =
    let y = at_report c.args.store.now (g.W.BenchState.state c.args.bench.now)
    (report_value c.args.report.now) in
    let same = ap (λ (ns : List ℕ). record y.report { unstaged = ns }) c.reserve.ensures.frame in
    let is : c.from_residual.result ≡ Err Memory = search rules in
    as_result x is (subst (λ (q : ReportValue). Goes {T = Unit {0}} x IsAny KeepsFolder
    (unstage_tasks c.args.pair) nothing y (Err Memory) (at_report y.store y.bench q)) (sym same)
    (gave_up x _ _ _ _ _))

pub returns-in_err-batch-clause-does : goal.returns-in_err-batch-clause-does
returns-in_err-batch-clause-does g c x =
    let y = at_report c.args.store.now (g.W.BenchState.state c.args.bench.now)
    (report_value c.args.report.now) in
    let same = ap (λ (ns : List ℕ). record y.report { unstaged = ns }) c.reserve.ensures.frame in
    let is : c.from_residual-in_err-batch.result ≡ Err Memory = search rules in
    as_result x is (subst (λ (q : ReportValue). Goes {T = Unit {0}} x IsAny KeepsFolder
    (unstage_tasks c.args.pair) nothing y (Err Memory) (at_report y.store y.bench q)) (sym same)
    (gave_up x _ _ _ _ _))

pub returns-in_err-write_batch-clause-does : goal.returns-in_err-write_batch-clause-does
returns-in_err-write_batch-clause-does g c x =
    let old = g.W.BenchState.state c.args.bench.now in
    let new = g.W.BenchState.state c.write_batch.new.flash in
    let s = c.args.store.now in
    let t = c.write_batch.new.store in
    let r = report_value c.args.report.now in
    let pair = c.args.pair in
    let fault = c.in_err-write_batch.field-0.0 in
    let is : c.from_residual-in_err-write_batch.result ≡ Err fault = search rules in
    as_result x is (batch_fails x IsAny KeepsFolder (unstage_tasks pair) (at_report s old r)
    (at_report t new (record r { unstaged = c.reserve.new.self.items }))
    (unstage_changes (variables_of s) pair.serial) (unstaged_told pair.serial) fault
    (unstages_next pair x (at_report s old r))
    (ap (λ (ns : List ℕ). record r { unstaged = ns }) c.reserve.ensures.frame)
    c.write_batch.ensures.banks
    (subst (λ (cs : List Change). LeavesBatch cs s t old new fault) c.in_ok-batch.ensures
    c.in_err-write_batch.ensures.err))

pub returns-clause-does : goal.returns-clause-does
returns-clause-does g c x =
    let old = g.W.BenchState.state c.args.bench.now in
    let new = g.W.BenchState.state c.write_batch.new.flash in
    let s = c.args.store.now in
    let t = c.write_batch.new.store in
    let r = report_value c.args.report.now in
    let pair = c.args.pair in
    let serial = pair.serial in
    let list : c.push.new.self.items ≡ r.unstaged ++ serial ∷ [] =
    c.in_ok-push.ensures.ok ∙ ap (λ (ns : List ℕ). ns ++ serial ∷ []) c.reserve.ensures.frame in
    batch_goes x IsAny KeepsFolder (unstage_tasks pair) (at_report s old r)
    (at_report t new
    (record r { steps = c.saturating_add-report.result; unstaged = c.push.new.self.items }))
    (unstage_changes (variables_of s) serial) (unstaged_told serial) tt
    (unstages_next pair x (at_report s old r)) (λ b rest way at left. unstaging_keeps pair x b rest left)
    (λ q p. refl)
    (λ few.
    let count : c.saturating_add-report.result ≡ r.steps + 1 =
    omega (arith, c.saturating_add-report.ensures, few) in
    ap (λ (ns : List ℕ). record r { steps = c.saturating_add-report.result; unstaged = ns }) list
    ∙ ap (λ (n : ℕ). record r { steps = n; unstaged = r.unstaged ++ serial ∷ [] }) count)
    c.write_batch.ensures.banks
    (subst (λ (cs : List Change). IsStored cs s t) c.in_ok-batch.ensures
    c.in_ok-write_batch.ensures.ok)
    c.in_ok-write_batch.ensures.ready
