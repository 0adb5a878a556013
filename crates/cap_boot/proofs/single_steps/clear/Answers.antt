use Rattle.std.proofs.Common.{◌≡◌, ◌+◌, ℕ, List, Err, ap, arith, refl, rules, subst}
use Rattle.dev_claims.specs.Batches.{clear_changes}
use Rattle.reference_machine.specs.Boots.{one_step}
use Rattle.reference_machine.specs.Report.{report_value}
use Rattle.var_log.specs.declared.change.Change.{Change}
use Rattle.var_store.specs.Stores.{variables_of}
use Rattle.cap_boot.specs.declared.fault.BootFault.TheVariants.{Memory}
use Rattle.cap_boot.specs.Commits.{IsStored, LeavesBatch}
use Rattle.cap_boot.specs.Going.{IsAny}
use Rattle.cap_boot.specs.Keeps.{KeepsNothing}
use Rattle.cap_boot.specs.Tasks.{clear_tasks}
use Rattle.cap_boot.proofs.Batches.{batch_fails, batch_goes}
use Rattle.cap_boot.proofs.Singles.{at_report, clears_next}
use Rattle.cap_boot.proofs.Works.{as_result, gave_up}
use Rattle.cap_boot.proofs.single_steps.clear.Goals as goal

pub returns-in_err-batch-clause-does : goal.returns-in_err-batch-clause-does
returns-in_err-batch-clause-does g c x =
    let is : c.from_residual.result ≡ Err Memory = search rules in
    as_result x is (gave_up x _ _ _ _ _)

pub returns-in_err-write_batch-clause-does : goal.returns-in_err-write_batch-clause-does
returns-in_err-write_batch-clause-does g c x =
    let old = g.W.BenchState.state c.args.bench.now in
    let new = g.W.BenchState.state c.write_batch.new.flash in
    let s = c.args.store.now in
    let t = c.write_batch.new.store in
    let r = report_value c.args.report.now in
    let fault = c.in_err-write_batch.field-0.0 in
    let is : c.from_residual-in_err-write_batch.result ≡ Err fault = search rules in
    as_result x is (batch_fails x IsAny KeepsNothing clear_tasks (at_report s old r)
    (at_report t new r) (clear_changes (variables_of s)) one_step fault
    (clears_next x (at_report s old r)) refl c.write_batch.ensures.banks
    (subst (λ (cs : List Change). LeavesBatch cs s t old new fault) c.in_ok-batch.ensures
    c.in_err-write_batch.ensures.err))

pub returns-clause-does : goal.returns-clause-does
returns-clause-does g c x =
    let old = g.W.BenchState.state c.args.bench.now in
    let new = g.W.BenchState.state c.write_batch.new.flash in
    let s = c.args.store.now in
    let t = c.write_batch.new.store in
    let r = report_value c.args.report.now in
    batch_goes x IsAny KeepsNothing clear_tasks (at_report s old r)
    (at_report t new (record r { steps = c.saturating_add-report.result }))
    (clear_changes (variables_of s)) one_step tt (clears_next x (at_report s old r))
    (λ b rest way at left. tt) (λ q p. refl)
    (λ few. ap (λ (n : ℕ). record r { steps = n })
    (let count : c.saturating_add-report.result ≡ r.steps + 1 =
    omega (arith, c.saturating_add-report.ensures, few) in count))
    c.write_batch.ensures.banks
    (subst (λ (cs : List Change). IsStored cs s t) c.in_ok-batch.ensures
    c.in_ok-write_batch.ensures.ok)
    c.in_ok-write_batch.ensures.ready
