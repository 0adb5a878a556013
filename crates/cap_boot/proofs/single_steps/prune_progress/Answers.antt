use Rattle.std.proofs.Common.{◌≡◌, ◌+◌, ◌∙◌, ℕ, Err, ap, arith, refl, rules, sym, true≢false}
use Rattle.reference_machine.specs.Report.{report_value}
use Rattle.cap_boot.proofs.Prunings.{drop_fails, drop_goes}
use Rattle.cap_boot.proofs.Works.{as_result}
use Rattle.cap_boot.proofs.single_steps.prune_progress.Goals as goal

pub returns-in_err-drop_progress-clause-does : goal.returns-in_err-drop_progress-clause-does
returns-in_err-drop_progress-clause-does g c x =
    let fault = c.in_err-drop_progress.field-0.0 in
    let is : c.from_residual.result ≡ Err fault = search rules in
    as_result x is (drop_fails x c.args.store.now c.drop_progress.new.store
    (g.W.BenchState.state c.args.bench.now) (g.W.BenchState.state c.drop_progress.new.flash)
    (report_value c.args.report.now) c.args.serials.now fault c.requires.serials
    c.drop_progress.ensures.banks c.in_err-drop_progress.ensures.err)

pub returns-then-branch-clause-does : goal.returns-then-branch-clause-does
returns-then-branch-clause-does g c x =
    let r = report_value c.args.report.now in
    drop_goes x c.args.store.now c.drop_progress.new.store (g.W.BenchState.state c.args.bench.now)
    (g.W.BenchState.state c.drop_progress.new.flash) r
    (record r { steps = c.saturating_add-report.result }) c.args.serials.now tt
    c.in_ok-drop_progress.field-0 c.requires.serials c.in_ok-drop_progress.ensures.ok
    (λ done few. ap (λ (n : ℕ). record r { steps = n })
    (let count : c.saturating_add-report.result ≡ r.steps + 1 =
    omega (arith, c.saturating_add-report.ensures, few) in count))
    (λ idle. absurd (true≢false (sym c.if-branch.true ∙ idle)))
    c.drop_progress.ensures.banks c.in_ok-drop_progress.ensures.ready

pub returns-else-branch-clause-does : goal.returns-else-branch-clause-does
returns-else-branch-clause-does g c x =
    let r = report_value c.args.report.now in
    drop_goes x c.args.store.now c.drop_progress.new.store (g.W.BenchState.state c.args.bench.now)
    (g.W.BenchState.state c.drop_progress.new.flash) r r c.args.serials.now tt
    c.in_ok-drop_progress.field-0 c.requires.serials c.in_ok-drop_progress.ensures.ok
    (λ done few. absurd (true≢false (sym done ∙ c.if-branch.false)))
    (λ idle. refl) c.drop_progress.ensures.banks c.in_ok-drop_progress.ensures.ready
