use Rattle.std.proofs.Common.{◌≡◌, ◌∷◌, ◌++◌, ◌+◌, ◌∙◌, [], ℕ, List, Err, ap, arith, refl, rules, subst}
use Rattle.std.proofs.Common.{sym}
use Rattle.dev_claims.specs.ClosedBy.{element_told}
use Rattle.dev_claims.specs.Units.{close_changes, next_result}
use Rattle.reference_machine.specs.Report.{ReportValue, report_value}
use Rattle.reference_machine.specs.declared.unit.UnitLine.{UnitLine}
use Rattle.var_store.specs.Stores.{variables_of}
use Rattle.cap_boot.specs.declared.fault.BootFault.TheVariants.{Memory}
use Rattle.cap_boot.specs.Closing.{unit_work}
use Rattle.cap_boot.specs.Going.{Goes, IsAny, nothing}
use Rattle.cap_boot.specs.Keeps.{KeepsUnit}
use Rattle.cap_boot.proofs.Batches.{batch_fails, batch_goes}
use Rattle.cap_boot.proofs.Closings.{closes_next, closing_keeps, line_told, numbered_line}
use Rattle.cap_boot.proofs.Singles.{at_report}
use Rattle.cap_boot.proofs.Works.{as_result, gave_up}
use Rattle.cap_boot.proofs.unit_steps.close.Goals as goal

pub returns-in_err-reserve-clause-does : goal.returns-in_err-reserve-clause-does
returns-in_err-reserve-clause-does g c x u on_board at_now closed =
    let y = at_report c.args.store.now (g.W.BenchState.state c.args.bench.now)
    (report_value c.args.report.now) in
    let same = ap (λ (ls : List UnitLine). record y.report { lines = ls })
    c.reserve.ensures.frame in
    let is : c.from_residual.result ≡ Err Memory = search rules in
    as_result x is (subst (λ (q : ReportValue). Goes {T = Unit {0}} x IsAny (KeepsUnit u.key)
    (unit_work u) nothing y (Err Memory) (at_report y.store y.bench q)) (sym same)
    (gave_up x _ _ _ _ _))

pub returns-in_err-line-clause-does : goal.returns-in_err-line-clause-does
returns-in_err-line-clause-does g c x u on_board at_now closed =
    let old = g.W.BenchState.state c.args.bench.now in
    let new = g.W.BenchState.state c.close_in_store.new.flash in
    let s = c.args.store.now in
    let t = c.close_in_store.new.store in
    let r = report_value c.args.report.now in
    let fault = c.in_err-line.field-0.0 in
    let is : c.from_residual-in_err-line.result ≡ Err fault = search rules in
    as_result x is (batch_fails x IsAny (KeepsUnit u.key) (unit_work u) (at_report s old r)
    (at_report t new (record r { lines = c.reserve.new.self.items }))
    (close_changes c.args.board.now (variables_of s)
    (element_told c.args.line c.args.ids.now c.args.now.now))
    (line_told (numbered_line c.args.line
    (next_result c.args.board.now (variables_of s)))) fault
    (closes_next x (at_report s old r) u c.args.line c.args.ids.now c.args.board.now
    c.args.now.now (next_result c.args.board.now (variables_of s)) on_board at_now
    c.requires.line closed c.requires.state refl)
    (ap (λ (ls : List UnitLine). record r { lines = ls }) c.reserve.ensures.frame)
    c.close_in_store.ensures.banks c.in_err-line.ensures.err)

pub returns-clause-does : goal.returns-clause-does
returns-clause-does g c x u on_board at_now closed =
    let old = g.W.BenchState.state c.args.bench.now in
    let new = g.W.BenchState.state c.close_in_store.new.flash in
    let s = c.args.store.now in
    let t = c.close_in_store.new.store in
    let r = report_value c.args.report.now in
    let n = c.in_ok-line.field-0 in
    let line = numbered_line c.args.line n in
    let list : c.push.new.self.items ≡ r.lines ++ line ∷ [] =
    c.in_ok-push.ensures.ok ∙ ap (λ (ls : List UnitLine). ls ++ line ∷ [])
    c.reserve.ensures.frame in
    batch_goes x IsAny (KeepsUnit u.key) (unit_work u) (at_report s old r)
    (at_report t new
    (record r { steps = c.saturating_add-report.result; lines = c.push.new.self.items }))
    (close_changes c.args.board.now (variables_of s)
    (element_told c.args.line c.args.ids.now c.args.now.now)) (line_told line) tt
    (closes_next x (at_report s old r) u c.args.line c.args.ids.now c.args.board.now
    c.args.now.now n on_board at_now c.requires.line closed c.requires.state
    c.in_ok-line.ensures.number)
    (closing_keeps x (at_report s old r) u c.args.line c.args.ids.now c.args.board.now
    c.args.now.now n on_board at_now c.requires.line closed c.requires.state
    c.in_ok-line.ensures.number)
    (λ q p. refl)
    (λ few.
    let count : c.saturating_add-report.result ≡ r.steps + 1 =
    omega (arith, c.saturating_add-report.ensures, few) in
    ap (λ (ls : List UnitLine). record r { steps = c.saturating_add-report.result; lines = ls })
    list
    ∙ ap (λ (k : ℕ). record r { steps = k; lines = r.lines ++ line ∷ [] }) count)
    c.close_in_store.ensures.banks c.in_ok-line.ensures.ok
    c.in_ok-line.ensures.ready
