use Rattle.std.proofs.Common.{◌≡◌, ◌∷◌, ◌++◌, ◌+◌, ◌∙◌, [], ℕ, List, Err, Option, None, Some, ap, arith}
use Rattle.std.proofs.Common.{refl, rules, subst, sym, true, false}
use Rattle.std.specs.Prelude.{is_some}
use Rattle.bench_model.specs.Bench.{BenchValue}
use Rattle.reference_machine.specs.Report.{ReportValue, report_value}
use Rattle.reference_machine.specs.declared.unit.UnitLine.{UnitLine}
use Rattle.cap_boot.specs.declared.fault.BootFault.TheVariants.{Memory}
use Rattle.cap_boot.specs.Given.{setting}
use Rattle.cap_boot.specs.Going.{Goes, IsAny, nothing}
use Rattle.cap_boot.specs.Keeps.{IsHealed}
use Rattle.cap_boot.specs.Stands.{Setting}
use Rattle.cap_boot.specs.Tasks.{heal_tasks}
use Rattle.cap_boot.proofs.Healing.{heal_fails, heal_goes, nothing_healed}
use Rattle.cap_boot.proofs.Singles.{at_report}
use Rattle.cap_boot.proofs.Works.{as_result, gave_up}
use Rattle.cap_boot.proofs.single_steps.heal.Goals as goal

pub returns-in_err-reserve-clause-does : goal.returns-in_err-reserve-clause-does
returns-in_err-reserve-clause-does g c =
    let old : BenchValue = g.W.BenchState.state c.args.bench.now in
    let x : Setting = setting c.args.board.now c.args.now.now g.S.SlotForm.slot_of in
    let y = at_report c.args.store.now old (report_value c.args.report.now) in
    let same = ap (λ (ls : List UnitLine). record y.report { lines = ls })
    c.reserve.ensures.frame in
    let is : c.from_residual.result ≡ Err Memory = search rules in
    as_result x is (subst (λ (q : ReportValue). Goes {T = Unit {0}} x IsAny
    (IsHealed x old.contents) (heal_tasks x old.contents) nothing y (Err Memory)
    (at_report y.store y.bench q)) (sym same) (gave_up x _ _ _ _ _))

none_is : (o : Option ℕ) → is_some o ≡ false → o ≡ None
none_is None is = refl
none_is (Some d) is = absurd (let e : true ≡ false = is in cc)

pub returns-then-is_none-clause-does : goal.returns-then-is_none-clause-does
returns-then-is_none-clause-does g c =
    let x : Setting = setting c.args.board.now c.args.now.now g.S.SlotForm.slot_of in
    let y = at_report c.args.store.now (g.W.BenchState.state c.args.bench.now)
    (report_value c.args.report.now) in
    nothing_healed x y
    (sym c.open_claim.ensures.value ∙ none_is c.open_claim.result c.if-is_none.ensures)

pub returns-in_err-line-clause-does : goal.returns-in_err-line-clause-does
returns-in_err-line-clause-does g c =
    let old = g.W.BenchState.state c.args.bench.now in
    let new = g.W.BenchState.state c.settle_in_store.new.flash in
    let x : Setting = setting c.args.board.now c.args.now.now g.S.SlotForm.slot_of in
    let r = report_value c.args.report.now in
    let fault = c.in_err-line.field-0.0 in
    let is : c.from_residual-in_err-line.result ≡ Err fault = search rules in
    as_result x is (heal_fails x (at_report c.args.store.now old r)
    (at_report c.settle_in_store.new.store new (record r { lines = c.reserve.new.self.items }))
    c.open_claim.result fault (record {
      is = c.open_claim.ensures.value;
      some = c.if-is_none.ensures;
      wide = c.open_claim.ensures.wide;
      clean = c.requires.ready.clean;
      regions = c.requires.regions.count;
    }) c.in_err-line.ensures.err
    (ap (λ (ls : List UnitLine). record r { lines = ls }) c.reserve.ensures.frame)
    c.settle_in_store.ensures.banks)

pub returns-clause-does : goal.returns-clause-does
returns-clause-does g c =
    let old = g.W.BenchState.state c.args.bench.now in
    let new = g.W.BenchState.state c.settle_in_store.new.flash in
    let x : Setting = setting c.args.board.now c.args.now.now g.S.SlotForm.slot_of in
    let r = report_value c.args.report.now in
    let line = c.in_ok-line.line in
    let list : c.push.new.self.items ≡ r.lines ++ line ∷ [] =
    c.in_ok-push.ensures.ok ∙ ap (λ (ls : List UnitLine). ls ++ line ∷ [])
    c.reserve.ensures.frame in
    heal_goes x (at_report c.args.store.now old r)
    (at_report c.settle_in_store.new.store new
    (record r { steps = c.saturating_add-report.result; lines = c.push.new.self.items }))
    c.open_claim.result line (record {
      is = c.open_claim.ensures.value;
      some = c.if-is_none.ensures;
      wide = c.open_claim.ensures.wide;
      clean = c.requires.ready.clean;
      regions = c.requires.regions.count;
    }) c.in_ok-line.ensures.line c.in_ok-line.ensures.ok
    (λ few.
    let count : c.saturating_add-report.result ≡ r.steps + 1 =
    omega (arith, c.saturating_add-report.ensures, few) in
    ap (λ (ls : List UnitLine). record r { steps = c.saturating_add-report.result; lines = ls })
    list
    ∙ ap (λ (k : ℕ). record r { steps = k; lines = r.lines ++ line ∷ [] }) count)
    c.settle_in_store.ensures.banks c.in_ok-line.ensures.ready
