use Rattle.std.proofs.Common.{rules, inl, Err, Result, sym, subst, ◌≡◌, inr, ap, ◌∙◌, ℕ, Option}
use Rattle.std.proofs.Common.{Some}
use Rattle.delivery_formats.proofs.FormatLemmas.{limits_kept}
use Rattle.reference_machine.specs.Report.{ReportValue, nothing_done, report_value}
use Rattle.std.specs.Prelude.{IsErrAnd}
use Rattle.cap_boot.specs.declared.fault.BootFault.{BootFault}
use Rattle.cap_boot.specs.Faults.{IsOfOpening}
use Rattle.cap_boot.specs.Given.{setting}
use Rattle.cap_boot.specs.Situations.{situation}
use Rattle.cap_boot.proofs.Booted.{boot_goes}
use Rattle.cap_boot.proofs.Openings.{banks_beside}
use Rattle.cap_boot.proofs.booting.boot.Goals as goal

pub returns-clause-images : goal.returns-clause-images
returns-clause-images g c =
    let state = g.W.BenchState.state in
    let old = state c.args.bench.now in
    let mid = state c.open_store.new.flash in
    let x = setting c.args.board.now c.args.now.now g.S.SlotForm.slot_of in
    let store = c.in_ok-store.store in
    let begun = record c.args.report.now { opened = Some c.seq.result } in
    let new = state c.do_all-result.new.bench in
    let y = situation c.do_all-result.new.store new c.do_all-result.new.report in
    let said : report_value begun ≡ record nothing_done { opened = Some store.log.seq } =
    ap (λ (r : ReportValue). record r { opened = Some c.seq.result }) c.requires.empty
    ∙ ap (λ (n : ℕ). record nothing_done { opened = Some n }) c.seq.ensures.value in
    let told =
    ap (λ (p : Option ℕ). record y.report { pending = p }) c.pending-report.ensures.value in
    inr (boot_goes x old mid store begun y c.do_all-result.result _ limits_kept
    c.do_all-result.ensures.rule c.open_store.ensures.frame c.in_ok-store.ensures.value
    c.in_ok-store.ensures.opened said c.do_all-result.ensures.does
    c.do_all-result.ensures.ready told)

pub returns-in_err-store-clause-images : goal.returns-in_err-store-clause-images
returns-in_err-store-clause-images g c =
    let state = g.W.BenchState.state in
    let old = state c.args.bench.now in
    let new = state c.open_store.new.flash in
    let is : c.from_residual.result ≡ Err c.in_err-store.field-0.0 = search rules in
    inl (record {
      report_is = c.requires.empty;
      stores = c.open_store.ensures.images;
      beside = banks_beside old new c.open_store.ensures.frame;
      err = subst (λ (r : Result (Unit {0}) BootFault). IsErrAnd r (IsOfOpening old)) (sym is)
          c.in_err-store.ensures.refused;
    })
