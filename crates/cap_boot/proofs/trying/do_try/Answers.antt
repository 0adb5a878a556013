use Rattle.std.proofs.Common.{rules, ◌≡◌, Err, ap, refl}
use Rattle.cu_base.specs.declared.device_state.DevState.{DevState}
use Rattle.cap_boot.specs.declared.fault.BootFault.TheVariants.{Memory}
use Rattle.cap_boot.specs.Checks.{IsRefused}
use Rattle.cap_boot.specs.Given.{setting}
use Rattle.cap_boot.specs.Situations.{situation}
use Rattle.cap_boot.specs.Units.{try_unit}
use Rattle.cap_boot.proofs.Refused.{closed_refused}
use Rattle.cap_boot.proofs.Works.{as_result, gave_up}
use Rattle.cap_boot.proofs.trying.do_try.Goals as goal

pub returns-in_err-refused-clause-does : goal.returns-in_err-refused-clause-does
returns-in_err-refused-clause-does g c =
    let is : c.from_residual.result ≡ Err Memory = search rules in
    as_result _ is (gave_up _ _ _ _ _ _)

pub returns-in-None-clause-does : goal.returns-in-None-clause-does
returns-in-None-clause-does g c =
    as_result _ c.to_be_built.ensures (gave_up _ _ _ _ _ _)

pub returns-in_err-close-clause-does : goal.returns-in_err-close-clause-does
returns-in_err-close-clause-does g c =
    let x = setting c.args.board.now c.args.now.now g.S.SlotForm.slot_of in
    let y = situation c.args.store.now (g.W.BenchState.state c.args.bench.now) c.args.report.now in
    let by : IsRefused c.args.board.now c.args.key.device c.dev_state-floor.result.floor
    c.as_slice-bytes.result.now c.args.image.now.header.support c.in-Some.refused = search rules in
    let is : c.from_residual-in_err-close.result ≡ Err c.in_err-close.field-0.0 = search rules in
    as_result x is (c.in_err-close.ensures.does x
    (try_unit c.args.key c.args.capsule.now c.args.image.now) refl refl
    (closed_refused c.args.board.now c.args.now.now g.S.SlotForm.slot_of y c.args.key
    c.args.capsule.now c.args.image.now c.as_slice-bytes.result.now c.dev_state-floor.result.floor
    c.in-Some.refused c.capsule_status.result c.requires.device
    (ap (λ (s : DevState). s.floor) c.dev_state-floor.ensures.value) c.as_slice-bytes.ensures by))

pub returns-clause-does : goal.returns-clause-does
returns-clause-does g c =
    let x = setting c.args.board.now c.args.now.now g.S.SlotForm.slot_of in
    let y = situation c.args.store.now (g.W.BenchState.state c.args.bench.now) c.args.report.now in
    let by : IsRefused c.args.board.now c.args.key.device c.dev_state-floor.result.floor
    c.as_slice-bytes.result.now c.args.image.now.header.support c.in-Some.refused = search rules in
    c.in_ok-close.ensures.does x
    (try_unit c.args.key c.args.capsule.now c.args.image.now) refl refl
    (closed_refused c.args.board.now c.args.now.now g.S.SlotForm.slot_of y c.args.key
    c.args.capsule.now c.args.image.now c.as_slice-bytes.result.now c.dev_state-floor.result.floor
    c.in-Some.refused c.capsule_status.result c.requires.device
    (ap (λ (s : DevState). s.floor) c.dev_state-floor.ensures.value) c.as_slice-bytes.ensures by)
