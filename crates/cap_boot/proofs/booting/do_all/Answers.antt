use Rattle.std.proofs.Common.{rules, ◌≡◌, Err, sym, ◌∙◌, ap}
use Rattle.bench_model.specs.Bench.{region_of}
use Rattle.cap_boot.specs.declared.fault.BootFault.TheVariants.{Flash}
use Rattle.cap_boot.specs.Given.{setting}
use Rattle.cap_boot.specs.Going.{IsNone, nothing}
use Rattle.cap_boot.specs.Keeps.{KeepsNothing}
use Rattle.cap_boot.specs.Situations.{situation}
use Rattle.cap_boot.specs.Tasks.{all_tasks}
use Rattle.cap_boot.proofs.Frames.{regions_kept}
use Rattle.cap_boot.proofs.Healed.{work_same}
use Rattle.cap_boot.proofs.Openings.{synced_at, synced_open, synced_ready, synced_regions}
use Rattle.cap_boot.proofs.Works.{as_result, flash_failed, starts_at, works_as}
use Rattle.cap_boot.proofs.booting.do_all.Goals as goal

pub returns-in_err-sync_devices-clause-does : goal.returns-in_err-sync_devices-clause-does
returns-in_err-sync_devices-clause-does g c =
    let state = g.W.BenchState.state in
    let old = state c.args.bench.now in
    let mid = state c.sync_devices.new.flash in
    let x = setting c.args.board.now c.args.now.now g.S.SlotForm.slot_of in
    let store = c.args.store.now in
    let report = c.args.report.now in
    let fault : c.in_err-sync_devices.field-0.0 ≡ Flash = c.in_err-sync_devices.ensures.refused in
    let is : c.from_residual.result ≡ Err c.in_err-sync_devices.field-0.0 = search rules in
    as_result x (is ∙ ap (λ f. Err f) fault)
    (starts_at x (λ b way at. synced_at old mid c.sync_devices.ensures.syncs x b store report at)
    (flash_failed x IsNone KeepsNothing (all_tasks x old.contents) nothing
    (situation store mid report)))

pub do_tasks-requires-clause-ready : goal.do_tasks-requires-clause-ready
do_tasks-requires-clause-ready g c =
    let state = g.W.BenchState.state in
    let old = state c.args.bench.now in
    let mid = state c.sync_devices.new.flash in
    let size_of = g.S.SlotForm.size_of in
    let board = c.args.board.now in
    let syncs = c.sync_devices.ensures.syncs in
    synced_ready size_of board c.args.store.now mid
    (synced_open old mid syncs c.args.store.now c.requires.opened)
    (regions_kept size_of board old mid c.requires.regions (synced_regions old mid syncs))
    c.in_ok-sync_devices.ensures.clean

pub returns-in_err-do_tasks-clause-does : goal.returns-in_err-do_tasks-clause-does
returns-in_err-do_tasks-clause-does g c =
    let state = g.W.BenchState.state in
    let old = state c.args.bench.now in
    let mid = state c.sync_devices.new.flash in
    let x = setting c.args.board.now c.args.now.now g.S.SlotForm.slot_of in
    let store = c.args.store.now in
    let report = c.args.report.now in
    let syncs = c.sync_devices.ensures.syncs in
    let is : c.from_residual-in_err-do_tasks.result
    ≡ Err c.in_err-do_tasks.field-0.0 = search rules in
    as_result x is
    (starts_at x {y = situation store mid report}
    (λ b way at. synced_at old mid syncs x b store report at)
    (works_as x (λ b way at. sym (work_same x old.contents mid.contents b.machine
    (λ d. (syncs.each (region_of d)).bytes))) c.in_err-do_tasks.ensures.does))

pub returns-clause-does : goal.returns-clause-does
returns-clause-does g c =
    let state = g.W.BenchState.state in
    let old = state c.args.bench.now in
    let mid = state c.sync_devices.new.flash in
    let x = setting c.args.board.now c.args.now.now g.S.SlotForm.slot_of in
    let store = c.args.store.now in
    let report = c.args.report.now in
    let syncs = c.sync_devices.ensures.syncs in
    starts_at x {y = situation store mid report}
    (λ b way at. synced_at old mid syncs x b store report at)
    (works_as x (λ b way at. sym (work_same x old.contents mid.contents b.machine
    (λ d. (syncs.each (region_of d)).bytes))) c.in_ok-do_tasks.ensures.does)
