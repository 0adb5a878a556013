use Rattle.std.proofs.Common.{rules, ◌≡◌, Err, subst}
use Rattle.cap_boot.specs.Booting.{Boots}
use Rattle.cap_boot.specs.declared.fault.BootFault.{BootFault}
use Rattle.cap_boot.specs.declared.fault.BootFault.TheVariants as fault
use Rattle.bench_play.proofs.BootEvents.{boot_fails, boot_fails_by_volume, boot_finishes}
use Rattle.bench_play.proofs.BootEvents.{boot_lacks_bank, boot_lacks_memory}
use Rattle.bench_play.proofs.OutsideEvents.{as_told}
use Rattle.cap_boot.specs.Given.{setting}
use Rattle.reference_machine.specs.Machine.{first_moment}
use Rattle.reference_machine.specs.Report.{report_value}
use Rattle.bench_play.proofs.booting.boot_once.Goals as goal

pub returns-in-Ok-clause-does : goal.returns-in-Ok-clause-does
returns-in-Ok-clause-does g c bytes_of =
    let state = g.W.BenchState.state in
    let x = setting c.args.board.now first_moment g.S.SlotForm.slot_of in
    as_told c.told.ensures (boot_finishes x bytes_of c.args.known.now (state c.args.bench.now)
    (state c.boot.new.bench) (report_value c.boot.new.report) c.in-Ok.ensures.images)

pub returns-in-Err-Flash-clause-does : goal.returns-in-Err-Flash-clause-does
returns-in-Err-Flash-clause-does g c bytes_of =
    let state = g.W.BenchState.state in
    let same : c.in-Err-Flash.field-0 ≡ fault.Flash = search rules in
    let x = setting c.args.board.now first_moment g.S.SlotForm.slot_of in
    as_told c.told-in-Err-Flash.ensures (boot_fails x bytes_of c.args.known.now
    (state c.args.bench.now) (state c.boot.new.bench) (report_value c.boot.new.report)
    (subst (λ (f : BootFault). Boots {T = Unit {0}}
    (setting c.args.board.now c.args.known.now.moment g.S.SlotForm.slot_of)
    (state c.args.bench.now) (Err f) (report_value c.boot.new.report) (state c.boot.new.bench))
    same c.in-Err-Flash.ensures.images))

pub returns-in-Err-Volume-clause-does : goal.returns-in-Err-Volume-clause-does
returns-in-Err-Volume-clause-does g c bytes_of =
    let state = g.W.BenchState.state in
    let same : c.in-Err-Volume.field-0 ≡ fault.Volume = search rules in
    let x = setting c.args.board.now first_moment g.S.SlotForm.slot_of in
    as_told c.told-in-Err-Volume.ensures (boot_fails_by_volume x bytes_of c.args.known.now
    (state c.args.bench.now) (state c.boot.new.bench) (report_value c.boot.new.report)
    (subst (λ (f : BootFault). Boots {T = Unit {0}}
    (setting c.args.board.now c.args.known.now.moment g.S.SlotForm.slot_of)
    (state c.args.bench.now) (Err f) (report_value c.boot.new.report) (state c.boot.new.bench))
    same c.in-Err-Volume.ensures.images))

pub returns-in-Err-NoBank-clause-does : goal.returns-in-Err-NoBank-clause-does
returns-in-Err-NoBank-clause-does g c bytes_of =
    let state = g.W.BenchState.state in
    let same : c.in-Err-NoBank.field-0 ≡ fault.NoBank = search rules in
    let x = setting c.args.board.now first_moment g.S.SlotForm.slot_of in
    boot_lacks_bank x bytes_of c.args.known.now (state c.args.bench.now) (state c.boot.new.bench)
    (report_value c.boot.new.report) (subst (λ (f : BootFault). Boots {T = Unit {0}}
    (setting c.args.board.now c.args.known.now.moment g.S.SlotForm.slot_of)
    (state c.args.bench.now) (Err f) (report_value c.boot.new.report) (state c.boot.new.bench))
    same c.in-Err-NoBank.ensures.images)

pub returns-in-Err-Memory-clause-does : goal.returns-in-Err-Memory-clause-does
returns-in-Err-Memory-clause-does g c bytes_of =
    let state = g.W.BenchState.state in
    let same : c.in-Err-Memory.field-0 ≡ fault.Memory = search rules in
    let x = setting c.args.board.now first_moment g.S.SlotForm.slot_of in
    boot_lacks_memory x bytes_of c.args.known.now (state c.args.bench.now) (state c.boot.new.bench)
    (report_value c.boot.new.report) (subst (λ (f : BootFault). Boots {T = Unit {0}}
    (setting c.args.board.now c.args.known.now.moment g.S.SlotForm.slot_of)
    (state c.args.bench.now) (Err f) (report_value c.boot.new.report) (state c.boot.new.bench))
    same c.in-Err-Memory.ensures.images)
