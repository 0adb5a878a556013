use Rattle.std.proofs.Common.{◌≡◌, ◌+◌, ◌≤◌, Result, Err, sym, subst, rules, arith}
use Rattle.fmp_slot.specs.declared.faults.SlotFault.{SlotFault}
use Rattle.fmp_slot.specs.declared.writer.SlotWriter.{SlotWriter}
use Rattle.fmp_slot.specs.Held.{region_in}
use Rattle.fmp_slot.specs.Refusals.{StartsWithin}
use Rattle.slot_forms.specs.declared.tailed.TheConstants.{TAIL}
use Rattle.slot_forms.proofs.Tails.{keeps_within, starts_within}
use Rattle.slot_forms.proofs.tailed.TailedSlotForm.start.Goals as goal

pub returns-in_err-writer-clause-images : goal.returns-in_err-writer-clause-images
returns-in_err-writer-clause-images g c =
    let device = c.args.device in
    keeps_within (region_in device (g.F.BenchState.state c.args.flash.now))
    (region_in device (g.F.BenchState.state c.start.new.flash)) c.start.ensures.frame.long
    c.start.ensures.images

pub returns-clause-images : goal.returns-clause-images
returns-clause-images g c =
    let device = c.args.device in
    keeps_within (region_in device (g.F.BenchState.state c.args.flash.now))
    (region_in device (g.F.BenchState.state c.start.new.flash)) c.start.ensures.frame.long
    c.start.ensures.images

pub returns-in_err-writer-clause-refused : goal.returns-in_err-writer-clause-refused
returns-in_err-writer-clause-refused g c = λ size long.
    let n = c.args.head.now.length in
    let fault = c.in_err-writer.field-0.0 in
    let failed : Result SlotWriter SlotFault = Err fault in
    let gives : c.from_residual.result ≡ Err fault = search rules in
    let fits : n ≤ size = omega (arith, long) in
    subst (λ (r : Result SlotWriter SlotFault). StartsWithin size n r) (sym gives)
    (starts_within size n failed fits
    (c.in_err-writer.ensures.refused (TAIL + size) (omega (arith, long))))
