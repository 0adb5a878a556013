use Rattle.std.proofs.Common.{◌≡◌, ◌+◌, ◌++◌, ◌∙◌, sym, subst, length}
use Rattle.bench_model.specs.Bench.{Contents}
use Rattle.bench_model.specs.declared.outside_limits.TheConstants.{SLOT_LEAD}
use Rattle.fmp_slot.specs.Writing.{payload_so_far}
use Rattle.fmp_slot.proofs.SlotImages.{field_more}
use Rattle.fmp_slot.proofs.one_bank.OneBankSlotForm.piece.Goals as goal

pub returns-clause-taken : goal.returns-clause-taken
returns-clause-taken g c = λ told.
    let state = g.F.BenchState.state in
    let writer = c.args.writer.now in
    let region = writer.device + 2 in
    let old = (state c.args.flash.now).contents.bytes region in
    subst (λ (s : Contents). payload_so_far (writer.taken + length c.args.bytes.now) (s.bytes region)
    ≡ payload_so_far writer.taken old ++ c.args.bytes.now) (sym c.read_back.ensures.frame.contents)
    (field_more SLOT_LEAD writer.taken old ((state c.put.new.flash).contents.bytes region)
    c.args.bytes.now (c.put.ensures.writes.rest told)
    (c.in_ok-put.ensures.ok (c.put.ensures.writes.told ∙ told)))
