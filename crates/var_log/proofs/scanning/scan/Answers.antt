use Rattle.std.proofs.Common.{◌∙◌, sym, ap, subst, List, ℕ, Option, map, None}
use Rattle.var_log.specs.declared.scanning.Front.{Front}
use Rattle.var_log.specs.declared.seen.Seen.{Seen}
use Rattle.var_log.specs.Scans.{RecordIs, IsRecordRead, HasRead, is_record}
use Rattle.var_log.specs.Seen.{as_change}
use Rattle.var_log.proofs.ScanLemmas.{Reading, begins, record_read, ends_reading}
use Rattle.var_log.proofs.scanning.scan.Goals as goal

pub loop-changes-init : goal.loop-changes-init
loop-changes-init c =
    subst (λ (l : List Seen). Reading c.args.format c.args.bytes.now (map as_change l) 0 None)
    (sym c.new-changes.ensures.items) (begins c.args.format c.args.bytes.now c.requires.some)

pub loop-changes-preserved : goal.loop-changes-preserved
loop-changes-preserved c =
    let bytes = c.args.bytes.now in
    let old = c.loop-changes.changes.items in
    let new = c.read_record.new.out.items in
    let is = subst (λ (o : Option Front). RecordIs c.args.format c.loop-changes.last c.behind.result.now old new o)
    c.in-Some.is c.in_ok-front.ensures.value in
    record_read c.args.format bytes old new c.loop-changes.taken c.loop-changes.last c.in-Some.front
    c.loop-changes.invariant
    (subst (λ (b : List ℕ). IsRecordRead c.args.format c.loop-changes.last b old new c.in-Some.front)
    c.behind.ensures is)

pub returns : goal.returns
returns c =
    let bytes = c.args.bytes.now in
    let old = c.loop-changes.changes.items in
    let new = c.read_record.new.out.items in
    let n = c.loop-changes.taken in
    let is = subst (λ (o : Option Front). RecordIs c.args.format c.loop-changes.last c.behind.result.now old new o)
    c.in_default.is c.in_ok-front.ensures.value in
    record {
      value = subst (λ (l : List Seen). HasRead c.args.format bytes (map as_change l) n c.loop-changes.last)
          (sym is.1)
          (ends_reading c.args.format bytes (map as_change old) n c.loop-changes.last c.loop-changes.invariant
          (ap (is_record c.args.format c.loop-changes.last) (sym c.behind.ensures) ∙ is.0));
    }
