use Rattle.std.proofs.Common.{◌∙◌, ap, sym, subst, ℕ, List}
use Rattle.std.specs.Prelude.{Option, option_map}
use Rattle.bench_model.specs.Bench.{Rest}
use Rattle.bench_model.specs.declared.segment.Segment.{Segment}
use Rattle.reference_machine.specs.Events.{coalesced_refusal}
use Rattle.scatter_list.specs.Coalesced.{coalesced_of}
use Rattle.update_inbox.specs.Answers.{inbox_fault_of}
use Rattle.update_inbox.specs.Batches.{MayHaveStored}
use Rattle.update_inbox.specs.Staging.{batch_of_next, stage_batch}
use Rattle.update_inbox.specs.declared.staging.Delivery.{Delivery}
use Rattle.var_store.specs.Answers.{refusal_of}
use Rattle.var_store.specs.Writes.{MayHaveWritten}
use Rattle.var_log.specs.declared.change.Change.{Change}
use Rattle.var_log.specs.Counts.{raised, with_room}
use Rattle.var_log.specs.Logs.{free_of}
use Rattle.var_log.specs.Opens.{opening_moves}
use Rattle.var_store.specs.Stores.{prepared_of}
use Rattle.var_store.specs.declared.note.Note.{Note}
use Rattle.var_store.proofs.WriteLemmas.{banks_then, on_err}
use Rattle.update_inbox.proofs.BatchLemmas.{batch_refused, may_have_stored, opening_keeps, stored}
use Rattle.update_inbox.proofs.BatchLemmas.{may_have_stored_read, noted_read, opening_noted}
use Rattle.update_inbox.proofs.BatchLemmas.{opening_reads, stored_read}
use Rattle.update_inbox.proofs.StageLemmas.{stage_fits, staging_refused, taken_where}
use Rattle.update_inbox.proofs.staging.update_capsule.Goals as goal

pub returns-in_err-check_list-clause-images : goal.returns-in_err-check_list-clause-images
returns-in_err-check_list-clause-images g c =
    let old = g.W.BenchState.state c.args.bench.now in
    let new = g.W.BenchState.state c.open_store.new.flash in
    on_err c.from_residual-in_err-check_list.result (subst (λ (pending : Option ℕ).
    MayHaveStored (stage_batch c.args.address) pending old new)
    (sym (ap (λ (n : Note). n.pending) c.in_ok-store.ensures.note))
    (opening_keeps old new (stage_batch c.args.address) c.open_store.ensures.images))

pub returns-in_err-batch-clause-images : goal.returns-in_err-batch-clause-images
returns-in_err-batch-clause-images g c =
    let old = g.W.BenchState.state c.args.bench.now in
    let new = g.W.BenchState.state c.open_store.new.flash in
    on_err c.from_residual-in_err-batch.result (subst (λ (pending : Option ℕ).
    MayHaveStored (stage_batch c.args.address) pending old new)
    (sym (ap (λ (n : Note). n.pending) c.in_ok-store.ensures.note))
    (opening_keeps old new (stage_batch c.args.address) c.open_store.ensures.images))

pub returns-in-Ok-clause-refused : goal.returns-in-Ok-clause-refused
returns-in-Ok-clause-refused g c =
    let memory = sym (g.met.W.Platform.memory_is c.open_store.new.flash
    ∙ ap (λ (r : Rest). r.memory) c.open_store.ensures.frame.rest) in (
      ap (λ (m : List Segment). coalesced_refusal (coalesced_of m c.args.address)) memory
          ∙ c.in_ok-check_list.ensures,
      record {
        store = c.in_ok-store.store;
        opened = c.in_ok-store.ensures.value;
        is = ap (option_map (λ (d : Delivery). d.pair.serial)) (sym c.in-Some.ensures.value);
      },
    )

pub returns-in-Ok-clause-durable : goal.returns-in-Ok-clause-durable
returns-in-Ok-clause-durable g c =
    stored (g.W.BenchState.state c.args.bench.now) (g.W.BenchState.state c.open_store.new.flash)
    (g.W.BenchState.state c.write-written.new.flash) c.open_store.ensures.images
    c.write-written.ensures.frame.told c.in_ok-store.store c.in_ok-store.ensures.stands
    (stage_batch c.args.address) c.in_ok-batch.batch.items
    (c.in_ok-batch.ensures ∙ ap batch_of_next c.in-Some.ensures.value) c.in-Ok.ensures.durable

pub returns-in-Ok-clause-frame : goal.returns-in-Ok-clause-frame
returns-in-Ok-clause-frame g c =
    banks_then (g.W.BenchState.state c.args.bench.now) (g.W.BenchState.state c.open_store.new.flash)
    (g.W.BenchState.state c.write-written.new.flash) c.open_store.ensures.frame
    c.write-written.ensures.frame

pub returns-clause-refused : goal.returns-clause-refused
returns-clause-refused g c =
    let fits = ap refusal_of (sym (ap batch_of_next c.in-Some.ensures.value))
    ∙ stage_fits c.in-Some.delivery c.in-Some.ensures.bound in
    rw (c.inbox_fault_of.ensures.value)
    (staging_refused c.args.address (g.W.BenchState.state c.args.bench.now)
    (inbox_fault_of c.in-Err.fault)
    (batch_refused (stage_batch c.args.address) (g.W.BenchState.state c.args.bench.now)
    c.in_ok-store.store c.in_ok-store.ensures.value c.in_ok-store.ensures.fresh.stale
    c.in_ok-batch.batch.items (c.in_ok-batch.ensures ∙ ap batch_of_next c.in-Some.ensures.value)
    fits c.in-Err.fault c.in-Err.ensures.refused))

pub returns-clause-images : goal.returns-clause-images
returns-clause-images g c =
    may_have_stored (g.W.BenchState.state c.args.bench.now)
    (g.W.BenchState.state c.open_store.new.flash)
    (g.W.BenchState.state c.write-written.new.flash) c.open_store.ensures.images
    c.write-written.ensures.frame.told c.in_ok-store.store c.in_ok-store.ensures.stands
    (stage_batch c.args.address) c.in_ok-batch.batch.items
    (c.in_ok-batch.ensures ∙ ap batch_of_next c.in-Some.ensures.value) c.pending-note.result
    (subst (λ (pending : Option ℕ). MayHaveWritten c.in_ok-batch.batch.items pending
    (g.W.BenchState.state c.open_store.new.flash) (g.W.BenchState.state c.write-written.new.flash))
    (sym c.pending-note.ensures.value)
    (c.in-Err.ensures.images c.in_ok-store.ensures.fresh.stale c.in_ok-store.ensures.fresh.pending))

pub returns-in-Ok-clause-moves : goal.returns-in-Ok-clause-moves
returns-in-Ok-clause-moves g c =
    let s = c.in_ok-store.store in
    record {
      store = c.in_ok-store.store;
      opened = c.in_ok-store.ensures.value;
      are = λ told. c.in-Ok.ensures.moves
          ∙ ap (λ (n : ℕ). raised (with_room n (prepared_of c.in_ok-batch.batch.items).size
          (free_of s.log)) 4) (c.in_ok-store.ensures.moves told)
          ∙ ap (λ (cs : List Change). raised (with_room
          (raised (g.W.BenchState.state c.args.bench.now).counts.moves
          (opening_moves (g.W.BenchState.state c.args.bench.now).contents.bytes))
          (prepared_of cs).size (free_of s.log)) 4)
          (c.in_ok-batch.ensures ∙ ap batch_of_next c.in-Some.ensures.value);
    }

pub returns-in_err-check_list-clause-kept : goal.returns-in_err-check_list-clause-kept
returns-in_err-check_list-clause-kept g c =
    let old = g.W.BenchState.state c.args.bench.now in
    let new = g.W.BenchState.state c.open_store.new.flash in
    let s = c.in_ok-store.store in
    on_err c.from_residual-in_err-check_list.result (opening_noted (stage_batch c.args.address) c.open_store.new.note
    s.log.seq old new c.in_ok-store.ensures.note (opening_reads old new (stage_batch c.args.address)
    c.open_store.ensures.frame.told s c.in_ok-store.ensures.stands c.in_ok-store.ensures.value))

pub returns-in_err-batch-clause-kept : goal.returns-in_err-batch-clause-kept
returns-in_err-batch-clause-kept g c =
    let old = g.W.BenchState.state c.args.bench.now in
    let new = g.W.BenchState.state c.open_store.new.flash in
    let s = c.in_ok-store.store in
    on_err c.from_residual-in_err-batch.result (opening_noted (stage_batch c.args.address)
    c.open_store.new.note s.log.seq
    old new c.in_ok-store.ensures.note (opening_reads old new (stage_batch c.args.address)
    c.open_store.ensures.frame.told s c.in_ok-store.ensures.stands c.in_ok-store.ensures.value))

pub returns-in-Ok-clause-read : goal.returns-in-Ok-clause-read
returns-in-Ok-clause-read g c =
    stored_read (g.W.BenchState.state c.args.bench.now)
    (g.W.BenchState.state c.open_store.new.flash)
    (g.W.BenchState.state c.write-written.new.flash) c.open_store.ensures.frame.told
    c.write-written.ensures.frame.told c.in_ok-store.store c.in_ok-store.ensures.stands
    c.in_ok-store.ensures.value (stage_batch c.args.address) c.in_ok-batch.batch.items
    (c.in_ok-batch.ensures ∙ ap batch_of_next c.in-Some.ensures.value) c.in-Ok.ensures.durable

pub returns-clause-kept : goal.returns-clause-kept
returns-clause-kept g c =
    noted_read (stage_batch c.args.address) (record c.open_store.new.note { pending = c.pending-note.result })
    (g.W.BenchState.state c.args.bench.now) (g.W.BenchState.state c.write-written.new.flash)
    (may_have_stored_read (g.W.BenchState.state c.args.bench.now)
    (g.W.BenchState.state c.open_store.new.flash)
    (g.W.BenchState.state c.write-written.new.flash) c.open_store.ensures.frame.told
    c.write-written.ensures.frame.told c.in_ok-store.store c.in_ok-store.ensures.stands
    c.in_ok-store.ensures.value (stage_batch c.args.address) c.in_ok-batch.batch.items
    (c.in_ok-batch.ensures ∙ ap batch_of_next c.in-Some.ensures.value) c.pending-note.result
    (subst (λ (pending : Option ℕ). MayHaveWritten c.in_ok-batch.batch.items pending
    (g.W.BenchState.state c.open_store.new.flash) (g.W.BenchState.state c.write-written.new.flash))
    (sym c.pending-note.ensures.value)
    (c.in-Err.ensures.images c.in_ok-store.ensures.fresh.stale
    c.in_ok-store.ensures.fresh.pending)))

pub returns-in_default-clause-kept : goal.returns-in_default-clause-kept
returns-in_default-clause-kept g c =
    let old = g.W.BenchState.state c.args.bench.now in
    let new = g.W.BenchState.state c.open_store.new.flash in
    let s = c.in_ok-store.store in
    opening_noted (stage_batch c.args.address) c.open_store.new.note s.log.seq old new
    c.in_ok-store.ensures.note (opening_reads old new (stage_batch c.args.address)
    c.open_store.ensures.frame.told s c.in_ok-store.ensures.stands c.in_ok-store.ensures.value)

pub returns-clause-taken : goal.returns-clause-taken
returns-clause-taken g c =
    let memory = sym (g.met.W.Platform.memory_is c.open_store.new.flash
    ∙ ap (λ (r : Rest). r.memory) c.open_store.ensures.frame.rest) in
    taken_where c.args.address (g.W.BenchState.state c.args.bench.now) c.pending-note.result
    (record {
      passes = ap (λ (m : List Segment). coalesced_refusal (coalesced_of m c.args.address)) memory
          ∙ c.in_ok-check_list.ensures;
      serial = c.in-Some.delivery.pair.serial;
      takes = record {
        store = c.in_ok-store.store;
        opened = c.in_ok-store.ensures.value;
        is = ap (option_map (λ (d : Delivery). d.pair.serial)) (sym c.in-Some.ensures.value);
      };
    })
