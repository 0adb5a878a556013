use Rattle.std.proofs.Common.{◌∙◌, ap, sym, subst, ℕ, List}
use Rattle.std.specs.Prelude.{Option}
use Rattle.update_inbox.specs.Batches.{MayHaveStored, signal_batch}
use Rattle.var_store.specs.Writes.{MayHaveWritten}
use Rattle.var_store.specs.declared.note.Note.{Note}
use Rattle.var_store.proofs.WriteLemmas.{on_err}
use Rattle.var_log.specs.declared.change.Change.{Change}
use Rattle.var_log.specs.Counts.{raised, with_room}
use Rattle.var_log.specs.Logs.{free_of}
use Rattle.var_log.specs.Opens.{opening_moves}
use Rattle.var_store.specs.Stores.{prepared_of, variables_of}
use Rattle.update_inbox.proofs.BatchLemmas.{batch_refused, may_have_stored, opening_keeps}
use Rattle.update_inbox.proofs.BatchLemmas.{may_have_stored_read, noted_read, opening_noted}
use Rattle.update_inbox.proofs.BatchLemmas.{opening_reads, signal_fits, stored, stored_read}
use Rattle.update_inbox.proofs.request.signal.Goals as goal

pub returns-in_err-batch-clause-images : goal.returns-in_err-batch-clause-images
returns-in_err-batch-clause-images g c =
    let old = g.W.BenchState.state c.args.bench.now in
    let new = g.W.BenchState.state c.open_store.new.flash in
    on_err c.from_residual-in_err-batch.result (subst (λ (pending : Option ℕ).
    MayHaveStored signal_batch pending old new)
    (sym (ap (λ (n : Note). n.pending) c.in_ok-store.ensures.note))
    (opening_keeps old new signal_batch c.open_store.ensures.images))

pub returns-in-Ok-clause-durable : goal.returns-in-Ok-clause-durable
returns-in-Ok-clause-durable g c =
    stored (g.W.BenchState.state c.args.bench.now) (g.W.BenchState.state c.open_store.new.flash)
    (g.W.BenchState.state c.write-written.new.flash) c.open_store.ensures.images
    c.write-written.ensures.frame.told c.in_ok-store.store c.in_ok-store.ensures.stands signal_batch
    c.in_ok-batch.batch.items c.in_ok-batch.ensures c.in-Ok.ensures.durable

pub returns-clause-images : goal.returns-clause-images
returns-clause-images g c =
    may_have_stored (g.W.BenchState.state c.args.bench.now)
    (g.W.BenchState.state c.open_store.new.flash)
    (g.W.BenchState.state c.write-written.new.flash) c.open_store.ensures.images
    c.write-written.ensures.frame.told c.in_ok-store.store c.in_ok-store.ensures.stands signal_batch
    c.in_ok-batch.batch.items c.in_ok-batch.ensures c.pending-note.result
    (subst (λ (pending : Option ℕ). MayHaveWritten c.in_ok-batch.batch.items pending
    (g.W.BenchState.state c.open_store.new.flash) (g.W.BenchState.state c.write-written.new.flash))
    (sym c.pending-note.ensures.value)
    (c.in-Err.ensures.images c.in_ok-store.ensures.fresh.stale c.in_ok-store.ensures.fresh.pending))

pub returns-in-Ok-clause-moves : goal.returns-in-Ok-clause-moves
returns-in-Ok-clause-moves g c =
    let s = c.in_ok-store.store in
    record {
      store = c.in_ok-store.store;
      opened = c.in_ok-store.ensures.value;
      are = λ told. c.in-Ok.ensures.moves
          ∙ ap (λ (n : ℕ). raised (with_room n (prepared_of c.in_ok-batch.batch.items).size
          (free_of s.log)) 4) (c.in_ok-store.ensures.moves told)
          ∙ ap (λ (cs : List Change). raised (with_room
          (raised (g.W.BenchState.state c.args.bench.now).counts.moves
          (opening_moves (g.W.BenchState.state c.args.bench.now).contents.bytes))
          (prepared_of cs).size (free_of s.log)) 4) c.in_ok-batch.ensures;
    }

pub returns-clause-refused : goal.returns-clause-refused
returns-clause-refused g c =
    rw (c.inbox_fault_of.ensures.value)
    (batch_refused signal_batch (g.W.BenchState.state c.args.bench.now) c.in_ok-store.store
    c.in_ok-store.ensures.value c.in_ok-store.ensures.fresh.stale c.in_ok-batch.batch.items
    c.in_ok-batch.ensures (signal_fits (variables_of c.in_ok-store.store)) c.in-Err.fault
    c.in-Err.ensures.refused)

pub returns-in_err-batch-clause-kept : goal.returns-in_err-batch-clause-kept
returns-in_err-batch-clause-kept g c =
    let old = g.W.BenchState.state c.args.bench.now in
    let new = g.W.BenchState.state c.open_store.new.flash in
    let s = c.in_ok-store.store in
    on_err c.from_residual-in_err-batch.result (opening_noted signal_batch c.open_store.new.note s.log.seq
    old new c.in_ok-store.ensures.note (opening_reads old new signal_batch
    c.open_store.ensures.frame.told s c.in_ok-store.ensures.stands c.in_ok-store.ensures.value))

pub returns-in-Ok-clause-read : goal.returns-in-Ok-clause-read
returns-in-Ok-clause-read g c =
    stored_read (g.W.BenchState.state c.args.bench.now)
    (g.W.BenchState.state c.open_store.new.flash)
    (g.W.BenchState.state c.write-written.new.flash) c.open_store.ensures.frame.told
    c.write-written.ensures.frame.told c.in_ok-store.store c.in_ok-store.ensures.stands
    c.in_ok-store.ensures.value signal_batch c.in_ok-batch.batch.items
    (c.in_ok-batch.ensures) c.in-Ok.ensures.durable

pub returns-clause-kept : goal.returns-clause-kept
returns-clause-kept g c =
    noted_read signal_batch (record c.open_store.new.note { pending = c.pending-note.result })
    (g.W.BenchState.state c.args.bench.now) (g.W.BenchState.state c.write-written.new.flash)
    (may_have_stored_read (g.W.BenchState.state c.args.bench.now)
    (g.W.BenchState.state c.open_store.new.flash)
    (g.W.BenchState.state c.write-written.new.flash) c.open_store.ensures.frame.told
    c.write-written.ensures.frame.told c.in_ok-store.store c.in_ok-store.ensures.stands
    c.in_ok-store.ensures.value signal_batch c.in_ok-batch.batch.items
    (c.in_ok-batch.ensures) c.pending-note.result
    (subst (λ (pending : Option ℕ). MayHaveWritten c.in_ok-batch.batch.items pending
    (g.W.BenchState.state c.open_store.new.flash) (g.W.BenchState.state c.write-written.new.flash))
    (sym c.pending-note.ensures.value)
    (c.in-Err.ensures.images c.in_ok-store.ensures.fresh.stale
    c.in_ok-store.ensures.fresh.pending)))
