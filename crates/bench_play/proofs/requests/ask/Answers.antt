use Rattle.std.proofs.Common.{sym, subst, refl, inl}
use Rattle.bench_model.specs.Boards.{BoardValue, IsBoard}
use Rattle.bench_play.proofs.OutsideEvents.{as_told}
use Rattle.bench_play.proofs.RequestEvents.{if_some, request_cut, request_done, request_fails}
use Rattle.bench_play.proofs.RequestEvents.{signal_request, signal_rows}
use Rattle.reference_machine.specs.Events.{signalled}
use Rattle.reference_machine.specs.Machine.{Machine}
use Rattle.reference_machine.specs.TraceValues.AnswerValue.{Done}
use Rattle.reference_machine.specs.declared.event.Event.TheVariants.{Signal}
use Rattle.update_inbox.specs.Batches.{signal_batch}
use Rattle.bench_play.proofs.requests.ask.Goals as goal

pub returns-in-Ok-clause-does : goal.returns-in-Ok-clause-does
returns-in-Ok-clause-does g c x bytes_of board =
    let state = g.W.BenchState.state in
    as_told c.noted.ensures (request_done x bytes_of Signal signal_batch c.args.known.now
    (state c.args.bench.now) (state c.signal.new.bench) c.signal.ensures.frame
    (signal_rows x bytes_of) (λ (p : Machine). IsBoard p.board) signalled
    (λ p its b. signal_request x bytes_of p b) (λ p. Done) (λ p its b. inl (inl refl)) (λ p f. f)
    c.signal.new.note.opened c.in-Ok.ensures.noted c.signal.ensures.opening c.in-Ok.ensures.read
    Done (λ p its reads.
    (subst (λ (b : BoardValue). IsBoard b) (sym reads.outside.board) board, refl)))

pub returns-in-Err-Flash-clause-does : goal.returns-in-Err-Flash-clause-does
returns-in-Err-Flash-clause-does g c x bytes_of board =
    let state = g.W.BenchState.state in
    as_told c.noted-in-Err-Flash.ensures (request_fails x bytes_of Signal signal_batch
    c.args.known.now (state c.args.bench.now) (state c.signal.new.bench) c.signal.ensures.frame
    (signal_rows x bytes_of) (λ (p : Machine). IsBoard p.board) signalled
    (λ p its b. signal_request x bytes_of p b) c.signal.new.note.opened c.signal.new.note.pending
    (record {
      images = c.in-Err-Flash.ensures.images;
      kept = c.in-Err-Flash.ensures.kept;
      opening = c.signal.ensures.opening;
      batch_is = c.signal.ensures.pending;
      allowed = if_some c.signal.new.note.pending (λ p its reads.
          subst (λ (b : BoardValue). IsBoard b) (sym reads.outside.board) board);
    }))

pub returns-in-Err-clause-does : goal.returns-in-Err-clause-does
returns-in-Err-clause-does g c x bytes_of board =
    let state = g.W.BenchState.state in
    request_cut x bytes_of Signal signal_batch c.args.known.now (state c.args.bench.now)
    (state c.signal.new.bench) c.signal.ensures.frame (signal_rows x bytes_of)
    (λ (p : Machine). IsBoard p.board) signalled (λ p its b. signal_request x bytes_of p b)
    c.signal.new.note.opened c.signal.new.note.pending
    (record {
      images = c.in-Err.ensures.images;
      kept = c.in-Err.ensures.kept;
      opening = c.signal.ensures.opening;
      batch_is = c.signal.ensures.pending;
      allowed = if_some c.signal.new.note.pending (λ p its reads.
          subst (λ (b : BoardValue). IsBoard b) (sym reads.outside.board) board);
    })
