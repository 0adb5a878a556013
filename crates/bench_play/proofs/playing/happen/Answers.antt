use Rattle.std.proofs.Common.{sym, subst}
use Rattle.bench_play.specs.Happens.{Happens}
use Rattle.bench_play.specs.Inputs.{input_bytes}
use Rattle.bench_play.proofs.OutsideEvents.{as_told, time_happens}
use Rattle.cap_boot.specs.Given.{setting}
use Rattle.reference_machine.specs.Machine.{first_moment}
use Rattle.reference_machine.specs.TraceValues.{entry_value}
use Rattle.reference_machine.specs.declared.event.Event.{Event}
use Rattle.bench_play.proofs.playing.happen.Goals as goal

pub returns-in-Time-clause-does : goal.returns-in-Time-clause-does
returns-in-Time-clause-does g c board =
    let s = (g.W.BenchState.state c.args.bench.now).contents in
    let x = setting c.args.board.now first_moment g.S.SlotForm.slot_of in
    let bytes_of = input_bytes c.args.loaded.now.items in
    subst (λ (e : Event). Happens x bytes_of e (entry_value c.plain.result) c.args.known.now s
    (record c.args.known.now { moment = c.in-Time.moment }) s) (sym c.in-Time.is)
    (as_told c.plain.ensures
    (time_happens x bytes_of c.in-Time.moment c.args.known.now s))
