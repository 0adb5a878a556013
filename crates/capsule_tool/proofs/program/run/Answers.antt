use Rattle.std.proofs.Common.{arith}
use Rattle.capsule_tool.proofs.EndLaws.{as_told, done_end, judged_end, usage_end, unread_end}
use Rattle.capsule_tool.proofs.EndLaws.{unwritten_end, long_end, found_end, traced_end}
use Rattle.capsule_tool.proofs.RunLaws.{small_run}
use Rattle.capsule_tool.proofs.program.run.Goals as goal

pub returns-in-Ok-clause-told : goal.returns-in-Ok-clause-told
returns-in-Ok-clause-told g c =
    let k = (g.W.BenchState.state c.args.bench.now).counts in
    rw c.say.ensures.value (λ calm.
    as_told _ c.args.words.now _ _ k k _ _ (g.O.Sink.seen c.args.out.now)
    (g.O.Sink.seen c.say.new.out)
    (c.in-Ok.ensures.ok k k) c.say.ensures.writes calm)

pub returns-in-Ok-clause-done : goal.returns-in-Ok-clause-done
returns-in-Ok-clause-done g c =
    let k = (g.W.BenchState.state c.args.bench.now).counts in
    rw c.say.ensures.value (λ is.
    done_end _ _ _ _ k k _ _ (g.O.Sink.seen c.args.out.now)
    (g.O.Sink.seen c.say.new.out)
    (c.in-Ok.ensures.ok k k) c.say.ensures.writes is)

pub returns-in-Ok-clause-refused : goal.returns-in-Ok-clause-refused
returns-in-Ok-clause-refused g c =
    let k = (g.W.BenchState.state c.args.bench.now).counts in
    rw c.say.ensures.value (λ is.
    judged_end _ _ _ _ k k _ _ 1 (g.O.Sink.seen c.args.out.now)
    (g.O.Sink.seen c.say.new.out)
    (c.in-Ok.ensures.ok k k) c.say.ensures.writes is
    (omega arith) (omega arith) (omega arith) (omega arith) (omega arith))

pub returns-in-Ok-clause-faulty : goal.returns-in-Ok-clause-faulty
returns-in-Ok-clause-faulty g c =
    let k = (g.W.BenchState.state c.args.bench.now).counts in
    rw c.say.ensures.value (λ is.
    judged_end _ _ _ _ k k _ _ 3 (g.O.Sink.seen c.args.out.now)
    (g.O.Sink.seen c.say.new.out)
    (c.in-Ok.ensures.ok k k) c.say.ensures.writes is
    (omega arith) (omega arith) (omega arith) (omega arith) (omega arith))

pub returns-in-Ok-clause-later : goal.returns-in-Ok-clause-later
returns-in-Ok-clause-later g c =
    let k = (g.W.BenchState.state c.args.bench.now).counts in
    rw c.say.ensures.value (λ is.
    judged_end _ _ _ _ k k _ _ 8 (g.O.Sink.seen c.args.out.now)
    (g.O.Sink.seen c.say.new.out)
    (c.in-Ok.ensures.ok k k) c.say.ensures.writes is
    (omega arith) (omega arith) (omega arith) (omega arith) (omega arith))

pub returns-in-Ok-clause-usage : goal.returns-in-Ok-clause-usage
returns-in-Ok-clause-usage g c =
    let k = (g.W.BenchState.state c.args.bench.now).counts in
    λ is. usage_end _ c.args.words.now _ _ k k _ _ (g.O.Sink.seen c.args.out.now)
    (g.O.Sink.seen c.say.new.out)
    (c.in-Ok.ensures.ok k k) c.say.ensures.writes is

pub returns-in-Ok-clause-unread : goal.returns-in-Ok-clause-unread
returns-in-Ok-clause-unread g c =
    let k = (g.W.BenchState.state c.args.bench.now).counts in
    λ is. unread_end _ c.args.words.now _ _ k k _ _ (g.O.Sink.seen c.args.out.now)
    (g.O.Sink.seen c.say.new.out)
    (c.in-Ok.ensures.ok k k) c.say.ensures.writes is

pub returns-in-Ok-clause-unwritten : goal.returns-in-Ok-clause-unwritten
returns-in-Ok-clause-unwritten g c =
    let k = (g.W.BenchState.state c.args.bench.now).counts in
    λ is. unwritten_end _ c.args.words.now _ _ k k _ _ (g.O.Sink.seen c.args.out.now)
    (g.O.Sink.seen c.say.new.out)
    (c.in-Ok.ensures.ok k k) c.say.ensures.writes is

pub returns-in-Ok-clause-long : goal.returns-in-Ok-clause-long
returns-in-Ok-clause-long g c =
    let k = (g.W.BenchState.state c.args.bench.now).counts in
    rw c.say.ensures.value (λ is. long_end _ c.args.words.now _ _ k k _ _ (g.O.Sink.seen c.args.out.now)
    (g.O.Sink.seen c.say.new.out)
    (c.in-Ok.ensures.ok k k) c.say.ensures.writes is)

pub returns-in-Ok-clause-bound : goal.returns-in-Ok-clause-bound
returns-in-Ok-clause-bound g c =
    let k = (g.W.BenchState.state c.args.bench.now).counts in
    small_run c.in-Ok.found _ (g.O.Sink.seen c.args.out.now)
    (g.O.Sink.seen c.say.new.out)
    c.say.ensures.writes

pub returns-in-Ok-clause-found : goal.returns-in-Ok-clause-found
returns-in-Ok-clause-found g c =
    let k = (g.W.BenchState.state c.args.bench.now).counts in
    rw c.say.ensures.value (found_end _ c.args.words.now _ _ k k _ _ (g.O.Sink.seen c.args.out.now)
    (g.O.Sink.seen c.say.new.out)
    (c.in-Ok.ensures.ok k k) c.say.ensures.writes)

pub returns-in-Ok-clause-traced : goal.returns-in-Ok-clause-traced
returns-in-Ok-clause-traced g c =
    let k = (g.W.BenchState.state c.args.bench.now).counts in
    rw c.say.ensures.value (traced_end _ c.args.words.now _ _ k k _ _ (g.O.Sink.seen c.args.out.now)
    (g.O.Sink.seen c.say.new.out)
    (c.in-Ok.ensures.ok k k) c.say.ensures.writes)
