use Rattle.std.proofs.Common.{rules, ◌≡◌, ◌+◌, ◌++◌, ◌∷◌, [], List, map, take, length, Result, Err}
use Rattle.std.proofs.Common.{sym, subst, ap, ◌∙◌, arith, ℕ}
use Rattle.std.specs.Prelude.{MatchResult}
use Rattle.std.proofs.lemmas.List.{map_push, take_all}
use Rattle.cu_base.specs.declared.faults.NoMemory.{NoMemory}
use Rattle.bench_play.specs.Counted.{IsOrdered}
use Rattle.bench_play.specs.Inputs.{input_bytes}
use Rattle.bench_play.specs.Played.{IsCutShort, IsPlayed, StandsByCut, StandsByRun}
use Rattle.bench_play.proofs.Counting.{ordered_next, ordered_still, room_after}
use Rattle.bench_play.proofs.Running.{IsUnderway, length_map, more_length, played_image}
use Rattle.bench_play.proofs.Running.{played_so_far, regions_after, short_between, short_image}
use Rattle.bench_play.proofs.Running.{short_within, underway_next}
use Rattle.cap_boot.specs.Given.{setting}
use Rattle.reference_machine.specs.Machine.{first_moment}
use Rattle.reference_machine.specs.TraceValues.{EntryValue, entry_value}
use Rattle.reference_machine.specs.declared.event.Event.{Event}
use Rattle.reference_machine.specs.declared.trace.Entry.{Entry}
use Rattle.bench_play.proofs.playing.play.Goals as goal

pub loop-event-preserved : goal.loop-event-preserved
loop-event-preserved g c =
    let state = g.W.BenchState.state in
    let x = setting c.args.board.now first_moment g.S.SlotForm.slot_of in
    let bytes_of = input_bytes c.args.loaded.now.items in
    let l = c.loop-event in
    let events = c.args.events.now in
    let event = c.event-item.result in
    let entry = c.in_ok-entry.entry in
    let told = map entry_value l.trace.items in
    let t = entry_value entry in
    let start = state c.args.bench.now in
    let old = state l.bench in
    let new = state c.happen.new.bench in
    let list : c.push.new.self.items ≡ l.trace.items ++ entry ∷ [] =
    c.in_ok-push.ensures.ok ∙ ap (λ (es : List Entry). es ++ entry ∷ []) c.reserve.ensures.frame in
    let pushed : map entry_value c.push.new.self.items ≡ told ++ t ∷ [] =
    ap (map entry_value) list ∙ map_push entry_value l.trace.items entry in
    let room = room_after event t old new c.in_ok-entry.ensures.tells in
    record {
      regions = regions_after g.S.SlotForm.size_of c.args.board.now old new l.invariant.regions
          c.happen.ensures.frame;
      room = omega (arith, room, l.invariant.room);
      count = more_length l.trace.items c.push.new.self.items entry l.event-index list
          l.invariant.count;
      orders = subst (λ (ts : List EntryValue). IsOrdered (take (l.event-index + 1) events) ts
          start new) (sym pushed)
          (ordered_next events l.event-index event c.event-item.is c.loop-event-test.true told t
          start old new l.invariant.orders c.in_ok-entry.ensures.tells);
      underway = λ m is either.
          subst (λ (ts : List EntryValue). IsUnderway x bytes_of m
          (take (l.event-index + 1) events) ts c.happen.new.known new.contents) (sym pushed)
          (underway_next x bytes_of m events l.event-index event c.event-item.is told l.known
          old.contents c.loop-event-test.true (l.invariant.underway m is either)
          (length_map l.trace.items l.event-index l.invariant.count) t c.happen.new.known
          new.contents (c.in_ok-entry.ensures.does is.board));
    }

pub returns-in_err-entry-clause-orders : goal.returns-in_err-entry-clause-orders
returns-in_err-entry-clause-orders g c =
    let state = g.W.BenchState.state in
    let l = c.loop-event in
    let events = c.args.events.now in
    let start = state c.args.bench.now in
    let new = state c.happen.new.bench in
    subst (λ (es : List Entry). IsOrdered (take (length es) events) (map entry_value es) start new)
    (sym c.reserve.ensures.frame)
    (subst (λ (n : ℕ). IsOrdered (take n events) (map entry_value l.trace.items) start new)
    (sym l.invariant.count) (ordered_still (take l.event-index events)
    (map entry_value l.trace.items) start (state l.bench) new l.invariant.orders
    c.in_err-entry.ensures.tells))

pub returns-in_err-entry-clause-plays : goal.returns-in_err-entry-clause-plays
returns-in_err-entry-clause-plays g c m start either =
    let state = g.W.BenchState.state in
    let x = setting c.args.board.now first_moment g.S.SlotForm.slot_of in
    let bytes_of = input_bytes c.args.loaded.now.items in
    let l = c.loop-event in
    let events = c.args.events.now in
    let told = map entry_value c.reserve.new.self.items in
    let new = (state c.happen.new.bench).contents in
    let is : c.from_residual-in_err-entry.result ≡ Err c.in_err-entry.field-0.0 = search rules in
    let short : IsCutShort x bytes_of m events (map entry_value l.trace.items) new =
    short_within x bytes_of m events l.event-index c.event-item.result c.event-item.is
    (map entry_value l.trace.items) l.known (state l.bench).contents c.loop-event-test.true
    (l.invariant.underway m start either)
    (length_map l.trace.items l.event-index l.invariant.count) new
    (c.in_err-entry.ensures.does start.board) in
    let now : IsCutShort x bytes_of m events told new =
    subst (λ (es : List Entry). IsCutShort x bytes_of m events (map entry_value es) new)
    (sym c.reserve.ensures.frame) short in
    subst (λ (r : Result (Unit {0}) NoMemory). MatchResult r
    (λ _. IsPlayed x bytes_of m events told new) (λ _. IsCutShort x bytes_of m events told new))
    (sym is) now

pub returns-in_err-entry-clause-images : goal.returns-in_err-entry-clause-images
returns-in_err-entry-clause-images g c m start either image are =
    let x = setting c.args.board.now first_moment g.S.SlotForm.slot_of in
    let bytes_of = input_bytes c.args.loaded.now.items in
    let events = c.args.events.now in
    let told = map entry_value c.reserve.new.self.items in
    let new = (g.W.BenchState.state c.happen.new.bench).contents in
    let is : c.from_residual-in_err-entry.result ≡ Err c.in_err-entry.field-0.0 = search rules in
    let now : IsCutShort x bytes_of m events told new =
    subst (λ (r : Result (Unit {0}) NoMemory). MatchResult r
    (λ _. IsPlayed x bytes_of m events told new) (λ _. IsCutShort x bytes_of m events told new))
    is (returns-in_err-entry-clause-plays g c m start either) in
    subst (λ (r : Result (Unit {0}) NoMemory). MatchResult r
    (λ _. StandsByRun x bytes_of m events told new image)
    (λ _. StandsByCut x bytes_of m events told new image)) (sym is)
    (short_image x bytes_of m events told new image now are)

pub returns-in_err-reserve-clause-plays : goal.returns-in_err-reserve-clause-plays
returns-in_err-reserve-clause-plays g c m start either =
    let x = setting c.args.board.now first_moment g.S.SlotForm.slot_of in
    let bytes_of = input_bytes c.args.loaded.now.items in
    let l = c.loop-event in
    let events = c.args.events.now in
    let told = map entry_value c.reserve.new.self.items in
    let new = (g.W.BenchState.state l.bench).contents in
    let is : c.from_residual.result ≡ Err c.in_err-reserve.field-0.0 = search rules in
    let short : IsCutShort x bytes_of m events (map entry_value l.trace.items) new =
    short_between x bytes_of m events l.event-index c.event-item.result c.event-item.is
    (map entry_value l.trace.items) l.known new c.loop-event-test.true
    (l.invariant.underway m start either)
    (length_map l.trace.items l.event-index l.invariant.count) in
    let now : IsCutShort x bytes_of m events told new =
    subst (λ (es : List Entry). IsCutShort x bytes_of m events (map entry_value es) new)
    (sym c.reserve.ensures.frame) short in
    subst (λ (r : Result (Unit {0}) NoMemory). MatchResult r
    (λ _. IsPlayed x bytes_of m events told new) (λ _. IsCutShort x bytes_of m events told new))
    (sym is) now

pub returns-in_err-reserve-clause-images : goal.returns-in_err-reserve-clause-images
returns-in_err-reserve-clause-images g c m start either image are =
    let x = setting c.args.board.now first_moment g.S.SlotForm.slot_of in
    let bytes_of = input_bytes c.args.loaded.now.items in
    let events = c.args.events.now in
    let told = map entry_value c.reserve.new.self.items in
    let new = (g.W.BenchState.state c.loop-event.bench).contents in
    let is : c.from_residual.result ≡ Err c.in_err-reserve.field-0.0 = search rules in
    let now : IsCutShort x bytes_of m events told new =
    subst (λ (r : Result (Unit {0}) NoMemory). MatchResult r
    (λ _. IsPlayed x bytes_of m events told new) (λ _. IsCutShort x bytes_of m events told new))
    is (returns-in_err-reserve-clause-plays g c m start either) in
    subst (λ (r : Result (Unit {0}) NoMemory). MatchResult r
    (λ _. StandsByRun x bytes_of m events told new image)
    (λ _. StandsByCut x bytes_of m events told new image)) (sym is)
    (short_image x bytes_of m events told new image now are)

pub returns-clause-plays : goal.returns-clause-plays
returns-clause-plays g c m start either =
    let x = setting c.args.board.now first_moment g.S.SlotForm.slot_of in
    let bytes_of = input_bytes c.args.loaded.now.items in
    let l = c.loop-event in
    let told = map entry_value l.trace.items in
    let new = (g.W.BenchState.state l.bench).contents in
    subst (λ (es : List Event). IsPlayed x bytes_of m es told new)
    (take_all l.event-index c.args.events.now (omega arith))
    (played_so_far x bytes_of m (take l.event-index c.args.events.now) told l.known new
    (l.invariant.underway m start either))

pub returns-clause-images : goal.returns-clause-images
returns-clause-images g c m start either image are =
    let x = setting c.args.board.now first_moment g.S.SlotForm.slot_of in
    played_image x (input_bytes c.args.loaded.now.items) m c.args.events.now
    (map entry_value c.loop-event.trace.items)
    (g.W.BenchState.state c.loop-event.bench).contents image
    (returns-clause-plays g c m start either) are
