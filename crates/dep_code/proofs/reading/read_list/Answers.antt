use Rattle.std.proofs.Common.{◌-◌, length, take, drop, sym}
use Rattle.std.proofs.lemmas.List.{take_rest}
use Rattle.std.proofs.lemmas.Result.{err_from_is_err_and}
use Rattle.dep_code.specs.Refusals.{IsFront}
use Rattle.dep_code.specs.Sections.{ops_of}
use Rattle.dep_code.proofs.Fronts.{front_next, place_more, places_more, ended, broken, there_is}
use Rattle.dep_code.proofs.reading.read_list.Goals as goal

pub returns-in_err-size-clause-refused : goal.returns-in_err-size-clause-refused
returns-in_err-size-clause-refused c =
    let p = err_from_is_err_and c.from_residual.result c.from_residual.ensures.1 in
    let bytes = c.args.bytes.now in
    let at = c.loop-list.at in
    let rest = take (length bytes - at) (drop at bytes) in
    let front : IsFront (ops_of c.loop-list.list.items) rest bytes =
    rw (take_rest bytes at) c.loop-list.invariant.front in
    rw (p.1, p.2)
    (broken (ops_of c.loop-list.list.items) at rest bytes c.in_err-size.field-0.0 front
    c.loop-list.invariant.place c.in_err-size.ensures.rows)

pub returns-then-ends-clause-ok : goal.returns-then-ends-clause-ok
returns-then-ends-clause-ok c =
    let bytes = c.args.bytes.now in
    let at = c.loop-list.at in
    let rest = take (length bytes - at) (drop at bytes) in
    let front : IsFront (ops_of c.loop-list.list.items) rest bytes =
    rw (take_rest bytes at) c.loop-list.invariant.front in
    ended c.loop-list.list.items c.push.new.self.items at c.in_ok-op.op rest bytes c.in_ok-size.size
    c.in_ok-push.ensures.ok front c.loop-list.invariant.place c.loop-list.invariant.places
    c.in_ok-size.ensures.rows c.in_ok-op.ensures.bytes c.in_ok-size.ensures.size
    (sym c.if-ends.ensures)

pub loop-list-preserved : goal.loop-list-preserved
loop-list-preserved c =
    let bytes = c.args.bytes.now in
    let at = c.loop-list.at in
    let items = c.loop-list.list.items in
    let new = c.push.new.self.items in
    let op = c.in_ok-op.op in
    let size = c.in_ok-size.size in
    let rest = take (length bytes - at) (drop at bytes) in
    let front : IsFront (ops_of items) rest bytes =
    rw (take_rest bytes at) c.loop-list.invariant.front in
    record {
      front = front_next items new at op rest bytes size
          (take_rest bytes at) c.in_ok-push.ensures.ok front c.loop-list.invariant.place
          c.in_ok-size.ensures.rows c.in_ok-op.ensures.bytes c.in_ok-size.ensures.size
          c.in_ok-op.ensures.form (sym c.if-ends.ensures);
      place = place_more items new at op rest size c.in_ok-push.ensures.ok
          c.loop-list.invariant.place c.in_ok-op.ensures.bytes
          (there_is rest at size c.in_ok-size.ensures.rows c.in_ok-size.ensures.size);
      places = places_more items new at op c.in_ok-push.ensures.ok c.loop-list.invariant.place
          c.loop-list.invariant.places;
    }
