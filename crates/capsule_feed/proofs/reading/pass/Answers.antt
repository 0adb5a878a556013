use Rattle.std.proofs.Common.{◌-◌, ℕ, [], drop, length, arith, subst}
use Rattle.capsule_feed.specs.Cursors.{Goes, IsNextFrom, own_behind}
use Rattle.capsule_feed.proofs.ReadSteps.{from_next, given_pass}
use Rattle.capsule_feed.proofs.reading.pass.Goals as goal

pub returns-clause-ok : goal.returns-clause-ok
returns-clause-ok c = λ whole first x head old g high inside gathered.
    let k = c.args.reader.now.cursor in
    let next = c.in_ok-next.next in
    let list = c.turn.new.list in
    let from = c.args.reader.now.from in
    let from2 = c.next_from-reader.result in
    let own = drop from c.args.list.now in
    let n : Goes next (own_behind k.kind (drop from list)) [] k.stop whole =
    c.in_ok-next.ensures.ok whole inside gathered g.goes.within in
    let is : IsNextFrom k.kind next.kind from (length list) from2 =
    subst (λ (m : ℕ). IsNextFrom k.kind next.kind from m from2) c.len.ensures
    c.next_from-reader.ensures in
    let n2 : Goes next (drop from2 list) [] k.stop whole =
    from_next k.kind next from from2 list [] k.stop whole is n in
    let events = c.in_ok-give.ensures.ok (k.stop - k.at) (omega (arith, n.reached, g.at, g.high, high)) in
    rw (c.new-reader.ensures)
    (given_pass k next own (drop from2 list) head x c.args.given first c.max.result old
    c.args.events.now.items c.give.new.events.items whole g n2 high c.max.ensures events)
