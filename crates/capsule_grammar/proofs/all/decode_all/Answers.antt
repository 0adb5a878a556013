use Rattle.std.proofs.Common.{◌≡◌, ◌+◌, length, ◌∙◌, ap, arith}
use Rattle.std.proofs.lemmas.List.{length_push}
use Rattle.capsule_grammar.proofs.BackLemmas.{Before, before_push, size_limit, spells_all, one_more}
use Rattle.capsule_grammar.proofs.BackLemmas.{fault_behind, fault_below}
use Rattle.capsule_grammar.proofs.all.decode_all.Goals as goal

pub behind-requires-clause-small : goal.behind-requires-clause-small
behind-requires-clause-small c =
    fault_below c.in-Err.fault c.loop.at c.args.bytes.now
    (λ i. omega (arith, c.type_inv.bytes i)) c.in-Err.ensures.refused

pub returns-in-Err-clause-refused : goal.returns-in-Err-clause-refused
returns-in-Err-clause-refused c =
    let count = c.loop.invariant.count in
    fault_behind c.in-Err.fault c.behind.result c.loop.capsules.items c.loop.at c.args.bytes.now
    c.loop.invariant.before (omega (arith, count))
    (λ some. c.loop.invariant.more (omega (arith, count))) c.in-Err.ensures.refused c.behind.ensures

pub returns-then-at-bytes-clause-ok : goal.returns-then-at-bytes-clause-ok
returns-then-at-bytes-clause-ok c =
    let bytes = c.args.bytes.now in
    let before = before_push c.loop.capsules.items c.push.new.self.items c.in-Ok.found.0 c.loop.at
    c.in-Ok.found.1 bytes c.loop.invariant.before c.in-Ok.ensures.ok.capsule c.in-Ok.ensures.ok.size
    c.in-Ok.ensures.ok.spelled c.in_ok-push.ensures.ok in
    let count : length c.push.new.self.items ≡ length c.loop.capsules.items + 1 =
    ap length c.in_ok-push.ensures.ok ∙ length_push c.loop.capsules.items c.in-Ok.found.0 in
    spells_all c.push.new.self.items (c.loop.at + c.in-Ok.found.1) bytes before
    (omega (arith, count)) (omega (arith, count, c.loop.invariant.count)) c.if-at-bytes.true

pub returns-clause-refused : goal.returns-clause-refused
returns-clause-refused c =
    one_more c.loop.capsules.items c.loop.at c.args.bytes.now c.loop.invariant.before
    (omega (arith, c.loop.invariant.count)) (c.loop.invariant.more (omega arith))

pub loop-preserved : goal.loop-preserved
loop-preserved c =
    let bytes = c.args.bytes.now in
    let before : Before c.push.new.self.items (c.loop.at + c.in-Ok.found.1) bytes =
    before_push c.loop.capsules.items c.push.new.self.items c.in-Ok.found.0 c.loop.at
    c.in-Ok.found.1 bytes c.loop.invariant.before c.in-Ok.ensures.ok.capsule c.in-Ok.ensures.ok.size
    c.in-Ok.ensures.ok.spelled c.in_ok-push.ensures.ok in
    let count : length c.push.new.self.items ≡ length c.loop.capsules.items + 1 =
    ap length c.in_ok-push.ensures.ok ∙ length_push c.loop.capsules.items c.in-Ok.found.0 in
    record {
      before = before;
      count = omega (arith, count, c.loop.invariant.count);
      more = λ some. omega (arith, before.within, c.if-at-bytes.false);
      place = omega (
        arith,
        c.loop.invariant.place,
        size_limit c.in-Ok.found.0 c.in-Ok.ensures.ok.capsule,
        c.in-Ok.ensures.ok.size,
      );
    }
