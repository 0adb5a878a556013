use Rattle.std.proofs.Common.{◌∙◌, length, ap, refl, sym, arith}
use Rattle.stored_vars.specs.Holds.{is_claimed}
use Rattle.dev_claims.proofs.Found.{found_here, found_later, found_none}
use Rattle.var_store.specs.Stores.{variables_of}
use Rattle.dev_claims.proofs.reading.open_claim.Goals as goal

pub returns-then-is_claimed : goal.returns-then-is_claimed
returns-then-is_claimed c =
    let n = length c.args.board.now.devices in
    let size = ap length c.devices-count.ensures.value in
    record {
      value = sym (c.loop-k.invariant
          ∙ found_here (is_claimed (variables_of c.args.store.now)) c.loop-k.k n
          (omega (arith, c.loop-k-test.true, size)) (sym c.if-is_claimed.ensures.value));
      wide = c.if-is_claimed.ensures.wide refl c.args.board.now;
      rule = c.devices-count.ensures.rule;
    }

pub loop-k-preserved : goal.loop-k-preserved
loop-k-preserved c =
    let n = length c.args.board.now.devices in
    let size = ap length c.devices-count.ensures.value in
    c.loop-k.invariant
    ∙ found_later (is_claimed (variables_of c.args.store.now)) c.loop-k.k n
    (omega (arith, c.loop-k-test.true, size)) (sym c.if-is_claimed.ensures.value)

pub returns : goal.returns
returns c =
    let n = length c.args.board.now.devices in
    let size = ap length c.devices-count.ensures.value in
    record {
      value = sym (c.loop-k.invariant
          ∙ found_none (is_claimed (variables_of c.args.store.now)) c.loop-k.k n
          (omega (arith, c.loop-k-test.false, size)));
      wide = tt;
      rule = c.devices-count.ensures.rule;
    }
