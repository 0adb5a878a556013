use Rattle.std.proofs.Common.{sym, arith}
use Rattle.var_log.proofs.BankLemmas.{eqb-no}
use Rattle.var_log.proofs.ReadLemmas.{no_kind, tiny}
use Rattle.var_log.proofs.seen.first_change.Goals as goal

pub returns-then-bytes-lt2 : goal.returns-then-bytes-lt2
returns-then-bytes-lt2 c = record { value = sym (tiny c.args.bytes.now (omega arith)) }

pub returns : goal.returns
returns c = record {
  value = sym (no_kind c.args.bytes.now (eqb-no _ _ c.if-bytes-eq1.false) (eqb-no _ _ c.if-bytes-eq2.false));
}
