use Rattle.std.proofs.Common.{◌<◌, ◌≤◌, ◌≡◌, ◌+◌, ◌*◌, ◌^◌, nat_lt, length, ap, sym, ◌∙◌, arith}
use Rattle.std.proofs.lemmas.Bool.{le-ltb}
use Rattle.report_tables.specs.Results.{result_size}
use Rattle.report_tables.proofs.ResultLemmas.{size_with}
use Rattle.report_tables.proofs.result.ResultVar.is_writable.Goals as goal

pub returns-then-max-ge-TOO_LONG : goal.returns-then-max-ge-TOO_LONG
returns-then-max-ge-TOO_LONG c = record {
  value = sym (le-ltb _ _ (omega (
    arith,
    size_with c.args.self.now c.in-Some.fmp c.in-Some.is,
    ap length c.as_str-file.ensures,
    ap length c.as_str-target.ensures,
    c.if-max-ge-TOO_LONG.true,
    c.max.ensures,
  )));
}

pub returns-else-max-ge-TOO_LONG : goal.returns-else-max-ge-TOO_LONG
returns-else-max-ge-TOO_LONG c = record {
  value = ap (λ n. nat_lt n (2 ^ 32)) (omega (
    arith,
    size_with c.args.self.now c.in-Some.fmp c.in-Some.is,
    ap length c.as_str-file.ensures,
    ap length c.as_str-target.ensures,
  ));
}
