use Rattle.std.proofs.Common.{length, ap, sym, ◌∙◌, arith}
use Rattle.std.proofs.lemmas.Bool.{ltb-true}
use Rattle.report_tables.proofs.ResultLemmas.{size_with}
use Rattle.report_tables.proofs.result.ResultVar.size.Goals as goal

pub overflow_add-units-in-Some : goal.overflow_add-units-in-Some
overflow_add-units-in-Some c =
    omega (
      arith,
      size_with c.args.self.now c.in-Some.fmp c.in-Some.is,
      ltb-true _ _ c.requires.writable,
      ap length c.as_str.ensures,
      ap length c.as_str-in-Some.ensures,
    )

pub overflow_mul-result : goal.overflow_mul-result
overflow_mul-result c =
    omega (
      arith,
      size_with c.args.self.now c.in-Some.fmp c.in-Some.is,
      ltb-true _ _ c.requires.writable,
      ap length c.as_str.ensures,
      ap length c.as_str-in-Some.ensures,
    )

pub overflow_add-result-in-Some : goal.overflow_add-result-in-Some
overflow_add-result-in-Some c =
    omega (
      arith,
      size_with c.args.self.now c.in-Some.fmp c.in-Some.is,
      ltb-true _ _ c.requires.writable,
      ap length c.as_str.ensures,
      ap length c.as_str-in-Some.ensures,
    )

pub overflow_cast-result-in-Some : goal.overflow_cast-result-in-Some
overflow_cast-result-in-Some c =
    omega (
      arith,
      size_with c.args.self.now c.in-Some.fmp c.in-Some.is,
      ltb-true _ _ c.requires.writable,
      ap length c.as_str.ensures,
      ap length c.as_str-in-Some.ensures,
    )

pub returns-in-Some : goal.returns-in-Some
returns-in-Some c = record {
  value = omega (
    arith,
    size_with c.args.self.now c.in-Some.fmp c.in-Some.is,
    ap length c.as_str.ensures,
    ap length c.as_str-in-Some.ensures,
  );
}
