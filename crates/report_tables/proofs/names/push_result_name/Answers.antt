use Rattle.std.proofs.Common.{◌/◌, ◌%◌, codes}
use Rattle.report_tables.specs.Names.{hex_pair}
use Rattle.report_tables.proofs.Growing.{three}
use Rattle.report_tables.proofs.names.push_result_name.Goals as goal

pub returns : goal.returns
returns c = record {
  ok = three c.args.out.now (codes "Capsule") (hex_pair (c.args.number / 256))
      (hex_pair (c.args.number % 256)) _ _ _ c.in_ok-push_str.ensures.ok
      c.in_ok-push_hex_pair.ensures c.in_ok-push_hex_pair-2.ensures;
}
