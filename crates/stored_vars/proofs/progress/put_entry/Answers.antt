use Rattle.std.proofs.Common.{◌∙◌, ◌++◌, ap, append_assoc}
use Rattle.cu_base.specs.Fields.{bytes_of}
use Rattle.stored_vars.proofs.progress.put_entry.Goals as goal

pub returns : goal.returns
returns c = record {
  ok = c.in_ok-put_u32.ensures.ok
      ∙ ap (λ l. l ++ bytes_of 4 c.args.entry.now.units) c.in_ok-put_u64.ensures.ok
      ∙ append_assoc c.args.out.now (bytes_of 8 c.args.entry.now.serial)
      (bytes_of 4 c.args.entry.now.units);
}
