use Rattle.report_tables.proofs.EntryLemmas.{entry_step}
use Rattle.report_tables.proofs.entries.join.Goals as goal

pub returns : goal.returns
returns c = record {
  value = λ d others. entry_step c.args.entry d c.args.state.now c.min.result c.max.result
      c.told_attempt-last_version.result others c.min.ensures c.max.ensures
      c.told_attempt-last_version.ensures.value;
}
