-- The report of a boot as a value: its lists without the room that they keep.
use Rattle.std.specs.Prelude.{ℕ, List, [], Option, None}
use Rattle.reference_machine.specs.declared.report.Report.{Report}
use Rattle.reference_machine.specs.declared.unit.UnitLine.{UnitLine}

-- what a boot did, as far as it came
pub record ReportValue : Type 0 where
  pub opened : Option ℕ
  pub steps : ℕ
  pub lines : List UnitLine
  pub unstaged : List ℕ
  pub removed : List ℕ
  pub pending : Option ℕ

-- the report as a value
abbrev pub report_value : Report → ReportValue
report_value r = record {
  opened = r.opened;
  steps = r.steps;
  lines = r.lines.items;
  unstaged = r.unstaged.items;
  removed = r.removed.items;
  pending = r.pending;
}

-- no step yet
abbrev pub nothing_done : ReportValue
nothing_done = record {
  opened = None;
  steps = 0;
  lines = [];
  unstaged = [];
  removed = [];
  pending = None;
}
