use Rattle.std.proofs.Common.{◌≡◌, ◌≤◌, take}
use Rattle.std.specs.Prelude.{bytes_eq}
use Rattle.cu_io.specs.Seen.{Follows}
use Rattle.reference_machine.specs.Laws.{Distinct}
use Rattle.capsule_tool.specs.Plays.{AreNamed, AreThinOn, input_work}
use Rattle.capsule_tool.specs.declared.limits.TheConstants.{MAX_NAMED_BYTES}
use Rattle.capsule_tool.proofs.ComingLaws.{HasCome}
use Rattle.capsule_tool.proofs.play.inputs.take_inputs.Given as goal

-- the inputs before this one are loaded and thin, and the work has come to the others
abbrev pub invariant-loop-name : goal.invariant-loop-name
invariant-loop-name g l = record {
  comes : HasCome (input_work l.fn.board) (g.I.Inputs.seen l.fn.inputs).named l.fn.names
      (g.I.Inputs.seen l.fn.inputs) l.loaded.items l.sum l.name-index (g.I.Inputs.seen l.inputs);
  loaded : AreNamed (take l.name-index l.fn.names) l.loaded.items;
  thin : AreThinOn l.fn.board l.loaded.items;
  small : l.sum ≤ MAX_NAMED_BYTES;
  distinct : Distinct bytes_eq l.fn.names;
  follows : Follows (g.I.Inputs.seen l.fn.inputs) (g.I.Inputs.seen l.inputs);
}
