use Rattle.std.proofs.Common.{◌≤◌}
use Rattle.capsule_grammar.specs.Refusals.{start_of}
use Rattle.capsule_grammar.specs.Refusals.{driver_count}
use Rattle.capsule_tool.proofs.ImageLaws.{HasScanned}
use Rattle.capsule_tool.proofs.scan.body.scan_images.Given as goal

-- the images before the k-th were scanned, and what came ends before it
abbrev pub invariant-loop-k : goal.invariant-loop-k
invariant-loop-k g l = record {
  scanned : HasScanned l.front l.size l.at (driver_count l.front) l.k l.here l.fn.stream l.stream;
  near : l.here ≤ start_of l.front l.size l.k;
  within : l.here ≤ l.size;
}
