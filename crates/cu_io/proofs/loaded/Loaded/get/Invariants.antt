use Rattle.std.proofs.Common.{◌≡◌, drop}
use Rattle.cu_io.specs.Named.{bytes_named}
use Rattle.cu_io.proofs.loaded.Loaded.get.Given as goal

-- the name is not among the pairs before
abbrev pub invariant-loop-known : goal.invariant-loop-known
invariant-loop-known l = record {
  rest : bytes_named (drop l.known-index l.known-items) l.name ≡ bytes_named l.self.items l.name;
}
