use Rattle.std.proofs.Common.{◌≡◌, ◌+◌, ◌++◌, length, take}
use Rattle.std.specs.List.{concat, flat_map}
use Rattle.cu_base.specs.Fields.{bytes_of}
use Rattle.capsule_grammar.specs.Spelling.{item_bytes, offsets, first_place}
use Rattle.capsule_grammar.proofs.encoding.put_offsets.Given as goal

abbrev pub invariant-loop-k : goal.invariant-loop-k
invariant-loop-k l = record {
  here : l.here ≡ first_place l.body + length (concat (take l.k (item_bytes l.body)));
  so_far : l.out ≡ l.initial.out
      ++ flat_map (bytes_of 8) (offsets (first_place l.body) (take l.k (item_bytes l.body)));
}
