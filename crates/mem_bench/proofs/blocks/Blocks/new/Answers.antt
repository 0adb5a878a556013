use Rattle.std.proofs.Common.{◌≡◌, ℕ, List, replicate, ap, ◌∙◌}
use Rattle.mem_bench.specs.Regions.{RoomValue}
use Rattle.mem_bench.specs.Tables.{seen_through}
use Rattle.mem_bench.proofs.SeenLemmas.{blank_seen}
use Rattle.mem_bench.proofs.blocks.Blocks.new.Goals as goal

pub returns-clause-blank : goal.returns-clause-blank
returns-clause-blank c = λ size.
    let table : c.in_ok-blank_table.field-0.items ≡ replicate c.args.blocks 0 =
    c.in_ok-blank_table.ensures in
    ap (λ (t : List ℕ). seen_through size t c.in_ok-new.field-0.kept) table
    ∙ ap (λ (r : RoomValue). seen_through size (replicate c.args.blocks 0) r.kept)
    c.in_ok-new.ensures
    ∙ blank_seen size c.args.blocks
