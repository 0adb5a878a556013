use Rattle.bench_model.specs.Regions.{Writes}
use Rattle.std.proofs.Common.{◌≡◌, length}
use Rattle.mem_bench.specs.Regions.{told_region, written}
use Rattle.mem_bench.proofs.RegionLemmas.{in_list}
use Rattle.mem_bench.proofs.flash.MemBenchFlash.write.Goals as goal

pub returns-then-is_struck-clause-writes : goal.returns-then-is_struck-clause-writes
returns-then-is_struck-clause-writes c =
    in_list (λ y x. Writes c.args.at (length c.args.bytes.now) (told_region y) (told_region x)) _ _
    _ _ c.requires.there
    c.index_mut.ensures.value c.write.ensures.writes

pub returns-clause-writes : goal.returns-clause-writes
returns-clause-writes c =
    in_list (λ y x. Writes c.args.at (length c.args.bytes.now) (told_region y) (told_region x)) _ _
    _ _ c.requires.there
    c.index_mut.ensures.value c.write.ensures.writes

pub returns-then-is_struck-clause-kept : goal.returns-then-is_struck-clause-kept
returns-then-is_struck-clause-kept c = λ _.
    in_list (λ y x. x ≡ written c.args.at c.args.bytes.now y) _ _ _ _ c.requires.there
    c.index_mut.ensures.value c.write.ensures.written

pub returns-clause-kept : goal.returns-clause-kept
returns-clause-kept c = λ _.
    in_list (λ y x. x ≡ written c.args.at c.args.bytes.now y) _ _ _ _ c.requires.there
    c.index_mut.ensures.value c.write.ensures.written
