use Rattle.std.proofs.Common.{◌≡◌, length}
use Rattle.bench_model.specs.Files.{is_same_name}
use Rattle.bench_model.proofs.file_names.is_same_name.Given as goal

-- what is left of the names is one name exactly where the names are
abbrev pub invariant-bytes : goal.invariant-bytes
invariant-bytes l = is_same_name l.left l.right ≡ is_same_name l.fn.a l.fn.b

abbrev pub decreases-bytes : goal.decreases-bytes
decreases-bytes l = length l.left
