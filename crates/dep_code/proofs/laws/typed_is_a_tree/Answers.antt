use Rattle.dep_code.proofs.Entries.{tree_stands}
use Rattle.dep_code.proofs.LawLemmas.{tree_typed}
use Rattle.dep_code.proofs.laws.typed_is_a_tree.Goals as goal

pub returns-clause-tree : goal.returns-clause-tree
returns-clause-tree c = tree_stands

pub returns-clause-typed : goal.returns-clause-typed
returns-clause-typed c = tree_typed
