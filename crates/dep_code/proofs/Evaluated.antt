-- The values on the stack are those of the entries.
use Rattle.std.proofs.Common.{◌≡◌, ℕ, ◌+◌, Bool, true, false, ◌&&◌, ◌||◌, List, [], ◌∷◌, ◌++◌, map}
use Rattle.std.proofs.Common.{length, take, Option, Some, None, IsSome, Result, Ok, Err, IfOk, refl}
use Rattle.std.proofs.Common.{sym, ap, subst, ◌∙◌}
use Rattle.std.specs.List.{list_all}
use Rattle.std.specs.Option.{option_map}
use Rattle.std.proofs.lemmas.List.Folds.{list_all-append, list_all-map}
use Rattle.cu_base.specs.declared.faults.NoMemory.{NoMemory}
use Rattle.cu_base.specs.declared.guid.Guid.{Guid}
use Rattle.dep_code.specs.declared.evaluation.Value.{Value}
use Rattle.dep_code.specs.declared.evaluation.Value.TheVariants.{Number, Truth}
use Rattle.dep_code.specs.declared.op.Op.{Op}
use Rattle.dep_code.specs.declared.op.Op.TheVariants.{PushGuid, PushVersion, VersionStr, And, Or}
use Rattle.dep_code.specs.declared.op.Op.TheVariants.{Not, True, False, Eq, Gt, Gte, Lt, Lte, End}
use Rattle.dep_code.specs.declared.op.Op.TheVariants.{DeclareLength}
use Rattle.dep_code.specs.declared.tree.CompareKind.{CompareKind}
use Rattle.dep_code.specs.declared.tree.CompareKind.TheVariants as kinds
use Rattle.dep_code.specs.declared.tree.Compared.{Compared}
use Rattle.dep_code.specs.declared.tree.Compared.TheVariants as compared
use Rattle.dep_code.specs.Building.{Entry, Operand, Subtree, negated, joined, compared_by}
use Rattle.dep_code.specs.Building.{entries_behind, entries_after}
use Rattle.dep_code.specs.Evaluation.{knows, negated_value, joined_values, compared_values}
use Rattle.dep_code.specs.Evaluation.{values_behind}
use Rattle.dep_code.specs.Operations.{computing}
use Rattle.dep_code.specs.Sections.{ArePlaced, ops_of}
use Rattle.dep_code.specs.Tree as tree
use Rattle.dep_code.specs.Tree.{Tree}
use Rattle.dep_code.specs.Trees.{push, comparison, post, IsTreeOf}
use Rattle.dep_code.specs.Values.{is_known, number_of, knows_all, value, IsAnswerOf}
use Rattle.dep_code.proofs.Loops.{step_stands, entries_more, one_tree_left}
use Rattle.dep_code.proofs.Types.{IsItem}

abbrev pub entry_value : List (Guid × ℕ) → Entry → Value
entry_value versions (Operand c) = Number (number_of versions c)
entry_value versions (Subtree t) = Truth (value versions t)

abbrev pub values_of : List (Guid × ℕ) → List Entry → List Value
values_of versions s = map (entry_value versions) s

joined_value : (versions : List (Guid × ℕ)) (f : Tree → Tree → Tree) (g : Bool → Bool → Bool)
    → ((t u : Tree) → value versions (f t u) ≡ g (value versions t) (value versions u))
    → (s : List Entry) → option_map (values_of versions) (joined f s) ≡ joined_values g
    (values_of versions s)
joined_value versions f g h [] = refl
joined_value versions f g h (Operand c ∷ s) = refl
joined_value versions f g h (Subtree t ∷ []) = refl
joined_value versions f g h (Subtree t ∷ Operand c ∷ s) = refl
joined_value versions f g h (Subtree t ∷ Subtree u ∷ s) =
    ap (λ (b : Bool). Some (Truth b ∷ values_of versions s)) (h t u)

negated_of : (versions : List (Guid × ℕ)) (s : List Entry)
    → option_map (values_of versions) (negated s) ≡ negated_value (values_of versions s)
negated_of versions [] = refl
negated_of versions (Operand c ∷ s) = refl
negated_of versions (Subtree t ∷ s) = refl

compared_value : (versions : List (Guid × ℕ)) (kind : CompareKind) (s : List Entry)
    → option_map (values_of versions) (compared_by kind s) ≡ compared_values kind
    (values_of versions s)
compared_value versions kind [] = refl
compared_value versions kind (Subtree t ∷ s) = refl
compared_value versions kind (Operand c ∷ []) = refl
compared_value versions kind (Operand c ∷ Subtree t ∷ s) = refl
compared_value versions kind (Operand c ∷ Operand d ∷ s) = refl

pub behind_value : (versions : List (Guid × ℕ)) (op : Op) (s : List Entry)
    → option_map (values_of versions) (entries_behind op s) ≡ values_behind versions op
    (values_of versions s)
behind_value versions (PushGuid guid) s = refl
behind_value versions (PushVersion version) s = refl
behind_value versions (VersionStr text) s = refl
behind_value versions And s = joined_value versions tree.And ◌&&◌ (λ t u. refl) s
behind_value versions Or s = joined_value versions tree.Or ◌||◌ (λ t u. refl) s
behind_value versions Not s = negated_of versions s
behind_value versions True s = refl
behind_value versions False s = refl
behind_value versions Eq s = compared_value versions kinds.Eq s
behind_value versions Gt s = compared_value versions kinds.Gt s
behind_value versions Gte s = compared_value versions kinds.Gte s
behind_value versions Lt s = compared_value versions kinds.Lt s
behind_value versions Lte s = compared_value versions kinds.Lte s
behind_value versions End s = refl
behind_value versions (DeclareLength size) s = refl

-- the stack behind operations
pub record AreComputed (versions : List (Guid × ℕ)) (ops : List Op)
    (stack : List Value) : Type 0 where
  pub entries : List Entry
  pub are : entries_after [] ops ≡ Some entries
  pub values : values_of versions entries ≡ stack

map_some : (versions : List (Guid × ℕ)) (o : Option (List Entry)) → IsSome o
    → IsSome (option_map (values_of versions) o)
map_some versions None h = absurd cc
map_some versions (Some s) h = refl

pub computes_on : (versions : List (Guid × ℕ)) (items : List (ℕ × Op)) (k : ℕ) (item : ℕ × Op)
    (stack : List Value) → ArePlaced items → IsItem items k item
    → AreComputed versions (take k (ops_of items)) stack
    → IsSome (values_behind versions item.1 stack)
computes_on versions items k item stack placed h so_far =
    let stands = map_some versions (entries_behind item.1 so_far.entries)
    (step_stands items k item so_far.entries placed h so_far.are) in
    subst (λ (s : List Value). IsSome (values_behind versions item.1 s)) so_far.values
    (subst IsSome (behind_value versions item.1 so_far.entries) stands)

one_more : (versions : List (Guid × ℕ)) (ops : List Op) (o : Option (List Entry)) (new : List Value)
    → entries_after [] ops ≡ o → IsSome o → option_map (values_of versions) o ≡ Some new
    → AreComputed versions ops new
one_more versions ops None new e h v = absurd cc
one_more versions ops (Some s) new e h v =
    let same : values_of versions s ≡ new = cc in
    record { entries = s; are = e; values = same }

pub computed_more : (versions : List (Guid × ℕ)) (items : List (ℕ × Op)) (k : ℕ) (item : ℕ × Op)
    (stack new : List Value) → ArePlaced items → IsItem items k item
    → AreComputed versions (take k (ops_of items)) stack
    → values_behind versions item.1 stack ≡ Some new
    → AreComputed versions (take (k + 1) (ops_of items)) new
computed_more versions items k item stack new placed h so_far e =
    one_more versions (take (k + 1) (ops_of items)) (entries_behind item.1 so_far.entries) new
    (entries_more items k item so_far.entries h so_far.are)
    (step_stands items k item so_far.entries placed h so_far.are)
    (behind_value versions item.1 so_far.entries ∙ ap (values_behind versions item.1) so_far.values
    ∙ e)

pub all_computed : (versions : List (Guid × ℕ)) (items : List (ℕ × Op)) (k : ℕ) (stack : List Value)
    (placed : ArePlaced items) → k ≡ length items
    → AreComputed versions (take k (ops_of items)) stack
    → stack ≡ Truth (value versions placed.tree) ∷ []
all_computed versions items k stack placed all so_far =
    sym so_far.values ∙ ap (values_of versions)
    (one_tree_left items k so_far.entries placed all so_far.are)

-- the GUIDs that the operations name are those of the tree
knows_first : (versions : List (Guid × ℕ)) (op : Op) (ops : List Op)
    → list_all (knows versions) ops ≡ list_all (knows versions) (computing ops)
    → list_all (knows versions) (op ∷ ops) ≡ list_all (knows versions) (computing (op ∷ ops))
knows_first versions (VersionStr text) ops h = h
knows_first versions End ops h = h
knows_first versions (DeclareLength size) ops h = h
knows_first versions (PushGuid guid) ops h =
    ap (λ (b : Bool). knows versions (PushGuid guid) && b) h
knows_first versions (PushVersion version) ops h = h
knows_first versions And ops h = h
knows_first versions Or ops h = h
knows_first versions Not ops h = h
knows_first versions True ops h = h
knows_first versions False ops h = h
knows_first versions Eq ops h = h
knows_first versions Gt ops h = h
knows_first versions Gte ops h = h
knows_first versions Lt ops h = h
knows_first versions Lte ops h = h

knows_computing : (versions : List (Guid × ℕ)) (ops : List Op)
    → list_all (knows versions) ops ≡ list_all (knows versions) (computing ops)
knows_computing versions [] = refl
knows_computing versions (op ∷ ops) = knows_first versions op ops (knows_computing versions ops)

knows_push : (versions : List (Guid × ℕ)) (c : Compared)
    → knows versions (push c) ≡ is_known versions c
knows_push versions (compared.Version version) = refl
knows_push versions (compared.Guid guid) = refl

knows_comparison : (versions : List (Guid × ℕ)) (kind : CompareKind)
    → knows versions (comparison kind) ≡ true
knows_comparison versions kinds.Eq = refl
knows_comparison versions kinds.Gt = refl
knows_comparison versions kinds.Gte = refl
knows_comparison versions kinds.Lt = refl
knows_comparison versions kinds.Lte = refl

exchanged : (a b : Bool) → ((a && b) && true) ≡ (b && a)
exchanged true true = refl
exchanged true false = refl
exchanged false true = refl
exchanged false false = refl

three : (a b c : Bool) → c ≡ true → (a && (b && (c && true))) ≡ (b && a)
three true true c e = ap (λ (x : Bool). x && true) e
three true false c e = refl
three false true c e = refl
three false false c e = refl

alone : (a : Bool) → (a && true) ≡ a
alone true = refl
alone false = refl

both_known : (versions : List (Guid × ℕ)) (a b : List Op) (op : Op) (x y : Bool)
    → knows versions op ≡ true → list_all (knows versions) a ≡ x → list_all (knows versions) b ≡ y
    → list_all (knows versions) (a ++ b ++ op ∷ []) ≡ (y && x)
both_known versions a b op x y e ha hb =
    list_all-append (knows versions) (a ++ b) (op ∷ [])
    ∙ ap (λ (z : Bool). z && (knows versions op && true)) (list_all-append (knows versions) a b)
    ∙ rw (ha, hb, e) (exchanged x y)

knows_post : (versions : List (Guid × ℕ)) (t : Tree)
    → list_all (knows versions) (post t) ≡ knows_all versions t
knows_post versions tree.True = refl
knows_post versions tree.False = refl
knows_post versions (tree.Not t) =
    list_all-append (knows versions) (post t) (Not ∷ [])
    ∙ alone (list_all (knows versions) (post t)) ∙ knows_post versions t
knows_post versions (tree.And left right) =
    both_known versions (post right) (post left) And (knows_all versions right)
    (knows_all versions left) refl (knows_post versions right) (knows_post versions left)
knows_post versions (tree.Or left right) =
    both_known versions (post right) (post left) Or (knows_all versions right)
    (knows_all versions left) refl (knows_post versions right) (knows_post versions left)
knows_post versions (tree.Compare kind left right) =
    three (knows versions (push right)) (knows versions (push left))
    (knows versions (comparison kind)) (knows_comparison versions kind)
    ∙ rw (knows_push versions left, knows_push versions right) refl

pub known_is : (versions : List (Guid × ℕ)) (items : List (ℕ × Op)) (t : Tree)
    → IsTreeOf t (ops_of items)
    → list_all (λ item. knows versions item.1) items ≡ knows_all versions t
known_is versions items t e = sym (list_all-map (knows versions) (λ (item : ℕ × Op). item.1) items)
    ∙ knows_computing versions (ops_of items) ∙ ap (list_all (knows versions)) e
    ∙ knows_post versions t

-- the answers
pub unknown : (versions : List (Guid × ℕ)) (items : List (ℕ × Op)) → ArePlaced items
    → list_all (λ item. knows versions item.1) items ≡ false
    → IsAnswerOf (ops_of items) versions false
unknown versions items placed e =
    let missing : knows_all versions placed.tree ≡ false =
    sym (known_is versions items placed.tree placed.is_section.reads) ∙ e in
    record { tree = placed.tree; is_tree = placed.is_section.reads; value = rw missing refl }

pub answered : (versions : List (Guid × ℕ)) (items : List (ℕ × Op)) (t : Tree) (answer : Bool)
    → list_all (λ item. knows versions item.1) items ≡ true → IsTreeOf t (ops_of items)
    → answer ≡ value versions t → IsAnswerOf (ops_of items) versions answer
answered versions items t answer e is v =
    let all : knows_all versions t ≡ true = sym (known_is versions items t is) ∙ e in
    record { tree = t; is_tree = is; value = rw all v }

-- an answer that is the value of a tree of the operations
pub answer_is : (versions : List (Guid × ℕ)) (items : List (ℕ × Op)) (result : Result Bool NoMemory)
    → list_all (λ item. knows versions item.1) items ≡ true
    → IfOk result
    (λ truth. (tree : Tree) × IsTreeOf tree (ops_of items) × (truth ≡ value versions tree))
    → IfOk result (λ answer. IsAnswerOf (ops_of items) versions answer)
answer_is versions items (Ok truth) e found =
    answered versions items found.0 truth e found.1 found.2
answer_is versions items (Err none) e found = tt

pub top_is : (stack below : List Value) (a b : Bool) → stack ≡ Truth a ∷ [] → stack ≡ Truth b
    ∷ below → b ≡ a
top_is stack below a b one top = cc
