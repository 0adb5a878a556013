-- Stacks of operands and trees: what the operations of a section build.
use Rattle.std.proofs.Common.{◌≡◌, true, List, [], ◌∷◌, ◌++◌, map, Option, Some, None, refl, sym}
use Rattle.std.proofs.Common.{ap, ◌∙◌, append_assoc}
use Rattle.std.specs.Option.{option_and_then, option_map, IfSome}
use Rattle.std.proofs.lemmas.List.{append-nil}
use Rattle.std.proofs.lemmas.List.Elements.{filter-append}
use Rattle.dep_code.specs.declared.kind.Kind.{Kind}
use Rattle.dep_code.specs.declared.kind.Kind.TheVariants.{Number, Truth}
use Rattle.dep_code.specs.declared.op.Op.{Op}
use Rattle.dep_code.specs.declared.op.Op.TheVariants.{PushGuid, PushVersion, VersionStr, And, Or}
use Rattle.dep_code.specs.declared.op.Op.TheVariants.{Not, True, False, Eq, Gt, Gte, Lt, Lte, End}
use Rattle.dep_code.specs.declared.op.Op.TheVariants.{DeclareLength}
use Rattle.dep_code.specs.declared.tree.CompareKind.{CompareKind}
use Rattle.dep_code.specs.declared.tree.CompareKind.TheVariants as kinds
use Rattle.dep_code.specs.declared.tree.Compared.{Compared}
use Rattle.dep_code.specs.declared.tree.Compared.TheVariants as compared
use Rattle.dep_code.specs.Operations.{computes, computing}
use Rattle.dep_code.specs.Tree as tree
use Rattle.dep_code.specs.Tree.{Tree}
use Rattle.dep_code.specs.Trees.{push, comparison, post, IsTreeOf}
use Rattle.dep_code.specs.Building.{Entry, Operand, Subtree, negated, joined, compared_by}
use Rattle.dep_code.specs.Building.{entries_behind, entries_after}
use Rattle.dep_code.specs.Typing.{stack_behind, stack_after, is_one_truth}

-- the kind of an entry
abbrev pub kind_of : Entry → Kind
kind_of (Operand c) = Number
kind_of (Subtree t) = Truth

abbrev pub kinds_of : List Entry → List Kind
kinds_of = map kind_of

-- the operations of an entry, and of all, the top last
abbrev pub post_of : Entry → List Op
post_of (Operand c) = push c ∷ []
post_of (Subtree t) = post t

abbrev pub posts : List Entry → List Op
posts [] = []
posts (e ∷ s) = posts s ++ post_of e

-- the kinds of the entries are those on the stack of kinds
joined_kinds : (f : Tree → Tree → Tree) (s : List Entry)
    → option_map kinds_of (joined f s) ≡ stack_behind And (kinds_of s)
joined_kinds f [] = refl
joined_kinds f (Operand c ∷ s) = refl
joined_kinds f (Subtree t ∷ []) = refl
joined_kinds f (Subtree t ∷ Operand c ∷ s) = refl
joined_kinds f (Subtree t ∷ Subtree u ∷ s) = refl

negated_kinds : (s : List Entry) → option_map kinds_of (negated s) ≡ stack_behind Not (kinds_of s)
negated_kinds [] = refl
negated_kinds (Operand c ∷ s) = refl
negated_kinds (Subtree t ∷ s) = refl

compared_kinds : (kind : CompareKind) (s : List Entry)
    → option_map kinds_of (compared_by kind s) ≡ stack_behind Eq (kinds_of s)
compared_kinds kind [] = refl
compared_kinds kind (Subtree t ∷ s) = refl
compared_kinds kind (Operand c ∷ []) = refl
compared_kinds kind (Operand c ∷ Subtree t ∷ s) = refl
compared_kinds kind (Operand c ∷ Operand d ∷ s) = refl

behind_kinds : (op : Op) (s : List Entry)
    → option_map kinds_of (entries_behind op s) ≡ stack_behind op (kinds_of s)
behind_kinds (PushGuid guid) s = refl
behind_kinds (PushVersion version) s = refl
behind_kinds (VersionStr text) s = refl
behind_kinds And s = joined_kinds tree.And s
behind_kinds Or s = joined_kinds tree.Or s
behind_kinds Not s = negated_kinds s
behind_kinds True s = refl
behind_kinds False s = refl
behind_kinds Eq s = compared_kinds kinds.Eq s
behind_kinds Gt s = compared_kinds kinds.Gt s
behind_kinds Gte s = compared_kinds kinds.Gte s
behind_kinds Lt s = compared_kinds kinds.Lt s
behind_kinds Lte s = compared_kinds kinds.Lte s
behind_kinds End s = refl
behind_kinds (DeclareLength size) s = refl

kinds_step : (o : Option (List Entry)) (k : Option (List Kind)) (ops : List Op)
    → option_map kinds_of o ≡ k
    → ((n : List Entry) → option_map kinds_of (entries_after n ops) ≡ stack_after (kinds_of n) ops)
    → option_map kinds_of (option_and_then (λ next. entries_after next ops) o) ≡ option_and_then
    (λ next. stack_after next ops) k
kinds_step None k ops e h = ap (option_and_then (λ next. stack_after next ops)) e
kinds_step (Some n) k ops e h = h n ∙ ap (option_and_then (λ next. stack_after next ops)) e

pub after_kinds : (ops : List Op) (s : List Entry)
    → option_map kinds_of (entries_after s ops) ≡ stack_after (kinds_of s) ops
after_kinds [] s = refl
after_kinds (op ∷ ops) s = kinds_step (entries_behind op s) (stack_behind op (kinds_of s)) ops
    (behind_kinds op s) (λ n. after_kinds ops n)

-- the operations of the entries are those that computed them
weaker : {A : Type 0} (P Q : A → Type 0) (o : Option A) → ((x : A) → P x → Q x) → IfSome o P
    → IfSome o Q
weaker P Q None h p = tt
weaker P Q (Some x) h p = h x p

joined_posts : (f : Tree → Tree → Tree) (op : Op)
    → ((t u : Tree) → post (f t u) ≡ post u ++ post t ++ op ∷ []) → (s : List Entry)
    → IfSome (joined f s) (λ t. posts t ≡ posts s ++ op ∷ [])
joined_posts f op h [] = tt
joined_posts f op h (Operand c ∷ s) = tt
joined_posts f op h (Subtree t ∷ []) = tt
joined_posts f op h (Subtree t ∷ Operand c ∷ s) = tt
joined_posts f op h (Subtree t ∷ Subtree u ∷ s) =
    ap (λ (l : List Op). posts s ++ l) (h t u) ∙ simp append_assoc

negated_posts : (s : List Entry) → IfSome (negated s) (λ t. posts t ≡ posts s ++ Not ∷ [])
negated_posts [] = tt
negated_posts (Operand c ∷ s) = tt
negated_posts (Subtree t ∷ s) = simp append_assoc

compared_posts : (kind : CompareKind) (s : List Entry)
    → IfSome (compared_by kind s) (λ t. posts t ≡ posts s ++ comparison kind ∷ [])
compared_posts kind [] = tt
compared_posts kind (Subtree t ∷ s) = tt
compared_posts kind (Operand c ∷ []) = tt
compared_posts kind (Operand c ∷ Subtree t ∷ s) = tt
compared_posts kind (Operand c ∷ Operand d ∷ s) = simp append_assoc

behind_posts : (op : Op) (s : List Entry)
    → IfSome (entries_behind op s) (λ t. posts t ≡ posts s ++ computing (op ∷ []))
behind_posts (PushGuid guid) s = refl
behind_posts (PushVersion version) s = refl
behind_posts (VersionStr text) s = sym (append-nil (posts s))
behind_posts And s = joined_posts tree.And And (λ t u. refl) s
behind_posts Or s = joined_posts tree.Or Or (λ t u. refl) s
behind_posts Not s = negated_posts s
behind_posts True s = refl
behind_posts False s = refl
behind_posts Eq s = compared_posts kinds.Eq s
behind_posts Gt s = compared_posts kinds.Gt s
behind_posts Gte s = compared_posts kinds.Gte s
behind_posts Lt s = compared_posts kinds.Lt s
behind_posts Lte s = compared_posts kinds.Lte s
behind_posts End s = sym (append-nil (posts s))
behind_posts (DeclareLength size) s = sym (append-nil (posts s))

computing_more : (op : Op) (ops : List Op) → computing (op ∷ [])
    ++ computing ops ≡ computing (op ∷ ops)
computing_more op ops = sym (filter-append computes (op ∷ []) ops)

posts_step : (o : Option (List Entry)) (s : List Entry) (op : Op) (ops : List Op)
    → IfSome o (λ n. posts n ≡ posts s ++ computing (op ∷ []))
    → ((n : List Entry) → IfSome (entries_after n ops) (λ t. posts t ≡ posts n ++ computing ops))
    → IfSome (option_and_then (λ next. entries_after next ops) o)
    (λ t. posts t ≡ posts s ++ computing (op ∷ ops))
posts_step None s op ops e h = tt
posts_step (Some n) s op ops e h =
    weaker (λ t. posts t ≡ posts n ++ computing ops)
    (λ t. posts t ≡ posts s ++ computing (op ∷ ops)) (entries_after n ops)
    (λ t p. p ∙ ap (λ (l : List Op). l ++ computing ops) e
    ∙ append_assoc (posts s) (computing (op ∷ [])) (computing ops)
    ∙ ap (λ (l : List Op). posts s ++ l) (computing_more op ops)) (h n)

pub after_posts : (ops : List Op) (s : List Entry)
    → IfSome (entries_after s ops) (λ t. posts t ≡ posts s ++ computing ops)
after_posts [] s = sym (append-nil (posts s))
after_posts (op ∷ ops) s = posts_step (entries_behind op s) s op ops (behind_posts op s)
    (λ n. after_posts ops n)

-- a stack of one truth value is one tree
one_entry : (s : List Entry) → is_one_truth (Some (kinds_of s)) ≡ true → (t : Tree)
    × (s ≡ Subtree t ∷ [])
one_entry [] e = absurd cc
one_entry (Operand c ∷ s) e = absurd cc
one_entry (Subtree t ∷ []) e = (t, refl)
one_entry (Subtree t ∷ u ∷ s) e = absurd cc

tree_in : (o : Option (List Entry)) (ops : List Op) (k : Option (List Kind))
    → option_map kinds_of o ≡ k → is_one_truth k ≡ true
    → IfSome o (λ t. posts t ≡ [] ++ computing ops) → (t : Tree) × IsTreeOf t ops
tree_in None ops k e one h = absurd (cc (ap is_one_truth e))
tree_in (Some s) ops k e one h =
    let found = one_entry s (ap is_one_truth e ∙ one) in
    (found.0, sym h ∙ ap posts found.1)

pub tree_stands : (ops : List Op) → is_one_truth (stack_after [] ops) ≡ true → (t : Tree)
    × IsTreeOf t ops
tree_stands ops one = tree_in (entries_after [] ops) ops (stack_after [] ops)
    (after_kinds ops []) one (after_posts ops [])

-- the entries behind the operations of a tree
next_same : (a b : List Op) (o : Option (List Entry))
    → ((n : List Entry) → entries_after n a ≡ entries_after n b)
    → option_and_then (λ n. entries_after n a) o ≡ option_and_then (λ n. entries_after n b) o
next_same a b None h = refl
next_same a b (Some n) h = h n

computing_first : (op : Op) (ops : List Op) (s : List Entry)
    → ((n : List Entry) → entries_after n ops ≡ entries_after n (computing ops))
    → entries_after s (op ∷ ops) ≡ entries_after s (computing (op ∷ ops))
computing_first (VersionStr text) ops s h = h s
computing_first End ops s h = h s
computing_first (DeclareLength size) ops s h = h s
computing_first (PushGuid guid) ops s h =
    next_same ops (computing ops) (entries_behind (PushGuid guid) s) h
computing_first (PushVersion version) ops s h =
    next_same ops (computing ops) (entries_behind (PushVersion version) s) h
computing_first And ops s h = next_same ops (computing ops) (entries_behind And s) h
computing_first Or ops s h = next_same ops (computing ops) (entries_behind Or s) h
computing_first Not ops s h = next_same ops (computing ops) (entries_behind Not s) h
computing_first True ops s h = next_same ops (computing ops) (entries_behind True s) h
computing_first False ops s h = next_same ops (computing ops) (entries_behind False s) h
computing_first Eq ops s h = next_same ops (computing ops) (entries_behind Eq s) h
computing_first Gt ops s h = next_same ops (computing ops) (entries_behind Gt s) h
computing_first Gte ops s h = next_same ops (computing ops) (entries_behind Gte s) h
computing_first Lt ops s h = next_same ops (computing ops) (entries_behind Lt s) h
computing_first Lte ops s h = next_same ops (computing ops) (entries_behind Lte s) h

pub after_computing : (ops : List Op) (s : List Entry)
    → entries_after s ops ≡ entries_after s (computing ops)
after_computing [] s = refl
after_computing (op ∷ ops) s = computing_first op ops s (λ n. after_computing ops n)

push_entry : (c : Compared) (s : List Entry) → entries_behind (push c) s ≡ Some (Operand c ∷ s)
push_entry (compared.Version version) s = refl
push_entry (compared.Guid guid) s = refl

comparison_entry : (kind : CompareKind) (s : List Entry)
    → entries_behind (comparison kind) s ≡ compared_by kind s
comparison_entry kinds.Eq s = refl
comparison_entry kinds.Gt s = refl
comparison_entry kinds.Gte s = refl
comparison_entry kinds.Lt s = refl
comparison_entry kinds.Lte s = refl

after_comparison : (kind : CompareKind) (left right : Compared) (ops : List Op) (s : List Entry)
    → entries_after s (push right ∷ push left ∷ comparison kind ∷ ops) ≡ entries_after
    (Subtree (tree.Compare kind left right) ∷ s) ops
after_comparison kind left right ops s =
    ap (option_and_then (λ n. entries_after n (push left ∷ comparison kind ∷ ops)))
    (push_entry right s)
    ∙ ap (option_and_then (λ n. entries_after n (comparison kind ∷ ops)))
    (push_entry left (Operand right ∷ s))
    ∙ ap (option_and_then (λ n. entries_after n ops))
    (comparison_entry kind (Operand left ∷ Operand right ∷ s))

pub after_post : (t : Tree) (ops : List Op) (s : List Entry)
    → entries_after s (post t ++ ops) ≡ entries_after (Subtree t ∷ s) ops
after_post tree.True ops s = refl
after_post tree.False ops s = refl
after_post (tree.Not t) ops s =
    ap (entries_after s) (append_assoc (post t) (Not ∷ []) ops) ∙ after_post t (Not ∷ ops) s
after_post (tree.And left right) ops s =
    ap (entries_after s)
    (append_assoc (post right ++ post left) (And ∷ []) ops
    ∙ append_assoc (post right) (post left) (And ∷ ops))
    ∙ after_post right (post left ++ And ∷ ops) s ∙ after_post left (And ∷ ops) (Subtree right ∷ s)
after_post (tree.Or left right) ops s =
    ap (entries_after s)
    (append_assoc (post right ++ post left) (Or ∷ []) ops
    ∙ append_assoc (post right) (post left) (Or ∷ ops))
    ∙ after_post right (post left ++ Or ∷ ops) s ∙ after_post left (Or ∷ ops) (Subtree right ∷ s)
after_post (tree.Compare kind left right) ops s = after_comparison kind left right ops s

pub after_tree : (t : Tree) (ops : List Op) → IsTreeOf t ops
    → entries_after [] ops ≡ Some (Subtree t ∷ [])
after_tree t ops e = after_computing ops [] ∙ ap (entries_after []) (e ∙ sym (append-nil (post t)))
    ∙ after_post t [] []
