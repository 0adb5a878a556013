-- The operations of a section, one more each turn.
use Rattle.std.proofs.Common.{◌≡◌, ℕ, ◌+◌, List, [], ◌∷◌, ◌++◌, length, take, drop, Option, Some}
use Rattle.std.proofs.Common.{None, IsSome, refl, sym, ap, subst, ◌∙◌, arith}
use Rattle.std.specs.Option.{option_and_then}
use Rattle.std.proofs.lemmas.List.{take-append-drop, take_all}
use Rattle.dep_code.specs.Building.{Entry, Subtree, entries_behind, entries_after}
use Rattle.dep_code.specs.declared.op.Op.{Op}
use Rattle.dep_code.specs.Operations.{op_bytes, section_bytes}
use Rattle.dep_code.specs.Sections.{ArePlaced, ops_of}
use Rattle.dep_code.specs.Tree.{Tree}
use Rattle.dep_code.specs.Trees.{IsTreeOf, post}
use Rattle.dep_code.proofs.Entries.{after_tree}
use Rattle.dep_code.proofs.Fronts.{bytes_push}
use Rattle.dep_code.proofs.Types.{IsItem, take_item, ops_length}

pub bytes_more : (items : List (ℕ × Op)) (k : ℕ) (item : ℕ × Op) → IsItem items k item
    → section_bytes (take (k + 1) (ops_of items)) ≡ section_bytes (take k (ops_of items))
    ++ op_bytes item.1
bytes_more items k item h = ap section_bytes (take_item items k item h)
    ∙ bytes_push (take k (ops_of items)) item.1

pub all_ops : (items : List (ℕ × Op)) (k : ℕ) → k ≡ length items
    → take k (ops_of items) ≡ ops_of items
all_ops items k e = take_all k (ops_of items) (omega (arith, ops_length items))

-- the entries behind two lists of operations
behind_both : (o : Option (List Entry)) (a b : List Op)
    → ((n : List Entry) → entries_after n (a ++ b) ≡ option_and_then (λ m. entries_after m b)
    (entries_after n a)) → option_and_then (λ n. entries_after n (a ++ b)) o ≡ option_and_then
    (λ m. entries_after m b) (option_and_then (λ n. entries_after n a) o)
behind_both None a b h = refl
behind_both (Some n) a b h = h n

pub entries_append : (a b : List Op) (s : List Entry)
    → entries_after s (a ++ b) ≡ option_and_then (λ n. entries_after n b) (entries_after s a)
entries_append [] b s = refl
entries_append (op ∷ a) b s = behind_both (entries_behind op s) a b (λ n. entries_append a b n)

some_again : {A : Type 0} (o : Option A) → option_and_then (λ x. Some x) o ≡ o
some_again None = refl
some_again (Some x) = refl

pub first_some : {A B : Type 0} (f : A → Option B) (o : Option A) (x : B)
    → option_and_then f o ≡ Some x → IsSome o
first_some f None x e = absurd cc
first_some f (Some y) x e = refl

pub entries_more : (items : List (ℕ × Op)) (k : ℕ) (item : ℕ × Op) (s : List Entry)
    → IsItem items k item → entries_after [] (take k (ops_of items)) ≡ Some s
    → entries_after [] (take (k + 1) (ops_of items)) ≡ entries_behind item.1 s
entries_more items k item s h e =
    ap (entries_after []) (take_item items k item h)
    ∙ entries_append (take k (ops_of items)) (item.1 ∷ []) []
    ∙ ap (option_and_then (λ n. entries_after n (item.1 ∷ []))) e
    ∙ some_again (entries_behind item.1 s)

pub step_stands : (items : List (ℕ × Op)) (k : ℕ) (item : ℕ × Op) (s : List Entry) → ArePlaced items
    → IsItem items k item → entries_after [] (take k (ops_of items)) ≡ Some s
    → IsSome (entries_behind item.1 s)
step_stands items k item s placed h e =
    let ops = ops_of items in
    let whole = after_tree placed.tree ops placed.is_section.reads in
    let parts : option_and_then (λ n. entries_after n (drop (k + 1) ops))
    (entries_after [] (take (k + 1) ops)) ≡ Some (Subtree placed.tree ∷ []) =
    sym (entries_append (take (k + 1) ops) (drop (k + 1) ops) [])
    ∙ ap (entries_after []) (take-append-drop (k + 1) ops) ∙ whole in
    subst IsSome (entries_more items k item s h e) (first_some _ _ _ parts)

pub one_tree_left : (items : List (ℕ × Op)) (k : ℕ) (s : List Entry) (placed : ArePlaced items)
    → k ≡ length items → entries_after [] (take k (ops_of items)) ≡ Some s → s ≡ Subtree placed.tree
    ∷ []
one_tree_left items k s placed all e =
    let whole = after_tree placed.tree (ops_of items) placed.is_section.reads in
    let both : Some s ≡ Some (Subtree placed.tree ∷ []) =
    sym e ∙ ap (entries_after []) (all_ops items k all) ∙ whole in
    cc

pub tree_is : (items : List (ℕ × Op)) (placed : ArePlaced items) (s below : List Entry) (t : Tree)
    → s ≡ Subtree placed.tree ∷ [] → s ≡ Subtree t ∷ below → IsTreeOf t (ops_of items)
tree_is items placed s below t one top =
    let same : placed.tree ≡ t = cc in
    placed.is_section.reads ∙ ap post same
