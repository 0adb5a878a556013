-- The stack of kinds, and the rows of types.
use Rattle.std.proofs.Common.{◌≡◌, ℕ, zero, suc, ◌+◌, ◌-◌, ◌<◌, true, false, not, cond, List, []}
use Rattle.std.proofs.Common.{◌∷◌, ◌++◌, length, get_or, take, Option, Some, None, refl, sym, ap}
use Rattle.std.proofs.Common.{◌∙◌, arith, add-zero, zero-add, below_more}
use Rattle.std.specs.Option.{option_and_then, is_some}
use Rattle.std.proofs.lemmas.List.{take_more, get_or-map, length-append, take_all}
use Rattle.cu_base.specs.Refusals.{first_refusal}
use Rattle.cu_base.proofs.Rows.{no_row_in, row_in}
use Rattle.dep_code.specs.declared.kind.Kind.{Kind}
use Rattle.dep_code.specs.declared.kind.Kind.TheVariants.{Number, Truth}
use Rattle.dep_code.specs.declared.op.Op.{Op}
use Rattle.dep_code.specs.declared.fault.DepWhy.TheVariants.{BadTypes, NotOneBool}
use Rattle.dep_code.specs.Operations.{op_bytes, section_bytes}
use Rattle.dep_code.specs.Refusals.{type_row, type_rows, place_of}
use Rattle.dep_code.specs.Sections.{ops_of, placed}
use Rattle.dep_code.specs.Typing.{without, is_one_truth, leaves_one_truth, stack_behind}
use Rattle.dep_code.specs.Typing.{stack_after, is_typed}

pub no_truth : (stack : List Kind) → without (Truth ∷ []) stack ≡ None
    → false ≡ is_one_truth (Some stack)
no_truth [] e = refl
no_truth (Number ∷ stack) e = refl
no_truth (Truth ∷ stack) e = absurd cc

-- one operation more
some_again : {A : Type 0} (o : Option A) → option_and_then (λ x. Some x) o ≡ o
some_again None = refl
some_again (Some x) = refl

behind_first : (o : Option (List Kind)) (ops : List Op) (op : Op)
    → ((stack : List Kind) → stack_after stack (ops ++ op ∷ []) ≡ option_and_then (stack_behind op)
    (stack_after stack ops)) → option_and_then
    (λ next. stack_after next (ops ++ op ∷ [])) o ≡ option_and_then (stack_behind op)
    (option_and_then (λ next. stack_after next ops) o)
behind_first None ops op h = refl
behind_first (Some stack) ops op h = h stack

pub after_push : (stack : List Kind) (ops : List Op) (op : Op)
    → stack_after stack (ops ++ op ∷ []) ≡ option_and_then (stack_behind op) (stack_after stack ops)
after_push stack [] op = some_again (stack_behind op stack)
after_push stack (x ∷ ops) op =
    behind_first (stack_behind x stack) ops op (λ s. after_push s ops op)

-- the operation of an item
pub record IsItem (items : List (ℕ × Op)) (k : ℕ) (item : ℕ × Op) : Type 0 where
  pub there : k < length items
  pub here : item ≡ get_or items k item

pub ops_length : (items : List (ℕ × Op)) → length (ops_of items) ≡ length items
ops_length [] = refl
ops_length (item ∷ items) = ap suc (ops_length items)

pub take_item : (items : List (ℕ × Op)) (k : ℕ) (item : ℕ × Op) → IsItem items k item
    → take (k + 1) (ops_of items) ≡ take k (ops_of items) ++ item.1 ∷ []
take_item items k item h =
    let long : length (ops_of items) ≡ length items = ops_length items in
    let there : k < length (ops_of items) = omega (arith, h.there) in
    let here : get_or (ops_of items) k item.1 ≡ item.1 =
    get_or-map (λ (p : ℕ × Op). p.1) items k item item.1 h.there
    ∙ ap (λ (p : ℕ × Op). p.1) (sym h.here) in
    take_more (ops_of items) k item.1 there ∙ ap (λ (x : Op). take k (ops_of items) ++ x ∷ []) here

placed_at : (at : ℕ) (ops : List Op) (k : ℕ) (d : ℕ × Op) → k < length ops
    → (get_or (placed at ops) k d).0 ≡ at + length (section_bytes (take k ops))
placed_at at [] k d there = absurd (omega arith)
placed_at at (x ∷ ops) zero d there = sym (add-zero at)
placed_at at (x ∷ ops) (suc k) d there =
    omega (
      arith,
      placed_at (at + length (op_bytes x)) ops k d (omega arith),
      length-append (op_bytes x) (section_bytes (take k ops)),
    )

pub place_is : (items : List (ℕ × Op)) (k : ℕ) (item : ℕ × Op) → items ≡ placed 0 (ops_of items)
    → IsItem items k item → item.0 ≡ place_of (ops_of items) k
place_is items k item places h =
    let long : length (ops_of items) ≡ length items = ops_length items in
    ap (λ (p : ℕ × Op). p.0) (h.here ∙ ap (λ (l : List (ℕ × Op)). get_or l k item) places)
    ∙ placed_at 0 (ops_of items) k item (omega (arith, h.there))
    ∙ zero-add (place_of (ops_of items) k)

pub stack_more : (items : List (ℕ × Op)) (k : ℕ) (item : ℕ × Op) (stack : List Kind)
    (next : Option (List Kind)) → IsItem items k item
    → stack_after [] (take k (ops_of items)) ≡ Some stack → stack_behind item.1 stack ≡ next
    → stack_after [] (take (k + 1) (ops_of items)) ≡ next
stack_more items k item stack next h before step =
    ap (stack_after []) (take_item items k item h) ∙ after_push [] (take k (ops_of items)) item.1
    ∙ ap (option_and_then (stack_behind item.1)) before ∙ step

pub typed_more : (items : List (ℕ × Op)) (k : ℕ) (next : List Kind)
    → stack_after [] (take (k + 1) (ops_of items)) ≡ Some next
    → ((j : ℕ) → j < k → is_typed (take (j + 1) (ops_of items)) ≡ true) → (j : ℕ) → j < k + 1
    → is_typed (take (j + 1) (ops_of items)) ≡ true
typed_more items k next e h = below_more
    (λ (j : ℕ). is_typed (take (j + 1) (ops_of items)) ≡ true) k h (ap is_some e)

-- the answers
pub bad_types : (items : List (ℕ × Op)) (k : ℕ) (item : ℕ × Op) (stack : List Kind)
    → items ≡ placed 0 (ops_of items) → IsItem items k item
    → stack_after [] (take k (ops_of items)) ≡ Some stack → stack_behind item.1 stack ≡ None
    → ((j : ℕ) → j < k → is_typed (take (j + 1) (ops_of items)) ≡ true)
    → first_refusal (type_rows (ops_of items)) ≡ Some (item.0, BadTypes)
bad_types items k item stack places h before step typed =
    let ops = ops_of items in
    let long : length ops ≡ length items = ops_length items in
    let wrong : not (is_typed (take (k + 1) ops)) ≡ true =
    ap (λ (o : Option (List Kind)). not (is_some o))
    (stack_more items k item stack None h before step) in
    row_in (type_row ops) _ 0 (length ops) k (λ j low high. ap not (typed j high)) (omega arith)
    (omega (arith, h.there)) wrong
    ∙ ap (λ (n : ℕ). Some (n, BadTypes)) (sym (place_is items k item places h))

all_typed : (items : List (ℕ × Op)) (k : ℕ) → k ≡ length items
    → ((j : ℕ) → j < k → is_typed (take (j + 1) (ops_of items)) ≡ true)
    → first_refusal (type_rows (ops_of items)) ≡ cond (not (leaves_one_truth (ops_of items)))
    (Some (place_of (ops_of items) (length (ops_of items) - 1), NotOneBool)) None
all_typed items k all typed =
    let ops = ops_of items in
    let long : length ops ≡ length items = ops_length items in
    no_row_in (type_row ops) _ 0 (length ops) (λ j low high. ap not (typed j (omega arith)))

left_is : (items : List (ℕ × Op)) (k : ℕ) (stack : List Kind) → k ≡ length items
    → stack_after [] (take k (ops_of items)) ≡ Some stack
    → leaves_one_truth (ops_of items) ≡ is_one_truth (Some stack)
left_is items k stack all e =
    let long : k ≡ length (ops_of items) = omega (arith, ops_length items) in
    ap (λ (l : List Op). leaves_one_truth l) (sym (take_all k (ops_of items) (omega arith)))
    ∙ ap is_one_truth e

pub not_one_truth : (items : List (ℕ × Op)) (k : ℕ) (last : ℕ × Op) (stack : List Kind)
    → items ≡ placed 0 (ops_of items) → k ≡ length items → IsItem items (length items - 1) last
    → stack_after [] (take k (ops_of items)) ≡ Some stack
    → ((j : ℕ) → j < k → is_typed (take (j + 1) (ops_of items)) ≡ true)
    → is_one_truth (Some stack) ≡ false
    → first_refusal (type_rows (ops_of items)) ≡ Some (last.0, NotOneBool)
not_one_truth items k last stack places all h e typed wrong =
    let ops = ops_of items in
    let long : length ops ≡ length items = ops_length items in
    let not_one : leaves_one_truth ops ≡ false = left_is items k stack all e ∙ wrong in
    let place : place_of ops (length ops - 1) ≡ last.0 =
    ap (λ (n : ℕ). place_of ops (n - 1)) long
    ∙ sym (place_is items (length items - 1) last places h) in
    all_typed items k all typed ∙ rw (not_one, place) refl

pub well_typed : (items : List (ℕ × Op)) (k : ℕ) (stack : List Kind) → k ≡ length items
    → stack_after [] (take k (ops_of items)) ≡ Some stack
    → ((j : ℕ) → j < k → is_typed (take (j + 1) (ops_of items)) ≡ true)
    → is_one_truth (Some stack) ≡ true → first_refusal (type_rows (ops_of items)) ≡ None
well_typed items k stack all e typed right =
    let one : leaves_one_truth (ops_of items) ≡ true = left_is items k stack all e ∙ right in
    all_typed items k all typed ∙ rw one refl
