-- Sections and refusals, against each other.
use Rattle.std.proofs.Common.{◌≡◌, ℕ, ◌+◌, ◌≤◌, inl, inr, true, not, List, [], ◌∷◌, ◌++◌, length}
use Rattle.std.proofs.Common.{take, drop, Option, Some, None, IsSome, Result, Ok, Err, IfOk, IfErr}
use Rattle.std.proofs.Common.{refl, sym, ap, ◌∙◌, arith, append_assoc, zero-add}
use Rattle.std.specs.Option.{option_and_then, option_map, is_some}
use Rattle.std.proofs.lemmas.List.{length-take, take-append-drop}
use Rattle.cu_base.specs.Refusals.{first_refusal}
use Rattle.dep_code.specs.declared.limits.TheConstants.{MAX_SECTION_BYTES}
use Rattle.dep_code.specs.declared.op.Op.{Op}
use Rattle.dep_code.specs.declared.op.Op.TheVariants.{End}
use Rattle.dep_code.specs.declared.fault.DepRefusal.{DepRefusal}
use Rattle.dep_code.specs.declared.fault.DepRefusal.TheVariants.{Dep, Memory}
use Rattle.dep_code.specs.declared.fault.DepWhy.{DepWhy}
use Rattle.dep_code.specs.Building.{Entry, Subtree, entries_after}
use Rattle.dep_code.specs.Operations.{op_bytes, section_bytes}
use Rattle.dep_code.specs.Refusals.{place_rows, type_row, type_rows, section_rows, BreaksOff}
use Rattle.dep_code.specs.Refusals.{EndsWrong, IsRefused, IsRefusalOf, IsFound}
use Rattle.dep_code.specs.Sections.{IsSection, AreBeforeEnd, StandsAtFront, ops_of, placed}
use Rattle.dep_code.specs.Tree.{Tree}
use Rattle.dep_code.specs.Trees.{IsTreeOf}
use Rattle.dep_code.specs.Typing.{is_one_truth, is_typed, leaves_one_truth}
use Rattle.dep_code.proofs.Apart.{keeps_rows}
use Rattle.dep_code.proofs.Entries.{after_tree, after_kinds, kinds_of}
use Rattle.dep_code.proofs.Fronts.{bytes_push, length_more}
use Rattle.dep_code.proofs.Loops.{entries_append, first_some}
use Rattle.dep_code.proofs.Same.{same_front, from_start, row_stops, end_stops}
use Rattle.cu_base.proofs.Rows.{no_row_in}

abbrev pub told : ℕ → DepWhy → Option (ℕ × DepWhy)
told at why = Some (at, why)

-- bytes that begin with operations and END, within the limit
pub record HasEnd (bytes : List ℕ) (before : List Op) (rest : List ℕ) : Type 0 where
  pub kept : AreBeforeEnd before
  pub within : length (section_bytes (before ++ End ∷ [])) ≤ MAX_SECTION_BYTES
  pub whole : bytes ≡ section_bytes before ++ (op_bytes End ++ rest)

before_end : (before : List Op) → length (section_bytes (before ++ End ∷ [])) ≤ MAX_SECTION_BYTES
    → length (section_bytes before) + 1 ≤ MAX_SECTION_BYTES
before_end before h = omega (arith, length_more before End)

pub section_end : (bytes rest : List ℕ) (ops : List Op) (t : Tree) (h : IsSection bytes ops t)
    → HasEnd (bytes ++ rest) h.before rest
section_end bytes rest ops t h =
    let e : bytes ≡ section_bytes (h.before ++ End ∷ []) = h.spelled ∙ ap section_bytes h.whole in
    record {
      kept = h.kept;
      within = omega (arith, ap length e, h.limit);
      whole = ap (λ (l : List ℕ). l ++ rest) (e ∙ bytes_push h.before End)
          ∙ append_assoc (section_bytes h.before) (op_bytes End) rest;
    }

pub wrong_end : (bytes : List ℕ) (at : ℕ) (why : DepWhy) (h : EndsWrong bytes at why)
    → HasEnd bytes h.before h.rest
wrong_end bytes at why h = record { kept = h.front.kept; within = h.within; whole = h.front.whole }

-- two ENDs are one
pub same_end : (bytes : List ℕ) (a b : List Op) (r s : List ℕ) → HasEnd bytes a r → HasEnd bytes b s
    → a ≡ b
same_end bytes a b r s ha hb =
    (same_front a b (op_bytes End ++ r) (op_bytes End ++ s) 0
    (from_start a ha.kept (omega (arith, before_end a ha.within)))
    (from_start b hb.kept (omega (arith, before_end b hb.within)))
    (sym ha.whole ∙ hb.whole) (end_stops r _) (end_stops s _)).0

-- an END and a row that holds are not both there
pub end_or_row : (bytes : List ℕ) (at : ℕ) (why : DepWhy) (b : List Op) (s : List ℕ)
    → BreaksOff bytes at why → HasEnd bytes b s → ⊥
end_or_row bytes at why b s ha hb =
    let same = same_front ha.ops b ha.rest (op_bytes End ++ s) 0
    (from_start ha.ops ha.front.kept ha.front.within)
    (from_start b hb.kept (omega (arith, before_end b hb.within)))
    (sym ha.front.whole ∙ hb.whole)
    (row_stops ha.rest _ (at, why)
    (ap (λ (n : ℕ). first_refusal (place_rows ha.rest n)) (zero-add (length (section_bytes ha.ops)))
    ∙ ha.refused))
    (end_stops s _) in
    let none : first_refusal (place_rows ha.rest (length (section_bytes ha.ops))) ≡ None =
    ap (λ (l : List ℕ). first_refusal (place_rows l (length (section_bytes ha.ops)))) same.1
    ∙ ap (λ (l : List Op). first_refusal
    (place_rows (op_bytes End ++ s) (length (section_bytes l)))) same.0
    ∙ keeps_rows End s (length (section_bytes b)) tt (before_end b hb.within) (λ some. refl) in
    let both : told at why ≡ None = sym ha.refused ∙ none in
    cc

-- two rows that hold are one
pub same_row : (bytes : List ℕ) (at here : ℕ) (why cause : DepWhy) → BreaksOff bytes at why
    → BreaksOff bytes here cause → told at why ≡ told here cause
same_row bytes at here why cause ha hb =
    let same = same_front ha.ops hb.ops ha.rest hb.rest 0
    (from_start ha.ops ha.front.kept ha.front.within)
    (from_start hb.ops hb.front.kept hb.front.within)
    (sym ha.front.whole ∙ hb.front.whole)
    (row_stops ha.rest _ (at, why)
    (ap (λ (n : ℕ). first_refusal (place_rows ha.rest n)) (zero-add (length (section_bytes ha.ops)))
    ∙ ha.refused))
    (row_stops hb.rest _ (here, cause)
    (ap (λ (n : ℕ). first_refusal (place_rows hb.rest n)) (zero-add (length (section_bytes hb.ops)))
    ∙ hb.refused)) in
    sym ha.refused ∙ ap
    (λ (l : List ℕ). first_refusal (place_rows l (length (section_bytes ha.ops)))) same.1
    ∙ ap (λ (l : List Op). first_refusal (place_rows hb.rest (length (section_bytes l)))) same.0
    ∙ hb.refused

-- no row holds of a section
some_kinds : (o : Option (List Entry)) → IsSome o → is_some (option_map kinds_of o) ≡ true
some_kinds None h = absurd cc
some_kinds (Some s) h = refl

front_typed : (ops : List Op) (t : Tree) (k : ℕ) → entries_after [] ops ≡ Some (Subtree t ∷ [])
    → is_typed (take k ops) ≡ true
front_typed ops t k e =
    let parts : option_and_then (λ n. entries_after n (drop k ops))
    (entries_after [] (take k ops)) ≡ Some (Subtree t ∷ []) =
    sym (entries_append (take k ops) (drop k ops) [])
    ∙ ap (entries_after []) (take-append-drop k ops) ∙ e in
    ap is_some (sym (after_kinds (take k ops) []))
    ∙ some_kinds (entries_after [] (take k ops)) (first_some _ _ _ parts)

pub tree_typed : (ops : List Op) (t : Tree) → IsTreeOf t ops → leaves_one_truth ops ≡ true
tree_typed ops t e = ap is_one_truth
    (sym (after_kinds ops []) ∙ ap (option_map kinds_of) (after_tree t ops e))

pub one_tree_lemma : (ops : List Op) (tree other : Tree) → IsTreeOf tree ops → IsTreeOf other ops
    → tree ≡ other
one_tree_lemma ops tree other ha hb =
    let trees : Some (Subtree tree ∷ []) ≡ Some (Subtree other ∷ []) =
    sym (after_tree tree ops ha) ∙ after_tree other ops hb in
    cc

pub section_keeps : (bytes : List ℕ) (ops : List Op) (t : Tree) → IsSection bytes ops t
    → first_refusal (section_rows ops) ≡ None
section_keeps bytes ops t h =
    let e = after_tree t ops h.reads in
    let one = tree_typed ops t h.reads in
    let types : first_refusal (type_rows ops) ≡ None =
    no_row_in (type_row ops) _ 0 (length ops) (λ j low high. ap not (front_typed ops t (j + 1) e))
    ∙ rw one refl in
    rw (h.declared, types) refl

-- the laws
pub one_section_lemma : (a b rest more : List ℕ) (ops others : List Op) (tree other : Tree)
    → IsSection a ops tree → IsSection b others other → a ++ rest ≡ b ++ more → (a ≡ b)
    × (ops ≡ others) × (tree ≡ other)
one_section_lemma a b rest more ops others tree other ha hb e =
    let left = section_end a rest ops tree ha in
    let right : HasEnd (a ++ rest) hb.before more = rw e (section_end b more others other hb) in
    let before = same_end (a ++ rest) ha.before hb.before rest more left right in
    let same : ops ≡ others = ha.whole ∙ ap (λ (l : List Op). l ++ End ∷ []) before
    ∙ sym hb.whole in
    let trees : Some (Subtree tree ∷ []) ≡ Some (Subtree other ∷ []) =
    sym (after_tree tree ops ha.reads) ∙ ap (entries_after []) same
    ∙ after_tree other others hb.reads in
    let one : tree ≡ other = cc in
    (ha.spelled ∙ ap section_bytes same ∙ sym hb.spelled, same, one)

pub never_both_lemma : (bytes rest : List ℕ) (ops : List Op) (tree : Tree) (at : ℕ) (why : DepWhy)
    → IsSection bytes ops tree → IsRefused (bytes ++ rest) at why → ⊥
never_both_lemma bytes rest ops tree at why h (inl broken) =
    end_or_row (bytes ++ rest) at why h.before rest broken (section_end bytes rest ops tree h)
never_both_lemma bytes rest ops tree at why h (inr wrong) =
    let before = same_end (bytes ++ rest) h.before wrong.before rest wrong.rest
    (section_end bytes rest ops tree h) (wrong_end (bytes ++ rest) at why wrong) in
    let same : ops ≡ wrong.before ++ End ∷ [] =
    h.whole ∙ ap (λ (l : List Op). l ++ End ∷ []) before in
    let both : told at why ≡ None =
    sym wrong.refused ∙ ap (λ (l : List Op). first_refusal (section_rows l)) (sym same)
    ∙ section_keeps bytes ops tree h in
    cc

apart : (at here : ℕ) (why cause : DepWhy) → told at why ≡ told here cause → (at ≡ here)
    × (why ≡ cause)
apart at here why cause e =
    let pair : ◌≡◌ {A = ℕ × DepWhy} (at, why) (here, cause) = cc in
    (ap (λ (p : ℕ × DepWhy). p.0) pair, ap (λ (p : ℕ × DepWhy). p.1) pair)

pub one_refusal_lemma : (bytes : List ℕ) (at here : ℕ) (why cause : DepWhy) → IsRefused bytes at why
    → IsRefused bytes here cause → (at ≡ here) × (why ≡ cause)
one_refusal_lemma bytes at here why cause (inl a) (inl b) =
    apart at here why cause (same_row bytes at here why cause a b)
one_refusal_lemma bytes at here why cause (inl a) (inr b) =
    absurd (end_or_row bytes at why b.before b.rest a (wrong_end bytes here cause b))
one_refusal_lemma bytes at here why cause (inr a) (inl b) =
    absurd (end_or_row bytes here cause a.before a.rest b (wrong_end bytes at why a))
one_refusal_lemma bytes at here why cause (inr a) (inr b) =
    let before = same_end bytes a.before b.before a.rest b.rest (wrong_end bytes at why a)
    (wrong_end bytes here cause b) in
    apart at here why cause
    (sym a.refused ∙ ap (λ (l : List Op). first_refusal (section_rows (l ++ End ∷ []))) before
    ∙ b.refused)

-- the answer of a reader, where a section stands at the front
pub found_one : (bytes : List ℕ) (a b : List (ℕ × Op)) (n m : ℕ) → StandsAtFront bytes a n
    → StandsAtFront bytes b m → (a ≡ b) × (n ≡ m)
found_one bytes a b n m ha hb =
    let whole : take n bytes ++ drop n bytes ≡ take m bytes ++ drop m bytes =
    take-append-drop n bytes ∙ sym (take-append-drop m bytes) in
    let one = one_section_lemma (take n bytes) (take m bytes) (drop n bytes) (drop m bytes)
    (ops_of a) (ops_of b) ha.tree hb.tree ha.is_section hb.is_section whole in (
      ha.places ∙ ap (placed 0) one.1 ∙ sym hb.places,
      omega (arith, ap length one.0, length-take n bytes, length-take m bytes, ha.there, hb.there),
    )

pub not_refused : (bytes : List ℕ) (items : List (ℕ × Op)) (size : ℕ) (r : DepRefusal)
    → StandsAtFront bytes items size → IsRefusalOf r bytes → IsFound items size (Err r)
not_refused bytes items size (Dep fault) h e =
    never_both_lemma (take size bytes) (drop size bytes)
    (ops_of items) h.tree fault.at fault.why h.is_section (rw (take-append-drop size bytes) e)
not_refused bytes items size Memory h e = tt

-- the section that stands there is the one that is found
pub found_only : (bytes : List ℕ) (result : Result (List (ℕ × Op) × ℕ) DepRefusal)
    → IfOk result (λ x. StandsAtFront bytes x.0 x.1) → IfErr result (λ e. IsRefusalOf e bytes)
    → (items : List (ℕ × Op)) (size : ℕ) → StandsAtFront bytes items size
    → IsFound items size result
found_only bytes (Ok x) found refused items size h = found_one bytes x.0 items x.1 size found h
found_only bytes (Err e) found refused items size h = not_refused bytes items size e h refused
