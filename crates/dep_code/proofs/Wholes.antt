-- Operations up to END, as a whole.
use Rattle.std.proofs.Common.{◌≡◌, ℕ, ◌<◌, Bool, true, false, not, cond, List, [], ◌∷◌, ◌++◌}
use Rattle.std.proofs.Common.{length, take, drop, Option, Some, None, Result, Err, inr, map, refl}
use Rattle.std.proofs.Common.{sym, ap, ◌∙◌, arith, append_assoc}
use Rattle.std.proofs.lemmas.List.{take-append-drop, length-append, length-take}
use Rattle.std.specs.List.{range_with_len, list_all}
use Rattle.std.proofs.lemmas.List.Folds.{list_all-map}
use Rattle.cu_base.specs.Refusals.{first_refusal}
use Rattle.cu_base.proofs.Rows.{first-parts}
use Rattle.dep_code.specs.declared.op.Op.{Op}
use Rattle.dep_code.specs.declared.op.Op.TheVariants.{End}
use Rattle.dep_code.specs.declared.fault.DepRefusal.{DepRefusal}
use Rattle.dep_code.specs.declared.fault.DepRefusal.TheVariants.{Dep, Memory}
use Rattle.dep_code.specs.declared.fault.DepWhy.{DepWhy}
use Rattle.dep_code.specs.declared.fault.DepWhy.TheVariants.{WrongDeclare}
use Rattle.dep_code.specs.Operations.{section_bytes}
use Rattle.dep_code.specs.Reading.{EndsAt}
use Rattle.dep_code.specs.Refusals.{Answers, IsRefused, IsRefusalOf, section_rows, type_row}
use Rattle.dep_code.specs.Refusals.{type_rows}
use Rattle.dep_code.specs.Sections.{IsSection, StandsAtFront, ArePlaced, is_declared, may_declare}
use Rattle.dep_code.specs.Sections.{ops_of}
use Rattle.dep_code.specs.Tree.{Tree}
use Rattle.dep_code.specs.Typing.{leaves_one_truth}
use Rattle.dep_code.proofs.Entries.{tree_stands}
use Rattle.dep_code.proofs.Fronts.{bytes_push}
use Rattle.dep_code.proofs.Types.{ops_length}

pub size_is : (bytes : List ℕ) (items : List (ℕ × Op)) (size : ℕ) → EndsAt bytes items size
    → size ≡ length (section_bytes (ops_of items))
size_is bytes items size h = omega (arith, ap length h.spelled, length-take size bytes, h.there)

pub ends_wrong : (bytes : List ℕ) (items : List (ℕ × Op)) (size at : ℕ) (why : DepWhy)
    → EndsAt bytes items size → first_refusal (section_rows (ops_of items)) ≡ Some (at, why)
    → IsRefused bytes at why
ends_wrong bytes items size at why h e =
    let rest = drop size bytes in
    let end = section_bytes (End ∷ []) in
    let cut : take size bytes ≡ section_bytes h.before ++ end =
    h.spelled ∙ ap section_bytes h.whole ∙ bytes_push h.before End in
    inr (record {
      before = h.before;
      rest = rest;
      front = record {
        kept = h.kept;
        within = omega (
          arith,
          ap length cut,
          length-append (section_bytes h.before) end,
          length-take size bytes,
          h.there,
          h.limit,
        );
        whole = sym (take-append-drop size bytes) ∙ ap (λ (l : List ℕ). l ++ rest) cut
            ∙ append_assoc (section_bytes h.before) end rest;
      };
      within = omega (
        arith,
        size_is bytes items size h,
        ap (λ (l : List Op). length (section_bytes l)) h.whole,
        h.limit,
      );
      refused = ap (λ (l : List Op). first_refusal (section_rows l)) (sym h.whole) ∙ e;
    })

pub section_refused : (bytes : List ℕ) (items : List (ℕ × Op)) (size : ℕ) (r : DepRefusal)
    → EndsAt bytes items size → Answers {X = ℕ} (Err r)
    (first_refusal (section_rows (ops_of items))) → IsRefusalOf r bytes
section_refused bytes items size (Dep fault) h e =
    ends_wrong bytes items size fault.at fault.why h e
section_refused bytes items size Memory h e = tt

pub some_item : (bytes : List ℕ) (items : List (ℕ × Op)) (size : ℕ) → EndsAt bytes items size
    → 0 < length items
some_item bytes items size h = omega
    (arith, ops_length items, ap length h.whole, length-append h.before (End ∷ []))

-- both checks of the whole
pub rows_wrong : (ops : List Op) → is_declared ops ≡ false
    → first_refusal (section_rows ops) ≡ Some (1, WrongDeclare)
rows_wrong ops e = rw e refl

pub rows_types : (ops : List Op) (r : Result (Unit {0}) DepRefusal) → is_declared ops ≡ true
    → Answers r (first_refusal (type_rows ops)) → Answers r (first_refusal (section_rows ops))
rows_types ops r e h = rw e h

not_not : {W : Type 0} (b : Bool) (here : ℕ × W) → cond (not b) (Some here) None ≡ None → b ≡ true
not_not true here e = refl
not_not false here e = absurd cc

is_one : (ops : List Op) → first_refusal (type_rows ops) ≡ None → leaves_one_truth ops ≡ true
is_one ops e = not_not (leaves_one_truth ops) _
    (first-parts (map (type_row ops) (range_with_len 0 (length ops))) _ e).1

both_kept : {W : Type 0} (b : Bool) (here : ℕ × W) (rest : Option (ℕ × W))
    → cond (not b) (Some here) rest ≡ None → (b ≡ true) × (rest ≡ None)
both_kept true here rest e = (refl, e)
both_kept false here rest e = absurd cc

section_kept : (ops : List Op) → first_refusal (section_rows ops) ≡ None → (is_declared ops ≡ true)
    × (first_refusal (type_rows ops) ≡ None)
section_kept ops e = both_kept (is_declared ops) _ _ e

section : (bytes : List ℕ) (items : List (ℕ × Op)) (size : ℕ) → EndsAt bytes items size
    → first_refusal (section_rows (ops_of items)) ≡ None → (t : Tree)
    × IsSection (section_bytes (ops_of items)) (ops_of items) t
section bytes items size h e =
    let kept = section_kept (ops_of items) e in
    let found = tree_stands (ops_of items) (is_one (ops_of items) kept.1) in (
      found.0,
      record {
        before = h.before;
        kept = h.kept;
        whole = h.whole;
        spelled = refl;
        limit = omega (arith, size_is bytes items size h, h.limit);
        declared = kept.0;
        reads = found.1;
      },
    )

pub placed_section : (bytes : List ℕ) (items : List (ℕ × Op)) (size : ℕ) → EndsAt bytes items size
    → first_refusal (section_rows (ops_of items)) ≡ None → ArePlaced items
placed_section bytes items size h e =
    let found = section bytes items size h e in
    record { places = h.places; tree = found.0; is_section = found.1 }

pub front_section : (bytes : List ℕ) (items : List (ℕ × Op)) (size : ℕ) → EndsAt bytes items size
    → first_refusal (section_rows (ops_of items)) ≡ None → StandsAtFront bytes items size
front_section bytes items size h e =
    let found = section bytes items size h e in
    record { tree = found.0; is_section = rw h.spelled found.1; there = h.there; places = h.places }

pub declared_is : (items : List (ℕ × Op)) (size : ℕ) → size ≡ length (section_bytes (ops_of items))
    → list_all (λ item. may_declare size item.1) items ≡ is_declared (ops_of items)
declared_is items size e = sym (list_all-map (may_declare size) (λ (item : ℕ × Op). item.1) items)
    ∙ ap (λ (n : ℕ). list_all (may_declare n) (ops_of items)) e
