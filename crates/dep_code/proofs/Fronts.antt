-- Operations one behind another from the front of bytes.
use Rattle.std.proofs.Common.{◌≡◌, ℕ, zero, suc, ◌+◌, ◌<◌, ◌≤◌, Bool, true, false, not, ◌&&◌, cond}
use Rattle.std.proofs.Common.{◌==◌, nat_lt, List, [], ◌∷◌, ◌++◌, length, take, drop, Option, Some}
use Rattle.std.proofs.Common.{None, Err, inl, refl, sym, ap, subst, ◌∙◌, arith, append_assoc}
use Rattle.std.proofs.Common.{add-zero, zero-add}
use Rattle.std.specs.List.{list_all, AllByRecursion}
use Rattle.std.proofs.lemmas.Grind.{flat_map-append}
use Rattle.std.proofs.lemmas.List.{map_push, length-append, length-take, take-append-drop, take_at}
use Rattle.std.proofs.lemmas.List.{drop-drop, append-nil}
use Rattle.std.proofs.lemmas.List.Folds.{list_all-append}
use Rattle.std.proofs.lemmas.Bool.{and_from}
use Rattle.std.proofs.lemmas.Bool.Decides.{nat_tests}
use Rattle.cu_base.specs.Refusals.{first_refusal}
use Rattle.dep_code.specs.declared.limits.TheConstants.{MAX_SECTION_BYTES}
use Rattle.dep_code.specs.declared.op.Op.{Op}
use Rattle.dep_code.specs.declared.op.Op.TheVariants.{End}
use Rattle.dep_code.specs.declared.fault.DepRefusal.{DepRefusal}
use Rattle.dep_code.specs.declared.fault.DepRefusal.TheVariants.{Dep, Memory}
use Rattle.dep_code.specs.Operations.{opcode, op_bytes, section_bytes, HasForm, is_end}
use Rattle.dep_code.specs.Reading.{EndsAt}
use Rattle.dep_code.specs.Refusals.{Answers, IsFront, IsRefusalOf, first_byte, op_size, place_rows}
use Rattle.dep_code.specs.Sections.{AreBeforeEnd, goes_on, may_follow, ops_of, placed}

-- what holds of an operation at a place where no row holds
pub record Keeps (rest : List ℕ) (at : ℕ) : Type 0 where
  pub before : (at == MAX_SECTION_BYTES) ≡ false
  pub some : (length rest == 0) ≡ false
  pub known : nat_lt 14 (first_byte rest) ≡ false
  pub there : nat_lt (length rest) (op_size rest) ≡ false
  pub within : nat_lt MAX_SECTION_BYTES (at + op_size rest) ≡ false
  pub declare : ((first_byte rest == 14) && nat_lt 0 at) ≡ false

not_held : {A : Type 0} (b : Bool) (r : A) (rows : Option A) → cond b (Some r) rows ≡ None
    → (b ≡ false) × (rows ≡ None)
not_held true r rows e = absurd cc
not_held false r rows e = (refl, e)

pub keeps : (rest : List ℕ) (at : ℕ) → first_refusal (place_rows rest at) ≡ None → Keeps rest at
keeps rest at e =
    let a = not_held _ _ _ e in
    let b = not_held _ _ _ a.1 in
    let c = not_held _ _ _ b.1 in
    let d = not_held _ _ _ c.1 in
    let f = not_held _ _ _ d.1 in
    let g = not_held _ _ _ f.1 in
    record { before = a.0; some = b.0; known = c.0; there = d.0; within = f.0; declare = g.0 }

-- one more operation
pub bytes_push : (ops : List Op) (op : Op) → section_bytes (ops ++ op ∷ []) ≡ section_bytes ops
    ++ op_bytes op
bytes_push ops op = flat_map-append op_bytes ops (op ∷ [])
    ∙ ap (λ (l : List ℕ). section_bytes ops ++ l) (append-nil (op_bytes op))

forms_push : (ops : List Op) (op : Op) → AllByRecursion HasForm ops → HasForm op
    → AllByRecursion HasForm (ops ++ op ∷ [])
forms_push [] op all one = (one, tt)
forms_push (x ∷ ops) op all one = (all.0, forms_push ops op all.1 one)

all_push : (p : Op → Bool) (ops : List Op) (op : Op) → list_all p ops ≡ true → p op ≡ true
    → list_all p (ops ++ op ∷ []) ≡ true
all_push p ops op all one =
    let last : list_all p (op ∷ []) ≡ true = and_from _ _ one refl in
    list_all-append p ops (op ∷ []) ∙ and_from _ _ all last

declare_push : (ops : List Op) (op : Op) → list_all may_follow (drop 1 ops) ≡ true
    → (0 < length (section_bytes ops) → may_follow op ≡ true)
    → list_all may_follow (drop 1 (ops ++ op ∷ [])) ≡ true
declare_push [] op all one = refl
declare_push (x ∷ ops) op all one = all_push may_follow ops op all (one (omega arith))

pub placed_push : (at : ℕ) (ops : List Op) (op : Op) → placed at (ops ++ op ∷ []) ≡ placed at ops
    ++ (at + length (section_bytes ops), op) ∷ []
placed_push at [] op = rw (add-zero at) refl
placed_push at (x ∷ ops) op =
    let size : at + length (section_bytes (x ∷ ops)) ≡ at + length (op_bytes x) + length
    (section_bytes ops) = omega (arith, length-append (op_bytes x) (section_bytes ops)) in
    ap (λ (l : List (ℕ × Op)). (at, x) ∷ l)
    (placed_push (at + length (op_bytes x)) ops op
    ∙ ap (λ (n : ℕ). placed (at + length (op_bytes x)) ops ++ (n, op) ∷ []) (sym size))

not_declare : (b at : ℕ) → 0 < at → ((b == 14) && nat_lt 0 at) ≡ false → (b == 14) ≡ false
not_declare b at some e = grind (arith, nat_tests)

pub before_more : (ops : List Op) (op : Op) (rest : List ℕ) → AreBeforeEnd ops → HasForm op
    → is_end op ≡ false → opcode op ≡ first_byte rest → Keeps rest (length (section_bytes ops))
    → AreBeforeEnd (ops ++ op ∷ [])
before_more ops op rest h form goes first keep = record {
  forms = forms_push ops op h.forms form;
  no_end = all_push goes_on ops op h.no_end (ap not goes);
  declare = declare_push ops op h.declare
      (λ some. ap not
      (ap (λ (n : ℕ). n == 14) first
      ∙ not_declare (first_byte rest) (length (section_bytes ops)) some keep.declare));
}

pub head_of : (x : ℕ) (xs rest : List ℕ) (size : ℕ) → x ∷ xs ≡ take size rest → x ≡ first_byte rest
head_of x xs rest zero e = absurd cc
head_of x xs [] (suc size) e = absurd cc
head_of x xs (b ∷ rest) (suc size) e = cc

pub not_longer : (a b : ℕ) → nat_lt a b ≡ false → b ≤ a
not_longer a b e = grind (arith, nat_tests)

pub op_length : (op : Op) (rest : List ℕ) (size : ℕ) → op_bytes op ≡ take size rest
    → size ≤ length rest → length (op_bytes op) ≡ size
op_length op rest size e there = ap length e ∙ omega (arith, length-take size rest)

pub length_more : (ops : List Op) (op : Op)
    → length (section_bytes (ops ++ op ∷ [])) ≡ length (section_bytes ops) + length (op_bytes op)
length_more ops op = ap length (bytes_push ops op) ∙ length-append (section_bytes ops) (op_bytes op)

whole_more : (ops : List Op) (op : Op) (rest bytes : List ℕ) (size : ℕ) → bytes ≡ section_bytes ops
    ++ rest → op_bytes op ≡ take size rest → bytes ≡ section_bytes (ops ++ op ∷ [])
    ++ drop size rest
whole_more ops op rest bytes size whole spelled =
    whole ∙ ap (λ (l : List ℕ). section_bytes ops ++ l)
    (sym (take-append-drop size rest) ∙ ap (λ (l : List ℕ). l ++ drop size rest) (sym spelled))
    ∙ sym (append_assoc (section_bytes ops) (op_bytes op) (drop size rest))
    ∙ ap (λ (l : List ℕ). l ++ drop size rest) (sym (bytes_push ops op))

pub front_more : (ops : List Op) (op : Op) (rest bytes : List ℕ) (size : ℕ) → IsFront ops rest bytes
    → first_refusal (place_rows rest (length (section_bytes ops))) ≡ None
    → op_bytes op ≡ take size rest → size ≡ op_size rest → HasForm op → is_end op ≡ false
    → IsFront (ops ++ op ∷ []) (drop size rest) bytes
front_more ops op rest bytes size h none spelled is form goes =
    let keep : Keeps rest (length (section_bytes ops)) =
    keeps rest (length (section_bytes ops)) none in
    let there : size ≤ length rest = omega (arith, not_longer _ _ keep.there) in
    record {
      kept = before_more ops op rest h.kept form goes (head_of _ _ rest size spelled) keep;
      within = omega (
        arith,
        not_longer _ _ keep.within,
        op_length op rest size spelled there,
        length_more ops
            op,
      );
      whole = whole_more ops op rest bytes size h.whole spelled;
    }

is_end_is : (op : Op) → is_end op ≡ true → op ≡ End
is_end_is End e = refl
is_end_is op e = absurd cc

-- the places
all_of : (items new : List (ℕ × Op)) (at : ℕ) (op : Op) → new ≡ items ++ (at, op) ∷ []
    → ops_of new ≡ ops_of items ++ op ∷ []
all_of items new at op e = ap ops_of e ∙ map_push (λ (p : ℕ × Op). p.1) items (at, op)

pub place_more : (items new : List (ℕ × Op)) (at : ℕ) (op : Op) (rest : List ℕ) (size : ℕ)
    → new ≡ items ++ (at, op) ∷ [] → at ≡ length (section_bytes (ops_of items))
    → op_bytes op ≡ take size rest → size ≤ length rest
    → at + size ≡ length (section_bytes (ops_of new))
place_more items new at op rest size e place spelled there =
    let all = all_of items new at op e in
    omega (
      arith,
      op_length op rest size spelled there,
      length_more (ops_of items) op,
      ap (λ (l : List Op). length (section_bytes l)) all,
    )

pub places_more : (items new : List (ℕ × Op)) (at : ℕ) (op : Op) → new ≡ items ++ (at, op) ∷ []
    → at ≡ length (section_bytes (ops_of items)) → items ≡ placed 0 (ops_of items)
    → new ≡ placed 0 (ops_of new)
places_more items new at op e place places =
    let ops = ops_of items in
    let all = all_of items new at op e in
    e ∙ ap (λ (l : List (ℕ × Op)). l ++ (at, op) ∷ []) places
    ∙ ap (λ (n : ℕ). placed 0 ops ++ (n, op) ∷ [])
    (place ∙ sym (zero-add (length (section_bytes ops)))) ∙ sym (placed_push 0 ops op)
    ∙ ap (placed 0) (sym all)

pub ended : (items new : List (ℕ × Op)) (at : ℕ) (op : Op) (rest bytes : List ℕ) (size : ℕ)
    → new ≡ items ++ (at, op) ∷ [] → IsFront (ops_of items) rest bytes
    → at ≡ length (section_bytes (ops_of items)) → items ≡ placed 0 (ops_of items)
    → first_refusal (place_rows rest at) ≡ None → op_bytes op ≡ take size rest → size ≡ op_size rest
    → is_end op ≡ true → EndsAt bytes new (at + size)
ended items new at op rest bytes size e h place places none spelled is ends =
    let keep : Keeps rest at = keeps rest at none in
    let there : size ≤ length rest = omega (arith, not_longer _ _ keep.there) in
    let ops = ops_of items in
    let whole = whole_more ops op rest bytes size h.whole spelled in
    let all = all_of items new at op e in
    let long : length (section_bytes (ops ++ op ∷ [])) ≡ at + size =
    omega (arith, op_length op rest size spelled there, length_more ops op) in
    record {
      before = ops;
      kept = h.kept;
      whole = all ∙ ap (λ (x : Op). ops ++ x ∷ []) (is_end_is op ends);
      spelled = ap (take (at + size)) whole
          ∙ take_at (section_bytes (ops ++ op ∷ [])) (drop size rest) (at + size) long
          ∙ ap section_bytes (sym all);
      there = omega
          (arith, ap length whole, length-append (section_bytes (ops ++ op ∷ [])) (drop size rest));
      limit = omega (arith, not_longer _ _ keep.within);
      places = places_more items new at op e place places;
    }

pub front_next : (items new : List (ℕ × Op)) (at : ℕ) (op : Op) (rest bytes : List ℕ) (size : ℕ)
    → rest ≡ drop at bytes → new ≡ items ++ (at, op) ∷ [] → IsFront (ops_of items) rest bytes
    → at ≡ length (section_bytes (ops_of items)) → first_refusal (place_rows rest at) ≡ None
    → op_bytes op ≡ take size rest → size ≡ op_size rest → HasForm op → is_end op ≡ false
    → IsFront (ops_of new) (drop (at + size) bytes) bytes
front_next items new at op rest bytes size same e h place none spelled is form goes =
    let here : first_refusal (place_rows rest (length (section_bytes (ops_of items)))) ≡ None =
    rw (← place) none in
    let next = front_more (ops_of items) op rest bytes size h here spelled is form goes in
    rw (all_of items new at op e)
    (subst (λ (l : List ℕ). IsFront (ops_of items ++ op ∷ []) l bytes)
    (ap (drop size) same ∙ drop-drop size at bytes) next)

pub there_is : (rest : List ℕ) (at size : ℕ) → first_refusal (place_rows rest at) ≡ None
    → size ≡ op_size rest → size ≤ length rest
there_is rest at size none is = omega (arith, not_longer _ _ (keeps rest at none).there)

-- a row holds
pub broken : (ops : List Op) (at : ℕ) (rest bytes : List ℕ) (r : DepRefusal)
    → IsFront ops rest bytes → at ≡ length (section_bytes ops)
    → Answers {X = ℕ} (Err r) (first_refusal (place_rows rest at)) → IsRefusalOf r bytes
broken ops at rest bytes (Dep fault) h place e =
    inl (record { ops = ops; rest = rest; front = h; refused = rw (← place) e })
broken ops at rest bytes Memory h place e = tt
