-- Bytes begin with a section or are refused: read from the front.
use Rattle.std.proofs.Common.{◌≡◌, ℕ, zero, suc, ◌+◌, ◌-◌, ◌^◌, ◌<◌, ◌≤◌, ◌⊎◌, inl, inr, Bool, true}
use Rattle.std.proofs.Common.{false, List, [], ◌∷◌, ◌++◌, length, take, drop, Option, Some, None}
use Rattle.std.proofs.Common.{refl, sym, ap, subst, ◌∙◌, arith}
use Rattle.std.proofs.lemmas.List.{length-take}
use Rattle.cu_base.specs.Bytes.{IsBytes}
use Rattle.cu_base.specs.Fields.{number}
use Rattle.cu_base.proofs.Fields.{IsBytes-drop, IsBytes-rest, IsBytes-take, number-below}
use Rattle.cu_base.specs.Refusals.{first_refusal}
use Rattle.dep_code.specs.declared.limits.TheConstants.{MAX_SECTION_BYTES}
use Rattle.dep_code.specs.declared.op.Op.{Op}
use Rattle.dep_code.specs.declared.fault.DepWhy.{DepWhy}
use Rattle.dep_code.specs.Operations.{op_bytes, section_bytes, HasForm, is_end}
use Rattle.dep_code.specs.Reading.{EndsAt}
use Rattle.dep_code.specs.Refusals.{op_size, text_size, place_rows, section_rows, IsFront}
use Rattle.dep_code.specs.Refusals.{IsRefused}
use Rattle.dep_code.specs.Sections.{StandsAtFront, ops_of, placed}
use Rattle.dep_code.proofs.Apart.{read_front}
use Rattle.dep_code.proofs.Bytes.{version_op, declare_op, text_op, text_nonzero}
use Rattle.dep_code.proofs.Fronts.{Keeps, keeps, not_longer, front_next, place_more, places_more}
use Rattle.dep_code.proofs.Fronts.{ended, there_is}
use Rattle.dep_code.proofs.Wholes.{ends_wrong, front_section}

four_below : (bytes : List ℕ) → IsBytes bytes → 4 ≤ length bytes → number (take 4 bytes) < 2 ^ 32
four_below bytes is long =
    let size : length (take 4 bytes) ≡ 4 = omega (arith, length-take 4 bytes) in
    subst (λ (n : ℕ). number (take 4 bytes) < 256 ^ n) size
    (number-below (take 4 bytes) (IsBytes-take 4 bytes is))

-- the operation that is read at the front
pub record IsRead (rest : List ℕ) (op : Op) : Type 0 where
  pub spelled : op_bytes op ≡ take (op_size rest) rest
  pub form : HasForm op

read_code : (code : ℕ) (rest : List ℕ) → IsBytes (code ∷ rest) → code < 15
    → op_size (code ∷ rest) ≤ length (code ∷ rest) → IsRead (code ∷ rest) (read_front (code ∷ rest))
read_code zero rest is low there =
    record { spelled = refl; form = omega (arith, length-take 16 rest) }
read_code (suc zero) rest is low there =
    record {
      spelled = version_op (1 ∷ rest) (number (take 4 rest)) 5 is refl refl there refl;
      form = four_below rest (IsBytes-rest 1 rest is) (omega arith);
    }
read_code (suc (suc zero)) rest is low there =
    let size = text_size rest + 2 in
    let low : size - 1 - 1 ≡ text_size rest = omega arith in
    record {
      spelled = text_op (2 ∷ rest) (take (text_size rest) rest) size refl refl there
          (ap (λ (n : ℕ). take n rest) (sym low));
      form = text_nonzero rest;
    }
read_code (suc (suc (suc zero))) rest is low there = record { spelled = refl; form = tt }
read_code (suc (suc (suc (suc zero)))) rest is low there = record { spelled = refl; form = tt }
read_code (suc (suc (suc (suc (suc zero))))) rest is low there =
    record { spelled = refl; form = tt }
read_code (suc (suc (suc (suc (suc (suc zero)))))) rest is low there =
    record { spelled = refl; form = tt }
read_code (suc (suc (suc (suc (suc (suc (suc zero))))))) rest is low there =
    record { spelled = refl; form = tt }
read_code (suc (suc (suc (suc (suc (suc (suc (suc zero)))))))) rest is low there =
    record { spelled = refl; form = tt }
read_code (suc (suc (suc (suc (suc (suc (suc (suc (suc zero))))))))) rest is low there =
    record { spelled = refl; form = tt }
read_code (suc (suc (suc (suc (suc (suc (suc (suc (suc (suc zero)))))))))) rest is low there =
    record { spelled = refl; form = tt }
read_code (suc (suc (suc (suc (suc (suc (suc (suc (suc (suc (suc zero))))))))))) rest is low there =
    record { spelled = refl; form = tt }
read_code (suc (suc (suc (suc (suc (suc (suc (suc (suc (suc (suc (suc zero)))))))))))) rest is low
    there = record { spelled = refl; form = tt }
read_code (suc (suc (suc (suc (suc (suc (suc (suc (suc (suc (suc (suc (suc zero))))))))))))) rest is
    low there = record { spelled = refl; form = tt }
read_code (suc (suc (suc (suc (suc (suc (suc (suc (suc (suc (suc (suc (suc (suc zero))))))))))))))
    rest is low there =
    record {
      spelled = declare_op (14 ∷ rest) (number (take 4 rest)) 5 is refl refl there refl;
      form = four_below rest (IsBytes-rest 14 rest is) (omega arith);
    }
read_code
    (suc (suc (suc (suc (suc (suc (suc (suc (suc (suc (suc (suc (suc (suc (suc n))))))))))))))) rest
    is low there = absurd (omega arith)

read_here : (rest : List ℕ) (at : ℕ) → IsBytes rest → Keeps rest at → IsRead rest (read_front rest)
read_here [] at is keep = absurd (let no : true ≡ false = keep.some in cc)
read_here (b ∷ rest) at is keep =
    read_code b rest is (omega (arith, not_longer _ _ keep.known)) (not_longer _ _ keep.there)

-- what bytes are
abbrev pub Decided : List ℕ → Type 0
Decided bytes = ((items : List (ℕ × Op)) × (size : ℕ) × StandsAtFront bytes items size)
    ⊎ ((at : ℕ) × (why : DepWhy) × IsRefused bytes at why)

-- the operations so far
pub record SoFar (bytes : List ℕ) (items : List (ℕ × Op)) (at : ℕ) : Type 0 where
  pub front : IsFront (ops_of items) (drop at bytes) bytes
  pub place : at ≡ length (section_bytes (ops_of items))
  pub places : items ≡ placed 0 (ops_of items)

whole_decided : (bytes : List ℕ) (items : List (ℕ × Op)) (size : ℕ) (r : Option (ℕ × DepWhy))
    → EndsAt bytes items size → first_refusal (section_rows (ops_of items)) ≡ r → Decided bytes
whole_decided bytes items size None h e = inl (items, size, front_section bytes items size h e)
whole_decided bytes items size (Some r) h e =
    inr (r.0, r.1, ends_wrong bytes items size r.0 r.1 h e)

op_decided : (bytes : List ℕ) (items : List (ℕ × Op)) (at : ℕ) (op : Op) (ends : Bool)
    → is_end op ≡ ends → SoFar bytes items at → first_refusal (place_rows (drop at bytes) at) ≡ None
    → IsRead (drop at bytes) op
    → (SoFar bytes (items ++ (at, op) ∷ []) (at + op_size (drop at bytes)) → Decided bytes)
    → Decided bytes
op_decided bytes items at op true e h none read next =
    let new = items ++ (at, op) ∷ [] in
    let rest = drop at bytes in
    whole_decided bytes new (at + op_size rest) (first_refusal (section_rows (ops_of new)))
    (ended items new at op rest bytes
    (op_size rest) refl h.front h.place h.places none read.spelled refl e) refl
op_decided bytes items at op false e h none read next =
    let new = items ++ (at, op) ∷ [] in
    let rest = drop at bytes in
    next (record {
      front = front_next items new at op rest bytes
          (op_size rest) refl refl h.front h.place none read.spelled refl read.form e;
      place = place_more items new at op rest (op_size rest) refl h.place read.spelled
          (there_is rest at (op_size rest) none refl);
      places = places_more items new at op refl h.place h.places;
    })

row_decided : (bytes : List ℕ) (items : List (ℕ × Op)) (at : ℕ) (r : Option (ℕ × DepWhy))
    → first_refusal (place_rows (drop at bytes) at) ≡ r → SoFar bytes items at
    → (first_refusal (place_rows (drop at bytes) at) ≡ None → Decided bytes) → Decided bytes
row_decided bytes items at None e h next = next e
row_decided bytes items at (Some r) e h next =
    inr (
      r.0,
      r.1,
      inl
          (record {
            ops = ops_of items;
            rest = drop at bytes;
            front = h.front;
            refused = ap (λ (n : ℕ). first_refusal (place_rows (drop at bytes) n)) (sym h.place)
                ∙ e;
          }),
    )

one_byte : (op : Op) (rest : List ℕ) → op_bytes op ≡ take (op_size rest) rest → 0 < op_size rest
one_byte op rest e = omega (arith, ap length e, length-take (op_size rest) rest)

decided : (fuel : ℕ) (bytes : List ℕ) (items : List (ℕ × Op)) (at : ℕ) → IsBytes bytes
    → MAX_SECTION_BYTES < at + fuel → SoFar bytes items at → Decided bytes
decided zero bytes items at is fuel h = absurd (omega (arith, h.place, h.front.within))
decided (suc n) bytes items at is fuel h =
    let rest = drop at bytes in
    row_decided bytes items at (first_refusal (place_rows rest at)) refl h (λ none.
    let read = read_here rest at (IsBytes-drop at bytes is) (keeps rest at none) in
    op_decided bytes items at (read_front rest) (is_end (read_front rest)) refl h none read (λ more.
    decided n bytes (items ++ (at, read_front rest) ∷ []) (at + op_size rest) is
    (omega (arith, one_byte (read_front rest) rest read.spelled)) more))

pub section_or_refused_lemma : (bytes : List ℕ) → IsBytes bytes → Decided bytes
section_or_refused_lemma bytes is =
    decided (suc MAX_SECTION_BYTES) bytes [] 0 is (omega arith)
    (record {
      front = record {
        kept = record { forms = tt; no_end = refl; declare = refl };
        within = omega arith;
        whole = refl;
      };
      place = refl;
      places = refl;
    })
