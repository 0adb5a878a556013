-- A section is walked from operation to operation up to its END.
use Rattle.std.proofs.Common.{◌≡◌, ℕ, ◌+◌, ◌<◌, ◌≤◌, true, not, ◌==◌, List, []}
use Rattle.std.proofs.Common.{◌∷◌, ◌++◌, length, take, drop, sym, ap, subst, ◌∙◌, arith}
use Rattle.std.proofs.Common.{append_assoc, slice_index}
use Rattle.std.specs.List.{list_all, AllByRecursion}
use Rattle.std.proofs.lemmas.Bool.{and_parts, eq-eqb}
use Rattle.std.proofs.lemmas.List.{drop-drop, drop_at, get_or-drop, length-append, length-drop}
use Rattle.std.proofs.lemmas.List.{length-take, take-append-drop}
use Rattle.dep_code.specs.declared.limits.TheConstants.{MAX_SECTION_BYTES}
use Rattle.dep_code.specs.declared.op.Op.{Op}
use Rattle.dep_code.specs.declared.op.Op.TheVariants.{End}
use Rattle.dep_code.specs.Operations.{HasForm, op_bytes, opcode, section_bytes}
use Rattle.dep_code.specs.Refusals.{first_byte, op_size}
use Rattle.dep_code.specs.Sections.{goes_on}
use Rattle.dep_code.proofs.Apart.{size_back}
use Rattle.dep_code.proofs.Fronts.{length_more}
use Rattle.dep_code.proofs.LawLemmas.{section_end}
use Rattle.image_parts.specs.Section.{BeginsWithSection}
use Rattle.image_parts.proofs.Texts.{one_limit}

-- the bytes begin with a section, and from this place on stand some of its operations, then END
pub record IsWithin (bytes : List ℕ) (at : ℕ) : Type 0 where
  pub size : ℕ
  pub begins : BeginsWithSection bytes size
  pub ops : List Op
  pub more : List ℕ
  pub forms : AllByRecursion HasForm ops
  pub goes : list_all goes_on ops ≡ true
  pub rest : drop at bytes ≡ section_bytes ops ++ (13 ∷ more)
  pub end : at + length (section_bytes ops) + 1 ≡ size

pub walk_start : (bytes : List ℕ) (size : ℕ) → BeginsWithSection bytes size → IsWithin bytes 0
walk_start bytes size h =
    let s = h.section.is_section in
    let e = section_end (take size bytes) (drop size bytes) h.section.ops h.section.tree s in
    let long : length (section_bytes s.before) + 1 ≡ size =
    omega (
      arith,
      length_more s.before End,
      ap length s.spelled,
      ap (λ (l : List Op). length (section_bytes l)) s.whole,
      length-take size bytes,
      h.there,
    ) in
    record {
      size = size;
      begins = h;
      ops = s.before;
      more = drop size bytes;
      forms = s.kept.forms;
      goes = s.kept.no_end;
      rest = sym (take-append-drop size bytes) ∙ e.whole;
      end = omega (arith, long);
    }

pub walk_there : (bytes : List ℕ) (at : ℕ) → IsWithin bytes at → at < length bytes
walk_there bytes at h =
    omega (
      arith,
      length-drop at bytes,
      ap length h.rest,
      length-append (section_bytes h.ops) (13 ∷ h.more),
    )

byte_here : (bytes : List ℕ) (at : ℕ) → slice_index bytes at ≡ first_byte (drop at bytes)
byte_here bytes at = sym (get_or-drop at bytes 0 0 ∙ ap (λ (n : ℕ). slice_index bytes n) (omega arith))

-- what stands at a place of a walk: END, or an operation that goes on
abbrev Ends : List ℕ → ℕ → ℕ → Type 0
Ends bytes at size = (slice_index bytes at ≡ 13) × (at + 1 ≡ size)

pub record GoesOn (bytes : List ℕ) (at : ℕ) : Type 0 where
  pub other : slice_index bytes at ≡ 13 → ⊥
  pub some : 0 < op_size (drop at bytes)
  pub there : at + op_size (drop at bytes) ≤ length bytes
  pub low : at + op_size (drop at bytes) < MAX_SECTION_BYTES
  pub next : IsWithin bytes (at + op_size (drop at bytes))

no_end : (op : Op) → goes_on op ≡ true → opcode op ≡ 13 → ⊥
no_end op goes e =
    let is : (opcode op == 13) ≡ true = eq-eqb (opcode op) 13 e in
    let no : not (opcode op == 13) ≡ true = goes in
    let both : not true ≡ true = sym (ap not is) ∙ no in
    cc

end_here : (bytes : List ℕ) (at size : ℕ) (more : List ℕ) → drop at bytes ≡ 13 ∷ more
    → at + 0 + 1 ≡ size → Ends bytes at size
end_here bytes at size more rest end =
    (byte_here bytes at ∙ ap first_byte rest, omega (arith, end))

op_here : (bytes : List ℕ) (at size : ℕ) (op : Op) (ops : List Op) (more : List ℕ)
    → BeginsWithSection bytes size → AllByRecursion HasForm (op ∷ ops)
    → list_all goes_on (op ∷ ops) ≡ true → drop at bytes ≡ section_bytes (op ∷ ops) ++ (13 ∷ more)
    → at + length (section_bytes (op ∷ ops)) + 1 ≡ size → GoesOn bytes at
op_here bytes at size op ops more begins forms goes rest end =
    let behind = section_bytes ops ++ (13 ∷ more) in
    let parts = and_parts (goes_on op) (list_all goes_on ops) goes in
    let whole : drop at bytes ≡ op_bytes op ++ behind =
    rest ∙ append_assoc (op_bytes op) (section_bytes ops) (13 ∷ more) in
    let step : op_size (drop at bytes) ≡ length (op_bytes op) =
    ap op_size whole ∙ size_back op behind forms.0 in
    let sum = length-append (op_bytes op) (section_bytes ops) in
    record {
      other = λ is. no_end op parts.0 (sym (byte_here bytes at ∙ ap first_byte whole) ∙ is);
      some = omega (arith, step);
      there = omega (
        arith,
        step,
        ap length whole,
        length-append (op_bytes op) behind,
        length-append (section_bytes ops) (13 ∷ more),
        length-drop at bytes,
      );
      low = omega (arith, step, sum, end, one_limit bytes size begins);
      next = record {
        size = size;
        begins = begins;
        ops = ops;
        more = more;
        forms = forms.1;
        goes = parts.1;
        rest = sym (drop-drop (op_size (drop at bytes)) at bytes)
            ∙ ap (drop (op_size (drop at bytes))) whole
            ∙ drop_at (op_bytes op) behind (op_size (drop at bytes)) (sym step);
        end = omega (arith, step, sum, end);
      };
    }

ends_by : (bytes : List ℕ) (at size : ℕ) (ops : List Op) (more : List ℕ)
    → BeginsWithSection bytes size → AllByRecursion HasForm ops → list_all goes_on ops ≡ true
    → drop at bytes ≡ section_bytes ops ++ (13 ∷ more)
    → at + length (section_bytes ops) + 1 ≡ size → slice_index bytes at ≡ 13 → at + 1 ≡ size
ends_by bytes at size [] more begins forms goes rest end is =
    (end_here bytes at size more rest end).1
ends_by bytes at size (op ∷ ops) more begins forms goes rest end is =
    absurd ((op_here bytes at size op ops more begins forms goes rest end).other is)

goes_by : (bytes : List ℕ) (at size : ℕ) (ops : List Op) (more : List ℕ)
    → BeginsWithSection bytes size → AllByRecursion HasForm ops → list_all goes_on ops ≡ true
    → drop at bytes ≡ section_bytes ops ++ (13 ∷ more)
    → at + length (section_bytes ops) + 1 ≡ size → (slice_index bytes at ≡ 13 → ⊥)
    → GoesOn bytes at
goes_by bytes at size [] more begins forms goes rest end other =
    absurd (other (end_here bytes at size more rest end).0)
goes_by bytes at size (op ∷ ops) more begins forms goes rest end other =
    op_here bytes at size op ops more begins forms goes rest end

pub walk_ends : (bytes : List ℕ) (at : ℕ) (h : IsWithin bytes at) → slice_index bytes at ≡ 13
    → at + 1 ≡ h.size
walk_ends bytes at h is = ends_by bytes at h.size h.ops h.more h.begins h.forms h.goes h.rest h.end is

pub walk_goes : (bytes : List ℕ) (at : ℕ) (h : IsWithin bytes at)
    → (slice_index bytes at ≡ 13 → ⊥) → GoesOn bytes at
walk_goes bytes at h other =
    goes_by bytes at h.size h.ops h.more h.begins h.forms h.goes h.rest h.end other

pub walk_section : (bytes : List ℕ) (at n : ℕ) → IsWithin bytes at → slice_index bytes at ≡ 13
    → n ≡ at + 1 → BeginsWithSection bytes n
walk_section bytes at n h is e =
    subst (λ (size : ℕ). BeginsWithSection bytes size) (sym (e ∙ walk_ends bytes at h is)) h.begins
