-- The section at the front of bytes, as a function, is the one that stands there.
use Rattle.std.proofs.Common.{◌≡◌, ◌↔◌, ℕ, ◌≤◌, inl, inr, Bool, true, false, List, ◌++◌, length}
use Rattle.std.proofs.Common.{take, drop, Option, Some, None, refl, sym, ap, subst, ◌∙◌, arith}
use Rattle.std.proofs.lemmas.List.{length-take, take-append-drop}
use Rattle.cu_base.specs.Bytes.{IsBytes}
use Rattle.dep_code.specs.declared.fault.DepWhy.{DepWhy}
use Rattle.dep_code.specs.declared.op.Op.{Op}
use Rattle.dep_code.specs.Refusals.{IsRefused}
use Rattle.image_parts.specs.SectionAt.{are_bytes, section_at, section_found, section_where}
use Rattle.dep_code.specs.Sections.{IsSection, ops_of}
use Rattle.dep_code.specs.Tree.{Tree}
use Rattle.dep_code.proofs.ByteTests.{bytes_from, bytes_pass}
use Rattle.dep_code.proofs.Decided.{Decided, section_or_refused_lemma}
use Rattle.dep_code.proofs.LawLemmas.{never_both_lemma, one_section_lemma}

-- a section of these operations and this tree, of this length
abbrev Stands : List ℕ → List Op → Tree → ℕ → Type 0
Stands bytes ops tree size = (size ≤ length bytes) × IsSection (take size bytes) ops tree

abbrev Found : Type 0
Found = List Op × Tree × ℕ

abbrev found : List Op → Tree → ℕ → Found
found ops tree size = (ops, tree, size)

abbrev value : List Op → Tree → ℕ → Option Found
value ops tree size = Some (found ops tree size)

-- one verdict is the function
by_test : (bytes : List ℕ) (are : Bool) (is : are_bytes bytes ≡ are) → are ≡ true
    → (d : Decided bytes) × (section_where bytes are is ≡ section_found bytes d)
unfolding section_where
by_test bytes true is yes_true = (section_or_refused_lemma bytes (bytes_from bytes is), refl)
by_test bytes false is yes_true = absurd cc

by_verdict : (bytes : List ℕ) → IsBytes bytes
    → (d : Decided bytes) × (section_at bytes ≡ section_found bytes d)
unfolding section_at
by_verdict bytes is = by_test bytes (are_bytes bytes) refl (bytes_pass bytes is)

two_fronts : (bytes : List ℕ) (n m : ℕ) → take n bytes ++ drop n bytes ≡ take m bytes ++ drop m bytes
two_fronts bytes n m = take-append-drop n bytes ∙ sym (take-append-drop m bytes)

not_refused : (bytes : List ℕ) (ops : List Op) (tree : Tree) (size at : ℕ) (why : DepWhy)
    → IsSection (take size bytes) ops tree → IsRefused bytes at why → ⊥
not_refused bytes ops tree size at why is r =
    never_both_lemma (take size bytes) (drop size bytes) ops tree at why is
    (subst (λ (l : List ℕ). IsRefused l at why) (sym (take-append-drop size bytes)) r)

found_only : (bytes : List ℕ) (d : Decided bytes) (ops : List Op) (tree : Tree) (size : ℕ)
    → Stands bytes ops tree size → section_found bytes d ≡ value ops tree size
found_only bytes (inl (items, long, front)) ops tree size (there, is) =
    let same = one_section_lemma (take long bytes) (take size bytes) (drop long bytes)
    (drop size bytes) (ops_of items) ops front.tree tree front.is_section is
    (two_fronts bytes long size) in
    let sizes : long ≡ size =
    omega (
      arith,
      ap length same.0,
      length-take long bytes,
      length-take size bytes,
      front.there,
      there,
    ) in
    rw (same.1, sizes) (ap (λ (t : Tree). value ops t size) same.2)
found_only bytes (inr (at, why, refused)) ops tree size (there, is) =
    absurd (not_refused bytes ops tree size at why is refused)

found_stands : (bytes : List ℕ) (d : Decided bytes) (ops : List Op) (tree : Tree) (size : ℕ)
    → section_found bytes d ≡ value ops tree size → Stands bytes ops tree size
found_stands bytes (inl (items, long, front)) ops other size e =
    let same : found (ops_of items) front.tree long ≡ found ops other size = cc in
    let same_ops : ops_of items ≡ ops = ap (λ (t : Found). t.0) same in
    let same_tree : front.tree ≡ other = ap (λ (t : Found). t.1) same in
    let sizes : long ≡ size = ap (λ (t : Found). t.2) same in
    subst (λ (n : ℕ). Stands bytes ops other n) sizes (
      front.there,
      subst (λ (o : List Op). IsSection (take long bytes) o other) same_ops
          (subst (λ (t : Tree). IsSection (take long bytes) (ops_of items) t) same_tree
          front.is_section),
    )
found_stands bytes (inr refusal) ops other size e = absurd cc

pub section_at_lemma : (bytes : List ℕ) (ops : List Op) (tree : Tree) (size : ℕ) → IsBytes bytes
    → (section_at bytes ≡ Some (ops, tree, size))
    ↔ ((size ≤ length bytes) × IsSection (take size bytes) ops tree)
section_at_lemma bytes ops tree size is =
    let v = by_verdict bytes is in (
      λ e. found_stands bytes v.0 ops tree size (sym v.1 ∙ e),
      λ h. v.1 ∙ found_only bytes v.0 ops tree size h,
    )

none_refused : (bytes : List ℕ) (d : Decided bytes) → section_found bytes d ≡ None
    → (at : ℕ) × (why : DepWhy) × IsRefused bytes at why
none_refused bytes (inl found) e = absurd cc
none_refused bytes (inr refusal) e = refusal

refused_none : (bytes : List ℕ) (d : Decided bytes) (at : ℕ) (why : DepWhy)
    → IsRefused bytes at why → section_found bytes d ≡ None
refused_none bytes (inl (items, size, front)) at why r =
    absurd (not_refused bytes (ops_of items) front.tree size at why front.is_section r)
refused_none bytes (inr refusal) at why r = refl

pub no_section_lemma : (bytes : List ℕ) → IsBytes bytes
    → (section_at bytes ≡ None) ↔ ((at : ℕ) × (why : DepWhy) × IsRefused bytes at why)
no_section_lemma bytes is =
    let v = by_verdict bytes is in (
      λ e. none_refused bytes v.0 (sym v.1 ∙ e),
      λ r. v.1 ∙ refused_none bytes v.0 r.0 r.1 r.2,
    )
