-- An image is cut in one way, or refused at one place for one cause, and never both.
use Rattle.std.proofs.Common.{◌≡◌, ℕ, ◌+◌, inl, inr, Bool, true, false, List, ◌++◌, length, take}
use Rattle.std.proofs.Common.{drop, Option, Some, None, unwrap_or, sym, ap, subst, ◌∙◌, arith}
use Rattle.std.proofs.lemmas.List.{length-take, take-append-drop}
use Rattle.cu_base.specs.Refusals.{first_refusal}
use Rattle.dep_code.specs.declared.fault.DepWhy.{DepWhy}
use Rattle.dep_code.specs.Refusals as dep
use Rattle.dep_code.proofs.LawLemmas.{never_both_lemma, one_refusal_lemma, one_section_lemma}
use Rattle.image_parts.specs.declared.fault.PartWhy.{PartWhy}
use Rattle.image_parts.specs.declared.fault.PartWhy.TheVariants.{Dep}
use Rattle.image_parts.specs.Cuts.{IsCutInto, auth_end, behind_auth, head_rows, parts_at}
use Rattle.image_parts.specs.Refusals.{IsRefused, RefusesSection, RefusesHead}
use Rattle.image_parts.specs.Section.{BeginsWithSection, TakesSection}
use Rattle.image_parts.specs.Support.{has_section}
use Rattle.image_parts.specs.Values.{PartsValue}

-- ---- sections

pub one_length : (bytes : List ℕ) (n m : ℕ) → BeginsWithSection bytes n → BeginsWithSection bytes m
    → n ≡ m
one_length bytes n m h k =
    let whole : take n bytes ++ drop n bytes ≡ take m bytes ++ drop m bytes =
    take-append-drop n bytes ∙ sym (take-append-drop m bytes) in
    let same = one_section_lemma (take n bytes) (take m bytes) (drop n bytes)
    (drop m bytes) h.section.ops k.section.ops h.section.tree k.section.tree h.section.is_section
    k.section.is_section whole in
    omega (arith, ap length same.0, length-take n bytes, length-take m bytes, h.there, k.there)

one_size : (due : Bool) (bytes : List ℕ) (n m : ℕ) → TakesSection due bytes n
    → TakesSection due bytes m → n ≡ m
one_size true bytes n m h k = one_length bytes n m h k
one_size false bytes n m h k = h ∙ sym k

not_refused : (due : Bool) (bytes : List ℕ) (size place : ℕ) (cause : DepWhy) → due ≡ true
    → TakesSection due bytes size → dep.IsRefused bytes place cause → ⊥
not_refused true bytes size place cause e h r =
    never_both_lemma (take size bytes)
    (drop size bytes) h.section.ops h.section.tree place cause h.section.is_section
    (subst (λ (l : List ℕ). dep.IsRefused l place cause) (sym (take-append-drop size bytes)) r)
not_refused false bytes size place cause e h r = absurd cc

-- ---- tables

none_or_some : {W : Type 0} (o : Option (ℕ × W)) (r : ℕ × W) → o ≡ None → o ≡ Some r → ⊥
none_or_some None r e f = cc
none_or_some (Some x) r e f = cc

same_told : {W : Type 0} (o : Option (ℕ × W)) (at other : ℕ) (why cause : W) → o ≡ Some (at, why)
    → o ≡ Some (other, cause) → (at ≡ other) × (why ≡ cause)
same_told {W = W} o at other why cause e f =
    let same : Some (at, why) ≡ Some (other, cause) = sym e ∙ f in (
      ap (λ (r : Option (ℕ × W)). (unwrap_or r (at, why)).0) same,
      ap (λ (r : Option (ℕ × W)). (unwrap_or r (at, why)).1) same,
    )

-- ---- images

one_head : (image : List ℕ) (support n m : ℕ)
    → TakesSection (has_section support) (behind_auth image support) n
    → TakesSection (has_section support) (behind_auth image support) m
    → first_refusal (head_rows image support n) ≡ first_refusal (head_rows image support m)
one_head image support n m h k =
    ap (λ (size : ℕ). first_refusal (head_rows image support size))
    (one_size (has_section support) (behind_auth image support) n m h k)

pub one_cut : (image : List ℕ) (support : ℕ) (p q : PartsValue) → IsCutInto image support p
    → IsCutInto image support q → p ≡ q
one_cut image support p q c d =
    c.parts ∙ ap (parts_at image support)
    (one_size (has_section support) (behind_auth image support) c.size d.size c.section d.section)
    ∙ sym d.parts

pub cut_not_refused : (image : List ℕ) (support : ℕ) (p : PartsValue) (at : ℕ) (why : PartWhy)
    → IsCutInto image support p → IsRefused image support at why → ⊥
cut_not_refused image support p at why c (inl r) = none_or_some _ _ c.auth r
cut_not_refused image support p at why c (inr (inl r)) =
    not_refused (has_section support)
    (behind_auth image support) c.size r.section.place r.section.cause r.due c.section
    r.section.refused
cut_not_refused image support p at why c (inr (inr r)) =
    none_or_some _ _ c.head (one_head image support c.size r.size c.section r.section ∙ r.refused)

one_place : (image : List ℕ) (support at other : ℕ) (why cause : PartWhy)
    → RefusesSection image support at why → RefusesSection image support other cause → (at ≡ other)
    × (why ≡ cause)
one_place image support at other why cause r s =
    let same = one_refusal_lemma
    (behind_auth image support) r.section.place s.section.place r.section.cause s.section.cause
    r.section.refused s.section.refused in (
      r.section.sum ∙ ap (λ (n : ℕ). auth_end image support + n) same.0 ∙ sym s.section.sum,
      r.section.told ∙ ap Dep same.1 ∙ sym s.section.told,
    )

section_or_head : (image : List ℕ) (support at other : ℕ) (why cause : PartWhy)
    → RefusesSection image support at why → RefusesHead image support other cause → ⊥
section_or_head image support at other why cause r s =
    not_refused (has_section support)
    (behind_auth image support) s.size r.section.place r.section.cause r.due s.section
    r.section.refused

pub refused_once : (image : List ℕ) (support at other : ℕ) (why cause : PartWhy)
    → IsRefused image support at why → IsRefused image support other cause → (at ≡ other)
    × (why ≡ cause)
refused_once image support at other why cause (inl r) (inl s) = same_told _ at other why cause r s
refused_once image support at other why cause (inl r) (inr (inl s)) =
    absurd (none_or_some _ _ s.auth r)
refused_once image support at other why cause (inl r) (inr (inr s)) =
    absurd (none_or_some _ _ s.auth r)
refused_once image support at other why cause (inr (inl r)) (inl s) =
    absurd (none_or_some _ _ r.auth s)
refused_once image support at other why cause (inr (inl r)) (inr (inl s)) =
    one_place image support at other why cause r s
refused_once image support at other why cause (inr (inl r)) (inr (inr s)) =
    absurd (section_or_head image support at other why cause r s)
refused_once image support at other why cause (inr (inr r)) (inl s) =
    absurd (none_or_some _ _ r.auth s)
refused_once image support at other why cause (inr (inr r)) (inr (inl s)) =
    absurd (section_or_head image support other at cause why s r)
refused_once image support at other why cause (inr (inr r)) (inr (inr s)) =
    same_told _ at other why cause
    (one_head image support s.size r.size s.section r.section ∙ r.refused) s.refused
