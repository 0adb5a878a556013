-- The parts of an image, as a function, are those that it has.
use Rattle.std.proofs.Common.{◌≡◌, ◌↔◌, ℕ, inl, inr, Bool, true, false, List, Option, Some}
use Rattle.std.proofs.Common.{None, refl, sym, ap, subst, ◌∙◌}
use Rattle.std.specs.Prelude.{option_map}
use Rattle.cu_base.specs.Bytes.{IsBytes}
use Rattle.cu_base.proofs.Fields.{IsBytes-drop}
use Rattle.dep_code.specs.declared.fault.DepWhy.{DepWhy}
use Rattle.dep_code.specs.declared.op.Op.{Op}
use Rattle.dep_code.specs.Refusals as dep
use Rattle.dep_code.specs.Tree.{Tree}
use Rattle.image_parts.specs.declared.fault.PartWhy.{PartWhy}
use Rattle.image_parts.specs.Cuts.{IsCutInto, auth_end, behind_auth}
use Rattle.image_parts.specs.Parts.{IsPartsOf}
use Rattle.image_parts.specs.PartsOf.{parts_of, section_size}
use Rattle.image_parts.specs.Refusals.{IsRefused}
use Rattle.image_parts.specs.Section.{TakesSection}
use Rattle.image_parts.specs.Support.{has_section}
use Rattle.image_parts.specs.Values.{PartsValue}
use Rattle.image_parts.proofs.Decided.{Decided, decided}
use Rattle.image_parts.proofs.Read.{parts_are_cut}
use Rattle.image_parts.proofs.SectionLemmas.{section_at_lemma, no_section_lemma}

size_taken : (due : Bool) (bytes : List ℕ) (size : ℕ) → IsBytes bytes → TakesSection due bytes size
    → section_size due bytes ≡ Some size
size_taken true bytes size is h =
    ap (option_map (λ (s : List Op × Tree × ℕ). s.2))
    ((section_at_lemma bytes h.section.ops h.section.tree size is).1
    (h.there, h.section.is_section))
size_taken false bytes size is h = ap (λ (n : ℕ). Some n) (sym h)

size_refused : (due : Bool) (bytes : List ℕ) (place : ℕ) (cause : DepWhy) → IsBytes bytes
    → due ≡ true → dep.IsRefused bytes place cause → section_size due bytes ≡ None
size_refused true bytes place cause is e r =
    ap (option_map (λ (s : List Op × Tree × ℕ). s.2))
    ((no_section_lemma bytes is).1 (place, cause, r))
size_refused false bytes place cause is e r = absurd cc

behind_is : (image : List ℕ) (support : ℕ) → IsBytes image → IsBytes (behind_auth image support)
behind_is image support is = IsBytes-drop (auth_end image support) image is

-- where an image has parts they are given
parts_given : (image : List ℕ) (support : ℕ) (p : PartsValue) → IsBytes image
    → IsCutInto image support p → parts_of image support ≡ Some p
parts_given image support p is c =
    let size : section_size (has_section support) (behind_auth image support) ≡ Some c.size =
    size_taken (has_section support) (behind_auth image support) c.size
    (behind_is image support is) c.section in
    rw (c.auth, size, c.head) (ap (λ (q : PartsValue). Some q) (sym c.parts))

-- where it is refused none are
none_given : (image : List ℕ) (support at : ℕ) (why : PartWhy) → IsBytes image
    → IsRefused image support at why → parts_of image support ≡ None
none_given image support at why is (inl r) = rw r refl
none_given image support at why is (inr (inl r)) =
    let size : section_size (has_section support) (behind_auth image support) ≡ None =
    size_refused (has_section support) (behind_auth image support) r.section.place r.section.cause
    (behind_is image support is) r.due r.section.refused in
    rw (r.auth, size) refl
none_given image support at why is (inr (inr r)) =
    let size : section_size (has_section support) (behind_auth image support) ≡ Some r.size =
    size_taken (has_section support) (behind_auth image support) r.size
    (behind_is image support is) r.section in
    rw (r.auth, size, r.refused) refl

some_only : (o : Option PartsValue) (p q : PartsValue) → o ≡ Some q → o ≡ Some p → q ≡ p
some_only o p q e f = let same : Some q ≡ Some p = sym e ∙ f in cc

some_or_none : (o : Option PartsValue) (p : PartsValue) → o ≡ Some p → o ≡ None → ⊥
some_or_none o p e f = let same : Some p ≡ None = sym e ∙ f in cc

those_given : (image : List ℕ) (support : ℕ) (p : PartsValue) → IsBytes image
    → Decided image support → parts_of image support ≡ Some p → IsPartsOf image support p
those_given image support p is (inl (q, h)) e =
    subst (IsPartsOf image support)
    (some_only (parts_of image support) p q
    (parts_given image support q is (parts_are_cut image support q h)) e) h
those_given image support p is (inr (at, why, r)) e =
    absurd (some_or_none (parts_of image support) p e (none_given image support at why is r))

those_refused : (image : List ℕ) (support : ℕ) → IsBytes image → Decided image support
    → parts_of image support ≡ None → (at : ℕ) × (why : PartWhy) × IsRefused image support at why
those_refused image support is (inl (q, h)) e =
    absurd (some_or_none (parts_of image support) q
    (parts_given image support q is (parts_are_cut image support q h)) e)
those_refused image support is (inr r) e = r

pub parts_lemma : (image : List ℕ) (support : ℕ) (p : PartsValue) → IsBytes image
    → (parts_of image support ≡ Some p) ↔ IsPartsOf image support p
parts_lemma image support p is = (
  those_given image support p is (decided image support is),
  λ h. parts_given image support p is (parts_are_cut image support p h),
)

pub no_parts_lemma : (image : List ℕ) (support : ℕ) → IsBytes image
    → (parts_of image support ≡ None)
    ↔ ((at : ℕ) × (why : PartWhy) × IsRefused image support at why)
no_parts_lemma image support is = (
  those_refused image support is (decided image support is),
  λ r. none_given image support r.0 r.1 is r.2,
)
