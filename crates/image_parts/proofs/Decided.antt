-- An image has its parts or is refused.
use Rattle.std.proofs.Common.{◌≡◌, ℕ, ◌+◌, ◌⊎◌, inl, inr, Bool, true, false, List, Option, Some}
use Rattle.std.proofs.Common.{None, refl}
use Rattle.cu_base.specs.Refusals.{first_refusal}
use Rattle.cu_base.specs.Bytes.{IsBytes}
use Rattle.cu_base.proofs.Fields.{IsBytes-drop}
use Rattle.dep_code.specs.declared.fault.DepWhy.{DepWhy}
use Rattle.dep_code.specs.Refusals as dep
use Rattle.dep_code.proofs.Decided as dep_proofs
use Rattle.image_parts.specs.declared.fault.PartWhy.{PartWhy}
use Rattle.image_parts.specs.declared.fault.PartWhy.TheVariants.{Dep}
use Rattle.image_parts.specs.Cuts.{auth_end, auth_rows, behind_auth, head_rows, parts_at}
use Rattle.image_parts.specs.Parts.{IsPartsOf}
use Rattle.image_parts.specs.Refusals.{IsRefused}
use Rattle.image_parts.specs.Section.{TakesSection}
use Rattle.image_parts.specs.Support.{has_section}
use Rattle.image_parts.specs.Values.{PartsValue}
use Rattle.image_parts.proofs.Spelled.{cut_is_parts}

-- a section that may be due is there or refused
abbrev pub Taken : Bool → List ℕ → Type 0
Taken due bytes = ((size : ℕ) × TakesSection due bytes size)
    ⊎ ((due ≡ true) × ((place : ℕ) × (cause : DepWhy) × dep.IsRefused bytes place cause))

there_or_refused : (bytes : List ℕ) → dep_proofs.Decided bytes → Taken true bytes
there_or_refused bytes (inl (items, size, h)) =
    inl (
      size,
      record {
        there = h.there;
        section = record { ops = _; tree = h.tree; is_section = h.is_section };
      },
    )
there_or_refused bytes (inr r) = inr (refl, r)

pub taken : (due : Bool) (bytes : List ℕ) → IsBytes bytes → Taken due bytes
taken true bytes is = there_or_refused bytes (dep_proofs.section_or_refused_lemma bytes is)
taken false bytes is = inl (0, refl)

-- what an image is
abbrev pub Decided : List ℕ → ℕ → Type 0
Decided image support = ((p : PartsValue) × IsPartsOf image support p)
    ⊎ ((at : ℕ) × (why : PartWhy) × IsRefused image support at why)

by_head : (image : List ℕ) (support size : ℕ) (r : Option (ℕ × PartWhy)) → IsBytes image
    → first_refusal (auth_rows image support) ≡ None
    → TakesSection (has_section support) (behind_auth image support) size
    → first_refusal (head_rows image support size) ≡ r → Decided image support
by_head image support size None is auth section e =
    inl (
      parts_at image support size,
      cut_is_parts image support _ is
          (record { auth = auth; size = size; section = section; head = e; parts = refl }),
    )
by_head image support size (Some r) is auth section e =
    inr (r.0, r.1, inr (inr (record { auth = auth; size = size; section = section; refused = e })))

by_section : (image : List ℕ) (support : ℕ) → IsBytes image
    → first_refusal (auth_rows image support) ≡ None
    → Taken (has_section support) (behind_auth image support) → Decided image support
by_section image support is auth (inl (size, section)) =
    by_head image support size (first_refusal (head_rows image support size)) is auth section refl
by_section image support is auth (inr (due, (place, cause, refused))) =
    inr (
      auth_end image support + place,
      Dep cause,
      inr (inl
          (record {
            auth = auth;
            due = due;
            section = record {
              place = place;
              cause = cause;
              refused = refused;
              sum = refl;
              told = refl;
            };
          })),
    )

by_auth : (image : List ℕ) (support : ℕ) (r : Option (ℕ × PartWhy)) → IsBytes image
    → first_refusal (auth_rows image support) ≡ r → Decided image support
by_auth image support None is e =
    by_section image support is e
    (taken (has_section support) (behind_auth image support)
    (IsBytes-drop (auth_end image support) image is))
by_auth image support (Some r) is e = inr (r.0, r.1, inl e)

pub decided : (image : List ℕ) (support : ℕ) → IsBytes image → Decided image support
decided image support is = by_auth image support (first_refusal (auth_rows image support)) is refl
