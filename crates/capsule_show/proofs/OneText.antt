-- A capsule has one text, and one of bytes has a text.
use Rattle.std.proofs.Common.{◌≡◌, ℕ, ◌+◌, List, [], ◌∷◌, ◌++◌, ◌⊎◌, ap, sym, refl, ◌∙◌, inl, inr}
use Rattle.std.specs.List.{concat, AllByRecursion}
use Rattle.cu_base.specs.Bytes.{IsBytes}
use Rattle.capsule_grammar.specs.declared.value.Body.{Body}
use Rattle.capsule_grammar.specs.declared.value.Body.TheVariants.{Other, Fmp}
use Rattle.capsule_grammar.specs.declared.value.Capsule.{Capsule}
use Rattle.capsule_grammar.specs.declared.value.Image.{Image}
use Rattle.capsule_grammar.specs.Values.{FmpValue}
use Rattle.image_parts.specs.declared.fault.PartWhy.{PartWhy}
use Rattle.image_parts.specs.Parts.{IsPartsOf}
use Rattle.image_parts.specs.Refusals.{IsRefused}
use Rattle.image_parts.specs.Values.{PartsValue}
use Rattle.image_parts.proofs.Apart.{cut_not_refused, one_cut, refused_once}
use Rattle.image_parts.proofs.Decided.{decided}
use Rattle.image_parts.proofs.Read.{parts_are_cut}
use Rattle.capsule_show.specs.Images.{AreLinesOf, AreLinesOfAll, AreLinesOfParts, Found, IsFoundOf}
use Rattle.capsule_show.specs.Images.{part_lines}
use Rattle.capsule_show.specs.Images.Found.{Cut, RefusedAt}
use Rattle.capsule_show.specs.Lines.{capsule_line, digest_line, driver_lines, ext_line, fmp_line}
use Rattle.capsule_show.specs.Lines.{item_line, other_line}
use Rattle.capsule_show.specs.ShowText.{AreBodyLines, AreFmpLines, HasBytes, ShowText}

-- ---- one text

one_found : (image : List ℕ) (support : ℕ) (f g : Found) → IsFoundOf image support f
    → IsFoundOf image support g → f ≡ g
one_found image support (Cut p) (Cut q) h k =
    ap Cut (one_cut image support p q (parts_are_cut image support p h)
    (parts_are_cut image support q k))
one_found image support (Cut p) (RefusedAt at why) h k =
    absurd (cut_not_refused image support p at why (parts_are_cut image support p h) k)
one_found image support (RefusedAt at why) (Cut p) h k =
    absurd (cut_not_refused image support p at why (parts_are_cut image support p k) h)
one_found image support (RefusedAt at why) (RefusedAt other cause) h k =
    let e = refused_once image support at other why cause h k in
    rw (e.0, e.1) refl

one_image : (k : ℕ) (i : Image) (a b : List (List ℕ)) → AreLinesOf k i a → AreLinesOf k i b → a ≡ b
one_image k i a b h j =
    let parts = h.are_parts.told
    ∙ ap part_lines (one_found i.image i.header.support h.are_parts.found j.are_parts.found
    h.are_parts.is_found j.are_parts.is_found)
    ∙ sym j.are_parts.told in
    h.told ∙ ap (λ (lines : List (List ℕ)). item_line k i ∷ lines ++ digest_line i.image ∷ []) parts
    ∙ sym j.told

both : (a a' b b' : List (List ℕ)) → a ≡ a' → b ≡ b' → a ++ b ≡ a' ++ b'
both a a' b b' ea eb = rw (ea, eb) refl

one_of_all : (k : ℕ) (images : List Image) (a b : List (List ℕ)) → AreLinesOfAll k images a
    → AreLinesOfAll k images b → a ≡ b
one_of_all k [] a b h j = h ∙ sym j
one_of_all k (i ∷ images) a b h j =
    h.whole
    ∙ both h.first j.first h.others j.others (one_image k i h.first j.first h.is_first j.is_first)
    (one_of_all (k + 1) images h.others j.others h.are_others j.are_others) ∙ sym j.whole

one_body : (body : Body) (a b : List (List ℕ)) → AreBodyLines body a → AreBodyLines body b → a ≡ b
one_body (Other body) a b h j = h ∙ sym j
one_body (Fmp v) a b h j =
    h.told
    ∙ ap (λ (lines : List (List ℕ)). fmp_line v ∷ driver_lines 0 v.drivers ++ lines)
    (one_of_all 0 v.images h.images j.images h.are_images j.are_images) ∙ sym j.told

pub one_text : (c : Capsule) (a b : List ℕ) → ShowText c a → ShowText c b → a ≡ b
one_text c a b h j =
    h.told
    ∙ ap (λ (lines : List (List ℕ)). capsule_line c ++ ext_line c.ext ++ concat lines)
    (one_body c.body h.lines j.lines h.body j.body) ∙ sym j.told

-- ---- a text

by_found : (image : List ℕ) (support : ℕ)
    → ((p : PartsValue) × IsPartsOf image support p)
    ⊎ ((at : ℕ) × (why : PartWhy) × IsRefused image support at why)
    → (found : Found) × IsFoundOf image support found
by_found image support (inl cut) = (Cut cut.0, cut.1)
by_found image support (inr refused) = (RefusedAt refused.0 refused.1, refused.2)

has_found : (image : List ℕ) (support : ℕ) → IsBytes image
    → (found : Found) × IsFoundOf image support found
has_found image support is = by_found image support (decided image support is)

has_image : (k : ℕ) (i : Image) → IsBytes i.image → (lines : List (List ℕ)) × AreLinesOf k i lines
has_image k i is =
    let f = has_found i.image i.header.support is in (
      item_line k i ∷ part_lines f.0 ++ digest_line i.image ∷ [],
      record {
        parts = part_lines f.0;
        are_parts = record { found = f.0; is_found = f.1; told = refl };
        told = refl;
      },
    )

has_all : (k : ℕ) (images : List Image) → AllByRecursion (λ i. IsBytes i.image) images
    → (lines : List (List ℕ)) × AreLinesOfAll k images lines
has_all k [] is = ([], refl)
has_all k (i ∷ images) is =
    let first = has_image k i is.0 in
    let others = has_all (k + 1) images is.1 in (
      first.0 ++ others.0,
      record {
        first = first.0;
        others = others.0;
        is_first = first.1;
        are_others = others.1;
        whole = refl;
      },
    )

has_body : (body : Body) → HasBytes body → (lines : List (List ℕ)) × AreBodyLines body lines
has_body (Other body) is = (other_line body ∷ [], refl)
has_body (Fmp v) is =
    let images = has_all 0 v.images is in (
      fmp_line v ∷ driver_lines 0 v.drivers ++ images.0,
      record { images = images.0; are_images = images.1; told = refl },
    )

pub has_text : (c : Capsule) → HasBytes c.body → (text : List ℕ) × ShowText c text
has_text c is =
    let body = has_body c.body is in (
      capsule_line c ++ ext_line c.ext ++ concat body.0,
      record { lines = body.0; body = body.1; told = refl },
    )
