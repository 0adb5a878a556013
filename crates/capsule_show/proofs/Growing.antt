-- Lines that are told one item after the other.
use Rattle.std.proofs.Common.{◌≡◌, ℕ, suc, ◌+◌, ◌==◌, Bool, true, false, List, [], ◌∷◌, ◌++◌, length, map}
use Rattle.std.proofs.Common.{ap, sym, refl, ◌∙◌, subst, arith, append_assoc, append-nil, inl, inr}
use Rattle.std.proofs.Common.{Result, Ok, Err, OnOk}
use Rattle.std.specs.List.{concat, list_all, prefix_len, range_with_len}
use Rattle.std.proofs.lemmas.Bool.{cases_Bool, cond-true, cond-false, eq-eqb, eqb-true}
use Rattle.std.proofs.lemmas.List.Folds.{concat-append}
use Rattle.std.proofs.lemmas.List.FromFn.{length-map-range_with_len, map-range_with_len_more}
use Rattle.cu_base.specs.Fields.{field}
use Rattle.capsule_grammar.specs.declared.value.Body.{Body}
use Rattle.capsule_grammar.specs.declared.value.Body.TheVariants.{Other, Fmp}
use Rattle.capsule_grammar.specs.declared.value.Image.{Image}
use Rattle.capsule_grammar.specs.Reading.{body_read, fmp_of}
use Rattle.capsule_grammar.specs.Refusals.{body_of, is_fmp_guid}
use Rattle.capsule_grammar.specs.Values.{FmpValue}
use Rattle.capsule_show.specs.Appended.{AppendsLines}
use Rattle.capsule_show.specs.Images.{AreFirst, AreLinesOf, AreLinesOfAll, AreLinesOfParts, Found}
use Rattle.capsule_show.specs.Images.{IsFoundOf, part_lines}
use Rattle.capsule_show.specs.Lines.{digest_line, driver_line, driver_lines, fmp_line}
use Rattle.capsule_show.specs.Lines.{item_line, other_line}
use Rattle.capsule_show.specs.ShowText.{AreBodyLines, AreFmpLines}

from_zero : (n k : ℕ) → n ≡ k → 0 + n ≡ k
from_zero n k e = omega (arith, e)

-- ---- drivers

drivers_more : (k n : ℕ) (drivers : List (List ℕ)) (driver : List ℕ) → k + length drivers ≡ n
    → driver_lines k (drivers ++ driver ∷ []) ≡ driver_lines k drivers ++ driver_line n driver ∷ []
drivers_more k n [] driver e =
    let same : k ≡ n = omega (arith, e) in
    ap (λ (m : ℕ). driver_line m driver ∷ []) same
drivers_more k n (d ∷ drivers) driver e =
    ap (λ (lines : List (List ℕ)). driver_line k d ∷ lines)
    (drivers_more (k + 1) n drivers driver (omega (arith, e)))

-- one more driver's line
pub driver_grown : (f : ℕ → List ℕ) (k : ℕ) (old out new driver : List ℕ)
    → out ≡ old ++ concat (driver_lines 0 (map f (range_with_len 0 k))) → driver ≡ f k
    → new ≡ out ++ driver_line k driver
    → new ≡ old ++ concat (driver_lines 0 (map f (range_with_len 0 (k + 1))))
driver_grown f k old out new driver so_far here e =
    let before = map f (range_with_len 0 k) in
    let lines = driver_lines 0 before in
    let more : driver_lines 0 (map f (range_with_len 0 (k + 1)))
    ≡ lines ++ driver_line k (f k) ∷ [] =
    ap (driver_lines 0) (map-range_with_len_more f 0 k k (omega arith))
    ∙ drivers_more 0 k before (f k) (from_zero _ k (length-map-range_with_len f 0 k)) in
    e ∙ ap (λ (l : List ℕ). l ++ driver_line k driver) so_far
    ∙ append_assoc old (concat lines) (driver_line k driver)
    ∙ ap (λ (l : List ℕ). old ++ (concat lines ++ driver_line k l)) here
    ∙ ap (λ (l : List ℕ). old ++ (concat lines ++ l)) (sym (append-nil (driver_line k (f k))))
    ∙ ap (λ (l : List ℕ). old ++ l) (sym (concat-append lines (driver_line k (f k) ∷ [])))
    ∙ ap (λ (l : List (List ℕ)). old ++ concat l) (sym more)

-- ---- images

all_more : (k n : ℕ) (images : List Image) (i : Image) (lines more : List (List ℕ))
    → k + length images ≡ n → AreLinesOfAll k images lines → AreLinesOf n i more
    → AreLinesOfAll k (images ++ i ∷ []) (lines ++ more)
all_more k n [] i lines more e h m =
    let same : n ≡ k = omega (arith, e) in
    record {
      first = more;
      others = [];
      is_first = subst (λ (j : ℕ). AreLinesOf j i more) same m;
      are_others = refl;
      whole = ap (λ (l : List (List ℕ)). l ++ more) h ∙ sym (append-nil more);
    }
all_more k n (x ∷ images) i lines more e h m = record {
  first = h.first;
  others = h.others ++ more;
  is_first = h.is_first;
  are_others =
      all_more (k + 1) n images i h.others more (omega (arith, e)) h.are_others m;
  whole =
      ap (λ (l : List (List ℕ)). l ++ more) h.whole ∙ append_assoc h.first h.others more;
}

-- one more image's lines
pub image_grown : (f : ℕ → Image) (a k : ℕ) (old out new : List ℕ)
    → AppendsLines (AreLinesOfAll 0 (map f (range_with_len a k))) old out
    → AppendsLines (AreLinesOf k (f (a + k))) out new
    → AppendsLines (AreLinesOfAll 0 (map f (range_with_len a (k + 1)))) old new
image_grown f a k old out new so_far here =
    let before = map f (range_with_len a k) in
    let more : before ++ f (a + k) ∷ [] ≡ map f (range_with_len a (k + 1)) =
    sym (map-range_with_len_more f a k (a + k) refl) in
    record {
      lines = so_far.lines ++ here.lines;
      are = subst (λ (images : List Image). AreLinesOfAll 0 images (so_far.lines ++ here.lines))
          more (all_more 0 k before (f (a + k)) so_far.lines here.lines
          (from_zero _ k (length-map-range_with_len f a k)) so_far.are here.are);
      told = here.told ∙ ap (λ (l : List ℕ). l ++ concat here.lines) so_far.told
          ∙ append_assoc old (concat so_far.lines) (concat here.lines)
          ∙ ap (λ (l : List ℕ). old ++ l) (sym (concat-append so_far.lines here.lines));
    }

-- ---- lines one behind another

pub on_ok : {X E P Q : Type 0} (r : Result X E) → (P → Q) → OnOk r P → OnOk r Q
on_ok (Ok x) f p = f p
on_ok (Err e) f p = tt

four : (o f d i : List ℕ) → ((o ++ f) ++ d) ++ i ≡ o ++ (f ++ (d ++ i))
four o f d i = simp append_assoc

-- three pieces of a line
pub framed : (old a b d o1 o2 new : List ℕ) → o1 ≡ old ++ a → o2 ≡ o1 ++ b → new ≡ o2 ++ d
    → new ≡ old ++ (a ++ (b ++ d))
framed old a b d o1 o2 new e1 e2 e =
    e ∙ ap (λ (l : List ℕ). l ++ d) (e2 ∙ ap (λ (l : List ℕ). l ++ b) e1) ∙ four old a b d

-- what is found of an update image
pub found_told : (image : List ℕ) (support : ℕ) (found : Found) (old new : List ℕ)
    → IsFoundOf image support found → new ≡ old ++ concat (part_lines found)
    → AppendsLines (AreLinesOfParts image support) old new
found_told image support found old new is e = record {
  lines = part_lines found;
  are = record { found = found; is_found = is; told = refl };
  told = e;
}

-- an image: its own line, its parts, its digest
pub image_told : (k : ℕ) (i : Image) (old o1 o2 new : List ℕ) → o1 ≡ old ++ item_line k i
    → AppendsLines (AreLinesOfParts i.image i.header.support) o1 o2
    → new ≡ o2 ++ digest_line i.image → AppendsLines (AreLinesOf k i) old new
image_told k i old o1 o2 new e1 parts e =
    let own = item_line k i in
    let digest = digest_line i.image in
    let middle = concat parts.lines in
    record {
      lines = own ∷ parts.lines ++ digest ∷ [];
      are = record { parts = parts.lines; are_parts = parts.are; told = refl };
      told = e
          ∙ ap (λ (l : List ℕ). l ++ digest)
          (parts.told ∙ ap (λ (l : List ℕ). l ++ middle) e1)
          ∙ four old own middle digest
          ∙ ap (λ (l : List ℕ). old ++ (own ++ (middle ++ l))) (sym (append-nil digest))
          ∙ ap (λ (l : List ℕ). old ++ (own ++ l)) (sym (concat-append parts.lines (digest ∷ [])));
    }

-- the body of an FMP capsule: its counts, its drivers, its images
pub fmp_told : (v : FmpValue) (old o1 o2 new : List ℕ) → o1 ≡ old ++ fmp_line v
    → o2 ≡ o1 ++ concat (driver_lines 0 v.drivers)
    → AppendsLines (AreLinesOfAll 0 v.images) o2 new → AppendsLines (AreFmpLines v) old new
fmp_told v old o1 o2 new e1 e2 images =
    let counts = fmp_line v in
    let drivers = driver_lines 0 v.drivers in
    record {
      lines = counts ∷ drivers ++ images.lines;
      are = record { images = images.lines; are_images = images.are; told = refl };
      told = images.told
          ∙ ap (λ (l : List ℕ). l ++ concat images.lines)
          (e2 ∙ ap (λ (l : List ℕ). l ++ concat drivers) e1)
          ∙ four old counts (concat drivers) (concat images.lines)
          ∙ ap (λ (l : List ℕ). old ++ (counts ++ l)) (sym (concat-append drivers images.lines));
    }

-- any body
pub fmp_body_told : (bytes body old new : List ℕ) → body ≡ body_of bytes
    → is_fmp_guid (field bytes 0 16) ≡ true → AppendsLines (AreFmpLines (fmp_of body)) old new
    → AppendsLines (AreBodyLines (body_read bytes)) old new
fmp_body_told bytes body old new same fmp a =
    let read : Fmp (fmp_of body) ≡ body_read bytes =
    ap (λ (l : List ℕ). Fmp (fmp_of l)) same
    ∙ sym (cond-true (is_fmp_guid (field bytes 0 16)) (Fmp (fmp_of (body_of bytes)))
    (Other (body_of bytes)) fmp) in
    subst (λ (b : Body). AppendsLines (AreBodyLines b) old new) read
    (record { lines = a.lines; are = a.are; told = a.told })

pub other_body_told : (bytes body old new : List ℕ) → body ≡ body_of bytes
    → is_fmp_guid (field bytes 0 16) ≡ false → new ≡ old ++ other_line body
    → AppendsLines (AreBodyLines (body_read bytes)) old new
other_body_told bytes body old new same other e =
    let read : Other body ≡ body_read bytes =
    ap Other same
    ∙ sym (cond-false (is_fmp_guid (field bytes 0 16)) (Fmp (fmp_of (body_of bytes)))
    (Other (body_of bytes)) other) in
    subst (λ (b : Body). AppendsLines (AreBodyLines b) old new) read
    (record {
      lines = other_line body ∷ [];
      are = refl;
      told = e ∙ ap (λ (l : List ℕ). old ++ l) (sym (append-nil (other_line body)));
    })

-- ---- pads

same_test : (a b c d : ℕ) → (a ≡ b → c ≡ d) → (c ≡ d → a ≡ b) → (a == b) ≡ (c == d)
same_test a b c d to from = elim (cases_Bool (a == b)) [
  | inl t ↦ t ∙ sym (eq-eqb c d (to (eqb-true a b t)))
  | inr f ↦ elim (cases_Bool (c == d)) [
    | inl t ↦ eq-eqb a b (from (eqb-true c d t)) ∙ sym t
    | inr g ↦ f ∙ sym g
  ]
]

not_zero : (n : ℕ) → (0 == suc n) ≡ false
not_zero n = elim (cases_Bool (0 == suc n)) [
  | inl t ↦ absurd (omega (arith, eqb-true 0 (suc n) t))
  | inr f ↦ f
]

-- the first place where a test fails is the end exactly where all pass
pub all_pass : (p : ℕ → Bool) (xs : List ℕ) → (prefix_len p xs == length xs) ≡ list_all p xs
all_pass p [] = refl
all_pass p (x ∷ xs) = elim (cases_Bool (p x)) [
  | inl passes ↦ rw passes
      (same_test (1 + prefix_len p xs) (suc (length xs)) (prefix_len p xs) (length xs)
      (λ e. omega (arith, e)) (λ e. omega (arith, e)) ∙ all_pass p xs)
  | inr fails ↦ rw fails (not_zero (length xs))
]
