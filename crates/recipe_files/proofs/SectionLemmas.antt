-- The test of sections holds exactly of bytes that are one.
use Rattle.std.proofs.Common.{◌≡◌, ℕ, inl, inr, Bool, true, false, List, [], ◌++◌}
use Rattle.std.specs.Prelude.{◌==◌}
use Rattle.std.proofs.Common.{length, take, drop, refl, sym, ap, subst, ◌∙◌, arith}
use Rattle.std.proofs.lemmas.Bool.Decides.{Decides-eqb}
use Rattle.std.proofs.lemmas.List.{append-nil, length-take, take-append-drop, take_all}
use Rattle.cu_base.specs.Bytes.{IsBytes}
use Rattle.dep_code.proofs.Decided.{section_or_refused_lemma}
use Rattle.dep_code.proofs.LawLemmas.{never_both_lemma, one_section_lemma}
use Rattle.dep_code.specs.declared.fault.DepWhy.{DepWhy}
use Rattle.dep_code.specs.declared.op.Op.{Op}
use Rattle.dep_code.specs.Refusals.{IsRefused}
use Rattle.dep_code.specs.Sections.{IsSection, StandsAtFront, ops_of}
use Rattle.image_parts.specs.Section.{IsOneSection}
use Rattle.recipe_files.proofs.ByteLists.{bytes_stay}
use Rattle.recipe_files.specs.Sections.{Verdict, are_bytes, is_section, is_whole}

whole_is : (bytes : List ℕ) (v : Verdict bytes) → is_whole bytes v ≡ true → IsOneSection bytes
whole_is bytes (inl found) same =
    let size : found.1 ≡ length bytes = (Decides-eqb found.1 (length bytes)).0 same in
    let all : take found.1 bytes ≡ bytes =
    ap (λ (n : ℕ). take n bytes) size ∙ take_all (length bytes) bytes (omega arith) in
    record {
      ops = ops_of found.0;
      tree = found.2.tree;
      is_section = subst (λ (l : List ℕ). IsSection l (ops_of found.0) found.2.tree) all
          found.2.is_section;
    }
whole_is bytes (inr refusal) same = cc

one_is : (bytes : List ℕ) (v : Verdict bytes) → IsOneSection bytes → is_whole bytes v ≡ true
one_is bytes (inl found) one =
    let whole : take found.1 bytes ++ drop found.1 bytes ≡ bytes ++ [] =
    take-append-drop found.1 bytes ∙ sym (append-nil bytes) in
    let same = one_section_lemma (take found.1 bytes) bytes (drop found.1 bytes) [] (ops_of found.0)
    one.ops found.2.tree one.tree found.2.is_section one.is_section whole in
    (Decides-eqb found.1 (length bytes)).1
    (omega (arith, ap length same.0, length-take found.1 bytes, found.2.there))
one_is bytes (inr refusal) one =
    absurd (never_both_lemma bytes [] one.ops one.tree refusal.0 refusal.1 one.is_section
    (subst (λ (l : List ℕ). IsRefused l refusal.0 refusal.1)
    (sym (append-nil bytes)) refusal.2))

pub section_is : (bytes : List ℕ) → IsBytes bytes → is_section bytes ≡ true → IsOneSection bytes
unfolding is_section
section_is bytes is same =
    subst IsOneSection (bytes_stay bytes is)
    (whole_is _ (section_or_refused_lemma _ (are_bytes bytes)) same)

pub is_section_of : (bytes : List ℕ) → IsBytes bytes → IsOneSection bytes → is_section bytes ≡ true
unfolding is_section
is_section_of bytes is one =
    one_is _ (section_or_refused_lemma _ (are_bytes bytes))
    (subst IsOneSection (sym (bytes_stay bytes is)) one)

-- where a section stands at the front, the bytes are one section exactly where it is all of them
pub front_decides : (bytes : List ℕ) (items : List (ℕ × Op)) (size : ℕ) → IsBytes bytes
    → StandsAtFront bytes items size → (size == length bytes) ≡ is_section bytes
front_decides bytes items size is found =
    by (size == length bytes) (is_section bytes) refl refl
  where
    by : (a b : Bool) → (size == length bytes) ≡ a → is_section bytes ≡ b
        → (size == length bytes) ≡ is_section bytes
    by true b e f = e ∙ sym (is_section_of bytes is (whole_is bytes (inl (items, size, found)) e))
    by false true e f =
        absurd (let whole : true ≡ false =
        sym (one_is bytes (inl (items, size, found)) (section_is bytes is f)) ∙ e in cc)
    by false false e f = e ∙ sym f

-- bytes that are refused are no section
pub no_section : (bytes : List ℕ) (at : ℕ) (why : DepWhy) → IsBytes bytes → IsRefused bytes at why
    → is_section bytes ≡ false
no_section bytes at why is refused = by (is_section bytes) refl
  where
    by : (b : Bool) → is_section bytes ≡ b → is_section bytes ≡ false
    by true e =
        absurd (let whole : false ≡ true =
        one_is bytes (inr (at, why, refused)) (section_is bytes is e) in cc)
    by false e = e
