-- What the formats of the machine are.
use Rattle.std.proofs.Common.{◌≡◌, ◌↔◌, ℕ, ◌≤◌, false, List, ◌++◌, length, take, map}
use Rattle.std.proofs.Common.{Option, Some, None, refl, sym, ap, subst, arith, length-append}
use Rattle.std.specs.Prelude.{option_map}
use Rattle.std.proofs.lemmas.List.{length-map, take_at}
use Rattle.cu_base.specs.Bytes.{IsBytes}
use Rattle.cu_base.specs.declared.guid.Guid.{Guid}
use Rattle.dep_code.specs.declared.fault.DepWhy.{DepWhy}
use Rattle.dep_code.specs.declared.op.Op.{Op}
use Rattle.dep_code.specs.Refusals as dep
use Rattle.dep_code.specs.Sections.{IsSection}
use Rattle.dep_code.specs.Tree.{Tree}
use Rattle.dep_code.specs.Values.{IsAnswerOf}
use Rattle.image_parts.specs.declared.fault.PartWhy.{PartWhy}
use Rattle.image_parts.specs.Parts.{IsPartsOf}
use Rattle.image_parts.specs.PartsOf.{parts_of}
use Rattle.image_parts.specs.Refusals.{IsRefused}
use Rattle.image_parts.specs.Values.{PartsValue}
use Rattle.image_parts.proofs.PartsLemmas.{parts_lemma, no_parts_lemma}
use Rattle.image_parts.proofs.SectionLemmas.{section_at_lemma, no_section_lemma}
use Rattle.capsule_grammar.specs.BackToBack.{RefusedAll, SpellsAll}
use Rattle.capsule_grammar.specs.CapsulesOf.{capsules_of}
use Rattle.capsule_grammar.specs.declared.refusal.Why.{Why}
use Rattle.capsule_grammar.specs.declared.value.Capsule.{Capsule}
use Rattle.capsule_grammar.proofs.CapsulesLemmas.{capsules_lemma, no_capsules_lemma, few_within}
use Rattle.reference_machine.specs.Formats as machine
use Rattle.reference_machine.specs.Laws.{KeepsLimits}
use Rattle.delivery_formats.specs.Seen.{machine_capsule, machine_parts}
use Rattle.delivery_formats.specs.TrueFormats.{true_formats, is_satisfied_by}

none_under : {X Y : Type 0} (f : X → Y) (o : Option X) → option_map f o ≡ None → o ≡ None
none_under f None e = refl
none_under f (Some x) e = absurd cc

pub capsules_seen : (bytes : List ℕ) (capsules : List Capsule) → IsBytes bytes
    → SpellsAll capsules bytes → true_formats.capsules bytes ≡ Some (map machine_capsule capsules)
capsules_seen bytes capsules is s =
    ap (option_map (map machine_capsule)) ((capsules_lemma bytes capsules is).1 s)

pub no_capsules_seen : (bytes : List ℕ) → IsBytes bytes
    → (true_formats.capsules bytes ≡ None) ↔ ((at : ℕ) × (why : Why) × RefusedAll bytes at why)
no_capsules_seen bytes is =
    let none = no_capsules_lemma bytes is in (
      λ e. none.0 (none_under (map machine_capsule) (capsules_of bytes) e),
      λ r. ap (option_map (map machine_capsule)) (none.1 r),
    )

pub parts_seen : (image : List ℕ) (support : ℕ) (p : PartsValue) → IsBytes image
    → IsPartsOf image support p → true_formats.parts image support ≡ Some (machine_parts p)
parts_seen image support p is h =
    ap (option_map machine_parts) ((parts_lemma image support p is).1 h)

pub no_parts_seen : (image : List ℕ) (support : ℕ) → IsBytes image
    → (true_formats.parts image support ≡ None)
    ↔ ((at : ℕ) × (why : PartWhy) × IsRefused image support at why)
no_parts_seen image support is =
    let none = no_parts_lemma image support is in (
      λ e. none.0 (none_under machine_parts (parts_of image support) e),
      λ r. ap (option_map machine_parts) (none.1 r),
    )

pub section_answers : (section rest : List ℕ) (ops : List Op) (tree : Tree)
    (versions : List (Guid × ℕ)) → IsBytes (section ++ rest) → IsSection section ops tree
    → IsAnswerOf ops versions (true_formats.is_satisfied (section ++ rest) versions)
section_answers section rest ops tree versions is h =
    let front : take (length section) (section ++ rest) ≡ section =
    take_at section rest (length section) refl in
    let there : length section ≤ length (section ++ rest) =
    omega (arith, length-append section rest) in
    let here : IsSection (take (length section) (section ++ rest)) ops tree =
    subst (λ (l : List ℕ). IsSection l ops tree) (sym front) h in
    let found = (section_at_lemma (section ++ rest) ops tree (length section) is).1 (there, here) in
    record {
      tree = tree;
      is_tree = h.reads;
      value = ap (is_satisfied_by versions) found;
    }

pub none_answers : (bytes : List ℕ) (at : ℕ) (why : DepWhy) (versions : List (Guid × ℕ))
    → IsBytes bytes → dep.IsRefused bytes at why → true_formats.is_satisfied bytes versions ≡ false
none_answers bytes at why versions is r =
    ap (is_satisfied_by versions) ((no_section_lemma bytes is).1 (at, why, r))

pub limits_kept : KeepsLimits true_formats
limits_kept = record { capsules = λ bytes found e. few bytes (capsules_of bytes) found refl e }
  where
    few : (bytes : List ℕ) (o : Option (List Capsule)) (found : List machine.Capsule)
        → capsules_of bytes ≡ o → option_map (map machine_capsule) o ≡ Some found
        → length found ≤ 8
    few bytes None found e h = absurd cc
    few bytes (Some capsules) found e h =
        let same : map machine_capsule capsules ≡ found = cc in
        omega (
          arith,
          ap length same,
          length-map capsules machine_capsule,
          few_within 8 bytes capsules e,
        )
