-- The capsules of bytes, as a function, are those that the bytes spell.
use Rattle.std.proofs.Common.{◌≡◌, ◌↔◌, ℕ, zero, suc, ◌+◌, ◌<◌, ◌≤◌, ◌==◌, Bool, true, false, List}
use Rattle.std.proofs.Common.{[], ◌∷◌, ◌++◌, length, drop, cond, Option, Some, None, is_some, refl, sym, ap}
use Rattle.std.proofs.Common.{subst, ◌∙◌, ◌⊎◌, ◌-◌, inl, inr, arith, append_assoc, length-append}
use Rattle.std.specs.Prelude.{option_map}
use Rattle.std.specs.List.{flat_map, AllByRecursion}
use Rattle.std.proofs.lemmas.Bool.{eq-eqb, ne_eqb}
use Rattle.std.proofs.lemmas.List.{append-nil, drop_at}
use Rattle.cu_base.specs.Bytes.{IsBytes}
use Rattle.fmp_headers.specs.CapsuleHeader.{image_size}
use Rattle.capsule_grammar.specs.declared.value.Capsule.{Capsule}
use Rattle.capsule_grammar.specs.declared.refusal.Why.{Why}
use Rattle.capsule_grammar.specs.BackToBack.{SpellsAll, RefusedAll, HasOneMore, HasRefusedRest}
use Rattle.capsule_grammar.specs.CapsulesOf.{capsules_of, capsules_within}
use Rattle.capsule_grammar.specs.Fits.{IsCapsule}
use Rattle.capsule_grammar.specs.Reading.{capsule_of}
use Rattle.capsule_grammar.specs.Refusals.{refusal}
use Rattle.capsule_grammar.specs.Spelling.{spelling}
use Rattle.capsule_grammar.proofs.AllLemmas.{Decided, all_or_refused, some_bytes}
use Rattle.capsule_grammar.proofs.Spelled.{spelled_is_read, spelled_reads_back, spelled_size}

abbrev before : Capsule → Option (List Capsule) → Option (List Capsule)
before x more = option_map (λ (cs : List Capsule). x ∷ cs) more

-- a capsule that is all of the bytes
last_one : (n : ℕ) (x : Capsule) → IsCapsule x
    → capsules_within (suc n) (spelling x ++ []) ≡ Some (x ∷ [])
unfolding capsules_within
last_one n x is =
    let bytes = spelling x ++ [] in
    let size : image_size bytes ≡ length bytes =
    spelled_size x [] is ∙ ap length (sym (append-nil (spelling x))) in
    rw (
      spelled_is_read x [] is,
      eq-eqb (image_size bytes) (length bytes) size,
      spelled_reads_back x [] is,
    ) refl

-- a capsule and more bytes
one_of_more : (n : ℕ) (x : Capsule) (rest : List ℕ) → IsCapsule x → 0 < length rest
    → capsules_within (suc n) (spelling x ++ rest) ≡ before x (capsules_within n rest)
unfolding capsules_within
one_of_more n x rest is more =
    let bytes = spelling x ++ rest in
    let size = spelled_size x rest is in
    let behind : drop (image_size bytes) bytes ≡ rest =
    ap (λ (k : ℕ). drop k bytes) size ∙ drop_at (spelling x) rest (length (spelling x)) refl in
    let test : (image_size bytes == length bytes) ≡ false =
    ne_eqb (image_size bytes) (length bytes)
    (λ e. omega (arith, e, size, length-append (spelling x) rest, more)) in
    rw (spelled_is_read x rest is, test, spelled_reads_back x rest is, behind) refl

some_more : (x : Capsule) (more : List Capsule) → IsCapsule x → 0 < length (flat_map spelling (x ∷ more))
some_more x more is =
    omega (arith, some_bytes x is, length-append (spelling x) (flat_map spelling more))

-- capsules are read
are_read : (n : ℕ) (cs : List Capsule) → AllByRecursion IsCapsule cs → 0 < length cs
    → length cs ≤ n → capsules_within n (flat_map spelling cs) ≡ Some cs
are_read n [] each some few = absurd (omega (arith, some))
are_read zero (x ∷ cs) each some few = absurd (omega (arith, few))
are_read (suc n) (x ∷ []) each some few = last_one n x each.0
are_read (suc n) (x ∷ y ∷ cs) each some few =
    one_of_more n x (flat_map spelling (y ∷ cs)) each.0 (some_more y cs each.1.0)
    ∙ ap (before x) (are_read n (y ∷ cs) each.1 (omega arith) (omega (arith, few)))

-- what stands behind capsules decides
behind_none : (n m : ℕ) (cs : List Capsule) (rest : List ℕ) → m ≡ length cs + n
    → AllByRecursion IsCapsule cs → (0 < length cs → 0 < length rest)
    → capsules_within n rest ≡ None → capsules_within m (flat_map spelling cs ++ rest) ≡ None
behind_none n m [] rest sum each more none =
    let same : m ≡ n = omega (arith, sum) in
    ap (λ (k : ℕ). capsules_within k rest) same ∙ none
behind_none n zero (x ∷ cs) rest sum each more none = absurd (omega (arith, sum))
behind_none n (suc m) (x ∷ cs) rest sum each more none =
    let some : 0 < length rest = more (omega arith) in
    let behind = flat_map spelling cs ++ rest in
    let long : 0 < length behind =
    omega (arith, some, length-append (flat_map spelling cs) rest) in
    ap (capsules_within (suc m)) (append_assoc (spelling x) (flat_map spelling cs) rest)
    ∙ one_of_more m x behind each.0 long
    ∙ ap (before x) (behind_none n m cs rest (omega (arith, sum)) each.1 (λ here. some) none)

refused_here : (n : ℕ) (bytes : List ℕ) (r : ℕ × Why) → refusal bytes ≡ Some r
    → capsules_within n bytes ≡ None
unfolding capsules_within
refused_here zero bytes r e = refl
refused_here (suc n) bytes r e = rw e refl

no_more_left : (bytes : List ℕ) → capsules_within zero bytes ≡ None
unfolding capsules_within
no_more_left bytes = refl

none_by : (bytes : List ℕ) (at : ℕ) (why : Why) (cs : List Capsule) (rest : List ℕ)
    → AllByRecursion IsCapsule cs → flat_map spelling cs ++ rest ≡ bytes
    → HasOneMore cs rest at why ⊎ HasRefusedRest cs rest at why → capsules_of bytes ≡ None
none_by bytes at why cs rest each whole (inl h) =
    ap capsules_of (sym whole)
    ∙ behind_none 0 8 cs rest (omega (arith, h.count)) each (λ some. h.more) (no_more_left rest)
none_by bytes at why cs rest each whole (inr h) =
    let left : ℕ = 8 - length cs in
    ap capsules_of (sym whole)
    ∙ behind_none left 8 cs rest (omega (arith, h.few)) each h.more
    (refused_here left rest (h.from, why) h.refused)

capsules_given : (bytes : List ℕ) (cs : List Capsule) → SpellsAll cs bytes
    → capsules_of bytes ≡ Some cs
capsules_given bytes cs s =
    ap capsules_of (sym s.whole) ∙ are_read 8 cs s.each s.some s.few

none_given : (bytes : List ℕ) (at : ℕ) (why : Why) → RefusedAll bytes at why
    → capsules_of bytes ≡ None
none_given bytes at why r = none_by bytes at why r.capsules r.rest r.each r.whole r.refused

some_only : (o : Option (List Capsule)) (a b : List Capsule) → o ≡ Some a → o ≡ Some b → a ≡ b
some_only o a b e f = let same : Some a ≡ Some b = sym e ∙ f in cc

some_or_none : (o : Option (List Capsule)) (a : List Capsule) → o ≡ Some a → o ≡ None → ⊥
some_or_none o a e f = let same : Some a ≡ None = sym e ∙ f in cc

those_given : (bytes : List ℕ) (cs : List Capsule) → Decided bytes → capsules_of bytes ≡ Some cs
    → SpellsAll cs bytes
those_given bytes cs (inl (others, s)) e =
    subst (λ (l : List Capsule). SpellsAll l bytes)
    (some_only (capsules_of bytes) others cs (capsules_given bytes others s) e) s
those_given bytes cs (inr (at, why, r)) e =
    absurd (some_or_none (capsules_of bytes) cs e (none_given bytes at why r))

those_refused : (bytes : List ℕ) → Decided bytes → capsules_of bytes ≡ None
    → (at : ℕ) × (why : Why) × RefusedAll bytes at why
those_refused bytes (inl (cs, s)) e =
    absurd (some_or_none (capsules_of bytes) cs (capsules_given bytes cs s) e)
those_refused bytes (inr r) e = r

pub capsules_lemma : (bytes : List ℕ) (cs : List Capsule) → IsBytes bytes
    → (capsules_of bytes ≡ Some cs) ↔ SpellsAll cs bytes
capsules_lemma bytes cs is = (
  those_given bytes cs (all_or_refused bytes is),
  capsules_given bytes cs,
)

pub no_capsules_lemma : (bytes : List ℕ) → IsBytes bytes
    → (capsules_of bytes ≡ None) ↔ ((at : ℕ) × (why : Why) × RefusedAll bytes at why)
no_capsules_lemma bytes is = (
  those_refused bytes (all_or_refused bytes is),
  λ r. none_given bytes r.0 r.1 r.2,
)

-- of any numbers there are at most so many
pub few_within : (n : ℕ) (bytes : List ℕ) (cs : List Capsule) → capsules_within n bytes ≡ Some cs
    → length cs ≤ n
unfolding capsules_within
few_within zero bytes cs e = absurd cc
few_within (suc n) bytes cs e = by_refusal (refusal bytes) (image_size bytes == length bytes)
    (capsules_within n (drop (image_size bytes) bytes))
    (λ more h. few_within n (drop (image_size bytes) bytes) more h) e
  where
    by_more : (o : Option (List Capsule)) → ((more : List Capsule) → o ≡ Some more
        → length more ≤ n) → before (capsule_of bytes) o ≡ Some cs → length cs ≤ suc n
    by_more None few e = absurd cc
    by_more (Some more) few e =
        let same : capsule_of bytes ∷ more ≡ cs = cc in
        omega (arith, ap length same, few more refl)

    by_refusal : (r : Option (ℕ × Why)) (ends : Bool) (o : Option (List Capsule))
        → ((more : List Capsule) → o ≡ Some more → length more ≤ n)
        → cond (is_some r) None (cond ends (Some (capsule_of bytes ∷ []))
        (before (capsule_of bytes) o)) ≡ Some cs → length cs ≤ suc n
    by_refusal (Some r) ends o few e = absurd cc
    by_refusal None true o few e =
        let same : capsule_of bytes ∷ [] ≡ cs = cc in
        omega (arith, ap length same)
    by_refusal None false o few e = by_more o few e
