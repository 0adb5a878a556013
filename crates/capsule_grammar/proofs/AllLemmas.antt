-- Capsules back to back: one list, or one refusal, and never both.
use Rattle.std.proofs.Common.{◌≡◌, ℕ, zero, suc, ◌+◌, ◌<◌, ◌≤◌, List, [], ◌∷◌, ◌++◌, length, take}
use Rattle.std.proofs.Common.{drop, Option, Some, None, refl, sym, ap, ◌∙◌, ◌⊎◌, inl, inr, arith}
use Rattle.std.proofs.Common.{append_assoc, length-append}
use Rattle.std.specs.List.{flat_map, AllByRecursion}
use Rattle.std.proofs.lemmas.Bool.{cases_eq}
use Rattle.std.proofs.lemmas.List.{append-nil, drop_at, length_push}
use Rattle.cu_base.specs.Bytes.{IsBytes}
use Rattle.cu_base.proofs.Fields.{IsBytes-drop}
use Rattle.fmp_headers.specs.CapsuleHeader.{image_size}
use Rattle.capsule_grammar.specs.declared.value.Capsule.{Capsule}
use Rattle.capsule_grammar.specs.declared.refusal.Why.{Why}
use Rattle.capsule_grammar.specs.declared.refusal.Why.TheVariants.{TooManyCapsules}
use Rattle.capsule_grammar.specs.BackToBack.{SpellsAll, RefusedAll, HasOneMore, HasRefusedRest}
use Rattle.capsule_grammar.specs.Fits.{IsCapsule}
use Rattle.capsule_grammar.specs.Reading.{capsule_of}
use Rattle.capsule_grammar.specs.Refusals.{refusal}
use Rattle.capsule_grammar.specs.Spelling.{spelling}
use Rattle.capsule_grammar.proofs.BackLemmas.{Before, before_grown, spells_all, one_more}
use Rattle.capsule_grammar.proofs.BackLemmas.{refused_rest}
use Rattle.capsule_grammar.proofs.FoundLemmas.{both}
use Rattle.capsule_grammar.proofs.Read.{read_is_capsule, read_is_spelled, read_length}
use Rattle.capsule_grammar.proofs.Spelled.{spelled_is_read, spelled_reads_back, spelling_length}

-- ---- two lists at one front

-- the second list is the first and more
record IsMore (a b : List Capsule) (r s : List ℕ) : Type 0 where
  more : List Capsule
  each : AllByRecursion IsCapsule more
  list : b ≡ a ++ more
  rest : r ≡ flat_map spelling more ++ s

front_same : (x y : Capsule) (p q : List ℕ) → IsCapsule x → IsCapsule y
    → spelling x ++ p ≡ spelling y ++ q → (x ≡ y) × (p ≡ q)
front_same x y p q ix iy e =
    let same : x ≡ y = sym (spelled_reads_back x p ix) ∙ ap capsule_of e
    ∙ spelled_reads_back y q iy in
    let n = length (spelling x) in
    let long : length (spelling y) ≡ n = ap (λ (c : Capsule). length (spelling c)) (sym same) in
    (same, sym (drop_at (spelling x) p n refl) ∙ ap (drop n) e ∙ drop_at (spelling y) q n long)

more_on : (x y : Capsule) (a b : List Capsule) (r s : List ℕ) → x ≡ y
    → IsMore a b r s ⊎ IsMore b a s r → IsMore (x ∷ a) (y ∷ b) r s ⊎ IsMore (y ∷ b) (x ∷ a) s r
more_on x y a b r s same (inl h) = inl (record {
  more = h.more;
  each = h.each;
  list = ap (λ (c : Capsule). c ∷ b) (sym same) ∙ ap (λ (l : List Capsule). x ∷ l) h.list;
  rest = h.rest;
})
more_on x y a b r s same (inr h) = inr (record {
  more = h.more;
  each = h.each;
  list = ap (λ (c : Capsule). c ∷ a) same ∙ ap (λ (l : List Capsule). y ∷ l) h.list;
  rest = h.rest;
})

compare : (a b : List Capsule) (r s : List ℕ) → AllByRecursion IsCapsule a
    → AllByRecursion IsCapsule b
    → flat_map spelling a ++ r ≡ flat_map spelling b ++ s → IsMore a b r s ⊎ IsMore b a s r
compare [] b r s ha hb e = inl (record { more = b; each = hb; list = refl; rest = e })
compare (x ∷ a) [] r s ha hb e = inr (record { more = x ∷ a; each = ha; list = refl; rest = sym e })
compare (x ∷ a) (y ∷ b) r s ha hb e =
    let p = flat_map spelling a in
    let q = flat_map spelling b in
    let whole = sym (append_assoc (spelling x) p r) ∙ e ∙ append_assoc (spelling y) q s in
    let front = front_same x y (p ++ r) (q ++ s) ha.0 hb.0 whole in
    more_on x y a b r s front.0 (compare a b r s ha.1 hb.1 front.1)

pub some_bytes : (c : Capsule) → IsCapsule c → 0 < length (spelling c)
some_bytes c is = omega (arith, spelling_length c is.guid)

nothing_more : (more : List Capsule) (s : List ℕ) → AllByRecursion IsCapsule more
    → [] ≡ flat_map spelling more ++ s → (more ≡ []) × (s ≡ [])
nothing_more [] s each e = (refl, sym e)
nothing_more (x ∷ more) s each e =
    let rest = flat_map spelling more in
    let all = length-append (spelling x ++ rest) s in
    let first = length-append (spelling x) rest in
    absurd (omega (arith, ap length e, all, first, some_bytes x each.0))

-- ---- one list

same_list : (a b : List Capsule) → IsMore a b [] [] → b ≡ a
same_list a b m =
    m.list ∙ ap (λ (l : List Capsule). a ++ l) (nothing_more m.more [] m.each m.rest).0
    ∙ append-nil a

pub one_list : (a b : List Capsule) (bytes : List ℕ) → SpellsAll a bytes → SpellsAll b bytes → a ≡ b
one_list a b bytes ha hb =
    let p = flat_map spelling a in
    let q = flat_map spelling b in
    let whole = append-nil p ∙ ha.whole ∙ sym hb.whole ∙ sym (append-nil q) in
    elim (compare a b [] [] ha.each hb.each whole) [
      | inl m ↦ sym (same_list a b m)
      | inr m ↦ same_list b a m
    ]

-- ---- never both

begins_not_refused : (x : Capsule) (more : List Capsule) (s rest : List ℕ) → IsCapsule x
    → rest ≡ flat_map spelling (x ∷ more) ++ s → refusal rest ≡ None
begins_not_refused x more s rest is e =
    ap refusal (e ∙ append_assoc (spelling x) (flat_map spelling more) s)
    ∙ spelled_is_read x (flat_map spelling more ++ s) is

abbrev IsRefusedBehind : List Capsule → List ℕ → ℕ → Why → Type 0
IsRefusedBehind cs rest at why = HasOneMore cs rest at why ⊎ HasRefusedRest cs rest at why

-- where fewer than eight stand before it, no capsule begins what is refused
no_more : (cs : List Capsule) (rest : List ℕ) (at : ℕ) (why : Why) (x : Capsule)
    (more : List Capsule) (s : List ℕ)
    → IsCapsule x → length cs < 8 → rest ≡ flat_map spelling (x ∷ more) ++ s
    → IsRefusedBehind cs rest at why → ⊥
no_more cs rest at why x more s is few e (inl h) = absurd (omega (arith, h.count, few))
no_more cs rest at why x more s is few e (inr h) =
    both (refusal rest) (h.from, why) h.refused (begins_not_refused x more s rest is e)

-- the end of the bytes is not refused behind a capsule
no_end : (cs : List Capsule) (rest : List ℕ) (at : ℕ) (why : Why) → rest ≡ [] → 0 < length cs
    → IsRefusedBehind cs rest at why → ⊥
no_end cs rest at why e some (inl h) = absurd (omega (arith, h.more, ap length e))
no_end cs rest at why e some (inr h) =
    let more = h.more some in
    absurd (omega (arith, more, ap length e))

longer : (cs a more : List Capsule) (rest : List ℕ) (at : ℕ) (why : Why) → cs ≡ a ++ more
    → rest ≡ flat_map spelling more ++ [] → AllByRecursion IsCapsule more → 0 < length cs
    → length cs ≤ 8
    → IsRefusedBehind a rest at why → ⊥
longer cs a [] rest at why list e each some few refused =
    no_end a rest at why e (omega (arith, some, ap length list, length-append a [])) refused
longer cs a (x ∷ more) rest at why list e each some few refused =
    let size = length-append a (x ∷ more) in
    no_more a rest at why x more [] each.0 (omega (arith, few, ap length list, size)) e refused

pub never_both : (cs : List Capsule) (bytes : List ℕ) (at : ℕ) (why : Why)
    → SpellsAll cs bytes → RefusedAll bytes at why → ⊥
never_both cs bytes at why s r =
    let whole = append-nil (flat_map spelling cs) ∙ s.whole ∙ sym r.whole in
    elim (compare cs r.capsules [] r.rest s.each r.each whole) [
      | inl m ↦
          let end = nothing_more m.more r.rest m.each m.rest in
          let some : 0 < length r.capsules =
          omega (arith, s.some, ap length m.list, length-append cs m.more) in
          no_end r.capsules r.rest at why end.1 some r.refused
      | inr m ↦ longer cs r.capsules m.more r.rest at why m.list m.rest m.each s.some s.few
          r.refused
    ]

-- ---- one refusal

abbrev from_of : Option (ℕ × Why) → ℕ
from_of None = 0
from_of (Some r) = r.0

abbrev why_of : Why → Option (ℕ × Why) → Why
why_of other None = other
why_of other (Some r) = r.1

at_most : (cs : List Capsule) (rest : List ℕ) (at : ℕ) (why : Why) → IsRefusedBehind cs rest at why
    → length cs ≤ 8
at_most cs rest at why (inl h) = omega (arith, h.count)
at_most cs rest at why (inr h) = omega (arith, h.few)

same_refusal : (a b : List Capsule) (r s : List ℕ) (at to : ℕ) (why cause : Why) → a ≡ b → r ≡ s
    → IsRefusedBehind a r at why → IsRefusedBehind b s to cause → (at ≡ to) × (why ≡ cause)
same_refusal a b r s at to why cause list rest (inl h) (inl k) = (
  h.place ∙ ap (λ (l : List Capsule). length (flat_map spelling l)) list ∙ sym k.place,
  h.cause
      ∙ sym k.cause,
)
same_refusal a b r s at to why cause list rest (inl h) (inr k) =
    absurd (omega (arith, h.count, k.few, ap length list))
same_refusal a b r s at to why cause list rest (inr h) (inl k) =
    absurd (omega (arith, h.few, k.count, ap length list))
same_refusal a b r s at to why cause list rest (inr h) (inr k) =
    let e : Some (h.from, why) ≡ Some (k.from, cause) =
    sym h.refused ∙ ap refusal rest ∙ k.refused in
    let from : h.from ≡ k.from = ap from_of e in
    let size = ap (λ (l : List Capsule). length (flat_map spelling l)) list in
    (omega (arith, h.place, k.place, from, size), ap (why_of why) e)

told_same : (a b more : List Capsule) (r s : List ℕ) (at to : ℕ) (why cause : Why) → b ≡ a ++ more
    → r ≡ flat_map spelling more ++ s → AllByRecursion IsCapsule more
    → IsRefusedBehind a r at why → IsRefusedBehind b s to cause → (at ≡ to) × (why ≡ cause)
told_same a b [] r s at to why cause list rest each ra rb =
    same_refusal a b r s at to why cause (sym (list ∙ append-nil a)) rest ra rb
told_same a b (x ∷ more) r s at to why cause list rest each ra rb =
    let few = at_most b s to cause rb in
    let size = length-append a (x ∷ more) in
    absurd (no_more a r at why x more s each.0 (omega (arith, few, ap length list, size)) rest ra)

pub one_refusal : (bytes : List ℕ) (at to : ℕ) (why cause : Why)
    → RefusedAll bytes at why → RefusedAll bytes to cause → (at ≡ to) × (why ≡ cause)
one_refusal bytes at to why cause r q =
    elim (compare r.capsules q.capsules r.rest q.rest r.each q.each (r.whole ∙ sym q.whole)) [
      | inl m ↦
          told_same r.capsules q.capsules m.more r.rest q.rest at to why cause m.list m.rest m.each
          r.refused q.refused
      | inr m ↦
          let same =
          told_same q.capsules r.capsules m.more q.rest r.rest to at cause why m.list m.rest m.each
          q.refused r.refused in
          (sym same.0, sym same.1)
    ]

-- ---- one or the other

abbrev pub Decided : List ℕ → Type 0
Decided bytes = ((cs : List Capsule) × SpellsAll cs bytes)
    ⊎ ((at : ℕ) × (why : Why) × RefusedAll bytes at why)

step : (n : ℕ) (cs : List Capsule) (at : ℕ) (bytes : List ℕ) (r : Option (ℕ × Why)) → IsBytes bytes
    → Before cs at bytes → length cs + suc n ≡ 8 → (0 < length cs → at < length bytes)
    → refusal (drop at bytes) ≡ r
    → ((new : List Capsule) (to : ℕ) → Before new to bytes → length new + n ≡ 8
    → (0 < length new → to < length bytes) → Decided bytes)
    → Decided bytes
step n cs at bytes (Some r) is b count more e next =
    inr (
      r.0 + at,
      r.1,
      refused_rest cs at r.0 (r.0 + at) r.1 r.1 bytes b
          (omega (arith, count)) more e refl refl,
    )
step n cs at bytes None is b count more e next =
    let rest = drop at bytes in
    let is_rest = IsBytes-drop at bytes is in
    let c = capsule_of rest in
    let size = image_size rest in
    let long : size ≡ length (spelling c) = sym (read_length rest is_rest e) in
    let spelled : take size rest ≡ spelling c = sym (read_is_spelled rest is_rest e) in
    let new = cs ++ c ∷ [] in
    let grown : Before new (at + size) bytes =
    before_grown cs c at size bytes b (read_is_capsule rest is_rest e) long spelled in
    let one : length new ≡ length cs + 1 = length_push cs c in
    elim (cases_eq (at + size) (length bytes)) [
      | inl end ↦ inl (
        new,
        spells_all new (at + size) bytes grown (omega (arith, one))
            (omega (arith, one, count)) end,
      )
      | inr other ↦ next new (at + size) grown (omega (arith, one, count))
          (λ some. omega (arith, grown.within, other))
    ]

decided : (n : ℕ) (cs : List Capsule) (at : ℕ) (bytes : List ℕ) → IsBytes bytes → Before cs at bytes
    → length cs + n ≡ 8 → (0 < length cs → at < length bytes) → Decided bytes
decided zero cs at bytes is b count more =
    let some : 0 < length cs = omega (arith, count) in
    inr (at, TooManyCapsules, one_more cs at bytes b (omega (arith, count)) (more some))
decided (suc n) cs at bytes is b count more =
    step n cs at bytes (refusal (drop at bytes)) is b count more refl
    (λ new to grown fewer some. decided n new to bytes is grown fewer some)

pub all_or_refused : (bytes : List ℕ) → IsBytes bytes → Decided bytes
all_or_refused bytes is =
    decided 8 [] 0 bytes is (record { each = tt; front = refl; within = omega arith }) refl
    (λ some. absurd (omega (arith, some)))
