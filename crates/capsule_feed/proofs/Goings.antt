-- A reader goes from structure to structure.
use Rattle.std.proofs.Common.{◌≡◌, ℕ, ◌+◌, ◌-◌, ◌≤◌, List, [], ◌∷◌, ◌++◌, drop}
use Rattle.std.proofs.Common.{Some, None, refl, sym, ap, ◌∙◌, arith}
use Rattle.std.proofs.lemmas.List.{append_assoc}
use Rattle.cu_base.specs.Refusals.{Row, first_refusal}
use Rattle.fmp_headers.specs.CapsuleHeader.{image_size}
use Rattle.capsule_grammar.specs.declared.refusal.Why.{Why}
use Rattle.capsule_feed.specs.Structures.{Structure, structure, size_of, capsules_from}
use Rattle.capsule_feed.specs.Structures.{structures}
use Rattle.capsule_feed.specs.Told.{Told, told_of, told_at, reading}
use Rattle.capsule_feed.specs.Cursors.{IsBoundary, IsLeft, IsInHand}
use Rattle.capsule_feed.specs.declared.cursor.Fate.{Fate}
use Rattle.capsule_feed.specs.declared.span.SpanKind.{SpanKind}
use Rattle.capsule_feed.proofs.SpanLemmas.{size-append}
use Rattle.capsule_feed.proofs.Within.{cut_there, in_hand, in_none}
use Rattle.capsule_feed.proofs.Reaches.{reading_none, reading_some, told_at_low, told_from_low}

-- other rows of which the same holds first
pub left_rows : (fate : Fate) (count capsule start at : ℕ) (left : List Structure)
    (rows more : List (Row Told)) (whole : List ℕ) → IsLeft fate count capsule start at left rows whole
    → first_refusal rows ≡ first_refusal more → IsLeft fate count capsule start at left more whole
left_rows fate count capsule start at left rows more whole h e = record {
  reads = h.reads;
  bytes = h.bytes;
  total = h.total;
  small = h.small;
  few = h.few;
  before = h.before;
  structures = h.structures;
  size = h.size;
  told = h.told ∙ ap (told_at (7 - capsule) start (drop start whole)) e;
}

-- rows that were tested
pub left_tested : (fate : Fate) (count capsule start at reach : ℕ) (left : List Structure)
    (rows : List (Row (ℕ × Why))) (more : List (Row Told)) (whole : List ℕ)
    → IsLeft fate count capsule start at left (reading reach rows ++ more) whole
    → first_refusal rows ≡ None → IsLeft fate count capsule start at left more whole
left_tested fate count capsule start at reach left rows more whole h e =
    left_rows fate count capsule start at left (reading reach rows ++ more) more whole h
    (reading_none reach rows more e)

-- a structure that was passed
pub left_passed : (fate : Fate) (count capsule start at to : ℕ) (s : Structure) (left : List Structure)
    (rows : List (Row Told)) (whole : List ℕ)
    → IsLeft fate count capsule start at (s ∷ left) rows whole → at + s.size ≡ to
    → IsLeft fate count capsule start to left rows whole
left_passed fate count capsule start at to s left rows whole h e =
    let rest = drop start whole in
    let behind = capsules_from (7 - capsule) (capsule + 1) (drop (image_size rest) rest) in
    let sum : size_of (h.before ++ s ∷ []) ≡ size_of h.before + (s.size + 0) =
    size-append h.before (s ∷ []) in
    record {
      reads = h.reads;
      bytes = h.bytes;
      total = h.total;
      small = h.small;
      few = h.few;
      before = h.before ++ s ∷ [];
      structures = h.structures ∙ sym (append_assoc h.before (s ∷ []) (left ++ behind));
      size = omega (arith, sum, h.size, e);
      told = h.told;
    }

-- the refusal of a row that holds
pub left_told : (fate : Fate) (count capsule start at reach : ℕ) (left : List Structure)
    (rows : List (Row (ℕ × Why))) (more : List (Row Told)) (whole : List ℕ) (r : ℕ × Why)
    → IsLeft fate count capsule start at left (reading reach rows ++ more) whole
    → first_refusal rows ≡ Some r
    → told_of whole ≡ Some (record { reach = start + reach; at = start + r.0; why = r.1 })
left_told fate count capsule start at reach left rows more whole r h e =
    h.told ∙ ap (told_at (7 - capsule) start (drop start whole)) (reading_some reach rows more r e)

-- no row that is left is told before a place
pub left_later : (fate : Fate) (count capsule start at low stop : ℕ) (left : List Structure)
    (rows : List (Row Told)) (whole : List ℕ)
    → IsLeft fate count capsule start at left rows whole
    → ((u : Told) → first_refusal rows ≡ Some u → low ≤ u.reach)
    → (first_refusal rows ≡ None → low ≤ image_size (drop start whole)) → start + low ≡ stop
    → (t : Told) → told_of whole ≡ Some t → stop ≤ t.reach
left_later fate count capsule start at low stop left rows whole h some none same t e =
    let le : start + low ≤ t.reach =
    told_at_low (7 - capsule) start low (drop start whole) (first_refusal rows) t
    (λ next rest e2. told_from_low (7 - capsule) next rest t e2) some none (sym h.told ∙ e) in
    omega (arith, le, same)

-- the structure in hand is the first that is left
pub left_hand : (fate : Fate) (count capsule start at size stop : ℕ) (kind : SpanKind) (c k : ℕ)
    (left : List Structure) (rows : List (Row Told)) (whole : List ℕ)
    → IsLeft fate count capsule start at (structure kind c k size ∷ left) rows whole
    → stop ≤ at + size → IsInHand kind c k at stop whole
left_hand fate count capsule start at size stop kind c k left rows whole h fits =
    let rest = drop start whole in
    let behind = capsules_from (7 - capsule) (capsule + 1) (drop (image_size rest) rest) in
    λ from y low high.
    rw (h.structures)
    (in_hand h.before (left ++ behind) kind c k size at stop from y h.size low high fits)

-- no structure is in hand
pub no_hand : (kind : SpanKind) (c k at : ℕ) (whole : List ℕ) → IsInHand kind c k at at whole
no_hand kind c k at whole = λ from y low high.
    let same : at ≡ y = omega (arith, low, high) in
    rw same (in_none from y y kind c k (structures whole) refl)

-- what is left begins where a structure does
pub left_begins : (fate : Fate) (count capsule start at : ℕ) (left : List Structure)
    (rows : List (Row Told)) (whole : List ℕ) → IsLeft fate count capsule start at left rows whole
    → IsBoundary at whole
left_begins fate count capsule start at left rows whole h =
    let rest = drop start whole in
    let behind = capsules_from (7 - capsule) (capsule + 1) (drop (image_size rest) rest) in
    λ from y low high. rw (h.structures)
    (cut_there h.before (left ++ behind) at from y h.size low high)
