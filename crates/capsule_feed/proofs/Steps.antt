-- How a reader is made: it reads on in the next structure, tells a refusal, or is at its end.
use Rattle.std.proofs.Common.{◌≡◌, ◌⊎◌, ℕ, ◌+◌, ◌-◌, ◌^◌, ◌<◌, ◌≤◌, min, List, [], ◌∷◌, ◌++◌}
use Rattle.std.proofs.Common.{length}
use Rattle.std.proofs.Common.{Bool, true, false, cond, Some, None, refl, sym, ap, inl, inr}
use Rattle.std.proofs.Common.{arith, subst}
use Rattle.cu_base.specs.Refusals.{Row, first_refusal}
use Rattle.capsule_grammar.specs.declared.refusal.Why.{Why}
use Rattle.capsule_grammar.specs.declared.refusal.Refusal.{Refusal}
use Rattle.capsule_feed.specs.Structures.{Structure, structure}
use Rattle.capsule_feed.specs.Told.{Told, told_of, reading}
use Rattle.capsule_feed.specs.Cursors.{Goes, HasHead, IsFated, IsHead, IsInHand, IsLeft}
use Rattle.capsule_feed.specs.Cursors.{IsReading, InStructure}
use Rattle.capsule_feed.specs.declared.cursor.Cursor.{Cursor}
use Rattle.capsule_feed.specs.declared.cursor.Fate.{Fate}
use Rattle.capsule_feed.specs.declared.cursor.Fate.TheVariants.{Tells}
use Rattle.capsule_feed.specs.declared.span.SpanKind.{SpanKind}
use Rattle.capsule_feed.proofs.Goings.{left_begins, left_hand, left_told}

-- nothing was gathered yet
pub no_head : (from x : ℕ) (whole : List ℕ) → from ≡ x → HasHead from x [] whole
no_head from x whole e =
    let none : min 32 (x - from) ≡ 0 = omega (arith, e) in
    (omega (arith, e), rw none refl)

pub goes_on : (c : Cursor) (own : List ℕ) (x : ℕ) (whole : List ℕ) (kind : SpanKind) (size : ℕ)
    (left : List Structure) (rows : List (Row Told)) → c.kind ≡ kind
    → IsLeft c.fate c.total c.capsule c.start c.at (structure kind c.capsule c.item size ∷ left) rows
    whole
    → x < c.stop → c.at ≤ x → c.stop ≤ c.at + size → c.stop ≤ length whole
    → ((t : Told) → told_of whole ≡ Some t → c.stop ≤ t.reach) → InStructure kind c own whole
    → IsHead kind c [] x whole → Goes c own [] x whole
goes_on c own x whole kind size left rows same h more low fits within later inside head =
    let reading : IsReading c own [] x whole = record {
      more = more;
      later = later;
      inside = subst (λ (k : SpanKind). InStructure k c own whole) (sym same) inside;
      gathered = subst (λ (k : SpanKind). IsHead k c [] x whole) (sym same) head;
    } in
    let hand : IsInHand kind c.capsule c.item c.at c.stop whole =
    left_hand c.fate c.total c.capsule c.start c.at size c.stop kind c.capsule c.item left rows whole h
    fits in
    record {
      hand = subst (λ (k : SpanKind). IsInHand k c.capsule c.item c.at c.stop whole) (sym same) hand;
      begins = left_begins c.fate c.total c.capsule c.start c.at
          (structure kind c.capsule c.item size ∷ left) rows whole h;
      reached = low;
      ahead = omega (arith, more);
      within = within;
      fate = subst (λ (f : Fate). IsFated f c own [] x whole) (sym h.reads) reading;
    }

pub goes_told : (c : Cursor) (own : List ℕ) (x : ℕ) (whole : List ℕ) (r : Refusal) (reach : ℕ)
    (left : List Structure) (rows : List (Row (ℕ × Why))) (more : List (Row Told))
    → IsLeft c.fate c.total c.capsule c.start c.at left (reading reach rows ++ more) whole
    → first_refusal rows ≡ Some (r.at, r.why)
    → IsInHand c.kind c.capsule c.item c.at (c.start + reach) whole
    → c.at ≤ x → x ≤ c.start + reach → c.start + reach ≤ length whole → r.at ≤ reach
    → Goes (record c {
      fate = Tells (record { at = min (c.start + r.at) (2 ^ 32 - 1); why = r.why });
      stop = min (c.start + reach) (2 ^ 32 - 1);
    }) own [] x whole
goes_told c own x whole r reach left rows more h refused hand low ahead within place =
    let small : c.total < 2 ^ 32 = h.small in
    let e1 : min (c.start + r.at) (2 ^ 32 - 1) ≡ c.start + r.at =
    omega (arith, within, place, small, h.total) in
    let e2 : min (c.start + reach) (2 ^ 32 - 1) ≡ c.start + reach =
    omega (arith, within, small, h.total) in
    let told : told_of whole ≡ Some (record { reach = c.start + reach; at = c.start + r.at; why = r.why }) =
    left_told c.fate c.total c.capsule c.start c.at reach left rows more whole (r.at, r.why) h refused in
    record {
      hand = rw e2 hand;
      begins = left_begins c.fate c.total c.capsule c.start c.at left (reading reach rows ++ more) whole h;
      reached = low;
      ahead = rw e2 ahead;
      within = rw e2 within;
      fate = rw (e1, e2) told;
    }

-- ---- which place a table tells

pub three_places : (b1 b2 b3 : Bool) (p q s : ℕ) (u v w : Why) (r : ℕ × Why)
    → cond b1 (Some (p, u)) (cond b2 (Some (q, v)) (cond b3 (Some (s, w)) None)) ≡ Some r
    → (p ≡ r.0) ⊎ ((b1 ≡ false) × ((q ≡ r.0) ⊎ (s ≡ r.0)))
three_places true b2 b3 p q s u v w r e = inl (let same : (p, u) ≡ r = cc in ap (λ (x : ℕ × Why). x.0) same)
three_places false true b3 p q s u v w r e =
    inr (refl, inl (let same : (q, v) ≡ r = cc in ap (λ (x : ℕ × Why). x.0) same))
three_places false false true p q s u v w r e =
    inr (refl, inr (let same : (s, w) ≡ r = cc in ap (λ (x : ℕ × Why). x.0) same))
three_places false false false p q s u v w r e = absurd cc

pub four_places : (b1 b2 b3 b4 : Bool) (p q s z : ℕ) (u v w y : Why) (r : ℕ × Why)
    → cond b1 (Some (p, u)) (cond b2 (Some (q, v)) (cond b3 (Some (s, w)) (cond b4 (Some (z, y)) None)))
    ≡ Some r
    → (p ≡ r.0) ⊎ ((b1 ≡ false) × ((q ≡ r.0) ⊎ (s ≡ r.0) ⊎ (z ≡ r.0)))
four_places true b2 b3 b4 p q s z u v w y r e =
    inl (let same : (p, u) ≡ r = cc in ap (λ (x : ℕ × Why). x.0) same)
four_places false true b3 b4 p q s z u v w y r e =
    inr (refl, inl (let same : (q, v) ≡ r = cc in ap (λ (x : ℕ × Why). x.0) same))
four_places false false true b4 p q s z u v w y r e =
    inr (refl, inr (inl (let same : (s, w) ≡ r = cc in ap (λ (x : ℕ × Why). x.0) same)))
four_places false false false true p q s z u v w y r e =
    inr (refl, inr (inr (let same : (z, y) ≡ r = cc in ap (λ (x : ℕ × Why). x.0) same)))
four_places false false false false p q s z u v w y r e = absurd cc
