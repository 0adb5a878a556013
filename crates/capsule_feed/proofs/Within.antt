-- What lies between two places of structures, and where the structure in hand is given.
use Rattle.std.proofs.Common.{◌≡◌, ℕ, ◌+◌, ◌-◌, ◌≤◌, min, max, List, [], ◌∷◌, ◌++◌}
use Rattle.std.proofs.Common.{refl, sym, ap, ◌∙◌, arith}
use Rattle.std.proofs.lemmas.List.{append-nil}
use Rattle.std.proofs.lemmas.Grind.{flat_map-append}
use Rattle.std.proofs.lemmas.Bool.{le-ltb}
use Rattle.capsule_feed.specs.Structures.{Structure, placed, within, cut_to, size_of, structure}
use Rattle.capsule_feed.specs.declared.span.Span.{Span}
use Rattle.capsule_feed.specs.declared.span.SpanKind.{SpanKind}
use Rattle.capsule_feed.specs.Cursors.{span_of}

pub placed-append : (at : ℕ) (xs ys : List Structure)
    → placed at (xs ++ ys) ≡ placed at xs ++ placed (at + size_of xs) ys
placed-append at [] ys =
    let e : at + 0 ≡ at = omega arith in
    rw e refl
placed-append at (x ∷ xs) ys =
    let e : (at + x.size) + size_of xs ≡ at + (x.size + size_of xs) = omega arith in
    ap (λ (l : List Span). span_of x.kind x.capsule x.item at x.size ∷ l)
    (placed-append (at + x.size) xs ys
    ∙ ap (λ (n : ℕ). placed (at + x.size) xs ++ placed n ys) e)

-- nothing of a span lies between these places
pub cut_none : (from to : ℕ) (s : Span) → min to (s.at + s.length) ≤ max from s.at
    → cut_to from to s ≡ []
cut_none from to s h = rw (le-ltb (max from s.at) (min to (s.at + s.length)) h) refl

-- a span is cut the same at two places behind it, or by two lengths behind the place
cut_same : (from x y : ℕ) (kind : SpanKind) (capsule item at n m : ℕ)
    → min x (at + n) ≡ min y (at + m)
    → cut_to from x (span_of kind capsule item at n) ≡ cut_to from y (span_of kind capsule item at m)
cut_same from x y kind capsule item at n m e = rw e refl

pub within_low : (from to at : ℕ) (ss : List Structure) → to ≤ at → within from to (placed at ss) ≡ []
within_low from to at [] h = refl
within_low from to at (s ∷ ss) h =
    let none : cut_to from to (span_of s.kind s.capsule s.item at s.size) ≡ [] =
    cut_none from to (span_of s.kind s.capsule s.item at s.size) (omega (arith, h)) in
    let later : within from to (placed (at + s.size) ss) ≡ [] =
    within_low from to (at + s.size) ss (omega (arith, h)) in
    rw none later

pub within_same : (from x y at : ℕ) (ss : List Structure) → at + size_of ss ≤ x → x ≤ y
    → within from y (placed at ss) ≡ within from x (placed at ss)
within_same from x y at [] h le = refl
within_same from x y at (s ∷ ss) h le =
    let here : cut_to from y (span_of s.kind s.capsule s.item at s.size)
    ≡ cut_to from x (span_of s.kind s.capsule s.item at s.size) =
    cut_same from y x s.kind s.capsule s.item at s.size s.size (omega (arith, h, le)) in
    let later : within from y (placed (at + s.size) ss) ≡ within from x (placed (at + s.size) ss) =
    within_same from x y (at + s.size) ss (omega (arith, h)) le in
    rw here (ap (λ (l : List Span). cut_to from x (span_of s.kind s.capsule s.item at s.size) ++ l)
    later)

-- what lies before a place of the structure in hand is what lies before that structure, and what of
-- it lies before the place
pub in_hand : (before later : List Structure) (kind : SpanKind) (capsule item size at stop from y : ℕ)
    → size_of before ≡ at → at ≤ y → y ≤ stop → stop ≤ at + size
    → within from y (placed 0 (before ++ structure kind capsule item size ∷ later))
    ≡ within from at (placed 0 (before ++ structure kind capsule item size ∷ later))
    ++ cut_to from y (span_of kind capsule item at (stop - at))
in_hand before later kind capsule item size at stop from y e low high fits =
    let s = structure kind capsule item size in
    let place : 0 + size_of before ≡ at = omega (arith, e) in
    let split : placed 0 (before ++ s ∷ later) ≡ placed 0 before ++ placed at (s ∷ later) =
    placed-append 0 before (s ∷ later)
    ∙ ap (λ (n : ℕ). placed 0 before ++ placed n (s ∷ later)) place in
    let both : (z : ℕ) → within from z (placed 0 (before ++ s ∷ later))
    ≡ within from z (placed 0 before) ++ within from z (placed at (s ∷ later)) =
    λ z. ap (within from z) split
    ∙ flat_map-append (cut_to from z) (placed 0 before) (placed at (s ∷ later)) in
    let none : within from at (placed at (s ∷ later)) ≡ [] =
    within_low from at at (s ∷ later) (omega arith) in
    let last : within from y (placed (at + size) later) ≡ [] =
    within_low from y (at + size) later (omega (arith, high, fits)) in
    let cut : cut_to from y (span_of kind capsule item at size)
    ≡ cut_to from y (span_of kind capsule item at (stop - at)) =
    cut_same from y y kind capsule item at size (stop - at) (omega (arith, low, high, fits)) in
    let here : within from y (placed at (s ∷ later))
    ≡ cut_to from y (span_of kind capsule item at (stop - at)) =
    rw last (append-nil (cut_to from y (span_of kind capsule item at size)) ∙ cut) in
    let cut_y = cut_to from y (span_of kind capsule item at (stop - at)) in
    let front : within from y (placed 0 before) ≡ within from at (placed 0 before) =
    within_same from at y 0 before (omega (arith, e)) low in
    let start : within from at (placed 0 (before ++ s ∷ later)) ≡ within from at (placed 0 before) =
    both at ∙ (rw none (append-nil (within from at (placed 0 before)))) in
    let end : within from y (placed 0 (before ++ s ∷ later))
    ≡ within from at (placed 0 before) ++ cut_y =
    both y ∙ (rw (front, here) refl) in
    end ∙ ap (λ (l : List Span). l ++ cut_y) (sym start)

-- where nothing lies between
pub in_none : (from y at : ℕ) (kind : SpanKind) (capsule item : ℕ) (spans : List Span)
    → at ≡ y → within from y spans
    ≡ within from at spans ++ cut_to from y (span_of kind capsule item at (y - at))
in_none from y at kind capsule item spans e =
    let none : cut_to from y (span_of kind capsule item at (y - at)) ≡ [] =
    cut_none from y (span_of kind capsule item at (y - at)) (omega (arith, e)) in
    rw (none, e) (sym (append-nil (within from y spans)))

-- nothing lies between a place and an earlier one
pub within_none : (from to : ℕ) (spans : List Span) → to ≤ from → within from to spans ≡ []
within_none from to [] h = refl
within_none from to (s ∷ spans) h =
    let none : cut_to from to s ≡ [] = cut_none from to s (omega (arith, h)) in
    rw none (within_none from to spans h)

-- a structure that ends before a place is cut nowhere behind it
within_past : (from to at : ℕ) (ss : List Structure) → at + size_of ss ≤ from
    → within from to (placed at ss) ≡ []
within_past from to at [] h = refl
within_past from to at (s ∷ ss) h =
    let none : cut_to from to (span_of s.kind s.capsule s.item at s.size) ≡ [] =
    cut_none from to (span_of s.kind s.capsule s.item at s.size) (omega (arith, h)) in
    let later : within from to (placed (at + s.size) ss) ≡ [] =
    within_past from to (at + s.size) ss (omega (arith, h)) in
    rw none later

-- structures that begin behind two places are cut the same from both
within_from : (a b to at : ℕ) (ss : List Structure) → a ≤ at → b ≤ at
    → within a to (placed at ss) ≡ within b to (placed at ss)
within_from a b to at [] ha hb = refl
within_from a b to at (s ∷ ss) ha hb =
    let ea : max a at ≡ at = omega (arith, ha) in
    let eb : max b at ≡ at = omega (arith, hb) in
    let later : within a to (placed (at + s.size) ss) ≡ within b to (placed (at + s.size) ss) =
    within_from a b to (at + s.size) ss (omega (arith, ha)) (omega (arith, hb)) in
    rw (ea, eb, later) refl

-- what lies between two places is cut where a structure begins
pub cut_there : (before behind : List Structure) (a from y : ℕ) → size_of before ≡ a → from ≤ a → a ≤ y
    → within from y (placed 0 (before ++ behind))
    ≡ within from a (placed 0 (before ++ behind)) ++ within a y (placed 0 (before ++ behind))
cut_there before behind a from y e low high =
    let place : 0 + size_of before ≡ a = omega (arith, e) in
    let split : placed 0 (before ++ behind) ≡ placed 0 before ++ placed a behind =
    placed-append 0 before behind ∙ ap (λ (n : ℕ). placed 0 before ++ placed n behind) place in
    let both : (f z : ℕ) → within f z (placed 0 (before ++ behind))
    ≡ within f z (placed 0 before) ++ within f z (placed a behind) =
    λ f z. ap (within f z) split ∙ flat_map-append (cut_to f z) (placed 0 before) (placed a behind) in
    let same : within from y (placed 0 before) ≡ within from a (placed 0 before) =
    within_same from a y 0 before (omega (arith, e)) high in
    let none : within from a (placed a behind) ≡ [] = within_low from a a behind (omega arith) in
    let past : within a y (placed 0 before) ≡ [] = within_past a y 0 before (omega (arith, e)) in
    let on : within from y (placed a behind) ≡ within a y (placed a behind) =
    within_from from a y a behind low (omega arith) in
    let first : within from a (placed 0 (before ++ behind)) ≡ within from a (placed 0 before) =
    both from a ∙ (rw none (append-nil (within from a (placed 0 before)))) in
    let second : within a y (placed 0 (before ++ behind)) ≡ within a y (placed a behind) =
    both a y ∙ (rw past refl) in
    let third : within from y (placed 0 (before ++ behind))
    ≡ within from a (placed 0 before) ++ within a y (placed a behind) =
    both from y ∙ (rw (same, on) refl) in
    third ∙ (rw (first, second) refl)
