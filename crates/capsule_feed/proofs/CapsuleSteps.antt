-- From capsule to capsule, and through a capsule header.
use Rattle.std.proofs.Common.{◌≡◌, ◌≢◌, ℕ, suc, ◌+◌, ◌-◌, ◌^◌, ◌<◌, ◌≤◌, min, List, [], ◌∷◌}
use Rattle.std.proofs.Common.{◌++◌, length, drop, take, ◌||◌, Ok, Result}
use Rattle.std.proofs.Common.{Bool, true, false, ltb, Some, None, refl, sym, ap, ◌∙◌, inl, inr}
use Rattle.std.proofs.Common.{arith, subst}
use Rattle.std.proofs.lemmas.List.{length-drop, drop-drop, take_all}
use Rattle.std.proofs.lemmas.Bool.{cond-true, cond-false, lt-ltb, le-ltb, ltb-false}
use Rattle.cu_base.specs.Refusals.{Row, first_refusal}
use Rattle.cu_base.specs.Fields.{field}
use Rattle.fmp_headers.specs.CapsuleHeader.{header_size, image_size, is_short, is_above_limit}
use Rattle.fmp_headers.specs.CapsuleHeader.{capsule_header, capsule_header_fields}
use Rattle.fmp_headers.specs.CapsuleHeader.{has_bad_header_size}
use Rattle.capsule_grammar.specs.declared.refusal.Why.TheVariants.{TooManyCapsules}
use Rattle.capsule_grammar.specs.Accepted.{IsFront}
use Rattle.capsule_grammar.specs.Refusals.{capsule_rows, is_fmp_guid, body_of}
use Rattle.capsule_grammar.proofs.Read.{is_front}
use Rattle.capsule_grammar.proofs.FrontLemmas.{header_same}
use Rattle.capsule_grammar.specs.Fronts.{Begins}
use Rattle.capsule_grammar.specs.declared.refusal.Refusal.{Refusal}
use Rattle.capsule_grammar.specs.declared.refusal.Why.TheVariants as whys
use Rattle.fmp_headers.specs.declared.capsule.CapsuleHeader.{CapsuleHeader}
use Rattle.fmp_headers.specs.declared.faults.HeaderFault.{HeaderFault}
use Rattle.capsule_feed.specs.Structures.{Structure, structure, capsules_from}
use Rattle.capsule_feed.specs.Structures.{capsule_structures}
use Rattle.capsule_feed.specs.Structures.{behind_header, body_structures, behind_fmp_head}
use Rattle.capsule_feed.specs.Told.{Told, told_of, told_from, capsule_all_told, body_told}
use Rattle.capsule_feed.specs.Told.{fmp_front_told, items_told, capsule_told, reading}
use Rattle.capsule_feed.specs.Cursors.{AtBody, AtEnd, AtExt, AtFmpHead, AtOther, Goes, HasHead}
use Rattle.capsule_feed.specs.Cursors.{InHeader}
use Rattle.capsule_feed.specs.Cursors.{IsBetween, IsInHand, IsLeft, HeaderIs, InFmpHead}
use Rattle.capsule_feed.specs.declared.cursor.Cursor.{Cursor}
use Rattle.capsule_feed.specs.declared.cursor.Fate.{Fate}
use Rattle.capsule_feed.specs.declared.cursor.Fate.TheVariants.{Reads, Tells, Ends}
use Rattle.capsule_feed.specs.declared.span.SpanKind.TheVariants.{Header, Ext, Other, FmpHead}
use Rattle.capsule_feed.proofs.SpanLemmas.{capsules_then}
use Rattle.capsule_feed.proofs.ToldLemmas.{told_from_suc, told_from_zero}
use Rattle.capsule_feed.proofs.Reaches.{header_low, header_none, body_low, fmp_low}
use Rattle.capsule_feed.proofs.Goings.{left_begins, left_hand, left_later, left_passed}
use Rattle.capsule_feed.proofs.Goings.{left_tested, no_hand}
use Rattle.capsule_feed.proofs.ItemSteps.{body_long, whole_le}
use Rattle.capsule_feed.proofs.Within.{cut_there}
use Rattle.capsule_feed.proofs.Steps.{goes_on, goes_told, no_head, three_places}
use Rattle.capsule_feed.proofs.HeadLemmas.{head_begins, head_length}

-- a capsule that may stand here is what is left
between_left : (fate : Fate) (count capsule start : ℕ) (whole : List ℕ)
    → IsBetween count capsule start whole → capsule < 8 → fate ≡ Reads
    → IsLeft fate count capsule start start (capsule_structures capsule (drop start whole))
    (capsule_all_told (drop start whole)) whole
between_left fate count capsule start whole b few reads =
    let n : 8 - capsule ≡ suc (7 - capsule) = omega (arith, few) in
    record {
      reads = reads;
      bytes = b.bytes;
      total = b.total;
      small = b.small;
      few = few;
      before = b.before;
      structures = b.structures
          ∙ ap (λ (m : ℕ). b.before ++ capsules_from m capsule (drop start whole)) n
          ∙ ap (λ (l : List Structure). b.before ++ l)
          (capsules_then (7 - capsule) capsule (drop start whole));
      size = b.size;
      told = b.told
          ∙ ap (λ (m : ℕ). told_from m start (drop start whole)) n
          ∙ told_from_suc (7 - capsule) start (drop start whole);
    }

-- a capsule begins
pub begun : (c : Cursor) (own whole : List ℕ) → IsBetween c.total c.capsule c.start whole
    → c.capsule < 8 → c.fate ≡ Reads → c.kind ≡ Header → c.item ≡ 0 → c.at ≡ c.start
    → c.stop ≡ min (c.start + min (c.total - c.start) 28) (2 ^ 32 - 1)
    → Goes c own [] c.start whole
begun c own whole b few reads kind item at stop =
    let rest = drop c.start whole in
    let long : length rest ≡ length whole - c.start = length-drop c.start whole in
    let stops : c.stop ≡ c.start + min 28 (length rest) =
    omega (arith, stop, long, b.more, b.small, b.total) in
    let left0 : IsLeft c.fate c.total c.capsule c.start c.start (capsule_structures c.capsule rest)
    (capsule_all_told rest) whole = between_left c.fate c.total c.capsule c.start whole b few reads in
    let later : (t : Told) → told_of whole ≡ Some t → c.stop ≤ t.reach =
    left_later c.fate c.total c.capsule c.start c.start (min 28 (length rest)) c.stop
    (capsule_structures c.capsule rest) (capsule_all_told rest) whole left0 (header_low rest)
    (λ none. header_none rest none) (sym stops) in
    let left1 : IsLeft c.fate c.total c.capsule c.start c.at
    (structure Header c.capsule c.item 28 ∷ behind_header c.capsule rest)
    (capsule_all_told rest) whole = rw (at, item) left0 in
    goes_on c own c.start whole Header 28 (behind_header c.capsule rest) (capsule_all_told rest) kind
    left1 (omega (arith, stops, long, b.more, b.total)) (omega (arith, at))
    (omega (arith, stops, at)) (omega (arith, stops, long, b.more, b.total)) later
    (record { kind = kind; item = item; at = at; stop = stops; more = b.more; left = left0 })
    (no_head c.at c.start whole at)

-- a ninth capsule is refused where it begins
pub too_many : (c : Cursor) (own whole : List ℕ) → IsBetween c.total c.capsule c.start whole
    → 8 ≤ c.capsule → c.at ≡ c.start
    → Goes (record c {
      fate = Tells (record { at = min (c.start + 0) (2 ^ 32 - 1); why = TooManyCapsules });
      stop = min (c.start + 0) (2 ^ 32 - 1);
    }) own [] c.start whole
too_many c own whole b many at =
    let none : 8 - c.capsule ≡ 0 = omega (arith, many) in
    let here : min (c.start + 0) (2 ^ 32 - 1) ≡ c.start = omega (arith, b.more, b.small) in
    let told : told_of whole ≡ Some (record { reach = c.start; at = c.start; why = TooManyCapsules }) =
    b.told ∙ ap (λ (m : ℕ). told_from m c.start (drop c.start whole)) none
    ∙ told_from_zero c.start (drop c.start whole) in
    record {
      hand = rw (here, at) (no_hand c.kind c.capsule c.item c.start whole);
      begins = rw at (λ from y low high. rw (b.structures)
          (cut_there b.before (capsules_from (8 - c.capsule) c.capsule (drop c.start whole)) c.start from y
          b.size low high));
      reached = omega (arith, at);
      ahead = omega (arith, here);
      within = omega (arith, here, b.more, b.total);
      fate = rw here told;
    }

-- the next capsule
pub next_between : (c : Cursor) (next : ℕ) (whole : List ℕ) → AtEnd c whole
    → next ≡ c.start + image_size (drop c.start whole) → next < c.total
    → IsBetween c.total (c.capsule + 1) next whole
next_between c next whole h e more =
    let rest = drop c.start whole in
    let n = image_size rest in
    let l = h.left in
    let long : length rest ≡ length whole - c.start = length-drop c.start whole in
    let on : n < length rest = omega (arith, more, e, long, l.total) in
    let m : 7 - c.capsule ≡ 8 - (c.capsule + 1) = omega (arith, l.few) in
    let same : drop n rest ≡ drop next whole = drop-drop n c.start whole
    ∙ ap (λ (k : ℕ). drop k whole) (sym e) in
    record {
      bytes = l.bytes;
      total = l.total;
      small = l.small;
      few = omega (arith, l.few);
      more = more;
      before = l.before;
      structures = l.structures
          ∙ ap (λ (k : ℕ). l.before ++ capsules_from k (c.capsule + 1) (drop n rest)) m
          ∙ ap (λ (x : List ℕ). l.before ++ capsules_from (8 - (c.capsule + 1)) (c.capsule + 1) x) same;
      size = l.size ∙ sym e;
      told = l.told
          ∙ cond-true (ltb n (length rest)) (told_from (7 - c.capsule) (c.start + n) (drop n rest)) None
          (lt-ltb n (length rest) on)
          ∙ ap (λ (k : ℕ). told_from k (c.start + n) (drop n rest)) m
          ∙ ap (λ (k : ℕ). told_from (8 - (c.capsule + 1)) k (drop n rest)) (sym e)
          ∙ ap (λ (x : List ℕ). told_from (8 - (c.capsule + 1)) next x) same;
    }

-- the last capsule ended, and nothing was told
pub ended : (c : Cursor) (next : ℕ) (own whole : List ℕ) → AtEnd c whole
    → next ≡ c.start + image_size (drop c.start whole) → c.total ≤ next
    → Goes (record c { fate = Ends; at = next; stop = next }) own []
    (c.start + image_size (drop c.start whole)) whole
ended c next own whole h e all =
    let rest = drop c.start whole in
    let n = image_size rest in
    let l = h.left in
    let long : length rest ≡ length whole - c.start = length-drop c.start whole in
    let end : length rest ≤ n = omega (arith, all, e, long, l.total) in
    let there : next ≡ length whole =
    omega (arith, all, e, long, l.total, h.front.there, h.front.low, h.front.within) in
    record {
      hand = no_hand c.kind c.capsule c.item next whole;
      begins = rw e (left_begins c.fate c.total c.capsule c.start (c.start + n) [] [] whole l);
      reached = omega (arith, e);
      ahead = omega (arith, e);
      within = omega (arith, there);
      fate = (
        l.told
            ∙ cond-false (ltb n (length rest)) (told_from (7 - c.capsule) (c.start + n) (drop n rest))
            None (le-ltb n (length rest) end),
        there,
      );
    }

-- where a capsule that is there ends
pub end_place : (c : Cursor) (whole : List ℕ) (next : ℕ) → AtEnd c whole
    → next ≡ min (c.start + c.image_size) (2 ^ 32 - 1)
    → next ≡ c.start + image_size (drop c.start whole)
end_place c whole next h e =
    let rest = drop c.start whole in
    let long : length rest ≡ length whole - c.start = length-drop c.start whole in
    omega (
      arith,
      e,
      long,
      h.image,
      h.front.there,
      h.front.low,
      h.front.within,
      h.left.total,
      h.left.small,
    )

-- ---- behind the fields of a capsule header

pub ext_left : (c : Cursor) (whole : List ℕ) → AtExt c whole → AtBody c whole
ext_left c whole h =
    let rest = drop c.start whole in
    record {
      known = h.known;
      left = left_passed c.fate c.total c.capsule c.start (c.start + 28) (c.start + header_size rest)
          (structure Ext c.capsule 0 (header_size rest - 28)) (body_structures c.capsule rest)
          (body_told rest) whole h.left (omega (arith, h.known.front.low));
    }

pub ext_goes : (c : Cursor) (whole : List ℕ) → c.kind ≡ Ext → c.item ≡ 0
    → HeaderIs c.header_size c.image_size c.is_fmp (drop c.start whole)
    → c.at ≡ c.start + 28 → c.stop ≡ c.start + header_size (drop c.start whole) → c.header_size ≢ 28
    → IsLeft c.fate c.total c.capsule c.start (c.start + 28)
    (behind_header c.capsule (drop c.start whole)) (body_told (drop c.start whole)) whole
    → Goes c [] [] (c.start + 28) whole
ext_goes c whole kind item known at stop some left =
    let rest = drop c.start whole in
    let front = known.front in
    let long : length rest ≡ length whole - c.start = length-drop c.start whole in
    let later : (t : Told) → told_of whole ≡ Some t → c.stop ≤ t.reach =
    left_later c.fate c.total c.capsule c.start (c.start + 28) (header_size rest) c.stop
    (behind_header c.capsule rest) (body_told rest) whole left (body_low rest)
    (λ none. front.within) (sym stop) in
    let left1 : IsLeft c.fate c.total c.capsule c.start c.at
    (structure Ext c.capsule c.item (header_size rest - 28) ∷ body_structures c.capsule rest)
    (body_told rest) whole = rw (at, item) left in
    goes_on c [] (c.start + 28) whole Ext (header_size rest - 28) (body_structures c.capsule rest)
    (body_told rest) kind left1 (omega (arith, stop, some, known.header, front.low)) (omega (arith, at))
    (omega (arith, stop, at, front.low))
    (omega (arith, stop, long, front.there, front.within, front.low)) later
    (record { known = known; at = at; stop = stop; left = rw at left }) tt

-- ---- the body

pub body_fmp : (c : Cursor) (whole : List ℕ) → AtBody c whole → c.is_fmp ≡ true → AtFmpHead c whole
body_fmp c whole h e =
    let rest = drop c.start whole in
    let body = body_of rest in
    let hd = header_size rest in
    let fmp : is_fmp_guid (field rest 0 16) ≡ true = sym h.known.guid ∙ e in
    let structures : body_structures c.capsule rest
    ≡ structure FmpHead c.capsule 0 8 ∷ behind_fmp_head c.capsule body =
    cond-true (is_fmp_guid (field rest 0 16))
    (structure FmpHead c.capsule 0 8 ∷ behind_fmp_head c.capsule body)
    (structure Other c.capsule 0 (image_size rest - hd) ∷ []) fmp in
    let rows : body_told rest ≡ fmp_front_told body hd ++ items_told body hd =
    cond-true (is_fmp_guid (field rest 0 16)) (fmp_front_told body hd ++ items_told body hd) [] fmp in
    record {
      front = h.known.front;
      header = h.known.header;
      image = h.known.image;
      left = subst (λ (l : List (Row Told)). IsLeft c.fate c.total c.capsule c.start (c.start + hd)
          (structure FmpHead c.capsule 0 8 ∷ behind_fmp_head c.capsule body) l whole) rows
          (subst (λ (l : List Structure). IsLeft c.fate c.total c.capsule c.start (c.start + hd) l
          (body_told rest) whole) structures h.left);
    }

pub body_other : (c : Cursor) (whole : List ℕ) → AtBody c whole → c.is_fmp ≡ false → AtOther c whole
body_other c whole h e =
    let rest = drop c.start whole in
    let body = body_of rest in
    let hd = header_size rest in
    let other : is_fmp_guid (field rest 0 16) ≡ false = sym h.known.guid ∙ e in
    let structures : body_structures c.capsule rest
    ≡ structure Other c.capsule 0 (image_size rest - hd) ∷ [] =
    cond-false (is_fmp_guid (field rest 0 16))
    (structure FmpHead c.capsule 0 8 ∷ behind_fmp_head c.capsule body)
    (structure Other c.capsule 0 (image_size rest - hd) ∷ []) other in
    let rows : body_told rest ≡ [] =
    cond-false (is_fmp_guid (field rest 0 16)) (fmp_front_told body hd ++ items_told body hd) [] other in
    record {
      front = h.known.front;
      header = h.known.header;
      image = h.known.image;
      left = subst (λ (l : List (Row Told)). IsLeft c.fate c.total c.capsule c.start (c.start + hd)
          (structure Other c.capsule 0 (image_size rest - hd) ∷ []) l whole) rows
          (subst (λ (l : List Structure). IsLeft c.fate c.total c.capsule c.start (c.start + hd) l
          (body_told rest) whole) structures h.left);
    }

pub other_end : (c : Cursor) (whole : List ℕ) → AtOther c whole → AtEnd c whole
other_end c whole h =
    let rest = drop c.start whole in
    record {
      front = h.front;
      image = h.image;
      left = left_passed c.fate c.total c.capsule c.start (c.start + header_size rest)
          (c.start + image_size rest)
          (structure Other c.capsule 0 (image_size rest - header_size rest)) [] [] whole h.left
          (omega (arith, h.front.within));
    }

pub other_goes : (c : Cursor) (whole : List ℕ) → c.kind ≡ Other → c.item ≡ 0
    → IsFront (drop c.start whole) → c.image_size ≡ image_size (drop c.start whole)
    → c.at ≡ c.start + header_size (drop c.start whole)
    → c.stop ≡ c.start + image_size (drop c.start whole) → c.at ≢ c.stop
    → IsLeft c.fate c.total c.capsule c.start (c.start + header_size (drop c.start whole))
    (structure Other c.capsule 0 (image_size (drop c.start whole) - header_size (drop c.start whole)) ∷ [])
    [] whole
    → Goes c [] [] (c.start + header_size (drop c.start whole)) whole
other_goes c whole kind item front image at stop some left =
    let rest = drop c.start whole in
    let hd = header_size rest in
    let long : length rest ≡ length whole - c.start = length-drop c.start whole in
    let later : (t : Told) → told_of whole ≡ Some t → c.stop ≤ t.reach =
    left_later c.fate c.total c.capsule c.start (c.start + hd) (image_size rest) c.stop
    (structure Other c.capsule 0 (image_size rest - hd) ∷ []) [] whole left
    (λ u e. absurd cc) (λ none. omega arith) (sym stop) in
    let left1 : IsLeft c.fate c.total c.capsule c.start c.at
    (structure Other c.capsule c.item (image_size rest - hd) ∷ []) [] whole = rw (at, item) left in
    goes_on c [] (c.start + hd) whole Other (image_size rest - hd) [] [] kind left1
    (omega (arith, at, stop, some, front.within)) (omega (arith, at))
    (omega (arith, stop, at, front.within))
    (omega (arith, stop, long, front.there, front.within, front.low)) later
    (record { front = front; image = image; at = at; stop = stop; left = rw at left }) tt

-- ---- the FMP header

pub fmp_goes : (c : Cursor) (whole : List ℕ) → InFmpHead c whole → c.at < c.stop → Goes c [] [] c.at whole
fmp_goes c whole s more =
    let rest = drop c.start whole in
    let body = body_of rest in
    let hd = header_size rest in
    let front = s.front in
    let size : length body ≡ image_size rest - hd = body_long rest front in
    let all = whole_le c.start whole front in
    let rows = fmp_front_told body hd ++ items_told body hd in
    let tail = behind_fmp_head c.capsule body in
    let later : (t : Told) → told_of whole ≡ Some t → c.stop ≤ t.reach =
    left_later c.fate c.total c.capsule c.start c.at (hd + min 8 (length body)) c.stop
    (structure FmpHead c.capsule 0 8 ∷ tail) rows whole s.left (fmp_low body hd)
    (λ none. omega (arith, size, front.within)) (omega (arith, s.stop, s.at)) in
    let left1 : IsLeft c.fate c.total c.capsule c.start c.at
    (structure FmpHead c.capsule c.item 8 ∷ tail) rows whole = rw (s.item) s.left in
    goes_on c [] c.at whole FmpHead 8 tail rows s.kind left1 more (omega arith)
    (omega (arith, s.stop)) (omega (arith, s.stop, s.at, size, front.within, all)) later s
    (no_head c.at c.at whole refl)

pub fmp_in : (k : Cursor) (whole : List ℕ) (at stop : ℕ) → AtFmpHead k whole
    → at ≡ min (k.start + k.header_size) (2 ^ 32 - 1)
    → stop ≡ min (at + min (k.image_size - k.header_size) 8) (2 ^ 32 - 1)
    → InFmpHead (record k { kind = FmpHead; item = 0; at = at; stop = stop }) whole
fmp_in k whole at stop h e1 e2 =
    let rest = drop k.start whole in
    let all = whole_le k.start whole h.front in
    let long = body_long rest h.front in
    let here : at ≡ k.start + header_size rest =
    omega (arith, e1, h.header, h.front.within, all, h.left.small, h.left.total) in
    record {
      kind = refl;
      item = refl;
      front = h.front;
      header = h.header;
      image = h.image;
      at = here;
      stop = omega (arith, e2, here, h.header, h.image, long, h.front.within, all, h.left.small, h.left.total);
      left = rw here h.left;
    }

-- ---- the fields of a capsule header

pub header_refused : (c : Cursor) (whole : List ℕ) (r : Refusal) (reach : ℕ) → InHeader c whole
    → first_refusal (capsule_rows (drop c.start whole)) ≡ Some (r.at, r.why)
    → reach ≡ min 28 (length (drop c.start whole))
    → Goes (record c {
      fate = Tells (record { at = min (c.start + r.at) (2 ^ 32 - 1); why = r.why });
      stop = min (c.start + reach) (2 ^ 32 - 1);
    }) [] [] c.stop whole
header_refused c whole r reach s refused e =
    let rest = drop c.start whole in
    let long : length rest ≡ length whole - c.start = length-drop c.start whole in
    let tail = behind_header c.capsule rest in
    let left0 : IsLeft c.fate c.total c.capsule c.start c.at
    (structure Header c.capsule 0 28 ∷ tail)
    (capsule_told rest ++ body_told rest) whole = rw (s.at) s.left in
    let left : IsLeft c.fate c.total c.capsule c.start c.at
    (structure Header c.capsule 0 28 ∷ tail)
    (reading reach (capsule_rows rest) ++ body_told rest) whole =
    subst (λ (n : ℕ). IsLeft c.fate c.total c.capsule c.start c.at (structure Header c.capsule 0 28 ∷ tail)
    (reading n (capsule_rows rest) ++ body_told rest) whole) (sym e) left0 in
    let hand : IsInHand Header c.capsule 0 c.at (c.start + reach) whole =
    left_hand c.fate c.total c.capsule c.start c.at 28 (c.start + reach) Header c.capsule 0 tail
    (reading reach (capsule_rows rest) ++ body_told rest) whole left (omega (arith, e, s.at)) in
    let place : r.at ≤ reach =
    elim (three_places (is_short rest) (has_bad_header_size rest)
    (is_above_limit rest || ltb (length rest) (image_size rest)) 0 16 24 whys.Short whys.BadHeaderSize
    whys.BadImageSize (r.at, r.why) refused) [
      | inl first ↦ omega (arith, first)
      | inr later ↦
          let some : 28 ≤ length rest = ltb-false _ _ later.0 in
          elim (later.1) [
            | inl a ↦ omega (arith, a, e, some)
            | inr b ↦ omega (arith, b, e, some)
          ]
    ] in
    goes_told c [] c.stop whole r reach (structure Header c.capsule 0 28 ∷ tail)
    (capsule_rows rest) (body_told rest) left refused
    (rw (s.kind, s.item) hand) (omega (arith, s.stop, s.at)) (omega (arith, s.stop, e))
    (omega (arith, e, long, s.more, s.left.total)) place

ok_inj : (x : Result CapsuleHeader HeaderFault) (a b : CapsuleHeader) → x ≡ Ok a → x ≡ Ok b → a ≡ b
ok_inj x a b ea eb = cc

-- the capsule header is accepted
pub header_known : (c : Cursor) (head whole : List ℕ) (h : CapsuleHeader) (f : Bool) → InHeader c whole
    → first_refusal (capsule_rows (drop c.start whole)) ≡ None
    → capsule_header (drop c.start whole) ≡ Ok h → f ≡ is_fmp_guid h.guid.bytes
    → (c.stop ≡ c.start + 28) × HeaderIs h.header_size h.image_size f (drop c.start whole)
    × IsLeft c.fate c.total c.capsule c.start (c.start + 28)
    (behind_header c.capsule (drop c.start whole)) (body_told (drop c.start whole)) whole
header_known c head whole h f s none read guid =
    let rest = drop c.start whole in
    let front : IsFront rest = is_front rest none in
    let same : capsule_header_fields rest ≡ h =
    ok_inj (capsule_header rest) (capsule_header_fields rest) h front.header read in
    let tested : IsLeft c.fate c.total c.capsule c.start c.start
    (structure Header c.capsule 0 28 ∷ behind_header c.capsule rest) (body_told rest) whole =
    left_tested c.fate c.total c.capsule c.start c.start (min 28 (length rest))
    (structure Header c.capsule 0 28 ∷ behind_header c.capsule rest) (capsule_rows rest)
    (body_told rest) whole s.left none in (
      omega (arith, s.stop, front.long),
      record {
        front = front;
        header = sym (ap (λ (x : CapsuleHeader). x.header_size) same);
        image = sym (ap (λ (x : CapsuleHeader). x.image_size) same);
        guid = guid ∙ sym (ap (λ (x : CapsuleHeader). is_fmp_guid x.guid.bytes) same);
      },
      left_passed c.fate c.total c.capsule c.start c.start (c.start + 28) (structure Header c.capsule 0 28)
          (behind_header c.capsule rest) (body_told rest) whole tested refl,
    )

-- the header that was read of what was gathered
pub header_read : (c : Cursor) (head whole : List ℕ) → InHeader c whole → HasHead c.at c.stop head whole
    → capsule_header (drop c.start whole) ≡ capsule_header head
header_read c head whole s h =
    let rest = drop c.start whole in
    let n = length rest in
    let long : n ≡ length whole - c.start = length-drop c.start whole in
    let is : field whole c.at n ≡ rest =
    ap (λ (a : ℕ). take n (drop a whole)) s.at ∙ take_all n rest (omega arith) in
    let b : Begins head n (field whole c.at n) =
    head_begins whole head c.at c.stop n h (omega (arith, s.stop, s.at))
    (omega (arith, long, s.at, s.more, s.left.total)) in
    let b2 : Begins head n rest = subst (λ (l : List ℕ). Begins head n l) is b in
    let own : length head ≡ min 32 (c.stop - c.at) =
    head_length whole head c.at c.stop h (omega (arith, s.stop, long, s.more, s.left.total)) in
    header_same b2 (omega (arith, own, s.stop, s.at))
