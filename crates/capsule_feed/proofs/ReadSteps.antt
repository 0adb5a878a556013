-- A reader takes bytes.
use Rattle.std.proofs.Common.{◌≢◌}
use Rattle.std.proofs.Common.{◌≡◌, ℕ, ◌+◌, ◌-◌, ◌<◌, ◌≤◌, max, min, List, [], ◌++◌, length}
use Rattle.std.proofs.Common.{drop, take}
use Rattle.std.proofs.Common.{refl, sym, ap, ◌∙◌, inl, inr, arith, subst}
use Rattle.std.proofs.lemmas.List.{append-nil, append_assoc, length-drop, drop-take, drop-drop}
use Rattle.std.proofs.lemmas.List.{drop_all, take-append-le, take-take, take_all, length-take}
use Rattle.std.proofs.lemmas.Bool.{cases_lt}
use Rattle.cu_base.specs.Fields.{field}
use Rattle.cu_base.proofs.Fields.{length-field}
use Rattle.capsule_grammar.proofs.Lists.{field_split}
use Rattle.capsule_feed.specs.Structures.{structures, within, cut_to}
use Rattle.capsule_feed.specs.Cursors.{Goes, HasHead, InStructure, IsGiven, StandAt, IsNextFrom}
use Rattle.capsule_feed.specs.Cursors.{own_behind, IsFated, IsHead, IsReading, span_of}
use Rattle.capsule_feed.specs.declared.cursor.Cursor.{Cursor}
use Rattle.capsule_feed.specs.declared.cursor.Fate.{Fate}
use Rattle.capsule_feed.specs.declared.cursor.Fate.TheVariants.{Reads, Tells, Ends}
use Rattle.capsule_feed.specs.declared.span.Span.{Span}
use Rattle.capsule_feed.specs.declared.span.SpanKind.{SpanKind}
use Rattle.capsule_feed.specs.declared.span.SpanKind.TheVariants.{Header, Ext, Other, FmpHead}
use Rattle.capsule_feed.specs.declared.span.SpanKind.TheVariants.{Offsets, Lead, Driver}
use Rattle.capsule_feed.specs.declared.span.SpanKind.TheVariants.{ImageHead}
use Rattle.capsule_feed.specs.declared.span.SpanKind.TheVariants.{Image, Vendor, Pad}
use Rattle.capsule_feed.proofs.Within.{cut_none, within_none}

take_of_take : (a b : ℕ) (l : List ℕ) → take a (take b l) ≡ take (min a b) l
take_of_take a b l =
    elim (cases_lt a b) [
      | inl less ↦
          let m : min a b ≡ a = omega (arith, less) in
          rw m (take-take a b l (omega (arith, less)))
      | inr more ↦
          let m : min a b ≡ b = omega (arith, more) in
          rw m (take_all a (take b l) (omega (arith, more, length-take b l)))
    ]

-- the head of a field, and bytes behind it
pub head_more : (from x n : ℕ) (head bytes whole : List ℕ) → HasHead from x head whole
    → bytes ≡ field whole x n → x + n ≤ length whole
    → HasHead from (x + n) (take 32 (head ++ bytes)) whole
head_more from x n head bytes whole h e within =
    let a = x - from in
    let long : length (field whole from a) ≡ a = length-field whole from a (omega (arith, h.0, within)) in
    let place : from + a ≡ x = omega (arith, h.0) in
    let sum : a + n ≡ (x + n) - from = omega (arith, h.0) in
    let bytes_are : bytes ≡ field whole (from + a) n = e ∙ ap (λ (p : ℕ). field whole p n) (sym place) in
    let both : field whole from a ++ bytes ≡ field whole from (a + n) =
    ap (λ (l : List ℕ). field whole from a ++ l) bytes_are ∙ field_split whole from a n in
    let cut : take 32 (take (a + n) (drop from whole)) ≡ take (min 32 (a + n)) (drop from whole) =
    take_of_take 32 (a + n) (drop from whole) in
    let first : take 32 (head ++ bytes) ≡ take 32 (field whole from a ++ bytes) =
    elim (cases_lt a 32) [
      | inl short ↦
          let m : min 32 a ≡ a = omega (arith, short) in
          ap (λ (l : List ℕ). take 32 (l ++ bytes)) (h.1 ∙ ap (field whole from) m)
      | inr full ↦
          let m : min 32 a ≡ 32 = omega (arith, full) in
          let own : head ≡ field whole from 32 = h.1 ∙ ap (field whole from) m in
          let l32 : length (field whole from 32) ≡ 32 =
          length-field whole from 32 (omega (arith, full, h.0, within)) in
          let left : take 32 (head ++ bytes) ≡ field whole from 32 =
          ap (λ (l : List ℕ). take 32 (l ++ bytes)) own
          ∙ take-append-le 32 (field whole from 32) bytes (omega (arith, l32))
          ∙ take_all 32 (field whole from 32) (omega (arith, l32)) in
          let right : take 32 (field whole from a ++ bytes) ≡ field whole from 32 =
          take-append-le 32 (field whole from a) bytes (omega (arith, long, full))
          ∙ take-take 32 a (drop from whole) full in
          left ∙ sym right
    ] in (
      omega (arith, h.0),
      first ∙ ap (take 32) both ∙ cut ∙ ap (λ (j : ℕ). take (min 32 j) (drop from whole)) sum,
    )

-- what was gathered grows
pub gathered_more : (kind : SpanKind) (c : Cursor) (x n : ℕ) (head bytes whole : List ℕ)
    → IsHead kind c head x whole → bytes ≡ field whole x n → x + n ≤ length whole
    → IsHead kind c (take 32 (head ++ bytes)) (x + n) whole
gathered_more Header c x n head bytes whole h e within = head_more c.at x n head bytes whole h e within
gathered_more Ext c x n head bytes whole h e within = tt
gathered_more Other c x n head bytes whole h e within = tt
gathered_more FmpHead c x n head bytes whole h e within = head_more c.at x n head bytes whole h e within
gathered_more Offsets c x n head bytes whole h e within =
    head_more (c.stop - 8) x n head bytes whole h e within
gathered_more Lead c x n head bytes whole h e within = tt
gathered_more Driver c x n head bytes whole h e within = tt
gathered_more ImageHead c x n head bytes whole h e within =
    λ same. head_more c.at x n head bytes whole (h same) e within
gathered_more Image c x n head bytes whole h e within = tt
gathered_more Vendor c x n head bytes whole h e within = tt
gathered_more Pad c x n head bytes whole h e within = tt

fated_more : (f : Fate) (c : Cursor) (own head bytes : List ℕ) (x n : ℕ) (whole : List ℕ)
    → IsFated f c own head x whole → bytes ≡ field whole x n → x + n ≤ length whole
    → (f ≡ Reads → x + n < c.stop) → IsFated f c own (take 32 (head ++ bytes)) (x + n) whole
fated_more Reads c own head bytes x n whole r e within more = record {
  more = more refl;
  later = r.later;
  inside = r.inside;
  gathered = gathered_more c.kind c x n head bytes whole r.gathered e within;
}
fated_more (Tells t) c own head bytes x n whole r e within more = r
fated_more Ends c own head bytes x n whole r e within more = r

-- a reader takes bytes before it stops
pub goes_more : (c : Cursor) (own head bytes : List ℕ) (x n : ℕ) (whole : List ℕ)
    → Goes c own head x whole → bytes ≡ field whole x n → x + n ≤ c.stop
    → (c.fate ≡ Reads → x + n < c.stop) → Goes c own (take 32 (head ++ bytes)) (x + n) whole
goes_more c own head bytes x n whole g e high more = record {
  hand = g.hand;
  begins = g.begins;
  reached = omega (arith, g.reached);
  ahead = high;
  within = g.within;
  fate = fated_more c.fate c own head bytes x n whole g.fate e (omega (arith, high, g.within)) more;
}

reading_of : (f : Fate) (c : Cursor) (own head : List ℕ) (x : ℕ) (whole : List ℕ) → f ≡ Reads
    → IsFated f c own head x whole → IsReading c own head x whole
reading_of Reads c own head x whole e r = r
reading_of (Tells t) c own head x whole e r = absurd cc
reading_of Ends c own head x whole e r = absurd cc

-- a reader that comes to where it stops
pub comes : (c : Cursor) (own head bytes : List ℕ) (x n : ℕ) (whole : List ℕ)
    → Goes c own head x whole → c.fate ≡ Reads → bytes ≡ field whole x n → x + n ≡ c.stop
    → InStructure c.kind c own whole × IsHead c.kind c (take 32 (head ++ bytes)) c.stop whole
comes c own head bytes x n whole g fate e stop =
    let r = reading_of c.fate c own head x whole fate g.fate in (
      r.inside,
      subst (λ (y : ℕ). IsHead c.kind c (take 32 (head ++ bytes)) y whole) stop
          (gathered_more c.kind c x n head bytes whole r.gathered e (omega (arith, stop, g.within))),
    )

inside_any : (kind : SpanKind) (c : Cursor) (own other whole : List ℕ) → kind ≡ Header
    → InStructure kind c own whole → InStructure kind c other whole
inside_any Header c own other whole e h = h
inside_any Ext c own other whole e h = absurd cc
inside_any Other c own other whole e h = absurd cc
inside_any FmpHead c own other whole e h = absurd cc
inside_any Offsets c own other whole e h = absurd cc
inside_any Lead c own other whole e h = absurd cc
inside_any Driver c own other whole e h = absurd cc
inside_any ImageHead c own other whole e h = absurd cc
inside_any Image c own other whole e h = absurd cc
inside_any Vendor c own other whole e h = absurd cc
inside_any Pad c own other whole e h = absurd cc

fated_any : (f : Fate) (c : Cursor) (own other head : List ℕ) (x : ℕ) (whole : List ℕ)
    → c.kind ≡ Header → IsFated f c own head x whole → IsFated f c other head x whole
fated_any Reads c own other head x whole e r = record {
  more = r.more;
  later = r.later;
  inside = inside_any c.kind c own other whole e r.inside;
  gathered = r.gathered;
}
fated_any (Tells t) c own other head x whole e r = r
fated_any Ends c own other head x whole e r = r

-- in a capsule header no offset matters
pub goes_any : (c : Cursor) (own other head : List ℕ) (x : ℕ) (whole : List ℕ) → c.kind ≡ Header
    → Goes c own head x whole → Goes c other head x whole
goes_any c own other head x whole e g = record {
  hand = g.hand;
  begins = g.begins;
  reached = g.reached;
  ahead = g.ahead;
  within = g.within;
  fate = fated_any c.fate c own other head x whole e g.fate;
}

-- ---- the events of a piece

pub given_first : (c : Cursor) (own head : List ℕ) (x : ℕ) (old : List Span) (whole : List ℕ)
    → Goes c own head x whole → IsGiven c own head x x x old old whole
given_first c own head x old whole g =
    let none : within x x (structures whole) ≡ [] = within_none x x (structures whole) (omega arith) in
    record {
      goes = g;
      events = rw none (sym (append-nil old));
      cut = λ y high. rw none refl;
      at = g.reached;
      low = omega arith;
      high = omega arith;
    }

-- up to a place of the structure in hand
pub given_to : (c : Cursor) (own head : List ℕ) (x given first y : ℕ) (old now : List Span)
    (whole : List ℕ) → IsGiven c own head x given first old now whole → given ≤ y → y ≤ c.stop
    → now ++ cut_to given y (span_of c.kind c.capsule c.item c.at (c.stop - c.at))
    ≡ old ++ within first y (structures whole)
given_to c own head x given first y old now whole g low high =
    let s = structures whole in
    let span = span_of c.kind c.capsule c.item c.at (c.stop - c.at) in
    let none : within given c.at s ≡ [] = within_none given c.at s g.at in
    let here : within given y s ≡ within given c.at s ++ cut_to given y span =
    g.goes.hand given y (omega (arith, g.at, low)) high in
    let cut : within given y s ≡ cut_to given y span = here ∙ (rw none refl) in
    let all : within first y s ≡ within first given s ++ cut_to given y span =
    g.cut y low ∙ ap (λ (l : List Span). within first given s ++ l) cut in
    ap (λ (l : List Span). l ++ cut_to given y span) g.events
    ∙ append_assoc old (within first given s) (cut_to given y span)
    ∙ ap (λ (l : List Span). old ++ l) (sym all)

-- the next structure begins behind what was given
pub given_next : (c next : Cursor) (own own2 head : List ℕ) (x given first : ℕ)
    (old now now2 : List Span) (whole : List ℕ) → IsGiven c own head x given first old now whole
    → Goes next own2 [] c.stop whole → given < next.at
    → now2 ≡ now ++ cut_to given next.at (span_of c.kind c.capsule c.item c.at (c.stop - c.at))
    → IsGiven next own2 [] c.stop next.at first old now2 whole
given_next c next own own2 head x given first old now now2 whole g n above e =
    record {
      goes = n;
      events = e ∙ given_to c own head x given first next.at old now whole g (omega (arith, above)) n.reached;
      cut = λ y high. n.begins first y (omega (arith, g.low, above)) high;
      at = omega arith;
      low = omega (arith, g.low, above);
      high = n.reached;
    }

-- the next structure begins where the one in hand does
pub given_on : (c next : Cursor) (own own2 head : List ℕ) (x given first : ℕ)
    (old now : List Span) (whole : List ℕ) → IsGiven c own head x given first old now whole
    → Goes next own2 [] c.stop whole → next.at ≤ given → x ≤ c.stop
    → IsGiven next own2 [] c.stop given first old now whole
given_on c next own own2 head x given first old now whole g n below high =
    record {
      goes = n;
      events = g.events;
      cut = g.cut;
      at = below;
      low = g.low;
      high = omega (arith, g.high, high);
    }

-- the reader goes on behind the place where it stops
pub given_pass : (c next : Cursor) (own own2 head : List ℕ) (x given first g : ℕ)
    (old now now2 : List Span) (whole : List ℕ) → IsGiven c own head x given first old now whole
    → Goes next own2 [] c.stop whole → x ≤ c.stop → g ≡ max given next.at
    → now2 ≡ now ++ cut_to given next.at (span_of c.kind c.capsule c.item c.at (c.stop - c.at))
    → IsGiven next own2 [] c.stop g first old now2 whole
given_pass c next own own2 head x given first g old now now2 whole h n high eg e =
    elim (cases_lt given next.at) [
      | inl above ↦
          let same : next.at ≡ g = omega (arith, eg, above) in
          subst (λ (k : ℕ). IsGiven next own2 [] c.stop k first old now2 whole) same
          (given_next c next own own2 head x given first old now now2 whole h n above e)
      | inr below ↦
          let same : given ≡ g = omega (arith, eg, below) in
          let span = span_of c.kind c.capsule c.item c.at (c.stop - c.at) in
          let none : cut_to given next.at span ≡ [] =
          cut_none given next.at span (omega (arith, below)) in
          let events : now ≡ now2 =
          sym (e ∙ ap (λ (l : List Span). now ++ l) none ∙ append-nil now) in
          subst (λ (k : ℕ). IsGiven next own2 [] c.stop k first old now2 whole) same
          (subst (λ (l : List Span). IsGiven next own2 [] c.stop given first old l whole) events
          (given_on c next own own2 head x given first old now whole h n below high))
    ]

-- the offsets that are kept behind a structure are those of the capsule in hand
pub from_next : (last : SpanKind) (next : Cursor) (from from2 : ℕ) (list head : List ℕ) (x : ℕ)
    (whole : List ℕ) → IsNextFrom last next.kind from (length list) from2
    → Goes next (own_behind last (drop from list)) head x whole → Goes next (drop from2 list) head x whole
from_next last next from from2 list head x whole h g =
    elim h [
      | inl all ↦
          let none : drop from2 list ≡ [] =
          ap (λ (n : ℕ). drop n list) all.0 ∙ drop_all (length list) list (omega arith) in
          rw none (elim (all.1) [
            | inl behind ↦ subst (λ (l : List ℕ). Goes next l head x whole) (behind (drop from list)) g
            | inr header ↦ goes_any next (own_behind last (drop from list)) [] head x whole header g
          ])
      | inr kept ↦
          let same : own_behind last (drop from list) ≡ drop from2 list =
          kept.1 (drop from list) ∙ ap (λ (n : ℕ). drop n list) (sym kept.0) in
          subst (λ (l : List ℕ). Goes next l head x whole) same g
    ]

-- bytes are taken before the reader stops
pub given_more : (c : Cursor) (own head bytes : List ℕ) (x given first : ℕ) (old now : List Span)
    (whole : List ℕ) → IsGiven c own head x given first old now whole → StandAt x bytes whole
    → x + length bytes ≤ c.stop → (c.fate ≡ Reads → x + length bytes ≢ c.stop)
    → IsGiven c own (take 32 (head ++ bytes)) (x + length bytes) given first old now whole
given_more c own head bytes x given first old now whole g s high other = record {
  goes = goes_more c own head bytes x (length bytes) whole g.goes s.same high
      (λ reads. omega (arith, high, other reads));
  events = g.events;
  cut = g.cut;
  at = g.at;
  low = g.low;
  high = omega (arith, g.high);
}

-- bytes are taken up to where the reader stops
pub given_come : (c : Cursor) (own head bytes : List ℕ) (x given first : ℕ) (old now : List Span)
    (whole : List ℕ) → IsGiven c own head x given first old now whole → StandAt x bytes whole
    → x + length bytes ≡ c.stop → c.fate ≡ Reads
    → InStructure c.kind c own whole × IsHead c.kind c (take 32 (head ++ bytes)) c.stop whole
given_come c own head bytes x given first old now whole g s stop reads =
    comes c own head bytes x (length bytes) whole g.goes reads s.same stop

-- a part of a piece stands in the whole
pub stand_part : (first came taken : ℕ) (piece rest whole : List ℕ) → StandAt first piece whole
    → first ≤ came → came - first ≤ length piece → rest ≡ drop (came - first) piece
    → taken ≤ length rest → StandAt came (take taken rest) whole
stand_part first came taken piece rest whole s low high is some =
    let n = came - first in
    let m = length piece - n in
    let sum : n + m ≡ length piece = omega (arith, high) in
    let place : first + n ≡ came = omega (arith, low) in
    let left : length rest ≡ m = ap length is ∙ length-drop n piece in
    let long : length (take taken rest) ≡ taken = omega (arith, length-take taken rest, some) in
    let whole_piece : piece ≡ take (n + m) (drop first whole) =
    s.same ∙ ap (λ (k : ℕ). take k (drop first whole)) (sym sum) in
    let behind : rest ≡ take m (drop n (drop first whole)) =
    is ∙ ap (drop n) whole_piece ∙ drop-take n m (drop first whole) in
    let there : drop n (drop first whole) ≡ drop came whole =
    drop-drop n first whole ∙ ap (λ (k : ℕ). drop k whole) place in
    let got : take taken rest ≡ field whole came taken =
    ap (take taken) (behind ∙ ap (take m) there)
    ∙ take-take taken m (drop came whole) (omega (arith, some, left)) in
    record {
      within = omega (arith, long, s.within, place, left, some, sum);
      same = got ∙ ap (λ (k : ℕ). field whole came k) (sym long);
    }
