-- A feed takes pieces: the wholes that begin with what came, and what is told of them.
use Rattle.std.proofs.Common.{◌≡◌, ◌⊎◌, ℕ, zero, suc, ◌+◌, ◌-◌, ◌^◌, ◌<◌, ◌≤◌, max, min, List}
use Rattle.std.proofs.Common.{[], ◌∷◌, ◌++◌, length, drop, take}
use Rattle.std.proofs.Common.{Option, None, Some, Result, Ok, Err, OnOk, OnErr, true, false}
use Rattle.std.proofs.Common.{refl, sym, ap, ◌∙◌, inl, inr, arith, subst, lit<}
use Rattle.std.proofs.lemmas.List.{append-nil, drop-take, take-take, take_all, take-append-le}
use Rattle.std.proofs.lemmas.List.{length-append}
use Rattle.std.proofs.lemmas.Grind.{flat_map-append}
use Rattle.std.proofs.lemmas.Bool.{cases_lt, lt-ltb}
use Rattle.std.proofs.Math.Seq.{drop-append_seam}
use Rattle.std.specs.Result.{is_err}
use Rattle.std.proofs.lemmas.List.{get_or_append_left}
use Rattle.std.proofs.Math.Seq.{get_or-append_right}
use Rattle.cu_base.specs.Bytes.{IsBytes}
use Rattle.cu_base.specs.Fields.{field}
use Rattle.capsule_grammar.specs.declared.refusal.Refusal.{Refusal}
use Rattle.capsule_grammar.specs.declared.refusal.Why.TheVariants.{Short}
use Rattle.capsule_grammar.specs.declared.faults.DecodeFault.{DecodeFault}
use Rattle.capsule_grammar.specs.declared.faults.DecodeFault.TheVariants.{Refused, Memory}
use Rattle.capsule_feed.specs.Structures.{structures, within, cut_to, capsules_from}
use Rattle.capsule_feed.specs.Told.{Told, told_of, told_from, told_end, spans_of}
use Rattle.capsule_feed.specs.Cursors.{Goes, HasRead, HoldsOfSome, IsBetween, IsFated, IsNext}
use Rattle.capsule_feed.specs.Cursors.{StandAt, span_of}
use Rattle.capsule_feed.specs.Cursors.{InImageStart, InOffsets, InParts, InStructure, ItemsAre}
use Rattle.capsule_feed.specs.Cursors.{image_place, pad_parts, place_of, vendor_parts}
use Rattle.capsule_feed.specs.Feeds.{kept_by, kept_in}
use Rattle.capsule_feed.specs.Structures.{Structure, image_parts, structure}
use Rattle.capsule_feed.specs.declared.span.SpanKind.{SpanKind}
use Rattle.capsule_feed.specs.declared.span.SpanKind.TheVariants.{Header, Ext, Other, FmpHead}
use Rattle.capsule_feed.specs.declared.span.SpanKind.TheVariants.{Offsets, Lead, Driver, ImageHead}
use Rattle.capsule_feed.specs.declared.span.SpanKind.TheVariants.{Image, Vendor, Pad}
use Rattle.capsule_grammar.specs.Refusals.{body_of, item}
use Rattle.fmp_headers.specs.ImageHeader.{image_header_size, image_version}
use Rattle.std.proofs.lemmas.List.{get_or-take}
use Rattle.capsule_feed.specs.Feeds.{FeedValue, IfMemory, IfTold, IsAnswered, IsAnswerOf}
use Rattle.capsule_feed.specs.Feeds.{IsWholeOf, StandsFor}
use Rattle.capsule_feed.specs.declared.cursor.Cursor.{Cursor}
use Rattle.capsule_feed.specs.declared.cursor.Fate.{Fate}
use Rattle.capsule_feed.specs.declared.cursor.Fate.TheVariants.{Reads, Tells, Ends}
use Rattle.capsule_feed.specs.declared.span.Span.{Span}
use Rattle.capsule_feed.proofs.Within.{cut_none, cut_there, in_none}

-- ---- spans that are cut twice

cut_twice : (from to e : ℕ) (s : Span)
    → within from to (cut_to 0 e s) ≡ cut_to (min from e) (min to e) s
cut_twice from to e s =
    let end = s.at + s.length in
    let low : max 0 s.at ≡ s.at = omega arith in
    elim (cases_lt (max 0 s.at) (min e end)) [
      | inr none ↦
          let left : cut_to 0 e s ≡ [] = cut_none 0 e s none in
          let right : cut_to (min from e) (min to e) s ≡ [] =
          cut_none (min from e) (min to e) s (omega (arith, none)) in
          rw (left, right) refl
      | inl some ↦
          let n = min e end - max 0 s.at in
          let t = span_of s.kind s.capsule s.item (max 0 s.at) n in
          let one : cut_to 0 e s ≡ t ∷ [] = rw (lt-ltb (max 0 s.at) (min e end) some) refl in
          let both : within from to (cut_to 0 e s) ≡ cut_to from to t =
          ap (within from to) one ∙ append-nil (cut_to from to t) in
          both ∙ elim (cases_lt e from) [
            | inl over ↦
                let left : cut_to from to t ≡ [] = cut_none from to t (omega (arith, over, some)) in
                let right : cut_to (min from e) (min to e) s ≡ [] =
                cut_none (min from e) (min to e) s (omega (arith, over, some)) in
                left ∙ sym right
            | inr under ↦
                let a : max from (max 0 s.at) ≡ max (min from e) s.at = omega (arith, under) in
                let b : min to (max 0 s.at + n) ≡ min (min to e) end = omega (arith, some) in
                rw (a, b) refl
          ]
    ]

-- the spans up to a place, cut between two others
pub within_spans : (from to e : ℕ) (spans : List Span)
    → within from to (within 0 e spans) ≡ within (min from e) (min to e) spans
within_spans from to e [] = refl
within_spans from to e (s ∷ spans) =
    flat_map-append (cut_to from to) (cut_to 0 e s) (within 0 e spans)
    ∙ ap (λ (l : List Span). l ++ within from to (within 0 e spans)) (cut_twice from to e s)
    ∙ ap (λ (l : List Span). cut_to (min from e) (min to e) s ++ l) (within_spans from to e spans)

-- ---- where a reader stops, and where the whole is told

end_reads : (o : Option Told) (n stop : ℕ) → ((t : Told) → o ≡ Some t → stop ≤ t.reach) → stop ≤ n
    → stop ≤ told_end n o
end_reads None n stop later within = within
end_reads (Some t) n stop later within = later t refl

end_fated : (f : Fate) (c : Cursor) (own head : List ℕ) (x : ℕ) (whole : List ℕ)
    → IsFated f c own head x whole → c.stop ≤ length whole
    → (c.stop ≡ told_end (length whole) (told_of whole))
    ⊎ ((x < c.stop) × (c.stop ≤ told_end (length whole) (told_of whole)))
end_fated Reads c own head x whole r within =
    inr (r.more, end_reads (told_of whole) (length whole) c.stop r.later within)
end_fated (Tells t) c own head x whole r within = inl (sym (ap (told_end (length whole)) r))
end_fated Ends c own head x whole r within =
    inl (r.1 ∙ sym (ap (told_end (length whole)) r.0))

-- the events of a piece are the spans of the whole
pub events_are : (c c2 : Cursor) (own own2 head head2 : List ℕ) (came size x : ℕ)
    (old now : List Span) (whole : List ℕ) → Goes c own head (min came c.stop) whole
    → HasRead c2 own2 head2 (min came c.stop) x size old now whole
    → now ≡ old ++ within came (came + size) (spans_of whole)
events_are c c2 own own2 head head2 came size x old now whole g h =
    let e = told_end (length whole) (told_of whole) in
    let before = end_fated c.fate c own head (min came c.stop) whole g.fate g.within in
    let behind = end_fated c2.fate c2 own2 head2 x whole h.goes.fate h.goes.within in
    let first : min came c.stop ≡ min came e = omega (arith, before) in
    let last : x ≡ min (came + size) e = omega (arith, before, behind, h.came) in
    h.events ∙ ap (λ (l : List Span). old ++ l)
    (ap (λ (n : ℕ). within n x (structures whole)) first
    ∙ ap (λ (n : ℕ). within (min came e) n (structures whole)) last
    ∙ sym (within_spans came (came + size) e (structures whole)))

-- the reader behind a piece
pub goes_behind : (c c2 : Cursor) (own own2 head head2 : List ℕ) (came size x : ℕ)
    (old now : List Span) (whole : List ℕ) → Goes c own head (min came c.stop) whole
    → HasRead c2 own2 head2 (min came c.stop) x size old now whole
    → Goes c2 own2 head2 (min (came + size) c2.stop) whole
goes_behind c c2 own own2 head head2 came size x old now whole g h =
    let before = end_fated c.fate c own head (min came c.stop) whole g.fate g.within in
    let behind = end_fated c2.fate c2 own2 head2 x whole h.goes.fate h.goes.within in
    let same : x ≡ min (came + size) c2.stop = omega (arith, before, behind, h.came) in
    subst (λ (n : ℕ). Goes c2 own2 head2 n whole) same h.goes

-- ---- what is answered

answer_fated : (f : Fate) (c : Cursor) (own head : List ℕ) (came : ℕ) (whole : List ℕ)
    {T : Type 0} (result : Result T DecodeFault) → IsAnswerOf f c.stop came result
    → IsFated f c own head (min came c.stop) whole → IsAnswered result came whole
answer_fated Reads c own head came whole (Ok value) a r = λ t is.
    omega (arith, r.more, r.later t is)
answer_fated Reads c own head came whole (Err e) a r = absurd a
answer_fated Ends c own head came whole (Ok value) a r = λ t is. absurd (cc (sym r.0 ∙ is))
answer_fated Ends c own head came whole (Err e) a r = absurd a
answer_fated (Tells t) c own head came whole (Ok value) a r = λ u is.
    let same : c.stop ≡ u.reach = ap (told_end 0) (sym r ∙ is) in
    omega (arith, a, same)
answer_fated (Tells t) c own head came whole (Err (Refused refusal)) a r = record {
  reach = c.stop;
  told = r ∙ ap (λ (q : Refusal). Some (record { reach = c.stop; at = q.at; why = q.why })) a.0;
  reached = a.1;
}
answer_fated (Tells t) c own head came whole (Err Memory) a r = absurd a

-- a reader answers the refusal of the whole
pub answered : (c : Cursor) (own head : List ℕ) (came : ℕ) (whole : List ℕ)
    {T : Type 0} (result : Result T DecodeFault) → IsAnswerOf c.fate c.stop came result
    → Goes c own head (min came c.stop) whole → IsAnswered result came whole
answered c own head came whole result a g = answer_fated c.fate c own head came whole result a g.fate

-- ---- wholes

-- a whole that begins with more begins with less
pub whole_less : (total : ℕ) (stream piece whole : List ℕ) → IsWholeOf total (stream ++ piece) whole
    → IsWholeOf total stream whole
whole_less total stream piece whole w =
    let n = length stream in
    let long : length (stream ++ piece) ≡ n + length piece = length-append stream piece in
    let less : take n (take (length (stream ++ piece)) whole) ≡ take n whole =
    take-take n (length (stream ++ piece)) whole (omega (arith, long)) in
    record {
      bytes = w.bytes;
      long = w.long;
      front = sym less ∙ ap (take n) w.front
          ∙ take-append-le n stream piece (omega arith) ∙ take_all n stream (omega arith);
    }

-- the next piece stands behind what came
pub whole_stands : (total came : ℕ) (stream piece whole : List ℕ)
    → IsWholeOf total (stream ++ piece) whole → came ≡ length stream
    → came + length piece ≤ total → StandAt came piece whole
whole_stands total came stream piece whole w is fits =
    let n = length stream in
    let m = length piece in
    let long : length (stream ++ piece) ≡ n + m = length-append stream piece in
    let front : take (n + m) whole ≡ stream ++ piece =
    ap (λ (k : ℕ). take k whole) (sym long) ∙ w.front in
    let same : piece ≡ field whole n m =
    sym (drop-append_seam stream piece) ∙ ap (drop n) (sym front) ∙ drop-take n m whole in
    record {
      within = omega (arith, fits, w.long);
      same = same ∙ ap (λ (k : ℕ). field whole k m) (sym is);
    }

-- the reader of a feed takes the next piece
pub next_of : (feed : FeedValue) (stream piece whole : List ℕ) → StandsFor feed stream
    → feed.came + length piece ≤ feed.total → IsWholeOf feed.total (stream ++ piece) whole
    → IsNext feed.cursor feed.offsets feed.head (min feed.came feed.cursor.stop) piece whole
next_of feed stream piece whole s fits w = record {
  goes = s.goes whole (whole_less feed.total stream piece whole w);
  next = λ less.
      let same : feed.came ≡ min feed.came feed.cursor.stop = omega (arith, less) in
      subst (λ (n : ℕ). StandAt n piece whole) same
      (whole_stands feed.total feed.came stream piece whole w s.came fits);
}

-- ---- where a feed begins

pub at_first : (total : ℕ) (whole : List ℕ) → IsBytes whole → length whole ≡ total → total < 2 ^ 32
    → 0 < total → IsBetween total 0 0 whole
at_first total whole bytes long small more = record {
  bytes = bytes;
  total = sym long;
  small = small;
  few = omega arith;
  more = more;
  before = [];
  structures = refl;
  size = refl;
  told = refl;
}

short_told : told_of [] ≡ Some (record { reach = 0; at = 0; why = Short })
unfolding told_from
short_told = refl

fated_short : (f : Fate) (c : Cursor) (own : List ℕ) → f ≡ Tells (record { at = 0; why = Short })
    → c.stop ≡ 0 → IsFated f c own [] 0 []
fated_short (Tells r) c own e stop =
    let same : r ≡ record { at = 0; why = Short } = cc e in
    rw (stop, same) short_told
fated_short Reads c own e stop = absurd cc
fated_short Ends c own e stop = absurd cc

-- no bytes are refused
pub no_bytes : (c : Cursor) (own whole : List ℕ) → length whole ≡ 0 → c.at ≡ 0 → c.stop ≡ 0
    → c.fate ≡ Tells (record { at = 0; why = Short }) → Goes c own [] 0 whole
no_bytes c own [] long at stop fate = record {
  hand = λ from y low high.
      let same : c.at ≡ y = omega (arith, at, stop, low, high) in
      let size : y - c.at ≡ c.stop - c.at = omega (arith, same, stop, at) in
      in_none from y c.at c.kind c.capsule c.item (structures []) same
      ∙ ap (λ (n : ℕ). within from c.at (structures []) ++ cut_to from y (span_of c.kind c.capsule c.item c.at n)) size;
  begins = λ from y low high. cut_there [] (capsules_from 8 0 []) c.at from y (sym at) low high;
  reached = omega (arith, at);
  ahead = omega arith;
  within = omega (arith, stop);
  fate = fated_short c.fate c own fate stop;
}
no_bytes c own (b ∷ whole) long at stop fate = absurd (omega (arith, long))

-- ---- results

pub on_ok : {T E : Type 0} (r : Result T E) (P : Type 0) → is_err r ≡ false → OnOk r P → P
on_ok (Ok value) P e p = p
on_ok (Err fault) P e p = absurd (cc e)

pub on_err : {T E : Type 0} (r : Result T E) (P : Type 0) → is_err r ≡ true → OnErr r P → P
on_err (Ok value) P e p = absurd (cc e)
on_err (Err fault) P e p = p

pub on_ok_more : {T E : Type 0} (r : Result T E) (P Q : Type 0) → (P → Q) → OnOk r P → OnOk r Q
on_ok_more (Ok value) P Q f p = f p
on_ok_more (Err fault) P Q f p = tt

pub if_told : {T : Type 0} (r : Result T DecodeFault) (P : Type 0) → P → IfTold r P
if_told (Ok value) P p = p
if_told (Err (Refused refusal)) P p = p
if_told (Err Memory) P p = tt

pub no_memory : {T : Type 0} (f : Fate) (stop came : ℕ) (r : Result T DecodeFault) (P : Type 0)
    → IsAnswerOf f stop came r → IfMemory r P
no_memory f stop came (Ok value) P a = tt
no_memory f stop came (Err (Refused refusal)) P a = tt
no_memory Reads stop came (Err Memory) P a = absurd a
no_memory (Tells t) stop came (Err Memory) P a = absurd a
no_memory Ends stop came (Err Memory) P a = absurd a

-- ---- a feed

-- a feed of these parts
abbrev pub feed_made : ℕ → ℕ → Cursor → List ℕ → List ℕ → FeedValue
feed_made total came cursor head offsets = record {
  total = total;
  came = came;
  cursor = cursor;
  head = head;
  offsets = offsets;
}

abbrev zeros : ℕ → List ℕ
zeros zero = []
zeros (suc n) = 0 ∷ zeros n

zeros_long : (n : ℕ) → length (zeros n) ≡ n
zeros_long zero = refl
zeros_long (suc n) = ap suc (zeros_long n)

zeros_bytes : (n : ℕ) → IsBytes (zeros n)
zeros_bytes zero i = lit< tt
zeros_bytes (suc n) zero = lit< tt
zeros_bytes (suc n) (suc i) = zeros_bytes n i

bytes_append : (xs ys : List ℕ) → IsBytes xs → IsBytes ys → IsBytes (xs ++ ys)
bytes_append xs ys hx hy i =
    elim (cases_lt i (length xs)) [
      | inl lt ↦ rw (get_or_append_left xs ys 0 i lt) (hx i)
      | inr le ↦ rw (get_or-append_right xs ys i 0 le) (hy (i - length xs))
    ]

-- some whole begins with what came
filled : (total : ℕ) (stream : List ℕ) → IsBytes stream → length stream ≤ total
    → IsWholeOf total stream (stream ++ zeros (total - length stream))
filled total stream bytes within =
    let m = total - length stream in
    record {
      bytes = bytes_append stream (zeros m) bytes (zeros_bytes m);
      long = omega (arith, length-append stream (zeros m), zeros_long m, within);
      front = take-append-le (length stream) stream (zeros m) (omega arith)
          ∙ take_all (length stream) stream (omega arith);
    }

pub next_some : (feed : FeedValue) (stream piece head : List ℕ) (x : ℕ) → StandsFor feed stream
    → IsBytes piece → feed.came + length piece ≤ feed.total → head ≡ feed.head
    → x ≡ min feed.came feed.cursor.stop
    → HoldsOfSome (IsNext feed.cursor feed.offsets head x piece)
next_some feed stream piece head x s bytes fits is_head is_x =
    let all = stream ++ piece in
    let long : length all ≡ length stream + length piece = length-append stream piece in
    let w = filled feed.total all (bytes_append stream piece s.bytes bytes)
    (omega (arith, long, fits, s.came)) in
    record {
      whole = all ++ zeros (feed.total - length all);
      holds = rw (is_head, is_x) (next_of feed stream piece _ s fits w);
    }

-- what a feed reads of every whole
abbrev pub ReadsAll : FeedValue → List ℕ → ℕ → List ℕ → Cursor → List ℕ → List ℕ → ℕ → List Span
    → List Span → Type 0
ReadsAll feed head x piece c2 own2 head2 x2 old now =
    (whole : List ℕ) → IsNext feed.cursor feed.offsets head x piece whole
    → HasRead c2 own2 head2 x x2 (length piece) old now whole

has_read : (feed : FeedValue) (stream piece head : List ℕ) (x : ℕ) (c2 : Cursor)
    (own2 head2 : List ℕ) (x2 : ℕ) (old now : List Span) (whole : List ℕ) → StandsFor feed stream
    → feed.came + length piece ≤ feed.total → head ≡ feed.head
    → x ≡ min feed.came feed.cursor.stop
    → ReadsAll feed head x piece c2 own2 head2 x2 old now
    → IsWholeOf feed.total (stream ++ piece) whole
    → HasRead c2 own2 head2 (min feed.came feed.cursor.stop) x2 (length piece) old now whole
has_read feed stream piece head x c2 own2 head2 x2 old now whole s fits is_head is_x h w =
    let next : IsNext feed.cursor feed.offsets head x piece whole =
    rw (is_head, is_x) (next_of feed stream piece whole s fits w) in
    subst (λ (k : ℕ). HasRead c2 own2 head2 k x2 (length piece) old now whole) is_x (h whole next)

pub stands_behind : (feed : FeedValue) (stream piece head : List ℕ) (x : ℕ) (c2 : Cursor)
    (own2 head2 own3 : List ℕ) (x2 : ℕ) (old now : List Span) → StandsFor feed stream
    → IsBytes piece → feed.came + length piece ≤ feed.total → head ≡ feed.head
    → x ≡ min feed.came feed.cursor.stop
    → ReadsAll feed head x piece c2 own2 head2 x2 old now → own3 ≡ own2
    → StandsFor (feed_made feed.total (feed.came + length piece) c2 head2 own3) (stream ++ piece)
stands_behind feed stream piece head x c2 own2 head2 own3 x2 old now s bytes fits is_head is_x h e =
    record {
      bytes = bytes_append stream piece s.bytes bytes;
      small = s.small;
      within = omega (arith, length-append stream piece, fits, s.came);
      came = omega (arith, length-append stream piece, s.came);
      goes = λ whole w. rw e
          (goes_behind feed.cursor c2 feed.offsets own2 feed.head head2 feed.came (length piece) x2
          old now whole (s.goes whole (whole_less feed.total stream piece whole w))
          (has_read feed stream piece head x c2 own2 head2 x2 old now whole s fits is_head is_x h w));
    }

pub spans_given : (feed : FeedValue) (stream piece head : List ℕ) (x : ℕ) (c2 : Cursor)
    (own2 head2 : List ℕ) (x2 : ℕ) (old now : List Span) (whole : List ℕ) → StandsFor feed stream
    → feed.came + length piece ≤ feed.total → head ≡ feed.head
    → x ≡ min feed.came feed.cursor.stop
    → ReadsAll feed head x piece c2 own2 head2 x2 old now
    → IsWholeOf feed.total (stream ++ piece) whole
    → now ≡ old ++ within (length stream) (length stream + length piece) (spans_of whole)
spans_given feed stream piece head x c2 own2 head2 x2 old now whole s fits is_head is_x h w =
    subst (λ (n : ℕ). now ≡ old ++ within n (n + length piece) (spans_of whole)) s.came
    (events_are feed.cursor c2 feed.offsets own2 feed.head head2 feed.came (length piece) x2 old now
    whole (s.goes whole (whole_less feed.total stream piece whole w))
    (has_read feed stream piece head x c2 own2 head2 x2 old now whole s fits is_head is_x h w))

pub answered_by : (feed : FeedValue) (stream whole : List ℕ) {T : Type 0}
    (result : Result T DecodeFault) → StandsFor feed stream → IsWholeOf feed.total stream whole
    → IsAnswerOf feed.cursor.fate feed.cursor.stop feed.came result
    → IsAnswered result (length stream) whole
answered_by feed stream whole result s w a =
    subst (λ (n : ℕ). IsAnswered result n whole) s.came
    (answered feed.cursor feed.offsets feed.head feed.came whole result a (s.goes whole w))

pub first_stands : (total : ℕ) (c : Cursor) (head own : List ℕ) → total < 2 ^ 32 → head ≡ []
    → ((whole : List ℕ) → IsBytes whole → length whole ≡ total → Goes c own [] 0 whole)
    → StandsFor (feed_made total 0 c head own) []
first_stands total c head own small none h = record {
  bytes = λ i. lit< tt;
  small = small;
  within = omega arith;
  came = refl;
  goes = λ whole w.
      let zero : min 0 c.stop ≡ 0 = omega arith in
      rw (none, zero) (h whole w.bytes w.long);
}

-- events that are read into a list of their own are appended
pub read_into : (c : Cursor) (own head : List ℕ) (first x size : ℕ) (none fresh slice old now : List Span)
    (whole : List ℕ) → HasRead c own head first x size none fresh whole → none ≡ [] → slice ≡ fresh
    → now ≡ old ++ slice → HasRead c own head first x size old now whole
read_into c own head first x size none fresh slice old now whole h is_none is_slice e = record {
  goes = h.goes;
  came = h.came;
  events = e ∙ ap (λ (l : List Span). old ++ l) (is_slice ∙ h.events
      ∙ ap (λ (l : List Span). l ++ within first x (structures whole)) is_none);
}

-- ---- the offsets that are kept

cut_items : (h s d n : ℕ) (own rest : List ℕ) → ItemsAre h s d n own rest
    → ItemsAre h s d n (take n own) rest
cut_items h s d n own rest i = record {
  fmp = i.fmp;
  bounds = i.bounds;
  each = λ k low. get_or-take n own k 0 low ∙ i.each k low;
}

cut_parts : (c : Cursor) (own : List ℕ) (from to : ℕ) (next : List ℕ → List Structure)
    (whole : List ℕ) → InParts c own from to next whole
    → InParts c (take c.items own) from to next whole
cut_parts c own from to next whole h = record {
  items = cut_items c.header_size c.image_size c.drivers c.items own (drop c.start whole) h.items;
  parts = h.parts;
  at = h.at;
  stop = h.stop;
  left = h.left;
}

cut_image_start : (c : Cursor) (own whole : List ℕ) → InImageStart c own whole
    → InImageStart c (take c.items own) whole
cut_image_start c own whole h = record {
  kind = h.kind;
  items = cut_items c.header_size c.image_size c.drivers c.items own (drop c.start whole) h.items;
  here = h.here;
  low = h.low;
  at = h.at;
  end = h.end;
  stop = h.stop;
  left = h.left;
}

cut_inside : (kind : SpanKind) (c : Cursor) (own whole : List ℕ) → InStructure kind c own whole
    → InStructure kind c (take (kept_in kind c.tested c.items) own) whole
cut_inside Header c own whole h = h
cut_inside Ext c own whole h = h
cut_inside Other c own whole h = h
cut_inside FmpHead c own whole h = h
cut_inside Offsets c own whole h =
    let all : take (min c.tested c.items) own ≡ own =
    take_all (min c.tested c.items) own (omega (arith, h.offsets.long, h.here)) in
    subst (λ (l : List ℕ). InOffsets c l whole) (sym all) h
cut_inside Lead c own whole h = record {
  items = cut_items c.header_size c.image_size c.drivers c.items own (drop c.start whole) h.items;
  at = h.at;
  stop = h.stop;
  left = h.left;
}
cut_inside Driver c own whole h = record {
  items = cut_items c.header_size c.image_size c.drivers c.items own (drop c.start whole) h.items;
  here = h.here;
  low = h.low;
  at = h.at;
  stop = h.stop;
  left = h.left;
}
cut_inside ImageHead c own whole h = elim h [
  | inl before ↦ inl (before.0, cut_image_start c own whole before.1)
  | inr behind ↦ inr (
    behind.0,
    cut_parts c own (place_of c.start (drop c.start whole) c.item)
        (image_place c.start (drop c.start whole) c.item)
        (λ rest. structure ImageHead c.capsule c.item
        (image_header_size (image_version (item (body_of rest) c.item)))
        ∷ image_parts c.capsule (body_of rest) c.item) whole behind.1,
  )
]
cut_inside Image c own whole h =
    cut_parts c own (image_place c.start (drop c.start whole) c.item) c.vendor_at
    (λ rest. image_parts c.capsule (body_of rest) c.item) whole h
cut_inside Vendor c own whole h =
    cut_parts c own c.vendor_at c.pad_at (vendor_parts c.capsule c.item) whole h
cut_inside Pad c own whole h =
    cut_parts c own c.pad_at c.item_end (pad_parts c.capsule c.item) whole h

cut_fated : (f : Fate) (c : Cursor) (own head : List ℕ) (x : ℕ) (whole : List ℕ)
    → IsFated f c own head x whole
    → IsFated f c (take (kept_by f c.kind c.tested c.items) own) head x whole
cut_fated Reads c own head x whole r = record {
  more = r.more;
  later = r.later;
  inside = cut_inside c.kind c own whole r.inside;
  gathered = r.gathered;
}
cut_fated (Tells t) c own head x whole r = r
cut_fated Ends c own head x whole r = r

-- a feed stands where it stood with the offsets that are kept
pub stands_cut : (total came : ℕ) (c : Cursor) (head own : List ℕ) (stream : List ℕ)
    → StandsFor (feed_made total came c head own) stream
    → StandsFor (feed_made total came c head
    (take (kept_by c.fate c.kind c.tested c.items) own)) stream
stands_cut total came c head own stream s = record {
  bytes = s.bytes;
  small = s.small;
  within = s.within;
  came = s.came;
  goes = λ whole w.
      let g = s.goes whole w in
      record {
        hand = g.hand;
        begins = g.begins;
        reached = g.reached;
        ahead = g.ahead;
        within = g.within;
        fate = cut_fated c.fate c own head (min came c.stop) whole g.fate;
      };
}
