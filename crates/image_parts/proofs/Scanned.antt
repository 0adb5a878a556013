-- What a scan kept decides the parts and the refusal of every image for which it stands.
use Rattle.std.proofs.Common.{◌≡◌, ℕ, ◌+◌, ◌-◌, ◌≤◌, min, max, inl, inr, Bool, true, false, cond}
use Rattle.std.proofs.Common.{nat_lt, List, [], ◌++◌, length, take, drop, Some, None}
use Rattle.std.proofs.Common.{Result, Ok, Err, IfOk, IfErr, IsOk, refl, sym, ap, subst, ◌∙◌, arith}
use Rattle.std.proofs.lemmas.Bool.{cases_lt, le-ltb, ltb-false, or_parts}
use Rattle.std.proofs.lemmas.List.{drop-drop, drop_all, length-append, length-drop}
use Rattle.std.proofs.lemmas.List.{length-take, take-append-le, take-take}
use Rattle.cu_base.specs.Bytes.{IsBytes}
use Rattle.cu_base.specs.Fields.{field, number}
use Rattle.cu_base.specs.Refusals.{Row, first_refusal}
use Rattle.cu_base.proofs.Rows.{passed}
use Rattle.dep_code.specs.Refusals as dep
use Rattle.image_parts.specs.declared.authentication.TheConstants.{AUTHENTICATION_BYTES}
use Rattle.image_parts.specs.declared.fault.PartRefusal.{PartRefusal}
use Rattle.image_parts.specs.declared.fault.PartRefusal.TheVariants.{Part, Memory}
use Rattle.image_parts.specs.declared.fault.PartWhy.{PartWhy}
use Rattle.image_parts.specs.declared.payload_header.TheConstants.{FIELD_BYTES}
use Rattle.image_parts.specs.declared.spans.PartSpans.{PartSpans}
use Rattle.image_parts.specs.declared.value.PayloadHead.{PayloadHead}
use Rattle.image_parts.specs.Authentication.{authentication_rows_of, authentication_size}
use Rattle.image_parts.specs.Authentication.{certificate_size}
use Rattle.image_parts.specs.Cuts.{IsCutInto, auth_end, auth_rows, auth_rows_of, behind_auth}
use Rattle.image_parts.specs.Cuts.{behind_section, head_rows, parts_at}
use Rattle.image_parts.specs.Parts.{IsPartsOf, auth_bytes, dep_bytes}
use Rattle.image_parts.specs.PayloadHeader.{header_size, payload_head_at, payload_head_bytes}
use Rattle.image_parts.specs.PayloadHeader.{payload_header_rows_of}
use Rattle.image_parts.specs.Refusals.{IsRefused, IsRefusalOf, RefusesAsSection}
use Rattle.image_parts.specs.Scan.{Finds, IsScanRefusal, KeepsSection, Refuses, ScanValue, StandsFor}
use Rattle.image_parts.specs.Scan.{end_by, kept_head_rows, window_of, window_place, window_size}
use Rattle.image_parts.specs.Section.{BeginsWithSection, TakesSection}
use Rattle.image_parts.specs.Spans.{AreFound, HasSpans, before_payload, spans_at, spans_of}
use Rattle.image_parts.specs.Support.{has_authentication, has_section}
use Rattle.image_parts.specs.Values.{PartsValue}
use Rattle.image_parts.proofs.Apart.{cut_not_refused, one_cut, one_length}
use Rattle.image_parts.proofs.Lists.{bytes_append, drop_append, same_field, take_append}
use Rattle.image_parts.proofs.Read.{parts_are_cut}
use Rattle.image_parts.proofs.Spelled.{auth_is, cut_is_parts, dep_is}
use Rattle.image_parts.proofs.Texts.{refused_whole, section_limit, takes_whole}
use Rattle.image_parts.proofs.Windows.{window_field, window_front, window_long}

-- ---- rows by fronts

same_size : (a b : List ℕ) → take AUTHENTICATION_BYTES a ≡ take AUTHENTICATION_BYTES b
    → authentication_size a ≡ authentication_size b
same_size a b e =
    ap (λ (l : List ℕ). 8 + number l) (same_field a b AUTHENTICATION_BYTES 8 4 e (omega arith))

same_auth_rows : (a b : List ℕ) (size : ℕ)
    → take AUTHENTICATION_BYTES a ≡ take AUTHENTICATION_BYTES b
    → authentication_rows_of a size ≡ authentication_rows_of b size
same_auth_rows a b size e =
    rw (
      same_field a b AUTHENTICATION_BYTES 8 4 e (omega arith),
      same_field a b AUTHENTICATION_BYTES 12 2 e (omega arith),
      same_field a b AUTHENTICATION_BYTES 14 2 e (omega arith),
    ) refl

same_rows_due : (due : Bool) (a b : List ℕ) (size : ℕ)
    → take AUTHENTICATION_BYTES a ≡ take AUTHENTICATION_BYTES b
    → cond due (authentication_rows_of a size) [] ≡ cond due (authentication_rows_of b size) []
same_rows_due due a b size e =
    ap (λ (rows : List (Row (ℕ × PartWhy))). cond due rows []) (same_auth_rows a b size e)

same_end_due : (due : Bool) (a b : List ℕ)
    → take AUTHENTICATION_BYTES a ≡ take AUTHENTICATION_BYTES b
    → cond due (authentication_size a) 0 ≡ cond due (authentication_size b) 0
same_end_due due a b e = ap (λ (n : ℕ). cond due n 0) (same_size a b e)

same_head_rows : (a b : List ℕ) (size at : ℕ) → take FIELD_BYTES a ≡ take FIELD_BYTES b
    → payload_header_rows_of a size at ≡ payload_header_rows_of b size at
same_head_rows a b size at e =
    rw (
      same_field a b FIELD_BYTES 0 4 e (omega arith),
      same_field a b FIELD_BYTES 4 4 e (omega arith),
    ) refl

same_head : (a b : List ℕ) → take FIELD_BYTES a ≡ take FIELD_BYTES b
    → payload_head_at a ≡ payload_head_at b
same_head a b e =
    rw (
      same_field a b FIELD_BYTES 4 4 e (omega arith),
      same_field a b FIELD_BYTES 8 4 e (omega arith),
      same_field a b FIELD_BYTES 12 4 e (omega arith),
    ) refl

-- ---- where the window begins

end_low_by : (short : Bool) (n : ℕ)
    → AUTHENTICATION_BYTES ≤ cond short AUTHENTICATION_BYTES (max AUTHENTICATION_BYTES n)
end_low_by true n = omega arith
end_low_by false n = omega arith

end_low : (front : List ℕ) → AUTHENTICATION_BYTES ≤ end_by front
end_low front =
    end_low_by (nat_lt (length front) AUTHENTICATION_BYTES) (authentication_size front)

place_due : (due : Bool) (front : List ℕ) (size : ℕ)
    → (AUTHENTICATION_BYTES ≤ size → AUTHENTICATION_BYTES ≤ length front)
    → first_refusal (cond due (authentication_rows_of front size) []) ≡ None
    → cond due (end_by front) 0 ≡ cond due (authentication_size front) 0
place_due true front size there e =
    let r = passed (authentication_rows_of front size) e in
    let bad = or_parts _ _ r.1.0 in
    let long : AUTHENTICATION_BYTES ≤ length front = there (ltb-false _ _ r.0) in
    let all : nat_lt (length front) AUTHENTICATION_BYTES ≡ false =
    le-ltb (length front) AUTHENTICATION_BYTES long in
    let low : 24 ≤ certificate_size front = ltb-false (certificate_size front) 24 bad.0 in
    rw all (omega (arith, low))
place_due false front size there e = refl

-- the authentication data ends within an image that is not refused for it
within_due : (due : Bool) (front : List ℕ) (size : ℕ)
    → first_refusal (cond due (authentication_rows_of front size) []) ≡ None
    → cond due (authentication_size front) 0 ≤ size
within_due true front size e =
    let r = passed (authentication_rows_of front size) e in
    ltb-false _ _ (or_parts _ _ r.1.0).1
within_due false front size e = omega arith

-- the front and the image agree
front_agrees : (v : ScanValue) (image : List ℕ) → StandsFor v image
    → take AUTHENTICATION_BYTES v.front ≡ take AUTHENTICATION_BYTES image
front_agrees v image h =
    ap (take AUTHENTICATION_BYTES) h.front
    ∙ take-take AUTHENTICATION_BYTES AUTHENTICATION_BYTES image (omega arith)

front_there : (v : ScanValue) (image : List ℕ) → StandsFor v image
    → AUTHENTICATION_BYTES ≤ length image → AUTHENTICATION_BYTES ≤ length v.front
front_there v image h long =
    omega (arith, long, ap length h.front, length-take AUTHENTICATION_BYTES image)

rows_agree : (v : ScanValue) (image : List ℕ) (size : ℕ) → StandsFor v image
    → auth_rows_of v.front size v.support ≡ auth_rows_of image size v.support
rows_agree v image size h =
    same_rows_due (has_authentication v.support) v.front image size (front_agrees v image h)

end_agrees : (v : ScanValue) (image : List ℕ) → StandsFor v image
    → auth_end v.front v.support ≡ auth_end image v.support
end_agrees v image h =
    same_end_due (has_authentication v.support) v.front image (front_agrees v image h)

-- the window is of what stands behind authentication data that is not refused
window_agrees : (v : ScanValue) (image : List ℕ) → StandsFor v image
    → first_refusal (auth_rows image v.support) ≡ None
    → v.window ≡ window_of (has_section v.support) (behind_auth image v.support)
window_agrees v image h none =
    let place : window_place v.support v.front ≡ auth_end v.front v.support =
    place_due (has_authentication v.support) v.front (length image) (front_there v image h)
    (ap first_refusal (rows_agree v image (length image) h) ∙ none) in
    h.window
    ∙ ap (λ (n : ℕ). window_of (has_section v.support) (drop n image))
    (place ∙ end_agrees v image h)

-- ---- sizes

whole_size : (v : ScanValue) (image : List ℕ) → StandsFor v image → v.came ≡ v.size
    → length image ≡ v.size
whole_size v image h whole = sym h.came ∙ whole

rows_whole : (v : ScanValue) (image : List ℕ) → StandsFor v image → v.came ≡ v.size
    → auth_rows_of v.front v.size v.support ≡ auth_rows image v.support
rows_whole v image h whole =
    rows_agree v image v.size h
    ∙ ap (λ (n : ℕ). auth_rows_of image n v.support) (sym (whole_size v image h whole))

-- how much is kept, where all bytes came and the authentication data is not refused
pub record HasRoom (v : ScanValue) : Type 0 where
  pub within : auth_end v.front v.support ≤ v.size
  pub high : auth_end v.front v.support + length v.window ≤ v.size
  pub low : min (window_size (has_section v.support)) (v.size - auth_end v.front v.support)
      ≤ length v.window

pub room : (v : ScanValue) (image : List ℕ) → StandsFor v image → v.came ≡ v.size
    → first_refusal (auth_rows_of v.front v.size v.support) ≡ None → HasRoom v
room v image h whole none =
    let size = whole_size v image h whole in
    let there = ap first_refusal (sym (rows_whole v image h whole)) ∙ none in
    let long = window_long (has_section v.support) (behind_auth image v.support) in
    let window = ap length (window_agrees v image h there) in
    let behind = length-drop (auth_end image v.support) image in
    let end = end_agrees v image h in
    let within = within_due (has_authentication v.support) v.front v.size none in
    record {
      within = within;
      high = omega (arith, long.high, window, behind, end, within, size);
      low = omega (arith, long.low, window, behind, end, within, size);
    }

pub front_room : (v : ScanValue) (image : List ℕ) → StandsFor v image → v.came ≡ v.size
    → AUTHENTICATION_BYTES ≤ v.size → AUTHENTICATION_BYTES ≤ length v.front
front_room v image h whole long =
    front_there v image h (omega (arith, whole_size v image h whole, long))

-- the fields of the payload header behind a section are kept, where they are there
pub head_room : (v : ScanValue) (dep : ℕ) → HasRoom v
    → TakesSection (has_section v.support) v.window dep
    → FIELD_BYTES ≤ v.size - (auth_end v.front v.support + dep)
    → FIELD_BYTES ≤ length v.window - dep
head_room v dep h section long =
    omega (arith, h.low, section_limit (has_section v.support) v.window dep section, long)

pub kept_bound : (v : ScanValue) (stream : List ℕ) → StandsFor v stream
    → length v.front + length v.window ≤ 4200
kept_bound v stream h =
    let rest = drop (window_place v.support v.front) stream in
    let long = window_long (has_section v.support) rest in
    omega (
      arith,
      ap length h.front,
      length-take AUTHENTICATION_BYTES stream,
      ap length h.window,
      long.most,
    )

-- ---- sections and headers

section_agrees : (v : ScanValue) (image : List ℕ) (dep : ℕ) → StandsFor v image
    → first_refusal (auth_rows image v.support) ≡ None
    → TakesSection (has_section v.support) v.window dep
    → TakesSection (has_section v.support) (behind_auth image v.support) dep
section_agrees v image dep h none section =
    takes_whole (has_section v.support) (behind_auth image v.support) dep
    (subst (λ (l : List ℕ). TakesSection (has_section v.support) l dep)
    (window_agrees v image h none) section)

head_front : (v : ScanValue) (image : List ℕ) (dep : ℕ) → StandsFor v image
    → first_refusal (auth_rows image v.support) ≡ None
    → TakesSection (has_section v.support) v.window dep
    → take FIELD_BYTES (drop dep v.window) ≡ take FIELD_BYTES
    (behind_section image v.support dep)
head_front v image dep h none section =
    let rest = behind_auth image v.support in
    let low = section_limit (has_section v.support) v.window dep section in
    ap (λ (l : List ℕ). take FIELD_BYTES (drop dep l)) (window_agrees v image h none)
    ∙ window_field (has_section v.support) rest dep low
    ∙ ap (take FIELD_BYTES) (drop-drop dep (auth_end image v.support) image)

head_agrees : (v : ScanValue) (image : List ℕ) (dep : ℕ) → StandsFor v image → v.came ≡ v.size
    → first_refusal (auth_rows image v.support) ≡ None
    → TakesSection (has_section v.support) v.window dep
    → kept_head_rows v dep ≡ head_rows image v.support dep
head_agrees v image dep h whole none section =
    let end = end_agrees v image h in
    let behind : length (behind_section image v.support dep) ≡ v.size
    - (auth_end image v.support + dep) =
    omega (
      arith,
      length-drop (auth_end image v.support + dep) image,
      whole_size v image h whole,
    ) in
    ap (λ (n : ℕ). payload_header_rows_of (drop dep v.window) (v.size - (n + dep)) (n + dep)) end
    ∙ same_head_rows (drop dep v.window) (behind_section image v.support dep)
    (v.size - (auth_end image v.support + dep)) (auth_end image v.support + dep)
    (head_front v image dep h none section)
    ∙ ap (λ (n : ℕ). payload_header_rows_of (behind_section image v.support dep) n
    (auth_end image v.support + dep)) (sym behind)

-- ---- places and lengths

abbrev spans_made : ℕ → ℕ → PayloadHead → ℕ → ℕ → PartSpans
spans_made start dep head at size = record {
  auth = start;
  dep_at = start;
  dep_length = dep;
  head = head;
  payload_at = at;
  payload_length = size;
}

same_spans : (a a' d d' : ℕ) (h : PayloadHead) (p p' s s' : ℕ) → a ≡ a' → d ≡ d' → p ≡ p' → s ≡ s'
    → spans_made a d h p s ≡ spans_made a' d' h p' s'
same_spans a a' d d' h p p' s s' ea ed ep es = rw (ea, ed, ep, es) refl

head_length : (h : PayloadHead) → length (payload_head_bytes h) ≡ 16
head_length h = refl

dep_there : (due : Bool) (bytes : List ℕ) (size : ℕ) → TakesSection due bytes size
    → size ≤ length bytes
dep_there true bytes size h = h.there
dep_there false bytes size h = omega (arith, h)

cut_spans : (image : List ℕ) (support dep : ℕ) → IsBytes image
    → IsCutInto image support (parts_at image support dep)
    → TakesSection (has_section support) (behind_auth image support) dep
    → first_refusal (auth_rows image support) ≡ None
    → spans_at (auth_end image support) dep (payload_head_at (behind_section image support dep))
    (length image) ≡ spans_of (parts_at image support dep)
cut_spans image support dep is cut section none =
    let p = parts_at image support dep in
    let parts = cut_is_parts image support p is cut in
    let start = auth_end image support in
    let rest = behind_section image support dep in
    let within = within_due (has_authentication support) image (length image) none in
    let auth : start ≡ length (auth_bytes p.auth) =
    omega (
      arith,
      ap length (auth_is (has_authentication support) image is none),
      length-take start image,
      within,
    ) in
    let there = dep_there (has_section support) (behind_auth image support) dep section in
    let size : dep ≡ length (dep_bytes p.dep) =
    omega (
      arith,
      ap length (dep_is (has_section support) image start dep section),
      length-take dep (drop start image),
      there,
    ) in
    let head = head_length p.head in
    let before : start + dep + p.head.header_size ≡ length (before_payload p) =
    omega (
      arith,
      auth,
      size,
      head,
      parts.head.header_size,
      length-append (auth_bytes p.auth ++ dep_bytes p.dep ++ payload_head_bytes p.head) p.extra,
      length-append (auth_bytes p.auth ++ dep_bytes p.dep) (payload_head_bytes p.head),
      length-append (auth_bytes p.auth) (dep_bytes p.dep),
    ) in
    let last : length image - (start + dep + p.head.header_size) ≡ length p.payload =
    omega (
      arith,
      length-drop (header_size rest) rest,
      length-drop (start + dep) image,
    ) in
    same_spans start (length (auth_bytes p.auth)) dep (length (dep_bytes p.dep)) p.head
    (start + dep + p.head.header_size) (length (before_payload p))
    (length image - (start + dep + p.head.header_size)) (length p.payload) auth size before last

-- ---- the answers

pub finds_parts : (v : ScanValue) (image : List ℕ) (spans : PartSpans) → StandsFor v image
    → v.came ≡ v.size → Finds v spans → HasSpans image v.support spans
finds_parts v image spans h whole f =
    let none = ap first_refusal (sym (rows_whole v image h whole)) ∙ f.auth in
    let section = section_agrees v image f.dep h none f.section in
    let rows = head_agrees v image f.dep h whole none f.section in
    let p = parts_at image v.support f.dep in
    let cut : IsCutInto image v.support p = record {
      auth = none;
      size = f.dep;
      section = section;
      head = ap first_refusal (sym rows) ∙ f.head;
      parts = refl;
    } in
    let head = same_head (drop f.dep v.window) (behind_section image v.support f.dep)
    (head_front v image f.dep h none f.section) in
    record {
      parts = p;
      are = cut_is_parts image v.support p h.bytes cut;
      places = f.places
          ∙ ap (λ (n : ℕ). spans_at n f.dep (payload_head_at (drop f.dep v.window)) v.size)
          (end_agrees v image h)
          ∙ ap (λ (x : PayloadHead). spans_at (auth_end image v.support) f.dep x v.size) head
          ∙ ap (λ (n : ℕ). spans_at (auth_end image v.support) f.dep
          (payload_head_at (behind_section image v.support f.dep)) n)
          (sym (whole_size v image h whole))
          ∙ cut_spans image v.support f.dep h.bytes cut section none;
    }

section_refused : (due : Bool) (rest window : List ℕ) (start end at : ℕ) (why : PartWhy)
    → due ≡ true → window ≡ window_of due rest → start ≡ end
    → RefusesAsSection window start at why → RefusesAsSection rest end at why
section_refused true rest window start end at why due is same r = record {
  place = r.place;
  cause = r.cause;
  refused = refused_whole rest r.place r.cause
      (subst (λ (l : List ℕ). dep.IsRefused l r.place r.cause) is r.refused);
  sum = r.sum ∙ ap (λ (n : ℕ). n + r.place) same;
  told = r.told;
}
section_refused false rest window start end at why due is same r = absurd cc

pub refuses_whole : (v : ScanValue) (image : List ℕ) (at : ℕ) (why : PartWhy) → StandsFor v image
    → v.came ≡ v.size → Refuses v at why → IsRefused image v.support at why
refuses_whole v image at why h whole (inl r) =
    inl (ap first_refusal (sym (rows_whole v image h whole)) ∙ r)
refuses_whole v image at why h whole (inr (inl r)) =
    let none = ap first_refusal (sym (rows_whole v image h whole)) ∙ r.auth in
    inr (inl (record {
      auth = none;
      due = r.due;
      section = section_refused (has_section v.support)
          (behind_auth image v.support) v.window (auth_end v.front v.support)
          (auth_end image v.support) at why r.due (window_agrees v image h none)
          (end_agrees v image h) r.section;
    }))
refuses_whole v image at why h whole (inr (inr r)) =
    let none = ap first_refusal (sym (rows_whole v image h whole)) ∙ r.auth in
    inr (inr (record {
      auth = none;
      size = r.dep;
      section = section_agrees v image r.dep h none r.section;
      refused = ap first_refusal (sym (head_agrees v image r.dep h whole none r.section))
          ∙ r.refused;
    }))

pub refusal_whole : (v : ScanValue) (image : List ℕ) (e : PartRefusal) → StandsFor v image
    → v.came ≡ v.size → IsScanRefusal e v → IsRefusalOf e image v.support
refusal_whole v image (Part fault) h whole r =
    refuses_whole v image fault.at fault.why h whole r
refusal_whole v image Memory h whole r = tt

pub scan_found : (v : ScanValue) (r : Result PartSpans PartRefusal) → v.came ≡ v.size
    → IfOk r (λ spans. Finds v spans)
    → IfOk r (λ spans. (image : List ℕ) → StandsFor v image → HasSpans image v.support spans)
scan_found v (Ok spans) whole f = λ image h. finds_parts v image spans h whole f
scan_found v (Err e) whole f = tt

pub scan_refused : (v : ScanValue) (r : Result PartSpans PartRefusal) → v.came ≡ v.size
    → IfErr r (λ e. IsScanRefusal e v)
    → IfErr r (λ e. (image : List ℕ) → StandsFor v image → IsRefusalOf e image v.support)
scan_refused v (Ok spans) whole f = tt
scan_refused v (Err e) whole f = λ image h. refusal_whole v image e h whole f

pub scan_only : (v : ScanValue) (r : Result PartSpans PartRefusal) → v.came ≡ v.size
    → IfOk r (λ spans. Finds v spans) → IfErr r (λ e. IsScanRefusal e v) → (image : List ℕ)
    (p : PartsValue) → StandsFor v image → IsPartsOf image v.support p → AreFound p r
scan_only v (Ok spans) whole f e image p h is =
    let found = finds_parts v image spans h whole f in
    found.places
    ∙ ap spans_of
    (one_cut image v.support found.parts p (parts_are_cut image v.support found.parts found.are)
    (parts_are_cut image v.support p is))
scan_only v (Err (Part fault)) whole f e image p h is =
    cut_not_refused image v.support p fault.at fault.why (parts_are_cut image v.support p is)
    (refuses_whole v image fault.at fault.why h whole e)
scan_only v (Err Memory) whole f e image p h is = tt

pub scan_section : (v : ScanValue) (r : Result PartSpans PartRefusal)
    → IfOk r (λ spans. Finds v spans) → IsOk r → KeepsSection v
scan_section v (Ok spans) f is = record { dep = f.dep; section = f.section }
scan_section v (Err e) f is = absurd cc

-- ---- the section

section_due : (due : Bool) (image window : List ℕ) (start n m : ℕ) → due ≡ true
    → window ≡ window_of due (drop start image) → BeginsWithSection window n
    → TakesSection due (drop start image) m
    → take n window ≡ dep_bytes (cond due (Some (field image start m)) None)
section_due true image window start n m due is h k =
    let rest = drop start image in
    let seen : TakesSection true (window_of true rest) n =
    subst (λ (l : List ℕ). BeginsWithSection l n) is h in
    let same : n ≡ m = one_length rest n m (takes_whole true rest n seen) k in
    let low = section_limit true (window_of true rest) n seen in
    ap (take n) is ∙ window_front true rest n (omega (arith, low))
    ∙ ap (λ (k : ℕ). take k rest) same
section_due false image window start n m due is h k = absurd cc

pub section_bytes_are : (v : ScanValue) (image : List ℕ) (p : PartsValue) (n : ℕ)
    → StandsFor v image → IsPartsOf image v.support p → has_section v.support ≡ true
    → BeginsWithSection v.window n → take n v.window ≡ dep_bytes p.dep
section_bytes_are v image p n h is due begins =
    let cut = parts_are_cut image v.support p is in
    section_due (has_section v.support) image v.window (auth_end image v.support) n cut.size due
    (window_agrees v image h cut.auth) begins cut.section
    ∙ ap (λ (q : PartsValue). dep_bytes q.dep) (sym cut.parts)

-- ---- the next bytes

front_more : (stream more : List ℕ)
    → take AUTHENTICATION_BYTES (take AUTHENTICATION_BYTES stream ++ more)
    ≡ take AUTHENTICATION_BYTES (stream ++ more)
front_more stream more =
    let room : AUTHENTICATION_BYTES - length (take AUTHENTICATION_BYTES stream)
    ≡ AUTHENTICATION_BYTES - length stream =
    omega (arith, length-take AUTHENTICATION_BYTES stream) in
    take_append AUTHENTICATION_BYTES (take AUTHENTICATION_BYTES stream) more
    ∙ ap (λ (l : List ℕ). l
    ++ take (AUTHENTICATION_BYTES - length (take AUTHENTICATION_BYTES stream)) more)
    (take-take AUTHENTICATION_BYTES AUTHENTICATION_BYTES stream (omega arith))
    ∙ ap (λ (n : ℕ). take AUTHENTICATION_BYTES stream ++ take n more) room
    ∙ sym (take_append AUTHENTICATION_BYTES stream more)

-- the place of the window moves only before it has bytes
place_moves : (due : Bool) (stream front new : List ℕ)
    → front ≡ take AUTHENTICATION_BYTES stream
    → (AUTHENTICATION_BYTES ≤ length stream → new ≡ front)
    → drop (cond due (end_by front) 0) stream ≡ drop (cond due (end_by new) 0) stream
place_moves true stream front new e same =
    elim (cases_lt (length stream) AUTHENTICATION_BYTES) [
      | inl short ↦
          drop_all (end_by front) stream (omega (arith, end_low front, short))
          ∙ sym (drop_all (end_by new) stream (omega (arith, end_low new, short)))
      | inr long ↦ ap (λ (l : List ℕ). drop (end_by l) stream) (sym (same long))
    ]
place_moves false stream front new e same = refl

abbrev pub scan_made : ℕ → ℕ → ℕ → List ℕ → List ℕ → ScanValue
scan_made size support came front window =
    record { size = size; support = support; came = came; front = front; window = window }

pub stands_more : (v : ScanValue) (stream more behind front window : List ℕ) → StandsFor v stream
    → IsBytes more → v.came + length more ≤ v.size
    → front ≡ take AUTHENTICATION_BYTES (v.front ++ more)
    → behind ≡ drop (window_place v.support front - v.came) more
    → ((rest : List ℕ) → v.window ≡ window_of (has_section v.support) rest
    → window ≡ window_of (has_section v.support) (rest ++ behind))
    → StandsFor (scan_made v.size v.support (v.came + length more) front window) (stream ++ more)
stands_more v stream more behind front window h is fits ef eb next =
    let whole : front ≡ take AUTHENTICATION_BYTES (stream ++ more) =
    ef ∙ ap (λ (l : List ℕ). take AUTHENTICATION_BYTES (l ++ more)) h.front
    ∙ front_more stream more in
    let place = window_place v.support front in
    let old : v.window ≡ window_of (has_section v.support) (drop place stream) =
    h.window ∙ ap (window_of (has_section v.support))
    (place_moves (has_authentication v.support) stream v.front front h.front
    (λ long. whole ∙ take-append-le AUTHENTICATION_BYTES stream more long ∙ sym h.front)) in
    let later : drop place stream ++ behind ≡ drop place (stream ++ more) =
    ap (λ (l : List ℕ). drop place stream ++ l)
    (eb ∙ ap (λ (n : ℕ). drop (place - n) more) h.came) ∙ sym (drop_append place stream more) in
    record {
      bytes = bytes_append stream more h.bytes is;
      small = h.small;
      within = omega (arith, length-append stream more, h.came, fits);
      came = omega (arith, length-append stream more, h.came);
      front = whole;
      window = next (drop place stream) old ∙ ap (window_of (has_section v.support)) later;
    }
