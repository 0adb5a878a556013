-- What is kept decides: one answer holds of every image for which a scan stands.
use Rattle.std.proofs.Common.{◌≡◌, ℕ, ◌+◌, ◌⊎◌, inl, inr, Bool, true, false, List, [], ◌∷◌}
use Rattle.std.proofs.Common.{take, drop, Option, Some, None, refl, sym, subst, arith}
use Rattle.cu_base.specs.Bytes.{IsBytes}
use Rattle.cu_base.specs.Refusals.{first_refusal}
use Rattle.cu_base.proofs.Fields.{IsBytes-drop, IsBytes-take, IsBytes-from}
use Rattle.image_parts.specs.declared.fault.PartWhy.{PartWhy}
use Rattle.image_parts.specs.declared.fault.PartWhy.TheVariants.{Dep}
use Rattle.image_parts.specs.declared.payload_header.TheConstants.{FIELD_BYTES}
use Rattle.image_parts.specs.declared.spans.PartSpans.{PartSpans}
use Rattle.image_parts.specs.declared.window.TheConstants.{SECTION_REACH}
use Rattle.image_parts.specs.Cuts.{auth_end, auth_rows_of}
use Rattle.image_parts.specs.PayloadHeader.{payload_head_at}
use Rattle.image_parts.specs.Refusals.{IsRefused}
use Rattle.image_parts.specs.Scan.{Finds, Refuses, ScanValue, StandsFor, kept_head_rows, later_zero}
use Rattle.image_parts.specs.Scan.{window_of, window_place}
use Rattle.image_parts.specs.Section.{TakesSection}
use Rattle.image_parts.specs.Spans.{HasSpans, spans_at}
use Rattle.image_parts.specs.Support.{has_section}
use Rattle.image_parts.proofs.Decided.{Taken, taken}
use Rattle.image_parts.proofs.Lists.{bytes_append}
use Rattle.image_parts.proofs.Scanned.{finds_parts, refuses_whole}
use Rattle.image_parts.proofs.Windows.{has_zero, mark}

mark_bytes : (z : Bool) → IsBytes (mark z)
mark_bytes true = IsBytes-from (0 ∷ []) (omega arith, tt)
mark_bytes false = IsBytes-from [] tt

window_bytes : (due : Bool) (rest : List ℕ) → IsBytes rest → IsBytes (window_of due rest)
window_bytes true rest is =
    bytes_append (take SECTION_REACH rest) (later_zero (drop SECTION_REACH rest))
    (IsBytes-take SECTION_REACH rest is) (mark_bytes (has_zero (drop SECTION_REACH rest)))
window_bytes false rest is = IsBytes-take FIELD_BYTES rest is

-- what is kept has places and lengths, or is refused
abbrev KeptDecided : ScanValue → Type 0
KeptDecided v = ((spans : PartSpans) × Finds v spans)
    ⊎ ((at : ℕ) × (why : PartWhy) × Refuses v at why)

by_head : (v : ScanValue) (dep : ℕ) (r : Option (ℕ × PartWhy))
    → first_refusal (auth_rows_of v.front v.size v.support) ≡ None
    → TakesSection (has_section v.support) v.window dep
    → first_refusal (kept_head_rows v dep) ≡ r → KeptDecided v
by_head v dep None auth section e =
    inl (
      spans_at (auth_end v.front v.support) dep (payload_head_at (drop dep v.window)) v.size,
      record { auth = auth; dep = dep; section = section; head = e; places = refl },
    )
by_head v dep (Some r) auth section e =
    inr (
      r.0,
      r.1,
      inr (inr (record { auth = auth; dep = dep; section = section; refused = e })),
    )

by_section : (v : ScanValue) → first_refusal (auth_rows_of v.front v.size v.support) ≡ None
    → Taken (has_section v.support) v.window → KeptDecided v
by_section v auth (inl (dep, section)) =
    by_head v dep (first_refusal (kept_head_rows v dep)) auth section refl
by_section v auth (inr (due, (place, cause, refused))) =
    inr (
      auth_end v.front v.support + place,
      Dep cause,
      inr (inl
          (record {
            auth = auth;
            due = due;
            section = record {
              place = place;
              cause = cause;
              refused = refused;
              sum = refl;
              told = refl;
            };
          })),
    )

by_auth : (v : ScanValue) (r : Option (ℕ × PartWhy)) → IsBytes v.window
    → first_refusal (auth_rows_of v.front v.size v.support) ≡ r → KeptDecided v
by_auth v None is e = by_section v e (taken (has_section v.support) v.window is)
by_auth v (Some r) is e = inr (r.0, r.1, inl e)

kept_decided : (v : ScanValue) (image : List ℕ) → StandsFor v image → KeptDecided v
kept_decided v image h =
    by_auth v (first_refusal (auth_rows_of v.front v.size v.support))
    (subst IsBytes (sym h.window)
    (window_bytes (has_section v.support) (drop (window_place v.support v.front) image)
    (IsBytes-drop (window_place v.support v.front) image h.bytes)))
    refl

-- one answer for all images for which the scan stands
abbrev Decides : ScanValue → Type 0
Decides v = ((spans : PartSpans) × ((image : List ℕ) → StandsFor v image
    → HasSpans image v.support spans))
    ⊎ ((at : ℕ) × (why : PartWhy) × ((image : List ℕ) → StandsFor v image
    → IsRefused image v.support at why))

for_all : (v : ScanValue) → v.came ≡ v.size → KeptDecided v → Decides v
for_all v whole (inl (spans, f)) =
    inl (spans, λ image h. finds_parts v image spans h whole f)
for_all v whole (inr (at, why, r)) =
    inr (at, why, λ image h. refuses_whole v image at why h whole r)

pub kept_decides : (v : ScanValue) (image : List ℕ) → StandsFor v image → v.came ≡ v.size
    → Decides v
kept_decides v image h whole = for_all v whole (kept_decided v image h)
