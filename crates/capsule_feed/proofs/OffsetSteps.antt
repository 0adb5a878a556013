-- Behind an offset.
use Rattle.std.proofs.Common.{◌≡◌, ◌≢◌, ℕ, ◌+◌, ◌*◌, ◌-◌, ◌^◌, ◌<◌, ◌≤◌, min, List, [], ◌∷◌}
use Rattle.std.proofs.Common.{◌++◌, length, drop, take}
use Rattle.std.proofs.Common.{Some, None, refl, sym, ap, ◌∙◌, inl, inr, arith, subst, get_or}
use Rattle.std.proofs.Common.{Bool, true, false, cond}
use Rattle.std.proofs.lemmas.List.{length_push, append_assoc, take-take, get_or_append_left}
use Rattle.std.proofs.Math.Seq.{get_or-append_seam}
use Rattle.std.proofs.lemmas.Bool.{cases_lt}
use Rattle.cu_base.specs.Refusals.{Row, first_refusal}
use Rattle.cu_base.specs.Fields.{field, number, number_at}
use Rattle.fmp_headers.specs.CapsuleHeader.{header_size, image_size}
use Rattle.capsule_grammar.specs.declared.refusal.Why.{Why}
use Rattle.capsule_grammar.specs.declared.refusal.Why.TheVariants as whys
use Rattle.capsule_grammar.specs.declared.refusal.Refusal.{Refusal}
use Rattle.capsule_grammar.specs.Refusals.{body_of, driver_count, item_count, offset}
use Rattle.capsule_grammar.specs.Refusals.{offset_rows}
use Rattle.capsule_grammar.specs.Refusals.{is_offset_outside, is_offset_not_rising}
use Rattle.capsule_feed.specs.Structures.{behind_fmp_head, behind_list}
use Rattle.capsule_feed.specs.Told.{Told, offset_told, offsets_told, reading}
use Rattle.capsule_feed.specs.Cursors.{Goes, HasHead, InOffsets, InStructure, IsHead, IsStopped}
use Rattle.capsule_feed.specs.Cursors.{IsInHand, IsLeft, PastOffset, images_left}
use Rattle.capsule_feed.specs.declared.cursor.Cursor.{Cursor}
use Rattle.capsule_feed.specs.declared.cursor.Fate.TheVariants.{Tells}
use Rattle.capsule_feed.specs.declared.span.SpanKind.{SpanKind}
use Rattle.capsule_feed.specs.declared.span.SpanKind.TheVariants.{Header, Ext, Other, FmpHead}
use Rattle.capsule_feed.specs.declared.span.SpanKind.TheVariants.{Offsets, Lead, Driver}
use Rattle.capsule_feed.specs.declared.span.SpanKind.TheVariants.{ImageHead}
use Rattle.capsule_feed.specs.declared.span.SpanKind.TheVariants.{Image, Vendor, Pad}
use Rattle.capsule_feed.proofs.Goings.{left_hand, left_tested}
use Rattle.capsule_feed.proofs.Steps.{goes_told}
use Rattle.capsule_feed.proofs.HeadLemmas.{body_is, field_field}
use Rattle.capsule_feed.proofs.FrontSteps.{offsets_next}
use Rattle.capsule_feed.proofs.ItemSteps.{body_long, whole_le}

-- the offset that was gathered
pub offset_read : (c : Cursor) (own head whole : List ℕ) → InOffsets c own whole
    → HasHead (c.stop - 8) c.stop head whole
    → offset (body_of (drop c.start whole)) c.tested ≡ number_at head 0 8
offset_read c own head whole s h =
    let rest = drop c.start whole in
    let body = body_of rest in
    let hd = header_size rest in
    let k = c.tested in
    let m = image_size rest - hd in
    let long = body_long rest s.known.front in
    let inside : 8 + 8 * k + 8 ≤ m =
    omega (arith, long, s.known.list, s.here, s.known.items) in
    let here : c.stop - 8 ≡ (c.start + hd) + (8 + 8 * k) = omega (arith, s.stop, s.at) in
    let eight : min 32 (c.stop - (c.stop - 8)) ≡ 8 = omega (arith, s.stop) in
    let got : head ≡ field whole ((c.start + hd) + (8 + 8 * k)) 8 =
    h.1 ∙ ap (λ (n : ℕ). field whole (c.stop - 8) n) eight
    ∙ ap (λ (a : ℕ). field whole a 8) here in
    let own8 : take 8 head ≡ head =
    ap (take 8) got ∙ take-take 8 8 (drop ((c.start + hd) + (8 + 8 * k)) whole) (omega arith) ∙ sym got in
    let there : field body (8 + 8 * k) 8 ≡ field whole ((c.start + hd) + (8 + 8 * k)) 8 =
    ap (λ (l : List ℕ). field l (8 + 8 * k) 8) (body_is c.start whole)
    ∙ field_field whole (c.start + hd) m (8 + 8 * k) 8 inside in
    ap number (there ∙ sym got ∙ sym own8)

pushed_at : (own : List ℕ) (x k : ℕ) → (k < length own → get_or (own ++ x ∷ []) k 0 ≡ get_or own k 0)
    × (k ≡ length own → get_or (own ++ x ∷ []) k 0 ≡ x)
pushed_at own x k = (λ low. get_or_append_left own (x ∷ []) 0 k low, λ e. rw e (get_or-append_seam own x [] 0))

-- an offset that is not refused
pub offset_kept : (c : Cursor) (own head whole : List ℕ) (here : ℕ) → InOffsets c own whole
    → offset (body_of (drop c.start whole)) c.tested ≡ here
    → first_refusal (offset_rows (body_of (drop c.start whole)) (header_size (drop c.start whole)) c.tested)
    ≡ None
    → PastOffset c (own ++ here ∷ []) whole
offset_kept c own head whole here s read none =
    let rest = drop c.start whole in
    let body = body_of rest in
    let hd = header_size rest in
    let k = c.tested in
    let inside : k < item_count body = omega (arith, s.here, s.known.items) in
    let rows : IsLeft c.fate c.total c.capsule c.start c.at (behind_fmp_head c.capsule body)
    (offset_told body hd k ++ (offsets_told body hd (k + 1) ++ images_left (driver_count body) rest)) whole =
    subst (λ (l : List (Row Told)). IsLeft c.fate c.total c.capsule c.start c.at
    (behind_fmp_head c.capsule body) l whole)
    (ap (λ (l : List (Row Told)). l ++ images_left (driver_count body) rest) (offsets_next body hd k inside)
    ∙ append_assoc (offset_told body hd k) (offsets_told body hd (k + 1))
    (images_left (driver_count body) rest)) s.left in
    record {
      kind = s.kind;
      item = s.item;
      known = s.known;
      offsets = record {
        long = length_push own here ∙ ap (λ (n : ℕ). n + 1) s.offsets.long;
        each = λ j high. elim (cases_lt j k) [
          | inl old ↦ (pushed_at own here j).0 (omega (arith, old, s.offsets.long)) ∙ s.offsets.each j old
          | inr new ↦
              let same : j ≡ k = omega (arith, new, high) in
              (pushed_at own here j).1 (omega (arith, same, s.offsets.long)) ∙ sym read
              ∙ ap (offset body) (sym same)
        ];
        passed = λ j high. elim (cases_lt j k) [
          | inl old ↦ s.offsets.passed j old
          | inr new ↦
              let same : k ≡ j = omega (arith, new, high) in
              subst (λ (n : ℕ). first_refusal (offset_rows body hd n) ≡ None) same none
        ];
      };
      here = s.here;
      at = s.at;
      stop = s.stop;
      left = left_tested c.fate c.total c.capsule c.start c.at (hd + 16 + 8 * k)
          (behind_fmp_head c.capsule body) (offset_rows body hd k)
          (offsets_told body hd (k + 1) ++ images_left (driver_count body) rest) whole rows none;
    }

two_places : (b1 b2 : Bool) (p : ℕ) (u v : Why) (r : ℕ × Why)
    → cond b1 (Some (p, u)) (cond b2 (Some (p, v)) None) ≡ Some r → p ≡ r.0
two_places true b2 p u v r e = let same : (p, u) ≡ r = cc in ap (λ (x : ℕ × Why). x.0) same
two_places false true p u v r e = let same : (p, v) ≡ r = cc in ap (λ (x : ℕ × Why). x.0) same
two_places false false p u v r e = absurd cc

-- an offset that is refused
pub offset_refused : (c : Cursor) (own whole : List ℕ) (r : Refusal) (reach : ℕ) → InOffsets c own whole
    → first_refusal (offset_rows (body_of (drop c.start whole)) (header_size (drop c.start whole)) c.tested)
    ≡ Some (r.at, r.why)
    → reach ≡ c.stop - c.start
    → Goes (record c {
      fate = Tells (record { at = min (c.start + r.at) (2 ^ 32 - 1); why = r.why });
      stop = min (c.start + reach) (2 ^ 32 - 1);
    }) own [] c.stop whole
offset_refused c own whole r reach s refused e =
    let rest = drop c.start whole in
    let body = body_of rest in
    let hd = header_size rest in
    let k = c.tested in
    let n = item_count body in
    let inside : k < n = omega (arith, s.here, s.known.items) in
    let long = body_long rest s.known.front in
    let all = whole_le c.start whole s.known.front in
    let e2 : hd + 16 + 8 * k ≡ reach = omega (arith, e, s.stop, s.at) in
    let more = offsets_told body hd (k + 1) ++ images_left (driver_count body) rest in
    let rows : IsLeft c.fate c.total c.capsule c.start c.at (behind_fmp_head c.capsule body)
    (offset_told body hd k ++ more) whole =
    subst (λ (l : List (Row Told)). IsLeft c.fate c.total c.capsule c.start c.at
    (behind_fmp_head c.capsule body) l whole)
    (ap (λ (l : List (Row Told)). l ++ images_left (driver_count body) rest) (offsets_next body hd k inside)
    ∙ append_assoc (offset_told body hd k) (offsets_told body hd (k + 1))
    (images_left (driver_count body) rest)) s.left in
    let left : IsLeft c.fate c.total c.capsule c.start c.at (behind_fmp_head c.capsule body)
    (reading reach (offset_rows body hd k) ++ more) whole =
    subst (λ (m : ℕ). IsLeft c.fate c.total c.capsule c.start c.at (behind_fmp_head c.capsule body)
    (reading m (offset_rows body hd k) ++ more) whole) e2 rows in
    let hand : IsInHand Offsets c.capsule 0 c.at (c.start + reach) whole =
    left_hand c.fate c.total c.capsule c.start c.at (8 * n) (c.start + reach) Offsets c.capsule 0
    (behind_list c.capsule body) (reading reach (offset_rows body hd k) ++ more) whole left
    (omega (arith, e2, s.at, inside)) in
    let place : hd + 8 + 8 * k ≡ r.at =
    two_places (is_offset_outside body k) (is_offset_not_rising body k) (hd + 8 + 8 * k)
    whys.OffsetsOutside whys.OffsetsNotRising (r.at, r.why) refused in
    goes_told c own c.stop whole r reach (behind_fmp_head c.capsule body) (offset_rows body hd k) more left
    refused (rw (s.kind, s.item) hand) (omega (arith, s.stop)) (omega (arith, e2, s.stop, s.at))
    (omega (arith, e2, inside, s.known.list, long, all, s.known.front.within)) (omega (arith, place, e2))

-- a reader that stops elsewhere than in the offset list
pub stopped : (kind : SpanKind) (c : Cursor) (own head whole : List ℕ) → kind ≢ Offsets
    → InStructure kind c own whole → IsHead kind c head c.stop whole → IsStopped kind c own head whole
stopped Header c own head whole other inside gathered = (inside, gathered)
stopped Ext c own head whole other inside gathered = inside
stopped Other c own head whole other inside gathered = inside
stopped FmpHead c own head whole other inside gathered = (inside, gathered)
stopped Offsets c own head whole other inside gathered = absurd (other refl)
stopped Lead c own head whole other inside gathered = inside
stopped Driver c own head whole other inside gathered = inside
stopped ImageHead c own head whole other inside gathered = (inside, gathered)
stopped Image c own head whole other inside gathered = inside
stopped Vendor c own head whole other inside gathered = inside
stopped Pad c own head whole other inside gathered = inside
