-- What was gathered of a structure, as bytes of the whole.
use Rattle.std.proofs.Common.{◌≡◌, ℕ, ◌+◌, ◌-◌, ◌<◌, ◌≤◌, min, List, length, drop, take, sym}
use Rattle.std.proofs.Common.{ap, ◌∙◌}
use Rattle.std.proofs.Common.{arith}
use Rattle.std.proofs.lemmas.List.{drop-drop, drop-take, take-take}
use Rattle.cu_base.specs.Fields.{field}
use Rattle.cu_base.proofs.Fields.{length-field}
use Rattle.fmp_headers.specs.CapsuleHeader.{header_size, image_size}
use Rattle.capsule_grammar.specs.Accepted.{AreBounds, IsFront}
use Rattle.capsule_grammar.specs.Fronts.{Begins}
use Rattle.capsule_grammar.specs.Refusals.{body_of, bound, item, item_count}
use Rattle.capsule_feed.specs.Structures.{item_size}
use Rattle.capsule_feed.specs.Cursors.{HasHead, place_of}

-- a field of a field
pub field_field : (bytes : List ℕ) (a m b n : ℕ) → b + n ≤ m
    → field (field bytes a m) b n ≡ field bytes (a + b) n
field_field bytes a m b n le =
    let k = m - b in
    let sum : b + k ≡ m = omega (arith, le) in
    let cut : drop b (take (b + k) (drop a bytes)) ≡ take k (drop b (drop a bytes)) =
    drop-take b k (drop a bytes) in
    let on : drop b (drop a bytes) ≡ drop (a + b) bytes = drop-drop b a bytes in
    let less : take n (take k (drop b (drop a bytes))) ≡ take n (drop b (drop a bytes)) =
    take-take n k (drop b (drop a bytes)) (omega (arith, le)) in
    ap (λ (j : ℕ). take n (drop b (take j (drop a bytes)))) (sym sum)
    ∙ ap (take n) cut ∙ less ∙ ap (take n) on

-- a field of what stands behind a place
pub field_drop : (bytes : List ℕ) (s a n : ℕ) → field (drop s bytes) a n ≡ field bytes (s + a) n
field_drop bytes s a n = ap (take n) (drop-drop a s bytes)

-- the bytes gathered at a place are the front of a field there
pub head_begins : (whole head : List ℕ) (from x size : ℕ) → HasHead from x head whole
    → min 32 (x - from) ≤ size → from + size ≤ length whole
    → Begins head size (field whole from size)
head_begins whole head from x size h le within =
    let n = min 32 (x - from) in
    let long : length (field whole from size) ≡ size =
    length-field whole from size within in
    let own : length head ≡ n = ap length h.1 ∙ length-field whole from n (omega (arith, le, within)) in
    record {
      same = ap (λ (k : ℕ). take k (field whole from size)) own
          ∙ take-take n size (drop from whole) le ∙ sym h.1;
      long = long;
    }

pub head_length : (whole head : List ℕ) (from x : ℕ) → HasHead from x head whole → x ≤ length whole
    → length head ≡ min 32 (x - from)
head_length whole head from x h within =
    ap length h.1
    ∙ length-field whole from (min 32 (x - from)) (omega (arith, within, h.0))

-- the body of a capsule that begins at a place
pub body_is : (start : ℕ) (whole : List ℕ) → body_of (drop start whole)
    ≡ field whole (start + header_size (drop start whole))
    (image_size (drop start whole) - header_size (drop start whole))
body_is start whole =
    field_drop whole start (header_size (drop start whole))
    (image_size (drop start whole) - header_size (drop start whole))

-- an item of a capsule that begins at a place
pub item_is : (start : ℕ) (whole : List ℕ) (k : ℕ) → IsFront (drop start whole)
    → AreBounds (body_of (drop start whole)) (length (body_of (drop start whole)))
    → k < item_count (body_of (drop start whole))
    → item (body_of (drop start whole)) k
    ≡ field whole (place_of start (drop start whole) k) (item_size (body_of (drop start whole)) k)
item_is start whole k front are here =
    let rest = drop start whole in
    let h = header_size rest in
    let body = body_of rest in
    let m = image_size rest - h in
    let b = bound body k in
    let n = item_size body k in
    let long : length body ≡ m =
    length-field rest h m (omega (arith, front.within, front.there)) in
    let within : bound body (k + 1) ≤ length body = are.within (k + 1) (omega (arith, here)) in
    let rise : bound body k ≤ bound body (k + 1) = are.rising k here in
    field_field rest h m b n (omega (arith, within, long, rise))
    ∙ field_drop whole start (h + b) n
    ∙ ap (λ (j : ℕ). field whole j n) (omega arith)
