-- What the front of bytes tells of the whole.
use Rattle.std.proofs.Common.{◌≡◌, ℕ, ◌+◌, ◌-◌, ◌*◌, ◌<◌, ◌≤◌, min, not, ltb, List, [], ◌∷◌}
use Rattle.std.proofs.Common.{◌++◌, length, take, drop, refl, sym, ap, ◌∙◌, ◌⊎◌, inl, inr, arith}
use Rattle.std.proofs.lemmas.Bool.{cases_lt, cond-true, cond-false, lt-ltb, le-ltb}
use Rattle.std.proofs.lemmas.Bool.Decides.{nat_tests}
use Rattle.std.proofs.lemmas.List.{take_all, take_at, take-take, drop-take, length-take}
use Rattle.std.proofs.lemmas.List.{length-append}
use Rattle.cu_base.specs.Fields.{number, field, number_at, bytes_of}
use Rattle.cu_base.specs.Refusals.{Row, row_at, first_refusal}
use Rattle.fmp_headers.specs.CapsuleHeader.{header_size, image_size, is_short, capsule_header}
use Rattle.fmp_headers.specs.ImageHeader.{image_version, is_image_version, image_header_size}
use Rattle.fmp_headers.specs.ImageHeader.{image_header_rows}
use Rattle.cu_base.proofs.Fields.{length-bytes_of}
use Rattle.capsule_grammar.specs.Refusals.{driver_count, image_count, item_count, list_end, offset}
use Rattle.capsule_grammar.specs.Refusals.{start_of, bound, image_parts_size, image_rows}
use Rattle.capsule_grammar.specs.declared.refusal.Why.{Why}
use Rattle.capsule_grammar.specs.declared.refusal.Why.TheVariants.{Short, BadImageVersion}
use Rattle.capsule_grammar.specs.declared.refusal.Why.TheVariants.{ImageOutside}
use Rattle.capsule_grammar.specs.Accepted.{AreBounds}
use Rattle.capsule_grammar.specs.Fronts.{Begins}
use Rattle.capsule_grammar.proofs.Offsets.{bound_is, bound_ends}

-- ---- which fronts begin which bytes

pub front_within : {front bytes : List ℕ} {size : ℕ} → Begins front size bytes → length front ≤ size
front_within {front} {bytes} b =
    omega (arith, ap length b.same, length-take (length front) bytes, b.long)

pub begins_itself : (bytes : List ℕ) → Begins bytes (length bytes) bytes
begins_itself bytes = record { same = take_all (length bytes) bytes (omega arith); long = refl }

pub begins_append : (front rest : List ℕ) (size : ℕ) → length front + length rest ≡ size
    → Begins front size (front ++ rest)
begins_append front rest size e =
    record { same = take_at front rest (length front) refl; long = length-append front rest ∙ e }

-- there are bytes of each front and each length that it fits
pub some_whole : (front : List ℕ) (size : ℕ) → length front ≤ size → (bytes : List ℕ)
    × Begins front size bytes
some_whole front size within =
    let rest = bytes_of (size - length front) 0 in (
      front ++ rest,
      begins_append front rest size
          (omega (arith, length-bytes_of (size - length front) 0)),
    )

pub begins_take : {front bytes : List ℕ} {size : ℕ} (n : ℕ) → n ≤ length front
    → Begins front size bytes → Begins (take n front) size bytes
begins_take {front} {bytes} n within b =
    let l : length (take n front) ≡ n = omega (arith, length-take n front) in
    record {
      same = rw l (sym (take-take n (length front) bytes within) ∙ ap (take n) b.same);
      long = b.long;
    }

pub begins_less : {bytes : List ℕ} {size : ℕ} (front more : List ℕ)
    → Begins (front ++ more) size bytes → Begins front size bytes
begins_less {bytes} {size} front more b =
    let within : length front ≤ length (front ++ more) = omega (arith, length-append front more) in
    let e : take (length front) (front ++ more) ≡ front = take_at front more (length front) refl in
    record {
      same = sym (take-take (length front) (length (front ++ more)) bytes within)
          ∙ ap (take (length front)) b.same ∙ e;
      long = b.long;
    }

-- ---- fields within the front

pub field_same : {front bytes : List ℕ} {size : ℕ} (at n : ℕ) → Begins front size bytes
    → at + n ≤ length front → field bytes at n ≡ field front at n
field_same {front} {bytes} at n b within =
    let m = length front - at in
    let e : at + m ≡ length front = omega arith in
    let cut : drop at (take (at + m) bytes) ≡ take m (drop at bytes) = drop-take at m bytes in
    let less : take n (take m (drop at bytes)) ≡ take n (drop at bytes) =
    take-take n m (drop at bytes) (omega arith) in
    let whole : take (at + m) bytes ≡ front = ap (λ (k : ℕ). take k bytes) e ∙ b.same in
    sym less ∙ ap (take n) (sym cut) ∙ ap (λ (l : List ℕ). take n (drop at l)) whole

pub number_same : {front bytes : List ℕ} {size : ℕ} (at n : ℕ) → Begins front size bytes
    → at + n ≤ length front → number_at bytes at n ≡ number_at front at n
number_same at n b within = ap number (field_same at n b within)

-- a front that has the first n bytes, or all, is the whole or has n bytes
pub whole_or_long : {front bytes : List ℕ} {size : ℕ} (n : ℕ) → Begins front size bytes
    → min n size ≤ length front → (bytes ≡ front) ⊎ (n ≤ length front)
whole_or_long {front} {bytes} {size} n b there =
    elim (cases_lt size n) [
      | inl short ↦ inl (sym (take_all (length front) bytes (omega (arith, b.long))) ∙ b.same)
      | inr long ↦ inr (omega arith)
    ]

pub number_least : {front bytes : List ℕ} {size : ℕ} (least at n : ℕ) → Begins front size bytes
    → min least size ≤ length front → at + n ≤ least → number_at bytes at n ≡ number_at front at n
number_least least at n b there within =
    elim (whole_or_long least b there) [
      | inl e ↦ ap (λ (l : List ℕ). number_at l at n) e
      | inr long ↦ number_same at n b (omega arith)
    ]

-- and it is as short as the whole where the whole is below n bytes
pub shorter_least : {front bytes : List ℕ} {size : ℕ} (least n : ℕ) → Begins front size bytes
    → min least size ≤ length front → n ≤ least → ltb (length bytes) n ≡ ltb (length front) n
shorter_least {front} {bytes} least n b there low =
    elim (whole_or_long least b there) [
      | inl e ↦ ap (λ (l : List ℕ). ltb (length l) n) e
      | inr long ↦
          let within = front_within b in
          le-ltb (length bytes) n (omega (arith, within, b.long))
          ∙ sym (le-ltb (length front) n (omega arith))
    ]

-- ---- the capsule header

-- a front that has the first 28 bytes, or all, has the header of the whole
pub header_same : {front bytes : List ℕ} {size : ℕ} → Begins front size bytes
    → min 28 size ≤ length front → capsule_header bytes ≡ capsule_header front
header_same {front} {bytes} b there =
    elim (whole_or_long 28 b there) [
      | inl e ↦ ap capsule_header e
      | inr long ↦
          let g : field bytes 0 16 ≡ field front 0 16 = field_same 0 16 b (omega arith) in
          let h : header_size bytes ≡ header_size front = number_same 16 4 b (omega arith) in
          let f : number_at bytes 20 4 ≡ number_at front 20 4 = number_same 20 4 b (omega arith) in
          let i : image_size bytes ≡ image_size front = number_same 24 4 b (omega arith) in
          let s : is_short bytes ≡ is_short front = shorter_least 28 28 b there (omega arith) in
          rw (g, h, f, i, s) refl
    ]

-- ---- an image item, by its head

image_header_most : (version : ℕ) → image_header_size version ≤ 48
image_header_most version = grind (arith, nat_tests)

pub image_version_same : {head image : List ℕ} {size : ℕ} → Begins head size image
    → min 48 size ≤ length head → image_version image ≡ image_version head
image_version_same b there = number_least 48 0 4 b there (omega arith)

pub image_parts_size_same : {head image : List ℕ} {size : ℕ} → Begins head size image
    → min 48 size ≤ length head → image_parts_size image ≡ image_parts_size head
image_parts_size_same {head} {image} b there =
    let v : image_version image ≡ image_version head = image_version_same b there in
    let i : number_at image 24 4 ≡ number_at head 24 4 =
    number_least 48 24 4 b there (omega arith) in
    let w : number_at image 28 4 ≡ number_at head 28 4 =
    number_least 48 28 4 b there (omega arith) in
    rw (v, i, w) refl

-- the rows of an image item, by its head and its length
abbrev pub image_rows_by : List ℕ → ℕ → ℕ → List (Row (ℕ × Why))
image_rows_by head size at =
    row_at (ltb (length head) 32) at Short
    ∷ row_at (not (is_image_version (image_version head))) at BadImageVersion
    ∷ row_at (ltb (length head) (image_header_size (image_version head))) at Short
    ∷ row_at (ltb size (image_parts_size head)) (at + 24) ImageOutside
    ∷ []

pub image_refusal_same : {head image : List ℕ} {size : ℕ} (at : ℕ) → Begins head size image
    → min 48 size ≤ length head
    → first_refusal (image_rows image at) ≡ first_refusal (image_rows_by head size at)
image_refusal_same {head} {image} at b there =
    let v : image_version image ≡ image_version head = number_least 48 0 4 b there (omega arith) in
    let i : number_at image 24 4 ≡ number_at head 24 4 =
    number_least 48 24 4 b there (omega arith) in
    let w : number_at image 28 4 ≡ number_at head 28 4 =
    number_least 48 28 4 b there (omega arith) in
    let least : ltb (length image) 32 ≡ ltb (length head) 32 =
    shorter_least 48 32 b there (omega arith) in
    let fixed : ltb (length image) (image_header_size (image_version head)) ≡ ltb (length head)
    (image_header_size (image_version head)) =
    shorter_least 48 (image_header_size (image_version head)) b there
    (image_header_most (image_version head)) in
    rw (v, i, w, least, fixed, b.long) refl

-- the same by the first 32 bytes of an item, or all of it
abbrev pub image_rows_by_start : List ℕ → ℕ → ℕ → List (Row (ℕ × Why))
image_rows_by_start start size at =
    row_at (ltb size 32) at Short
    ∷ row_at (not (is_image_version (image_version start))) at BadImageVersion
    ∷ row_at (ltb size (image_header_size (image_version start))) at Short
    ∷ row_at (ltb size (image_parts_size start)) (at + 24) ImageOutside
    ∷ []

pub image_refusal_by_start : {start image : List ℕ} {size : ℕ} (at : ℕ) → Begins start size image
    → min 32 size ≤ length start
    → first_refusal (image_rows image at) ≡ first_refusal (image_rows_by_start start size at)
image_refusal_by_start {start} {image} at b there =
    let v : image_version image ≡ image_version start =
    number_least 32 0 4 b there (omega arith) in
    let i : number_at image 24 4 ≡ number_at start 24 4 =
    number_least 32 24 4 b there (omega arith) in
    let w : number_at image 28 4 ≡ number_at start 28 4 =
    number_least 32 28 4 b there (omega arith) in
    rw (v, i, w, b.long) refl

-- what is read of the header is what is read of the head
pub image_header_rows_same : {head image : List ℕ} {size : ℕ} → Begins head size image
    → min 48 size ≤ length head → image_header_rows image ≡ image_header_rows head
image_header_rows_same {head} {image} b there =
    let v : image_version image ≡ image_version head = number_least 48 0 4 b there (omega arith) in
    let least : ltb (length image) 32 ≡ ltb (length head) 32 =
    shorter_least 48 32 b there (omega arith) in
    let fixed : ltb (length image) (image_header_size (image_version head)) ≡ ltb (length head)
    (image_header_size (image_version head)) =
    shorter_least 48 (image_header_size (image_version head)) b there
    (image_header_most (image_version head)) in
    rw (v, least, fixed) refl

-- ---- the numbers of a body

pub driver_count_same : {front body : List ℕ} {size : ℕ} → Begins front size body
    → min 8 size ≤ length front → driver_count body ≡ driver_count front
driver_count_same b there = number_least 8 4 2 b there (omega arith)

pub image_count_same : {front body : List ℕ} {size : ℕ} → Begins front size body
    → min 8 size ≤ length front → image_count body ≡ image_count front
image_count_same b there = number_least 8 6 2 b there (omega arith)

pub item_count_same : {front body : List ℕ} {size : ℕ} → Begins front size body
    → min 8 size ≤ length front → item_count body ≡ item_count front
item_count_same {front} {body} b there =
    let d : driver_count body ≡ driver_count front = driver_count_same b there in
    let i : image_count body ≡ image_count front = image_count_same b there in
    omega (arith, d, i)

pub list_end_same : {front body : List ℕ} {size : ℕ} → Begins front size body
    → min 8 size ≤ length front → list_end body ≡ list_end front
list_end_same b there = ap (λ (n : ℕ). 8 + 8 * n) (item_count_same b there)

pub offset_same : {front body : List ℕ} {size : ℕ} (k : ℕ) → Begins front size body
    → list_end front ≤ length front → k < item_count front → offset body k ≡ offset front k
offset_same k b list there = number_same (8 + 8 * k) 8 b (omega arith)

pub start_of_is : (front : List ℕ) (size k : ℕ) → k < item_count front
    → start_of front size k ≡ offset front k
start_of_is front size k here = cond-true _ _ _ (lt-ltb k (item_count front) here)

pub start_of_ends : (front : List ℕ) (size k : ℕ) → item_count front ≤ k
    → start_of front size k ≡ size
start_of_ends front size k end = cond-false _ _ _ (le-ltb k (item_count front) end)

pub bound_same : {front body : List ℕ} {size : ℕ} (k : ℕ) → Begins front size body
    → list_end front ≤ length front → bound body k ≡ start_of front size k
bound_same {front} {body} {size} k b list =
    let n : item_count body ≡ item_count front = item_count_same b (omega arith) in
    elim (cases_lt k (item_count front)) [
      | inl here ↦ bound_is body k (omega (arith, n, here)) ∙ offset_same k b list here
          ∙ sym (start_of_is front size k here)
      | inr end ↦ bound_ends body k (omega (arith, n, end)) ∙ b.long
          ∙ sym (start_of_ends front size k end)
    ]

-- the bounds of each body that begins so, by its front alone
pub are_places : (front : List ℕ) (size : ℕ) → length front ≤ size → list_end front ≤ length front
    → ((body : List ℕ) → Begins front size body → AreBounds body (length body))
    → AreBounds front size
are_places front size within list h =
    let w = some_whole front size within in
    let body = w.0 in
    let b : Begins front size body = w.1 in
    let are : AreBounds body (length body) = h body b in
    let n : item_count body ≡ item_count front = item_count_same b (omega arith) in
    let e : list_end body ≡ list_end front = list_end_same b (omega arith) in
    let at : (k : ℕ) → bound body k ≡ start_of front size k = λ k. bound_same k b list in
    record {
      behind = λ k le. omega (arith, e, at k, are.behind k (omega (arith, n, le)));
      within = λ k le. omega (arith, b.long, at k, are.within k (omega (arith, n, le)));
      apart = λ k next. omega (arith, at k, at (k + 1), are.apart k (omega (arith, n, next)));
      rising = λ k here. omega (arith, at k, at (k + 1), are.rising k (omega (arith, n, here)));
    }
