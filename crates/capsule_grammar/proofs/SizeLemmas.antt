-- Sizes of spellings, and what is written item by item.
use Rattle.std.proofs.Common.{◌≡◌, ℕ, zero, suc, ◌+◌, ◌*◌, ◌-◌, ◌^◌, ◌<◌, ◌≤◌, min, Bool, true}
use Rattle.std.proofs.Common.{false, List, [], ◌∷◌, ◌++◌, length, get_or, take, refl, sym, ap, ◌∙◌}
use Rattle.std.proofs.Common.{arith, append_assoc, length-append}
use Rattle.std.specs.List.{concat, flat_map}
use Rattle.std.proofs.lemmas.List.{take_all, take_more, append-nil}
use Rattle.std.proofs.lemmas.List.Folds.{concat-append}
use Rattle.cu_base.specs.Fields.{bytes_of}
use Rattle.fmp_headers.specs.FmpHeader.{fmp_header_bytes}
use Rattle.capsule_grammar.specs.declared.value.Body.{Body}
use Rattle.capsule_grammar.specs.declared.value.Body.TheVariants.{Other, Fmp}
use Rattle.capsule_grammar.specs.Fits.{body_fits, parts_fit}
use Rattle.capsule_grammar.specs.Values.{FmpValue}
use Rattle.capsule_grammar.specs.Spelling.{item_bytes, offsets, fmp_bytes, first_place}
use Rattle.capsule_grammar.proofs.Spelled.{place_next, place_within, length-offsets, length-list}

pub size_more : (base : ℕ) (items : List (List ℕ)) (k size item : ℕ) → k < length items
    → size ≡ min (base + length (concat (take k items))) (2 ^ 64 - 1)
    → item ≡ min (length (get_or items k [])) (2 ^ 64 - 1)
    → min (size + item) (2 ^ 64 - 1) ≡ min (base + length (concat (take (k + 1) items)))
    (2 ^ 64 - 1)
size_more base items k size item lt so_far here = omega (arith, place_next base items k lt)

four_lengths : (a b c d : List ℕ)
    → length (a ++ (b ++ (c ++ d))) ≡ length a + length b + length c + length d
four_lengths a b c d = simp length-append (omega arith)

pub length-fmp_bytes : (v : FmpValue)
    → length (fmp_bytes v) ≡ 8 + 8 * length (item_bytes v) + length v.lead + length
    (concat (item_bytes v))
length-fmp_bytes v =
    let items = item_bytes v in
    let list = flat_map (bytes_of 8) (offsets (8 + 8 * length items + length v.lead) items) in
    let ll : length list ≡ 8 * length items =
    length-list (offsets (8 + 8 * length items + length v.lead) items)
    ∙ ap (λ (k : ℕ). 8 * k) (length-offsets (8 + 8 * length items + length v.lead) items) in
    four_lengths (fmp_header_bytes (record { drivers = length v.drivers; items = length v.images }))
    list v.lead (concat items) ∙ omega (arith, ll)

pub size_all : (v : FmpValue) (k size : ℕ) → length (item_bytes v) ≤ k
    → size ≡ min
    (8 + 8 * length (item_bytes v) + length v.lead + length (concat (take k (item_bytes v))))
    (2 ^ 64 - 1) → size ≡ min (length (fmp_bytes v)) (2 ^ 64 - 1)
size_all v k size le e =
    let all : length (concat (take k (item_bytes v))) ≡ length (concat (item_bytes v)) =
    ap (λ (l : List (List ℕ)). length (concat l)) (take_all k (item_bytes v) le) in
    omega (arith, e, all, length-fmp_bytes v)

-- the parts of a body fit where it fits beside its GUID
pub parts_are_fit : (is_fmp : Bool) (b : Body) → body_fits is_fmp b ≡ true → parts_fit b ≡ true
parts_are_fit true (Fmp b) e = e
parts_are_fit true (Other blob) e = refl
parts_are_fit false (Fmp b) e = absurd cc
parts_are_fit false (Other blob) e = refl

-- ---- item by item

-- item k and all before it lie within the body
pub item_within : (v : FmpValue) (k : ℕ) → k < length (item_bytes v)
    → first_place v + length (concat (take k (item_bytes v))) + length
    (get_or (item_bytes v) k []) ≤ length (fmp_bytes v)
item_within v k lt = omega (
  arith,
  place_next (first_place v) (item_bytes v) k lt,
  place_within (first_place v) (item_bytes v) (k + 1),
  length-fmp_bytes v,
)

pub concat_more : (items : List (List ℕ)) (k : ℕ) → k < length items
    → concat (take (k + 1) items) ≡ concat (take k items) ++ get_or items k []
concat_more items k lt = ap concat (take_more items k [] lt)
    ∙ concat-append (take k items) (get_or items k [] ∷ [])
    ∙ ap (λ (l : List ℕ). concat (take k items) ++ l) (append-nil (get_or items k []))

pub list_more : (here : ℕ) (items : List (List ℕ)) (k : ℕ) → k < length items
    → flat_map (bytes_of 8) (offsets here (take (k + 1) items)) ≡ flat_map (bytes_of 8)
    (offsets here (take k items)) ++ bytes_of 8 (here + length (concat (take k items)))
list_more here [] k lt = absurd (omega arith)
list_more here (x ∷ items) zero lt = let e : here + 0 ≡ here = omega arith in rw e refl
list_more here (x ∷ items) (suc k) lt =
    let next : suc k + 1 ≡ suc (k + 1) = omega arith in
    let place : here + length x + length (concat (take k items)) ≡ here + length
    (x ++ concat (take k items)) = omega (arith, length-append x (concat (take k items))) in
    rw next (ap (λ (l : List ℕ). bytes_of 8 here ++ l)
    (list_more (here + length x) items k (omega arith)
    ∙ ap (λ (n : ℕ). flat_map (bytes_of 8) (offsets (here + length x) (take k items))
    ++ bytes_of 8 n) place))

pub grown : (old a b new now : List ℕ) → now ≡ old ++ a → new ≡ now ++ b → new ≡ old ++ (a ++ b)
grown old a b new now so_far e = e ∙ ap (λ (l : List ℕ). l ++ b) so_far ∙ append_assoc old a b

pub list_grown : (old out new : List ℕ) (first : ℕ) (items : List (List ℕ)) (k here : ℕ)
    → k < length items → here ≡ first + length (concat (take k items)) → out ≡ old
    ++ flat_map (bytes_of 8) (offsets first (take k items)) → new ≡ out ++ bytes_of 8 here
    → new ≡ old ++ flat_map (bytes_of 8) (offsets first (take (k + 1) items))
list_grown old out new first items k here lt at so_far e =
    grown old (flat_map (bytes_of 8) (offsets first (take k items)))
    (bytes_of 8 here) new out so_far e
    ∙ ap (λ (n : ℕ). old ++ (flat_map (bytes_of 8) (offsets first (take k items)) ++ bytes_of 8 n))
    at
    ∙ ap (λ (l : List ℕ). old ++ l) (sym (list_more first items k lt))

pub items_grown : (old out new : List ℕ) (items : List (List ℕ)) (k : ℕ) → k < length items
    → out ≡ old ++ concat (take k items) → new ≡ out ++ get_or items k [] → new ≡ old
    ++ concat (take (k + 1) items)
items_grown old out new items k lt so_far e =
    grown old (concat (take k items)) (get_or items k []) new out so_far e
    ∙ ap (λ (l : List ℕ). old ++ l) (sym (concat_more items k lt))
