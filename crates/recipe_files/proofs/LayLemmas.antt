-- Heads, offsets and pieces of the capsule of a recipe, as they are appended one after the other.
use Rattle.std.proofs.Common.{◌≡◌, ℕ, ◌+◌, ◌*◌, ◌<◌, ◌≤◌, List, [], ◌∷◌, ◌++◌}
use Rattle.std.proofs.Common.{length, get_or, drop, map, append_assoc, refl, sym, ap, ◌∙◌, arith}
use Rattle.std.specs.List.{concat, flat_map}
use Rattle.std.proofs.lemmas.List.{append-nil, drop_more, length-append, length-map}
use Rattle.std.proofs.lemmas.List.Folds.{concat-append}
use Rattle.cu_base.specs.Fields.{bytes_of}
use Rattle.fmp_headers.specs.FmpHeader.{fmp_header_bytes}
use Rattle.fmp_headers.specs.ImageHeader.{image_header_bytes}
use Rattle.capsule_grammar.proofs.PieceLemmas.{joined_more}
use Rattle.capsule_grammar.specs.declared.pieces.Piece.{Piece}
use Rattle.capsule_grammar.specs.Pieces.{joined, piece_bytes}
use Rattle.capsule_grammar.specs.Spelling.{fmp_bytes, image_bytes, item_bytes, offsets}
use Rattle.image_parts.specs.Parts.{auth_bytes, dep_bytes}
use Rattle.image_parts.specs.PayloadHeader.{payload_head_bytes}
use Rattle.recipe_files.specs.Builds.{Contents, auth_of, drivers_of, fmp_of, head_of, header_of}
use Rattle.recipe_files.specs.Builds.{image_of}
use Rattle.recipe_files.specs.Recipes.{ItemValue}
use Rattle.recipe_files.proofs.BuildLemmas.{auth_is_within, image_is_within}
use Rattle.recipe_files.proofs.BuildLemmas.{length-drivers_of}

-- the offsets of these items, in 8 bytes each
abbrev pub list_of : ℕ → List (List ℕ) → List ℕ
list_of here items = flat_map (bytes_of 8) (offsets here items)

-- an offset that is written is one fewer to write
pub offset_on : (all out new : List ℕ) (here : ℕ) (items rest : List (List ℕ)) (item : List ℕ)
    → items ≡ item ∷ rest → out ++ list_of here items ≡ all → new ≡ out ++ bytes_of 8 here
    → new ++ list_of (here + length item) rest ≡ all
offset_on all out new here items rest item is so_far e =
    ap (λ (l : List ℕ). l ++ list_of (here + length item) rest) e
    ∙ append_assoc out (bytes_of 8 here) (list_of (here + length item) rest)
    ∙ ap (λ (l : List (List ℕ)). out ++ list_of here l) (sym is)
    ∙ so_far

-- a piece that is appended is one fewer to append
pub piece_on : (all : List ℕ) (old new : List Piece) (piece : Piece) (items rest : List (List ℕ))
    (item : List ℕ) → items ≡ item ∷ rest → piece_bytes piece ≡ item
    → joined old ++ concat items ≡ all → new ≡ old ++ piece ∷ []
    → joined new ++ concat rest ≡ all
piece_on all old new piece items rest item is same so_far e =
    ap (λ (l : List ℕ). l ++ concat rest) (joined_more old new piece e)
    ∙ append_assoc (joined old) (piece_bytes piece) (concat rest)
    ∙ ap (λ (l : List ℕ). joined old ++ (l ++ concat rest)) same
    ∙ ap (λ (l : List (List ℕ)). joined old ++ concat l) (sym is)
    ∙ so_far

-- the same of bytes that were appended
pub bytes_on : (all old new : List ℕ) (items rest : List (List ℕ)) (item : List ℕ)
    → items ≡ item ∷ rest → old ++ concat items ≡ all → new ≡ old ++ item
    → new ++ concat rest ≡ all
bytes_on all old new items rest item is so_far e =
    ap (λ (l : List ℕ). l ++ concat rest) e
    ∙ append_assoc old item (concat rest)
    ∙ ap (λ (l : List (List ℕ)). old ++ concat l) (sym is)
    ∙ so_far

-- the image items of items
abbrev pub images_of : Contents → List ItemValue → List (List ℕ)
images_of f items = map image_bytes (map (image_of f) items)

pub images_next : (f : Contents) (items : List ItemValue) (k : ℕ) (i : ItemValue)
    → k < length items → i ≡ get_or items k i
    → images_of f (drop k items) ≡ image_bytes (image_of f i) ∷ images_of f (drop (k + 1) items)
images_next f items k i within is =
    ap (images_of f) (drop_more items k i within
    ∙ ap (λ (n : ItemValue). n ∷ drop (k + 1) items) (sym is))

-- the list of the offsets of items behind others
pub list_append : (here : ℕ) (first later : List (List ℕ))
    → list_of here (first ++ later)
    ≡ list_of here first ++ list_of (here + length (concat first)) later
list_append here [] later =
    let same : here + 0 ≡ here = omega arith in
    ap (λ (n : ℕ). list_of n later) (sym same)
list_append here (item ∷ first) later =
    let size : here + length item + length (concat first)
    ≡ here + length (concat (item ∷ first)) =
    omega (arith, length-append item (concat first)) in
    ap (λ (l : List ℕ). bytes_of 8 here ++ l)
    (list_append (here + length item) first later
    ∙ ap (λ (n : ℕ). list_of (here + length item) first ++ list_of n later) size)
    ∙ sym (append_assoc (bytes_of 8 here) (list_of (here + length item) first)
    (list_of (here + length (concat (item ∷ first))) later))

four_parts : (old a b c d : List ℕ)
    → (((old ++ a) ++ b) ++ c) ++ d ≡ old ++ (a ++ ((b ++ c) ++ d))
four_parts old a b c d = simp append_assoc

-- FMP header and offset list stand before the items
pub fmp_head : (f : Contents) (drivers : List (List ℕ)) (items : List ItemValue)
    (n m first here : ℕ) (old o p new : List ℕ) → n ≡ length drivers → m ≡ length items
    → first ≡ 8 + 8 * (length drivers + length items)
    → o ≡ old ++ fmp_header_bytes (record { drivers = n; items = m })
    → p ≡ o ++ list_of first (drivers_of (length items) (map f drivers))
    → here ≡ first + length (concat (drivers_of (length items) (map f drivers)))
    → new ≡ p ++ list_of here (images_of f items)
    → new ++ concat (item_bytes (fmp_of f drivers items)) ≡ old ++ fmp_bytes (fmp_of f drivers items)
fmp_head f drivers items n m first here old o p new en em ef eo ep eh e =
    let ds = drivers_of (length items) (map f drivers) in
    let size : length ds ≡ length drivers =
    length-drivers_of (length items) (map f drivers) ∙ length-map drivers f in
    let v = fmp_of f drivers items in
    let all = concat (item_bytes v) in
    let images : length v.images ≡ length items = length-map items (image_of f) in
    let count : length (item_bytes v) ≡ length drivers + length items =
    length-append ds (map image_bytes v.images)
    ∙ omega (arith, size, length-map v.images image_bytes, images) in
    let place : 8 + 8 * length (item_bytes v) + 0 ≡ first = omega (arith, count, ef) in
    let head = fmp_header_bytes (record { drivers = length v.drivers; items = length v.images }) in
    let same : o ≡ old ++ head = eo ∙ rw (en, em, size, images) refl in
    let list : list_of first ds ++ list_of here (images_of f items)
    ≡ list_of (8 + 8 * length (item_bytes v) + 0) (item_bytes v) =
    ap (λ (k : ℕ). list_of first ds ++ list_of k (images_of f items)) eh
    ∙ sym (list_append first ds (images_of f items))
    ∙ ap (λ (k : ℕ). list_of k (item_bytes v)) (sym place) in
    ap (λ (l : List ℕ). l ++ all) (e
    ∙ ap (λ (l : List ℕ). l ++ list_of here (images_of f items)) (ep
    ∙ ap (λ (l : List ℕ). l ++ list_of first ds) same))
    ∙ four_parts old head (list_of first ds) (list_of here (images_of f items)) all
    ∙ ap (λ (l : List ℕ). old ++ (head ++ (l ++ all))) list

six_parts : (old a b c d e v : List ℕ)
    → ((((old ++ a) ++ b) ++ c) ++ d) ++ (e ++ v)
    ≡ old ++ (a ++ (((((b ++ c) ++ d) ++ []) ++ e) ++ (v ++ [])))
six_parts old a b c d e v = simp (append_assoc, append-nil)

-- image header, authentication data, section and payload header stand before payload and vendor code
pub image_head : (f : Contents) (i : ItemValue) (old o p q new : List ℕ)
    → o ≡ old ++ image_header_bytes (header_of f i) → p ≡ o ++ auth_bytes (auth_of i)
    → q ≡ p ++ dep_bytes i.dep → new ≡ q ++ payload_head_bytes (head_of i)
    → new ++ (f i.payload ++ i.vendor) ≡ old ++ image_bytes (image_of f i)
image_head f i old o p q new eo ep eq e =
    ap (λ (l : List ℕ). l ++ (f i.payload ++ i.vendor))
    (e ∙ rw (eq, ep, eo) refl)
    ∙ six_parts old (image_header_bytes (header_of f i)) (auth_bytes (auth_of i)) (dep_bytes i.dep)
    (payload_head_bytes (head_of i)) (f i.payload) i.vendor

-- authentication data is shorter than the image item that it stands in
pub auth_is_inside : (f : Contents) (i : ItemValue) (most : ℕ)
    → length (image_bytes (image_of f i)) ≤ most → length (auth_bytes (auth_of i)) ≤ most
auth_is_inside f i most within = auth_is_within f i most (image_is_within f i most within)

-- the pieces of an image item are its bytes
pub image_pieces : (f : Contents) (i j : ItemValue) (none heads payload name vendor image : List ℕ)
    → j ≡ i → none ≡ [] → heads ++ (f i.payload ++ i.vendor) ≡ none ++ image
    → payload ≡ f name → name ≡ j.payload → vendor ≡ j.vendor
    → heads ++ (payload ++ vendor) ≡ image
image_pieces f i j none heads payload name vendor image same en e ep ea ev =
    rw (ep, ea, ev, same) (rw en at e)

-- two pieces more
pub two_pieces : (old a new : List Piece) (first second : Piece) → a ≡ old ++ first ∷ []
    → new ≡ a ++ second ∷ []
    → joined new ≡ joined old ++ (piece_bytes first ++ piece_bytes second)
two_pieces old a new first second ea e =
    joined_more a new second e
    ∙ ap (λ (l : List ℕ). l ++ piece_bytes second) (joined_more old a first ea)
    ∙ append_assoc (joined old) (piece_bytes first) (piece_bytes second)

-- three pieces more
pub three_pieces : (old a b new : List Piece) (first second third : Piece) → a ≡ old ++ first ∷ []
    → b ≡ a ++ second ∷ [] → new ≡ b ++ third ∷ []
    → joined new
    ≡ joined old ++ (piece_bytes first ++ (piece_bytes second ++ piece_bytes third))
three_pieces old a b new first second third ea eb e =
    two_pieces a b new second third eb e
    ∙ ap (λ (l : List ℕ). l ++ (piece_bytes second ++ piece_bytes third))
    (joined_more old a first ea)
    ∙ append_assoc (joined old) (piece_bytes first) (piece_bytes second ++ piece_bytes third)

in_turn : (old p d i : List ℕ) → ((old ++ p) ++ d) ++ i ≡ old ++ (p ++ (d ++ i))
in_turn old p d i = simp append_assoc

-- heads, drivers and image items
pub fmp_pieces : (old a b new : List Piece) (heads : Piece) (ds is : List (List ℕ))
    (whole : List ℕ) → a ≡ old ++ heads ∷ [] → joined b ≡ joined a ++ concat ds
    → joined new ≡ joined b ++ concat is → piece_bytes heads ++ concat (ds ++ is) ≡ whole
    → joined new ≡ joined old ++ whole
fmp_pieces old a b new heads ds is whole ea eb e ew =
    e
    ∙ ap (λ (l : List ℕ). l ++ concat is)
    (eb ∙ ap (λ (l : List ℕ). l ++ concat ds) (joined_more old a heads ea))
    ∙ in_turn (joined old) (piece_bytes heads) (concat ds) (concat is)
    ∙ ap (λ (l : List ℕ). joined old ++ (piece_bytes heads ++ l)) (sym (concat-append ds is))
    ∙ ap (λ (l : List ℕ). joined old ++ l) ew
