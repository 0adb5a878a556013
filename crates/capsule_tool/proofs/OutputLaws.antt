-- What pieces that are written one after the other append to a sink.
use Rattle.std.proofs.Common.{◌≡◌, ℕ, ◌+◌, ◌≤◌, ◌<◌, List, [], ◌∷◌, ◌++◌, length, get_or, take, drop}
use Rattle.std.proofs.Common.{map, Option, None, Some, append_assoc, refl, sym, ap, ◌∙◌, arith}
use Rattle.std.specs.List.{concat}
use Rattle.std.specs.Io.KnownBytes.{Appends}
use Rattle.std.proofs.KnownBytes.{Appends-trans}
use Rattle.std.proofs.lemmas.List.{append-nil, drop_more, length-append, map-append}
use Rattle.std.proofs.lemmas.List.{take-append-drop, take-append-le, take_all, take_more}
use Rattle.std.proofs.Math.Seq.{take-append-add}
use Rattle.std.proofs.lemmas.List.Folds.{concat-append}
use Rattle.capsule_grammar.proofs.PieceLemmas.{joined_more}
use Rattle.capsule_grammar.specs.declared.pieces.Piece.{Piece}
use Rattle.capsule_grammar.specs.Pieces.{joined, piece_bytes}
use Rattle.cu_io.specs.Streams.{SinkSeen, AppendsAll, AppendsFront}

-- nothing was written
none_written : (w : Option (List ℕ)) → Appends w w []
none_written None = tt
none_written (Some xs) = sym (append-nil xs)

pub front_of_none : (out : SinkSeen) (bytes : List ℕ) → AppendsFront out out bytes
front_of_none out bytes = (0, omega arith, none_written out.written)

pub all_is_front : (out out' : SinkSeen) (bytes : List ℕ) → AppendsAll out out' bytes
    → AppendsFront out out' bytes
all_is_front out out' bytes all =
    (length bytes, omega arith, rw (take_all (length bytes) bytes (omega arith)) all)

joined_append : (ps qs : List Piece) → joined (ps ++ qs) ≡ joined ps ++ joined qs
joined_append ps qs =
    ap concat (map-append piece_bytes ps qs)
    ∙ concat-append (map piece_bytes ps) (map piece_bytes qs)

pub pieces_on : (pieces : List Piece) (k : ℕ) (piece : Piece) (a b c : SinkSeen)
    → k < length pieces → piece ≡ get_or pieces k piece
    → AppendsAll a b (joined (take k pieces)) → AppendsAll b c (piece_bytes piece)
    → AppendsAll a c (joined (take (k + 1) pieces))
pieces_on pieces k piece a b c within is so_far more =
    let cell : take (k + 1) pieces ≡ take k pieces ++ piece ∷ [] =
    take_more pieces k piece within
    ∙ ap (λ (p : Piece). take k pieces ++ p ∷ []) (sym is) in
    rw (joined_more (take k pieces) (take (k + 1) pieces) piece cell)
    (Appends-trans _ _ _ _ _ so_far more)

pub stopped_at : (pieces : List Piece) (k : ℕ) (piece : Piece) (a b c : SinkSeen)
    → k < length pieces → piece ≡ get_or pieces k piece
    → AppendsAll a b (joined (take k pieces)) → AppendsFront b c (piece_bytes piece)
    → AppendsFront a c (joined pieces)
stopped_at pieces k piece a b c within is so_far (n, most, front) =
    let before = joined (take k pieces) in
    let after = joined (drop (k + 1) pieces) in
    let bytes = piece_bytes piece in
    let cell : drop k pieces ≡ piece ∷ drop (k + 1) pieces =
    drop_more pieces k piece within
    ∙ ap (λ (p : Piece). p ∷ drop (k + 1) pieces) (sym is) in
    let whole : joined pieces ≡ before ++ (bytes ++ after) =
    ap joined (sym (take-append-drop k pieces))
    ∙ joined_append (take k pieces) (drop k pieces)
    ∙ ap (λ (l : List Piece). before ++ joined l) cell in
    let part : take (length before + n) (joined pieces) ≡ before ++ take n bytes =
    ap (take (length before + n)) whole
    ∙ take-append-add before (bytes ++ after) n
    ∙ ap (λ (l : List ℕ). before ++ l) (take-append-le n bytes after most) in
    let long : length before + n ≤ length (joined pieces) =
    omega (
      arith,
      ap length whole,
      length-append before (bytes ++ after),
      length-append bytes after,
      most,
    ) in
    (length before + n, long, rw part (Appends-trans _ _ _ _ _ so_far front))

pub all_pieces : (pieces : List Piece) (k : ℕ) (a b : SinkSeen) → length pieces ≤ k
    → AppendsAll a b (joined (take k pieces)) → AppendsAll a b (joined pieces)
all_pieces pieces k a b past so_far = rw (take_all k pieces past) at so_far
