-- Pieces that are appended.
use Rattle.std.proofs.Common.{◌≡◌, List, [], ◌∷◌, ◌++◌, map, ◌∙◌, ap}
use Rattle.std.specs.List.{concat}
use Rattle.std.proofs.lemmas.List.{append-nil, map-append}
use Rattle.std.proofs.lemmas.List.Folds.{concat-append}
use Rattle.capsule_grammar.specs.declared.pieces.Piece.{Piece}
use Rattle.capsule_grammar.specs.Pieces.{joined, piece_bytes}

-- one piece more is its bytes more
pub joined_more : (old new : List Piece) (piece : Piece) → new ≡ old ++ piece ∷ []
    → joined new ≡ joined old ++ piece_bytes piece
joined_more old new piece is =
    ap joined is
    ∙ ap concat (map-append piece_bytes old (piece ∷ []))
    ∙ concat-append (map piece_bytes old) (piece_bytes piece ∷ [])
    ∙ ap (λ l. joined old ++ l) (append-nil (piece_bytes piece))
