-- Bytes in pieces, which are written one after the other.
use Rattle.std.specs.Prelude.{ℕ, List, map}
use Rattle.std.specs.List.{concat}
use Rattle.capsule_grammar.specs.declared.pieces.Piece.{Piece}
use Rattle.capsule_grammar.specs.declared.pieces.Piece.TheVariants.{Own, Lent}

-- the bytes of a piece
abbrev pub piece_bytes : Piece → List ℕ
piece_bytes (Own blob) = blob
piece_bytes (Lent bytes) = bytes.now

-- the bytes of these pieces, one behind another
abbrev pub joined : List Piece → List ℕ
joined pieces = concat (map piece_bytes pieces)
