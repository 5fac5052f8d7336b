-- the bytes of the pieces of a line
use Rattle.std.specs.Prelude.{ℕ, List, decimal}
use Rattle.scripts.specs.declared.pieces.Piece.{Piece}
use Rattle.scripts.specs.declared.pieces.Piece.TheVariants as piece

-- the bytes of a piece of a line: a text, or a number in decimal without leading zeros
abbrev pub piece_bytes : Piece → List ℕ
piece_bytes (piece.Text text) = text.now
piece_bytes (piece.Number number) = decimal number
