use Rattle.std.proofs.Common.{◌≡◌, ◌+◌, ◌++◌, length, take}
use Rattle.std.specs.List.{flat_map}
use Rattle.std.specs.Io.KnownBytes.{Appends}
use Rattle.scripts.specs.Pieces.{piece_bytes}
use Rattle.scripts.specs.Sending.{counted}
use Rattle.scripts.proofs.pieces.put_all.Given as goal

abbrev pub invariant-loop-piece : goal.invariant-loop-piece
invariant-loop-piece g l =
    Appends (g.W.Write.contents l.fn.writer) (g.W.Write.contents l.writer) (l.text ++ flat_map piece_bytes (take l.piece-index l.pieces))
    × (l.sent ≡ counted (l.fn.sent + length (l.text ++ flat_map piece_bytes (take l.piece-index l.pieces))))
