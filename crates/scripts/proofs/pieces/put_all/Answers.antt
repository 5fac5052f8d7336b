use Rattle.std.proofs.Common.{List, ℕ, [], ◌++◌, append-nil, refl, subst}
use Rattle.std.specs.List.{flat_map}
use Rattle.scripts.specs.Pieces.{piece_bytes}
use Rattle.scripts.specs.Sending.{WritesPart}
use Rattle.scripts.proofs.SendingLemmas.{part_of_list}
use Rattle.scripts.proofs.pieces.put_all.Goals as goal

pub returns-in-Err-put_piece : goal.returns-in-Err-put_piece
returns-in-Err-put_piece g c =
    subst (λ (l : List ℕ). WritesPart l (g.W.Write.contents c.args.writer.now) (g.W.Write.contents c.put_piece.new.writer) c.args.sent.now c.put_piece.new.sent)
    (append-nil (c.args.text.now ++ flat_map piece_bytes c.args.pieces.now))
    (part_of_list piece_bytes c.args.text.now [] c.args.pieces.now c.loop-piece.piece-index _ _ _ _ _ _ _ _ c.loop-piece-test.true refl
    c.loop-piece.invariant.0 c.loop-piece.invariant.1 c.in-Err-put_piece.ensures)
