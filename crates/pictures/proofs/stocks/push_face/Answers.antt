use Rattle.std.proofs.Common.{◌+◌, refl, arith}
use Rattle.pictures.specs.Cards.{face_row}
use Rattle.pictures.proofs.CountedPieces.{one_more}
use Rattle.pictures.proofs.stocks.push_face.Goals as goal

pub loop-row-preserved : goal.loop-row-preserved
loop-row-preserved c =
    let k = c.loop-row.row in
    one_more face_row c.args.out.now.items c.loop-row.out.items c.push_face_row.new.out.items 0 k k (k + 1) (omega arith) refl c.loop-row.invariant c.in_ok-push_face_row.ensures
