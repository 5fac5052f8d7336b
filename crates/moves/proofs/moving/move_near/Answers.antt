use Rattle.moves.proofs.MovingNear.{near_moved}
use Rattle.moves.proofs.moving.move_near.Goals as goal

pub returns : goal.returns
returns g c =
    near_moved (g.C.Core.cells c.args.core.now) c.args.a c.args.b c.args.count c.requires.near.a_in c.requires.near.a_room c.requires.near.most c.requires.apart
    c.near_codes-codes.result c.near_codes-codes.ensures.codes (g.C.Core.cells c.put_last.new.core) c.put_last.ensures.codes
