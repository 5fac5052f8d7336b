use Rattle.std.proofs.Common.{◌≤◌, arith}
use Rattle.moves.proofs.LoadingLemmas.{near_loaded}
use Rattle.moves.proofs.PositionLaw.{field_is}
use Rattle.moves.proofs.loading.load_near.Goals as goal

pub set_mark-requires : goal.set_mark-requires
set_mark-requires g c =
    let known = field_is (g.C.Core.cells c.args.core.now) c.args.a c.args.count c.requires.field in
    let some : 1 ≤ c.args.count = known.some in
    omega (arith, c.put_last.ensures.size, c.clear_near_marks.ensures.size)

pub returns : goal.returns
returns g c =
    near_loaded (g.C.Core.cells c.args.core.now) c.args.a c.args.b c.args.count c.requires.near.a_in c.requires.near.b_in c.requires.near.a_room c.requires.near.b_room c.requires.near.most c.requires.field
    c.near_codes-codes.result c.near_codes-codes.ensures.codes (g.C.Core.cells c.put_last.new.core) c.put_last.ensures.codes (g.C.Core.cells c.clear_near_marks.new.core) c.clear_near_marks.ensures.marks
    (g.C.Core.cells c.set_mark.new.self) c.set_mark.ensures
