use Rattle.moves.proofs.LaneBlanks.{near_suppressed}
use Rattle.moves.proofs.suppressing.move_near.Goals as goal

pub returns : goal.returns
returns g c =
    near_suppressed (g.C.Core.cells c.args.core.now) c.args.a c.args.b c.args.count c.requires.near.a_in c.requires.near.a_room c.requires.near.most (g.C.Core.cells c.clear_near_marks.new.core) c.clear_near_marks.ensures.marks
    c.near_codes.result c.near_codes.ensures.codes c.bare_units-bare.result c.bare_units-bare.ensures.bare c.blank_codes.result c.blank_codes.ensures.last (g.C.Core.cells c.put_last.new.core) c.put_last.ensures.codes
