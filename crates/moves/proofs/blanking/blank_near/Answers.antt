use Rattle.moves.proofs.LaneBlanks.{near_blanked}
use Rattle.moves.proofs.blanking.blank_near.Goals as goal

pub returns-clause-codes : goal.returns-clause-codes
returns-clause-codes g c =
    near_blanked (g.C.Core.cells c.args.core.now) c.args.b c.args.count c.args.limit c.args.stop c.requires.within c.requires.room c.requires.most c.near_codes-codes.result c.near_codes-codes.ensures.codes
    c.blank_codes.result c.blank_codes.ensures.last (g.C.Core.cells c.put_last.new.core) c.put_last.ensures.codes
