use Rattle.moves.proofs.EditingNear.{near_edited}
use Rattle.moves.proofs.editing.fill_near.Goals as goal

pub returns-clause-codes : goal.returns-clause-codes
returns-clause-codes g c =
    near_edited (g.C.Core.cells c.args.core.now) c.args.a c.args.a_count c.args.b c.args.b_count c.requires.a_in c.requires.b_in c.requires.a_room c.requires.b_room c.requires.a_some c.requires.a_most c.requires.b_most
    c.near_codes-control.result c.near_codes-control.ensures.codes c.near_codes.result c.near_codes.ensures.codes c.bare_units-amount.result c.bare_units-amount.ensures.bare
    c.is_minus-minus.result c.is_minus-minus.ensures c.edit_codes.result c.edit_codes.ensures.last (g.C.Core.cells c.put_last.new.core) c.put_last.ensures.codes
