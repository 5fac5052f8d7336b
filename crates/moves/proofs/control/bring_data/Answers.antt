use Rattle.std.proofs.Common.{◌<◌, ◌∙◌}
use Rattle.std.proofs.lemmas.List.Elements.{All-same}
use Rattle.moves.proofs.BroughtLanes.{data_brought, wanted_small}
use Rattle.moves.proofs.control.bring_data.Goals as goal

pub bring-brought-requires-clause-below : goal.bring-brought-requires-clause-below
bring-brought-requires-clause-below c =
    All-same (λ lane. lane < 16) c.where_from.result _ c.where_from.ensures (wanted_small c.args.places c.args.count c.requires.sixteen_places c.requires.right)

pub returns : goal.returns
returns c =
    c.where_from-2.ensures
    ∙ data_brought c.args.places c.args.count c.requires.sixteen_places c.requires.right
    c.args.amount c.where_from.result c.bring-brought.result c.requires.most c.requires.sixteen c.where_from.ensures c.bring-brought.ensures
