use Rattle.moves.proofs.ControlPlaces.{right_small, right_long, right_within}
use Rattle.moves.proofs.ControlLanes.{all_filled, filled_sixteen, filled_small}
use Rattle.moves.proofs.control.fill_codes.Goals as goal

pub bring_data-digits-requires-clause-sixteen_places : goal.bring_data-digits-requires-clause-sixteen_places
bring_data-digits-requires-clause-sixteen_places c = right_long c.args.control c.places_right-right.result c.requires.sixteen c.places_right-right.ensures

pub bring_data-digits-requires-clause-places : goal.bring_data-digits-requires-clause-places
bring_data-digits-requires-clause-places c = right_small c.args.control c.places_right-right.result c.requires.sixteen c.places_right-right.ensures

pub bring_data-digits-requires-clause-right : goal.bring_data-digits-requires-clause-right
bring_data-digits-requires-clause-right c = right_within c.args.control c.places_right-right.result c.requires.sixteen c.places_right-right.ensures

pub keep_codes-kept-requires-clause-sixteen_right : goal.keep_codes-kept-requires-clause-sixteen_right
keep_codes-kept-requires-clause-sixteen_right c = right_long c.args.control c.places_right-right.result c.requires.sixteen c.places_right-right.ensures

pub keep_codes-kept-requires-clause-places : goal.keep_codes-kept-requires-clause-places
keep_codes-kept-requires-clause-places c = right_small c.args.control c.places_right-right.result c.requires.sixteen c.places_right-right.ensures

pub returns-clause-filled : goal.returns-clause-filled
returns-clause-filled c =
    all_filled c.args.control c.args.amount c.args.minus c.args.count c.requires.most c.requires.sixteen c.requires.sixteen_amount c.requires.below
    c.places_right-right.result c.places_right-right.ensures c.bring_data-digits.result c.bring_data-digits.ensures c.keep_codes-kept.result c.keep_codes-kept.ensures
    c.replace_lanes.result c.replace_lanes.ensures c.where_equal.result c.where_equal.ensures

pub returns-clause-sixteen : goal.returns-clause-sixteen
returns-clause-sixteen c =
    filled_sixteen c.args.control c.args.amount c.args.minus c.args.count c.requires.most c.requires.sixteen c.requires.sixteen_amount c.requires.below
    c.places_right-right.result c.places_right-right.ensures c.bring_data-digits.result c.bring_data-digits.ensures c.keep_codes-kept.result c.keep_codes-kept.ensures
    c.replace_lanes.result c.replace_lanes.ensures c.where_equal.result c.where_equal.ensures

pub returns-clause-below : goal.returns-clause-below
returns-clause-below c =
    filled_small c.args.control c.args.amount c.args.minus c.args.count c.requires.most c.requires.sixteen c.requires.sixteen_amount c.requires.below
    c.places_right-right.result c.places_right-right.ensures c.bring_data-digits.result c.bring_data-digits.ensures c.keep_codes-kept.result c.keep_codes-kept.ensures
    c.replace_lanes.result c.replace_lanes.ensures c.where_equal.result c.where_equal.ensures c.requires.below_amount
