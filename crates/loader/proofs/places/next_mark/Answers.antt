use Rattle.loader.proofs.PlaceMarks.{mark_found, mark_missing}
use Rattle.loader.proofs.places.next_mark.Goals as goal

pub returns-in_default-clause-mark : goal.returns-in_default-clause-mark
returns-in_default-clause-mark c = mark_missing c.args.cells.now c.in_default.ensures.index

pub returns-clause-mark : goal.returns-clause-mark
returns-clause-mark c = mark_found c.args.cells.now c.split_at.result.1.now c.in-Some.index c.index-cells-index.result c.in-Some.ensures.index c.split_at.ensures.back
