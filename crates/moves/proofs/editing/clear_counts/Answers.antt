use Rattle.std.proofs.Common.{arith, max}
use Rattle.core_store.specs.Storage.{codes_ending}
use Rattle.moves.specs.Edited.{places}
use Rattle.moves.proofs.NearLemmas.{near_field}
use Rattle.moves.proofs.EditingNear.{wanted_few, near_cut}
use Rattle.moves.proofs.editing.clear_counts.Goals as goal

pub returns-clause-control : goal.returns-clause-control
returns-clause-control g c = near_field (g.C.Core.cells c.args.core.now) c.args.b c.near_length-b_count.result c.near_length-b_count.ensures.length (omega arith)

pub returns-clause-cut : goal.returns-clause-cut
returns-clause-cut g c =
    let s = g.C.Core.cells c.args.core.now in
    let clear = c.requires in
    let few = wanted_few s c.args.b c.near_length-b_count.result c.data_count.result (omega arith) (omega arith) (omega arith) c.data_count.ensures.wanted in
    near_cut s c.args.a c.near_length.result c.data_count.result (max 1 (places (codes_ending s c.args.b c.near_length-b_count.result))) c.min-a_count.result
    c.near_length.ensures.length (omega arith) c.data_count.ensures.wanted few c.min-a_count.ensures

pub returns-clause-most : goal.returns-clause-most
returns-clause-most g c =
    let s = g.C.Core.cells c.args.core.now in
    let clear = c.requires in
    let few = wanted_few s c.args.b c.near_length-b_count.result c.data_count.result (omega arith) (omega arith) (omega arith) c.data_count.ensures.wanted in
    (omega (arith, few, c.min-a_count.ensures), omega arith)
