use Rattle.std.proofs.Common.{◌≡◌, arith, true, refl, length}
use Rattle.std.proofs.lemmas.Bool.{lt-ltb}
use Rattle.core_store.specs.Operands.{are_inside}
use Rattle.arith.proofs.OperandCounts.{counts_near}
use Rattle.arith.proofs.operands.clear_counts.Goals as goal

pub returns-clause-counts : goal.returns-clause-counts
returns-clause-counts g c =
    let s = g.C.Core.cells c.args.core.now in
    let inside : true ≡ are_inside s c.args.a c.args.b = rw (lt-ltb c.args.a (length s) c.requires.a_in, lt-ltb c.args.b (length s) c.requires.b_in) refl in
    counts_near s c.args.a c.args.b c.near_length.result c.near_length-b_count.result c.min.result inside
    (omega (arith, c.requires.a_room)) c.near_length.ensures.length c.near_length-b_count.ensures.length (omega arith) c.min.ensures
