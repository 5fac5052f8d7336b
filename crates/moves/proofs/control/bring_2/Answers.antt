use Rattle.std.proofs.Common.{arith, refl}
use Rattle.moves.proofs.BroughtLanes.{brought_twice, less_long}
use Rattle.moves.proofs.control.bring_2.Goals as goal

pub bring_1-requires-2-clause-sixteen_far : goal.bring_1-requires-2-clause-sixteen_far
bring_1-requires-2-clause-sixteen_far c = less_long c.args.far 1 c.requires.sixteen_far

pub returns : goal.returns
returns c =
    brought_twice 1 c.args.amount c.args.far c.bring_1.result c.bring_1-2.result (omega arith) c.requires.sixteen c.requires.sixteen_far c.requires.bytes c.bring_1.ensures c.bring_1-2.ensures 2 refl
