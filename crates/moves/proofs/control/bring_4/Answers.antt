use Rattle.std.proofs.Common.{arith, refl}
use Rattle.moves.proofs.BroughtLanes.{brought_twice, less_long, less_small}
use Rattle.moves.proofs.control.bring_4.Goals as goal

pub bring_2-requires-2-clause-sixteen_far : goal.bring_2-requires-2-clause-sixteen_far
bring_2-requires-2-clause-sixteen_far c = less_long c.args.far 2 c.requires.sixteen_far

pub bring_2-requires-2-clause-bytes : goal.bring_2-requires-2-clause-bytes
bring_2-requires-2-clause-bytes c = less_small c.args.far 2 c.requires.sixteen_far

pub returns : goal.returns
returns c =
    brought_twice 2 c.args.amount c.args.far c.bring_2.result c.bring_2-2.result (omega arith) c.requires.sixteen c.requires.sixteen_far c.requires.bytes c.bring_2.ensures c.bring_2-2.ensures 4 refl
