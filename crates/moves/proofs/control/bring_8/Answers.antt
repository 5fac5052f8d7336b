use Rattle.std.proofs.Common.{arith, refl}
use Rattle.moves.proofs.BroughtLanes.{brought_twice, less_long, less_small}
use Rattle.moves.proofs.control.bring_8.Goals as goal

pub bring_4-requires-2-clause-sixteen_far : goal.bring_4-requires-2-clause-sixteen_far
bring_4-requires-2-clause-sixteen_far c = less_long c.args.far 4 c.requires.sixteen_far

pub bring_4-requires-2-clause-bytes : goal.bring_4-requires-2-clause-bytes
bring_4-requires-2-clause-bytes c = less_small c.args.far 4 c.requires.sixteen_far

pub returns : goal.returns
returns c =
    brought_twice 4 c.args.amount c.args.far c.bring_4.result c.bring_4-2.result (omega arith) c.requires.sixteen c.requires.sixteen_far c.requires.bytes c.bring_4.ensures c.bring_4-2.ensures 8 refl
