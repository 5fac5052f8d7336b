use Rattle.std.proofs.Common.{arith, refl}
use Rattle.moves.proofs.BroughtLanes.{brought_twice, less_long, less_small}
use Rattle.moves.proofs.control.bring_16.Goals as goal

pub bring_8-requires-2-clause-sixteen_far : goal.bring_8-requires-2-clause-sixteen_far
bring_8-requires-2-clause-sixteen_far c = less_long c.args.far 8 c.requires.sixteen_far

pub bring_8-requires-2-clause-bytes : goal.bring_8-requires-2-clause-bytes
bring_8-requires-2-clause-bytes c = less_small c.args.far 8 c.requires.sixteen_far

pub returns : goal.returns
returns c =
    brought_twice 8 c.args.amount c.args.far c.bring_8.result c.bring_8-2.result (omega arith) c.requires.sixteen c.requires.sixteen_far c.requires.bytes c.bring_8.ensures c.bring_8-2.ensures 16 refl
