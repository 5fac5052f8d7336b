use Rattle.std.proofs.Common.{◌-◌, arith}
use Rattle.moves.proofs.MovingLemmas.{moved_on}
use Rattle.moves.proofs.Copying.{size_on}
use Rattle.moves.proofs.moving.copy_codes.Goals as goal

pub loop-i-preserved : goal.loop-i-preserved
loop-i-preserved g c =
    let s = g.C.Core.cells c.args.core.now in
    let now = g.C.Core.cells c.loop-i.core in
    let new = g.C.Core.cells c.put.new.self in
    let code = c.get-code.result in
    record {
      codes = moved_on s c.args.a c.args.b c.args.count c.loop-i.i c.requires.stretches.a_from c.requires.stretches.b_in c.requires.stretches.b_from (omega arith) now c.loop-i.invariant.codes code c.get-code.ensures new c.put.ensures;
      size = size_on now new (c.args.b - c.loop-i.i) code _ c.put.ensures c.loop-i.invariant.size;
    }
