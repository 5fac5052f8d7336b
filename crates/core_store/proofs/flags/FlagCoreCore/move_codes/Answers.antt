use Rattle.std.proofs.Common.{◌-◌, ◌∙◌, ap, arith, length, refl}
use Rattle.core_store.proofs.FlagCopies.{move_none, move_step}
use Rattle.core_store.proofs.Fields.{length-put}
use Rattle.core_store.proofs.flags.FlagCoreCore.move_codes.Goals as goal

pub loop-i-init : goal.loop-i-init
loop-i-init c = record { moved = move_none c.args.self.now c.args.from c.args.to; size = refl }

pub loop-i-preserved : goal.loop-i-preserved
loop-i-preserved c =
    let s = c.args.self.now in
    let now = c.loop-i.self in
    record {
      moved =
          move_step s c.args.from c.args.to c.loop-i.i c.args.count c.requires.from_in c.requires.to_in c.requires.from_room c.requires.to_room (omega arith) c.requires.apart
          now c.loop-i.invariant.moved c.get-code.result c.get-code.ensures c.put.new.self c.put.ensures;
      size = ap length c.put.ensures ∙ length-put now (c.args.to - c.loop-i.i) c.get-code.result ∙ c.loop-i.invariant.size;
    }
