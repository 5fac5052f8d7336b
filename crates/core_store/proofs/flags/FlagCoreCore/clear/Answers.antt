use Rattle.std.proofs.Common.{false, ◌-◌, ◌∙◌, ap, arith, length, set, length-set}
use Rattle.core_store.proofs.FlagCopies.{clear_none, clear_step}
use Rattle.core_store.proofs.flags.FlagCoreCore.clear.Goals as goal

pub loop-p-init : goal.loop-p-init
loop-p-init c = record {
  cleared = c.self.view_is ∙ clear_none c.args.self.now c.args.last;
  size = ap length c.self.view_is;
  above = omega arith;
  below = omega arith;
}

pub loop-p-preserved : goal.loop-p-preserved
loop-p-preserved c =
    let now = c.loop-p.self-inside.cells.items in
    let before = c.loop-p.p - 1 in
    record {
      cleared =
          ap (λ code. set now before (code, false)) c.blank.ensures
          ∙ clear_step c.args.self.now c.args.last c.loop-p.p now (omega arith) c.loop-p.invariant.below c.loop-p.invariant.cleared;
      size = length-set now before (c.blank.result, false) ∙ c.loop-p.invariant.size;
      above = omega arith;
      below = omega arith;
    }
