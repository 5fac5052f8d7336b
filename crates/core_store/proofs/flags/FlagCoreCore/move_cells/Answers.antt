use Rattle.std.proofs.Common.{false, ◌-◌, ◌∙◌, refl, ap, arith, length, length-set}
use Rattle.std.proofs.lemmas.List.{get_or_default}
use Rattle.core_store.proofs.FlagCopies.{load_none, load_step}
use Rattle.core_store.proofs.flags.FlagCoreCore.move_cells.Goals as goal

pub loop-i-init : goal.loop-i-init
loop-i-init c = record { moved = c.self.view_is ∙ load_none c.args.self.now c.args.from c.args.to; size = ap length c.self.view_is }

pub loop-i-preserved : goal.loop-i-preserved
loop-i-preserved c =
    let now = c.loop-i.self-inside.cells.items in
    let cell = c.index-cell.result.now in
    record {
      moved =
          load_step c.args.self.now c.args.from c.args.to c.loop-i.i c.args.count c.requires.from_in c.requires.to_in c.requires.from_room c.requires.to_room (omega arith) c.requires.apart
          now c.loop-i.invariant.moved cell (c.index-cell.ensures ∙ get_or_default now (c.args.from - c.loop-i.i) cell (0, false) (omega arith)) _ refl;
      size = length-set now (c.args.to - c.loop-i.i) cell ∙ c.loop-i.invariant.size;
    }
