use Rattle.std.proofs.Common.{arith}
use Rattle.core_store.specs.Storage.{blank_storage, positions_of}
use Rattle.loader.specs.Loading.{filled_with}
use Rattle.disassembly.proofs.CodeLemmas.{filled_more, filled_all}
use Rattle.disassembly.proofs.comparing.filled.Goals as goal

pub loop-cell-preserved : goal.loop-cell-preserved
loop-cell-preserved g c =
    let size = positions_of c.args.size in
    filled_more size c.args.image.now (filled_with (blank_storage size) c.args.image.now) (g.C.Core.cells c.loop-cell.core) (g.C.Core.cells c.fill.new.core)
    c.loop-cell.cell-index c.cell-item.result (omega arith) c.cell-item.is c.fill.ensures c.loop-cell.invariant

pub returns-clause-image : goal.returns-clause-image
returns-clause-image g c =
    let size = positions_of c.args.size in
    filled_all size c.args.image.now (filled_with (blank_storage size) c.args.image.now) (g.C.Core.cells c.loop-cell.core) c.loop-cell.cell-index (omega arith) c.loop-cell.invariant
