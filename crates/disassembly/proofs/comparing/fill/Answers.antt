use Rattle.std.proofs.Common.{ap, ◌∙◌}
use Rattle.core_store.specs.Storage.{with_mark}
use Rattle.disassembly.proofs.CodeLemmas.{cell_set}
use Rattle.disassembly.proofs.comparing.fill.Goals as goal

pub returns : goal.returns
returns g c =
    c.put_mark.ensures
    ∙ ap (λ s. with_mark s c.args.cell.now.position c.args.cell.now.marked) c.put.ensures
    ∙ cell_set (g.C.Core.cells c.args.core.now) c.args.cell.now.position c.args.cell.now.code c.args.cell.now.marked c.requires.within
