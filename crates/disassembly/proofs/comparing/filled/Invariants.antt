use Rattle.core_store.specs.Storage.{blank_storage, positions_of}
use Rattle.loader.specs.Loading.{filled_with}
use Rattle.disassembly.proofs.CodeLemmas.{IsFilling}
use Rattle.disassembly.proofs.comparing.filled.Given as goal

abbrev pub invariant-loop-cell : goal.invariant-loop-cell
invariant-loop-cell g l = IsFilling (positions_of l.fn.size) l.image (filled_with (blank_storage (positions_of l.fn.size)) l.image) (g.C.Core.cells l.core) l.cell-index
