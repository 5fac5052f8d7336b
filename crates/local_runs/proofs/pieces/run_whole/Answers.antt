use Rattle.std.proofs.Common.{subst}
use Rattle.machine.specs.Run.{lines_of}
use Rattle.local_runs.proofs.PieceLemmas.{Adds, report_is, whole}
use Rattle.local_runs.proofs.pieces.run_whole.Goals as goal

pub returns : goal.returns
returns g c start first in_range begun =
    let h = c.in_ok-run_on.ensures start 0 first in_range begun in
    let added : Adds _ _ _ _ (lines_of c.run_on.new.machine) =
    subst (Adds (g.W.Write.contents c.run_on.new.output) (g.W.Write.contents c.add.new.output) c.run_on.new.listing c.add.new.self)
    c.lines_made.ensures c.in_ok-add.ensures in (
      whole start 1000000 first _ _ _ _ c.run_on.new.machine in_range h added _ c.in_ok-finish.ensures,
      report_is start 1000000 first _ _ _ _ c.run_on.new.machine in_range h added,
    )
