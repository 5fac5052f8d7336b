use Rattle.std.proofs.Common.{◌∙◌, ap, subst}
use Rattle.machine.specs.Run.{State, after, lines_of}
use Rattle.local_runs.proofs.PieceLemmas.{Adds, run_further}
use Rattle.local_runs.proofs.pieces.run_piece.Goals as goal

pub returns : goal.returns
returns g c start steps first in_range h =
    let added : Adds _ _ _ _ (lines_of c.args.machine.now) =
    subst (Adds (g.W.Write.contents c.args.output.now) (g.W.Write.contents c.add.new.output) c.args.listing.now c.add.new.self)
    c.lines_made-printed.ensures c.in_ok-add.ensures in
    run_further start steps first _ _ _ _ c.args.machine.now in_range h added c.args.limit _
    (c.in_ok-run.ensures.machine ∙ ap (λ (m : State). after m c.args.limit) c.set_aside.ensures)
