use Rattle.std.proofs.Common.{sym, subst}
use Rattle.std.proofs.lemmas.Result.{IfOk-weaker}
use Rattle.units.specs.Listing.{Unwritten}
use Rattle.command_line.specs.declared.faults.Fault.TheVariants as fault
use Rattle.local_runs.specs.Pieces.{HasRun}
use Rattle.local_runs.proofs.RunningLemmas.{failed, run_told, told}
use Rattle.local_runs.proofs.running.run_loaded.Goals as goal

pub returns-in-Err : goal.returns-in-Err
returns-in-Err g c =
    IfOk-weaker c.tell_fault.result _ _
    (λ ended is text size switches loaded. told text size switches fault.Memory ended _ _ _ tt is)
    c.tell_fault.ensures

pub returns-in-Ok-run_whole : goal.returns-in-Ok-run_whole
returns-in-Ok-run_whole g c =
    let old = g.W.Write.contents c.args.output.now in
    IfOk-weaker c.report.result _ _
    (λ ended is text size switches loaded.
    run_told text size switches c.args.machine c.run_whole.new.machine ended old _ _ _ loaded
    (λ start first in_range run.
    c.in-Ok-run_whole.ensures start first in_range (subst (λ (w : Unwritten). HasRun start 0 first old w c.args.machine) (sym c.in-Ok.ensures) run))
    is)
    c.report.ensures

pub returns : goal.returns
returns g c =
    IfOk-weaker c.tell_broken.result _ _
    (λ ended is text size switches loaded. failed text size switches ended _ _ _ _ (is.1, is.2))
    c.tell_broken.ensures
