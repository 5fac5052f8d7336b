use Rattle.job_checks.proofs.AlikeLemmas.{AgreeFrom}
use Rattle.job_checks.proofs.alike.first_unlike.Given as goal

abbrev pub invariant-loop-at : goal.invariant-loop-at
invariant-loop-at g l = AgreeFrom g.T.Part.Is l.parts l.others l.at
