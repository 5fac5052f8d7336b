use Rattle.ledger_tables.proofs.Stepping.{open_then}
use Rattle.ledger.proofs.job_commands.drive_machine.Goals as goal

pub returns-in-Some-clause-step : goal.returns-in-Some-clause-step
returns-in-Some-clause-step g c = open_then g.S.Store _ _ _ _ _ c.in_ok-job.ensures.step c.carry_out.ensures.step
