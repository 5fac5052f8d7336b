use Rattle.office.specs.Kept.{drive_command}
use Rattle.office.proofs.JobMeters.{at_most}
use Rattle.office.proofs.jobs.Job.drive.Goals as goal

pub returns-in-None-clause-most : goal.returns-in-None-clause-most
returns-in-None-clause-most g c =
    at_most (drive_command c.args.drive) c.args.self.now c.carry_out.result c.args.meter.now c.carry_out.new.meter c.carry_out.ensures.meter c.carry_out.ensures.given_up
