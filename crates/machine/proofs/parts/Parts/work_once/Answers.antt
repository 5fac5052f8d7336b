use Rattle.std.proofs.Common.{◌∙◌, sym}
use Rattle.machine.proofs.Steps.{attempts_one, attempts_stopped, step_stopped}
use Rattle.machine.proofs.parts.Parts.work_once.Goals as goal

pub returns-then-not-is_running-clause-machine : goal.returns-then-not-is_running-clause-machine
returns-then-not-is_running-clause-machine g c = sym (step_stopped c.args.self.now (sym c.is_running.ensures ∙ c.if-not-is_running.true))

pub returns-then-not-is_running-clause-attempted : goal.returns-then-not-is_running-clause-attempted
returns-then-not-is_running-clause-attempted g c = sym (attempts_stopped c.args.self.now 1 (sym c.is_running.ensures ∙ c.if-not-is_running.true))

pub returns-clause-attempted : goal.returns-clause-attempted
returns-clause-attempted g c = sym (attempts_one c.args.self.now (sym c.is_running.ensures ∙ c.if-not-is_running.false))
