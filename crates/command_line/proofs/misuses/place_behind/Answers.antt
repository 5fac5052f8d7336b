use Rattle.std.proofs.Common.{◌∙◌, sym}
use Rattle.command_line.proofs.MisuseSteps.{goes_on, goes_wrong}
use Rattle.command_line.proofs.misuses.place_behind.Goals as goal

pub loop-argument-preserved : goal.loop-argument-preserved
loop-argument-preserved c = sym (goes_on _ _ _ _ _ _ c.in-Some.ensures.some c.in-Ok.ensures.ok) ∙ c.loop-argument.invariant

pub returns-in-Err-clause-err : goal.returns-in-Err-clause-err
returns-in-Err-clause-err c = sym c.loop-argument.invariant ∙ goes_wrong _ _ _ _ _ _ c.in-Some.ensures.some c.in-Err.ensures.err
