use Rattle.std.proofs.Common.{◌∙◌, sym, arith}
use Rattle.machine.proofs.Attempts.{after_attempts}
use Rattle.console.proofs.AttemptLemmas.{shows_none, shows_on, stopped_count, stopped_machine, stopped_text, whole_count, whole_machine, whole_text}
use Rattle.console.proofs.going.push_attempts.Goals as goal

pub loop-count-init : goal.loop-count-init
loop-count-init g c = shows_none _ _ _ _ _

pub loop-count-preserved : goal.loop-count-preserved
loop-count-preserved g c =
    shows_on c.loop-count.invariant _ _ (omega arith) (sym c.is_running.ensures ∙ c.if-not-is_running.false) c.in_ok-push_attempt.ensures.machine c.in_ok-push_attempt.ensures.line

pub returns-then-not-is_running-clause-machine : goal.returns-then-not-is_running-clause-machine
returns-then-not-is_running-clause-machine g c = stopped_machine c.loop-count.invariant (sym c.is_running.ensures ∙ c.if-not-is_running.true) ∙ sym (after_attempts _ _)

pub returns-then-not-is_running-clause-made : goal.returns-then-not-is_running-clause-made
returns-then-not-is_running-clause-made g c = stopped_count c.loop-count.invariant (sym c.is_running.ensures ∙ c.if-not-is_running.true)

pub returns-then-not-is_running-clause-text : goal.returns-then-not-is_running-clause-text
returns-then-not-is_running-clause-text g c = stopped_text c.loop-count.invariant (sym c.is_running.ensures ∙ c.if-not-is_running.true)

pub returns-clause-machine : goal.returns-clause-machine
returns-clause-machine g c = whole_machine c.loop-count.invariant (omega arith) ∙ sym (after_attempts _ _)

pub returns-clause-made : goal.returns-clause-made
returns-clause-made g c = omega (arith, whole_count c.loop-count.invariant (omega arith))

pub returns-clause-text : goal.returns-clause-text
returns-clause-text g c = whole_text c.loop-count.invariant (omega arith)
