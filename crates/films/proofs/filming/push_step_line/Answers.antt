use Rattle.films.proofs.StepLemmas.{step_line_pushed}
use Rattle.films.proofs.filming.push_step_line.Goals as goal

pub returns-clause-text : goal.returns-clause-text
returns-clause-text g c =
    step_line_pushed c.args.out.now.items _ _ _ _ _ _ _ _ _ _ c.in_ok-push.ensures.items c.in_ok-push_statement.ensures c.in_ok-push_instruction.ensures c.in_ok-push_work.ensures c.in_ok-push_items.ensures.text c.in_ok-push-2.ensures.items
