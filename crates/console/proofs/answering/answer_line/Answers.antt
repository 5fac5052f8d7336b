use Rattle.std.proofs.Common.{◌∙◌, ◌++◌, List, ℕ, ap, subst, sym}
use Rattle.std.specs.Prelude.{Option}
use Rattle.run_traces.specs.Names.{Named}
use Rattle.console.specs.Answers.{printed}
use Rattle.console.specs.Commands.{IsCommand}
use Rattle.console.specs.SessionStates.{HasCome}
use Rattle.console.proofs.SessionLemmas.{come_next}
use Rattle.console.proofs.answering.answer_line.Goals as goal

pub returns-clause-answer : goal.returns-clause-answer
returns-clause-answer c = record {
  command = c.in_ok-command.command;
  is_command = subst (λ (names : Option Named). IsCommand names c.args.line.now c.in_ok-command.command) c.names.ensures c.in_ok-command.ensures;
  next_is = c.in_ok-take.ensures.next;
  text_is = c.in_ok-take.ensures.text ∙ ap (λ (text : List ℕ). text ++ printed c.args.session.now c.args.line.now c.in_ok-command.command) c.new-text.ensures.items;
  ends_is = c.is_end.ensures;
}

pub returns-clause-come : goal.returns-clause-come
returns-clause-come c = subst HasCome (sym c.in_ok-take.ensures.next) (come_next c.args.session.now c.in_ok-command.command c.requires)
