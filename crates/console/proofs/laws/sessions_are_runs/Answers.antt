use Rattle.console.proofs.SessionLaw.{base_next, come_alone, come_talked, starts_next}
use Rattle.console.proofs.SessionLemmas.{come_begun, come_next}
use Rattle.console.proofs.laws.sessions_are_runs.Goals as goal

pub returns-clause-begins : goal.returns-clause-begins
returns-clause-begins c = come_begun

pub returns-clause-goes_on : goal.returns-clause-goes_on
returns-clause-goes_on c = come_next

pub returns-clause-talks : goal.returns-clause-talks
returns-clause-talks c = λ s now from left lines text. come_talked s from now left lines text

pub returns-clause-begins_there : goal.returns-clause-begins_there
returns-clause-begins_there c = base_next

pub returns-clause-run : goal.returns-clause-run
returns-clause-run c = come_alone

pub returns-clause-without_start : goal.returns-clause-without_start
returns-clause-without_start c = starts_next
