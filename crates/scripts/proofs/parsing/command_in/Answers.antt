use Rattle.std.proofs.Common.{subst}
use Rattle.scripts.specs.Commands.{IsMeantIn}
use Rattle.std.proofs.lemmas.Result.{IfErr-weaker, IfOk-weaker}
use Rattle.scripts.proofs.ParsingLemmas.{bad_line, headed, headed_fault, headed_shorter, headed_some, no_line}
use Rattle.scripts.proofs.parsing.command_in.Goals as goal

pub returns-in_default-clause-fault : goal.returns-in_default-clause-fault
returns-in_default-clause-fault c = no_line c.args.bytes.now c.requires c.in_default.ensures.missing

pub returns-in-Nothing-clause-fault : goal.returns-in-Nothing-clause-fault
returns-in-Nothing-clause-fault c =
    bad_line c.args.bytes.now c.in-Some.line.now c.in-Some.rest.now c.requires c.in-Some.ensures.found.0 c.in-Some.ensures.found.1 (subst (IsMeantIn c.in-Some.line.now) c.in-Nothing.is c.in_ok-meant_in.ensures)

pub returns-in-Heading-clause-found : goal.returns-in-Heading-clause-found
returns-in-Heading-clause-found c = IfOk-weaker c.submission.result _ _
    (λ found ends. headed c.args.bytes.now c.in-Some.line.now c.in-Some.rest.now c.in-Heading.heading _ _ _ c.in-Some.ensures.found.0 c.in-Some.ensures.found.1 (subst (IsMeantIn c.in-Some.line.now) c.in-Heading.is c.in_ok-meant_in.ensures) ends)
    c.submission.ensures.found

pub returns-in-Heading-clause-shorter : goal.returns-in-Heading-clause-shorter
returns-in-Heading-clause-shorter c = IfOk-weaker c.submission.result _ _
    (λ found ends. headed_shorter c.args.bytes.now c.in-Some.line.now c.in-Some.rest.now c.in-Heading.heading _ _ _ c.in-Some.ensures.found.1 ends)
    c.submission.ensures.found

pub returns-in-Heading-clause-fault : goal.returns-in-Heading-clause-fault
returns-in-Heading-clause-fault c = IfErr-weaker c.submission.result _ _
    (λ it bad. headed_fault c.args.bytes.now c.in-Some.line.now c.in-Some.rest.now c.in-Heading.heading it c.requires c.in-Some.ensures.found.0 c.in-Some.ensures.found.1 (subst (IsMeantIn c.in-Some.line.now) c.in-Heading.is c.in_ok-meant_in.ensures) bad)
    c.submission.ensures.fault

pub returns-in-Heading-clause-some : goal.returns-in-Heading-clause-some
returns-in-Heading-clause-some c = IfOk-weaker c.submission.result _ _
    (λ found ends. headed_some c.in-Some.rest.now c.in-Heading.heading _ _ _ ends)
    c.submission.ensures.found
