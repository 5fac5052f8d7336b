use Rattle.std.proofs.Common.{◌≡◌, refl, sym, ap, ◌∙◌, rules}
use Rattle.machine.specs.Run.{risen}
use Rattle.office.specs.Office.{attempted_of}
use Rattle.office.specs.declared.flags.FlagCommand.TheVariants as flag
use Rattle.ledger_tables.proofs.Stepping.{on_any}
use Rattle.ledger.specs.Saving.{job_in}
use Rattle.ledger.proofs.SummaryLemmas.{flags_attempt_none, cards_attempt_none, lines_attempt_none}
use Rattle.ledger.proofs.job_commands.command_job.Goals as goal

pub returns-in-Hold-clause-meter : goal.returns-in-Hold-clause-meter
returns-in-Hold-clause-meter g c clean inside =
    let still : risen c.args.meter.now 0 ≡ c.args.meter.now = search rules in
    on_any c.command_flags.result _ (λ office s.
    let job = job_in c.args.name office in
    sym (ap (λ q. risen c.args.meter.now (attempted_of q job)) c.in-Hold.is ∙ ap (risen c.args.meter.now) (flags_attempt_none flag.Hold job) ∙ still))

pub returns-in-Release-clause-meter : goal.returns-in-Release-clause-meter
returns-in-Release-clause-meter g c clean inside =
    let still : risen c.args.meter.now 0 ≡ c.args.meter.now = search rules in
    on_any c.command_flags-in-Release.result _ (λ office s.
    let job = job_in c.args.name office in
    sym (ap (λ q. risen c.args.meter.now (attempted_of q job)) c.in-Release.is ∙ ap (risen c.args.meter.now) (flags_attempt_none flag.Release job) ∙ still))

pub returns-in-Collect-clause-meter : goal.returns-in-Collect-clause-meter
returns-in-Collect-clause-meter g c clean inside =
    let still : risen c.args.meter.now 0 ≡ c.args.meter.now = search rules in
    on_any c.command_flags-in-Collect.result _ (λ office s.
    let job = job_in c.args.name office in
    sym (ap (λ q. risen c.args.meter.now (attempted_of q job)) c.in-Collect.is ∙ ap (risen c.args.meter.now) (flags_attempt_none flag.Collect job) ∙ still))

pub returns-in-Standing-clause-meter : goal.returns-in-Standing-clause-meter
returns-in-Standing-clause-meter g c clean inside =
    let still : risen c.args.meter.now 0 ≡ c.args.meter.now = search rules in
    on_any c.command_flags-in-Standing.result _ (λ office s.
    let job = job_in c.args.name office in
    sym (ap (λ q. risen c.args.meter.now (attempted_of q job)) c.in-Standing.is ∙ ap (risen c.args.meter.now) (flags_attempt_none flag.Standing job) ∙ still))

pub returns-in-Cards-clause-meter : goal.returns-in-Cards-clause-meter
returns-in-Cards-clause-meter g c clean inside =
    let still : risen c.args.meter.now 0 ≡ c.args.meter.now = search rules in
    on_any c.tell_cards.result _ (λ office s.
    let job = job_in c.args.name office in
    sym (ap (λ q. risen c.args.meter.now (attempted_of q job)) c.in-Cards.is ∙ ap (risen c.args.meter.now) (cards_attempt_none c.in-Cards.from job) ∙ still))

pub returns-in-Lines-clause-meter : goal.returns-in-Lines-clause-meter
returns-in-Lines-clause-meter g c clean inside =
    let still : risen c.args.meter.now 0 ≡ c.args.meter.now = search rules in
    on_any c.tell_lines.result _ (λ office s.
    let job = job_in c.args.name office in
    sym (ap (λ q. risen c.args.meter.now (attempted_of q job)) c.in-Lines.is ∙ ap (risen c.args.meter.now) (lines_attempt_none job) ∙ still))
