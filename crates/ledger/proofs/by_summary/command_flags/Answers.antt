use Rattle.std.proofs.Common.{◌≡◌, ◌∙◌, sym, ap, true, arith}
use Rattle.sqlite.specs.State.{HasCleanDisk}
use Rattle.office.specs.Kept.{flag_command, is_query}
use Rattle.ledger_tables.specs.Steps.{seen}
use Rattle.ledger.proofs.SummaryLemmas.{query_served, flags_served}
use Rattle.ledger.proofs.by_summary.command_flags.Goals as goal

pub returns-then-is_query-clause-done : goal.returns-then-is_query-clause-done
returns-then-is_query-clause-done g c clean inside office s =
    let found = rw (c.command-asked.ensures, c.in-Ok.is) at (c.in_ok-job.ensures.found clean inside office s) in
    let it = found.1 in
    let query : is_query (flag_command c.args.command) ≡ true = sym (ap is_query c.command-asked.ensures) ∙ sym c.is_query.ensures ∙ c.if-is_query.true in
    query_served (seen g.S.Store c.find_allowed.new.tables) c.args.name.customer.now c.args.name.number c.args.command c.in-Ok.job c.on_flags-new.result office it.0 it.1 it.2 it.3 c.on_flags-new.ensures query found.0

pub returns-in_ok-note_flags-in-Ok-clause-done : goal.returns-in_ok-note_flags-in-Ok-clause-done
returns-in_ok-note_flags-in-Ok-clause-done g c clean inside office s =
    let mid = seen g.S.Store c.find_allowed.new.tables in
    let early : HasCleanDisk mid = omega (arith, clean, c.note_flags.ensures.step.survives.clean) in
    let on = c.in_ok-job.ensures.step.frame early inside in
    let found = rw (c.command-asked.ensures, c.in-Ok.is) at (c.in_ok-job.ensures.found early inside office s) in
    let it = found.1 in
    let saved = c.in_ok-note_flags-in-Ok.ensures.saved it.0 clean on.inside office found.0 it.1 in
    flags_served (seen g.S.Store c.note_flags.new.tables) c.args.name.customer.now c.args.name.number c.args.command c.in-Ok.job c.on_flags-new.result office it.0 it.1 it.2 it.3 c.on_flags-new.ensures saved
