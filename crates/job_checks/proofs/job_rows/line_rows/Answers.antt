use Rattle.std.proofs.Common.{drop, refl}
use Rattle.ledger_tables.specs.Schema as schema
use Rattle.ledger_tables.proofs.Stepping.{if_ok_then}
use Rattle.job_checks.proofs.JobReads.{read_key_in_order}
use Rattle.job_checks.proofs.JobTexts.{select_lines, select_lines_is}
use Rattle.job_checks.proofs.TableReads.{lines_obeyed, lines_required}
use Rattle.job_checks.proofs.job_rows.line_rows.Goals as goal

pub returns-clause-read : goal.returns-clause-read
returns-clause-read g c clean =
    if_ok_then c.rows.result _ _
    (λ rows shown ours.
    let did = read_key_in_order 9 (drop 2 schema.lines.columns) lines_required c.args.name.customer.now c.args.name.number select_lines _ (λ db. refl) _ _ rows.items shown ours select_lines_is in
    (did.0, λ bureaus. did.1 bureaus.in_order.lines (lines_obeyed _ bureaus)))
    (c.rows.ensures.shown clean)
