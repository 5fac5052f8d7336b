use Rattle.std.proofs.Common.{take, sym, subst, rules}
use Rattle.std.proofs.lemmas.List.{take_all}
use Rattle.std.proofs.lemmas.List.Elements.{All-more, All-same}
use Rattle.office.proofs.JobMeters.{on_err}
use Rattle.ledger_rows.specs.Columns.{line_cells, IsLine}
use Rattle.ledger_tables.specs.Tables as row
use Rattle.ledger_tables.proofs.Stepping.{on_any}
use Rattle.job_checks.proofs.PlacedLemmas.{placed_fails, placed_step}
use Rattle.job_checks.proofs.machines.check_lines.Goals as goal

pub loop-at-preserved : goal.loop-at-preserved
loop-at-preserved c =
    let inv = c.loop-at.invariant in
    let lines = c.args.lines.now in (
      placed_step (row.line_row c.args.name.customer.now c.args.name.number) line_cells 1 lines c.loop-at.at c.index-lines-at.result _ _ _ _ _ c.loop-at-test.true inv.0 c.in_ok-rest.ensures.passed (search rules),
      All-more IsLine lines c.loop-at.at c.index-lines-at.result c.loop-at-test.true inv.1 (subst IsLine c.index-lines-at.is c.pass_line.ensures.line),
    )

pub returns-in_err-rest-clause-other : goal.returns-in_err-rest-clause-other
returns-in_err-rest-clause-other c =
    on_err c.from_residual.result _
    (placed_fails (row.line_row c.args.name.customer.now c.args.name.number) line_cells 1 c.args.lines.now c.loop-at.at c.index-lines-at.result _ _ _ _ c.loop-at-test.true c.loop-at.invariant.0 c.in_err-rest.ensures.other (search rules))

pub returns-clause-characters : goal.returns-clause-characters
returns-clause-characters c =
    let lines = c.args.lines.now in
    on_any c.pass_none.result _ (All-same IsLine lines (take c.loop-at.at lines) (sym (take_all c.loop-at.at lines c.loop-at-test.false)) c.loop-at.invariant.1)
