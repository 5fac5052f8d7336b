use Rattle.std.proofs.Common.{◌≤◌, ◌∙◌, length, sym, ap, subst, arith}
use Rattle.std.proofs.lemmas.List.{length-map, take_all}
use Rattle.office.specs.Office.{Entry}
use Rattle.sqlite.specs.State.{HasCleanDisk}
use Rattle.ledger_tables.proofs.Stepping.{step_still, step_then, step_ends}
use Rattle.ledger_tables.specs.Listed.{queued_name}
use Rattle.ledger_tables.specs.Steps.{seen}
use Rattle.ledger_tables.specs.Tables.{HoldsAs, pictured}
use Rattle.ledger.specs.Listed.{IsIts}
use Rattle.ledger.specs.Older.{storages_of}
use Rattle.office_tables.specs.Standing.{named}
use Rattle.ledger.proofs.ListLemmas.{all_its, at_row}
use Rattle.ledger.proofs.MigratingPages.{as_many_pages}
use Rattle.ledger.proofs.migrating.raise_rows.Goals as goal

pub loop-row-init : goal.loop-row-init
loop-row-init g c = record {
  step = step_still g.S.Store c.args.tables.now 0;
  raised = λ clean inside office all is holds. holds;
}

pub loop-row-preserved : goal.loop-row-preserved
loop-row-preserved g c =
    let mid = seen g.S.Store c.loop-row.tables in
    let last = seen g.S.Store c.raise_row.new.tables in
    let was = c.loop-row.invariant in
    let early = λ (clean : HasCleanDisk last). let h : HasCleanDisk mid = omega (arith, c.raise_row.ensures.step.survives.clean) in h in
    let i = c.loop-row.row-index in
    record {
      step = step_ends g.S.Store _ _ _ _ (step_then g.S.Store _ _ _ _ _ was.step c.in_ok-raise_row.ensures.step);
      raised = λ clean inside office all is holds.
          let on = was.step.frame (early clean) inside in
          let before = was.raised (early clean) inside office all is holds in
          let it = at_row (λ (e : Entry). queued_name (named e)) (IsIts office) office c.args.rows.now i c.row-item.result is (all_its office holds.shared.distinct) c.loop-row-test.true c.row-item.is in
          c.in_ok-raise_row.ensures.raised clean on.inside office i it.0 all it.3 it.2 it.1 before;
    }

pub returns-clause-raised : goal.returns-clause-raised
returns-clause-raised g c clean inside office all is holds =
    let many : length office ≤ c.loop-row.row-index = omega (arith, c.loop-row-test.false, ap length is, length-map office (λ (e : Entry). queued_name (named e))) in
    subst (HoldsAs (pictured (storages_of office)) 1 (seen g.S.Store c.loop-row.tables).now) (as_many_pages office c.loop-row.row-index (length office) (take_all c.loop-row.row-index office many ∙ sym (take_all (length office) office (omega arith))))
    (c.loop-row.invariant.raised clean inside office all is holds)
