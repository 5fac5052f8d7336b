use Rattle.std.proofs.Common.{◌≡◌, ap, ◌∙◌, rules}
use Rattle.office.specs.Jobs.{picture}
use Rattle.ledger_tables.specs.Cells.{QueuedName}
use Rattle.texts.specs.declared.names.JobName.{JobName}
use Rattle.ledger_tables.proofs.Frames.{on_ok_then}
use Rattle.ledger.specs.Older.{storages_of, with_first_pages}
use Rattle.ledger.proofs.Offices.{job_is}
use Rattle.ledger.proofs.MigratingPages.{next_raised}
use Rattle.ledger.proofs.migrating.raise_row.Goals as goal

pub returns-clause-raised : goal.returns-clause-raised
returns-clause-raised g c clean inside =
    on_ok_then c.raise_storage.result _ _ (λ raised office count e all more its row holds.
    let who : c.as_str.result.now ≡ e.customer = search rules in
    let which : c.row.inside.number ≡ e.number = ap (λ (r : QueuedName). r.number) (c.row.view_is ∙ row) in
    let kept = job_is e.customer e.number office e.job all its in
    let range = (c.commands_keep_jobs.ensures.in_range e.job kept.job).machine in
    let name : JobName = record { customer = c.as_str.result; number = c.row.inside.number } in
    next_raised office count e more its name who which _ _ holds (λ whole. raised (storages_of office) 1 (with_first_pages count office) (picture e.job).works.storage holds range.size kept.storage whole))
    (c.raise_storage.ensures.raised clean inside)
