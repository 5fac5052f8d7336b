use Rattle.std.proofs.Common.{drop, refl}
use Rattle.ledger_tables.specs.Schema as schema
use Rattle.ledger_tables.proofs.Stepping.{if_ok_then}
use Rattle.job_checks.proofs.JobReads.{read_key_by_place}
use Rattle.job_checks.proofs.JobTexts.{select_pages, select_pages_is}
use Rattle.job_checks.proofs.TableReads.{pages_obeyed, pages_required}
use Rattle.job_checks.proofs.job_rows.page_rows.Goals as goal

pub returns-clause-read : goal.returns-clause-read
returns-clause-read g c clean =
    if_ok_then c.rows.result _ _
    (λ rows shown ours.
    let did = read_key_by_place 13 (drop 2 schema.pages.columns) pages_required c.args.name.customer.now c.args.name.number select_pages _ (λ db. refl) _ _ rows.items shown ours select_pages_is (λ row. refl) in
    (did.0, λ bureaus. did.1 (pages_obeyed _ bureaus)))
    (c.rows.ensures.shown clean)
