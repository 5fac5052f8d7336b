use Rattle.std.proofs.Common.{◌≡◌, [], ◌∷◌, ◌++◌, append-nil, map, true, false, Some, string_bytes, sym, ap, ◌∙◌, rules}
use Rattle.office.specs.Office.{Office, job_of, queued_job}
use Rattle.office.specs.Queued.{QueuedJob}
use Rattle.ledger_rows.specs.Columns.{truth}
use Rattle.ledger_tables.specs.Cells.{LoadedCells, QueuedName}
use Rattle.ledger_tables.specs.Listed.{loaded_row}
use Rattle.ledger_tables.specs.Steps.{seen}
use Rattle.office_tables.specs.Standing.{tables_of}
use Rattle.ledger.proofs.BureauResults.{store_passed}
use Rattle.ledger.proofs.ListLemmas.{free_so, held_told, queued_is}
use Rattle.ledger.proofs.Offices.{part_none, still}
use Rattle.ledger.proofs.ReadFaults.{loaded_read, not_there}
use Rattle.office_tables.proofs.ReadingLemmas.{some_is}
use Rattle.ledger.proofs.lists.queue_free.Goals as goal

pub returns-in_err-found-clause-failed : goal.returns-in_err-found-clause-failed
returns-in_err-found-clause-failed g c e row clean inside store office has its =
    c.in_err-found.ensures.failed clean inside (store_passed c.from_residual.result _ c.from_residual.ensures.1 store) (tables_of office) (λ opened. (has opened).tables) (loaded_read c.as_str.result.now c.row.inside.number office)

pub returns-in_err-job-clause-failed : goal.returns-in_err-job-clause-failed
returns-in_err-job-clause-failed g c e row clean inside store office has its =
    let s = has (c.in_ok-found.ensures.step.opened clean) in
    let found = c.in_ok-found.ensures.found clean inside (tables_of office) s.tables in
    let who : c.as_str.result.now ≡ e.customer = search rules in
    let which : c.row.inside.number ≡ e.number = ap (λ (r : QueuedName). r.number) (c.row.view_is ∙ row) in
    let here : job_of c.as_str.result.now c.row.inside.number office ≡ Some e.job = ap (λ x. job_of x c.row.inside.number office) who ∙ ap (λ n. job_of e.customer n office) which ∙ its in
    absurd (not_there (part_none loaded_row c.as_str.result.now c.row.inside.number office _ found.1 c.in_err-job.ensures.none.1) here)

pub returns-in_err-held-clause-failed : goal.returns-in_err-held-clause-failed
returns-in_err-held-clause-failed g c e row clean inside store office has its =
    let s = has (c.in_ok-found.ensures.step.opened clean) in
    let found = c.in_ok-found.ensures.found clean inside (tables_of office) s.tables in
    let who : c.as_str.result.now ≡ e.customer = search rules in
    let which : c.row.inside.number ≡ e.number = ap (λ (r : QueuedName). r.number) (c.row.view_is ∙ row) in
    let here : job_of c.as_str.result.now c.row.inside.number office ≡ Some e.job = ap (λ x. job_of x c.row.inside.number office) who ∙ ap (λ n. job_of e.customer n office) which ∙ its in
    let number : c.job.inside.held ≡ truth e.job.held = ap (λ (r : LoadedCells). r.held) c.job.view_is ∙ held_told c.as_str.result.now c.row.inside.number office _ _ found.1 c.in_ok-job.ensures.some e.job here in
    absurd (not_there c.in_err-held.ensures.none.1 (c.read_truth.ensures.all e.job.held number))

pub returns-then-held-clause-found : goal.returns-then-held-clause-found
returns-then-held-clause-found g c clean inside office s =
    let found = c.in_ok-found.ensures.found clean inside (tables_of office) s.tables in (
      still (seen g.S.Store c.args.tables.now) (seen g.S.Store c.find_loaded.new.self) office found.0 s,
      λ e row its.
          let who : c.as_str.result.now ≡ e.customer = search rules in
          let which : c.row.inside.number ≡ e.number = ap (λ (r : QueuedName). r.number) (c.row.view_is ∙ row) in
          let here : job_of c.as_str.result.now c.row.inside.number office ≡ Some e.job = ap (λ x. job_of x c.row.inside.number office) who ∙ ap (λ n. job_of e.customer n office) which ∙ its in
          let number : c.job.inside.held ≡ truth e.job.held = ap (λ (r : LoadedCells). r.held) c.job.view_is ∙ held_told c.as_str.result.now c.row.inside.number office _ _ found.1 c.in_ok-job.ensures.some e.job here in
          let held : e.job.held ≡ true = some_is (sym (c.read_truth.ensures.all e.job.held number) ∙ c.in_ok-held.ensures.some) ∙ c.if-held.true in
          sym (append-nil c.args.queue.now.items) ∙ ap (λ (es : Office). c.args.queue.now.items ++ map queued_job es) (sym (free_so e true held)),
    )

pub returns-clause-found : goal.returns-clause-found
returns-clause-found g c clean inside office s =
    let found = c.in_ok-found.ensures.found clean inside (tables_of office) s.tables in (
      still (seen g.S.Store c.args.tables.now) (seen g.S.Store c.find_loaded.new.self) office found.0 s,
      λ e row its.
          let who : c.as_str.result.now ≡ e.customer = search rules in
          let which : c.row.inside.number ≡ e.number = ap (λ (r : QueuedName). r.number) (c.row.view_is ∙ row) in
          let here : job_of c.as_str.result.now c.row.inside.number office ≡ Some e.job = ap (λ x. job_of x c.row.inside.number office) who ∙ ap (λ n. job_of e.customer n office) which ∙ its in
          let number : c.job.inside.held ≡ truth e.job.held = ap (λ (r : LoadedCells). r.held) c.job.view_is ∙ held_told c.as_str.result.now c.row.inside.number office _ _ found.1 c.in_ok-job.ensures.some e.job here in
          let held : e.job.held ≡ false = some_is (sym (c.read_truth.ensures.all e.job.held number) ∙ c.in_ok-held.ensures.some) ∙ c.if-held.false in
          let again : string_bytes c.in_ok-customer.customer ≡ e.customer = search rules in
          let line : ◌≡◌ {A = QueuedJob} (record { customer = string_bytes c.in_ok-customer.customer; number = c.row.inside.number }) (queued_job e) = queued_is _ _ e again which in
          c.push_reserved.ensures.items ∙ ap (λ made. made ++ (record { customer = string_bytes c.in_ok-customer.customer; number = c.row.inside.number }) ∷ []) c.in_ok-try_reserve.ensures.items
          ∙ ap (λ (q : QueuedJob). c.args.queue.now.items ++ q ∷ []) line ∙ ap (λ (es : Office). c.args.queue.now.items ++ map queued_job es) (sym (free_so e false held)),
    )
