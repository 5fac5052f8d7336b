use Rattle.std.proofs.Common.{◌≡◌, ◌∙◌, ap, sym}
use Rattle.core_store.specs.Storage.{Storage}
use Rattle.ledger_rows.specs.Pages.{rows_of}
use Rattle.ledger_tables.proofs.Frames.{on_ok_then}
use Rattle.ledger.proofs.PageMixes.{blank_rows}
use Rattle.ledger.proofs.page_saving.insert_pages.Goals as goal

pub returns-clause-added : goal.returns-clause-added
returns-clause-added g c clean inside =
    let blank : rows_of _ ≡ _ = ap (λ (s : Storage). rows_of s) c.in_ok-blank.ensures ∙ blank_rows _ in
    on_ok_then c.save_pages.result _ _ (λ more there version t holds has. more there version t holds (has ∙ sym blank)) (c.save_pages.ensures.saved clean inside)
