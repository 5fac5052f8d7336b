use Rattle.std.proofs.Common.{ℕ, take}
use Rattle.core_store.specs.Pages.{cells_of}
use Rattle.ledger_tables.specs.Steps.{Inside}
use Rattle.ledger_tables.specs.Tables.{Beside, Tables, HoldsAs, with_pages}
use Rattle.ledger_tables.proofs.Stepping.{HasStepped}
use Rattle.ledger.specs.Saving.{HasPages}
use Rattle.ledger.proofs.PageMixes.{mixed}
use Rattle.ledger.proofs.page_saving.save_pages.Given as goal

abbrev pub invariant-loop-place : goal.invariant-loop-place
invariant-loop-place g l = record {
  step : HasStepped g.S.Store l.fn.tables l.tables;
  saved : Inside g.S.Store l.fn.tables l.tables (λ before after. (there : Beside) (version : ℕ) (t : Tables) → HoldsAs there version before.now t → HasPages l.name (cells_of l.earlier) t
      → HoldsAs there version after.now (with_pages l.name.customer.now l.name.number (mixed (cells_of l.earlier) (cells_of l.core) (take l.place l.changed.items)) t));
}
