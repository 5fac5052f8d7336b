use Rattle.std.proofs.Common.{◌≡◌, ◌≤◌, [], map, take, option_map}
use Rattle.sqlite.specs.Held.{state}
use Rattle.sqlite.specs.State.{HasCleanDisk}
use Rattle.sqlite.specs.View.{doubt}
use Rattle.office.specs.Office.{Office}
use Rattle.ledger_tables.specs.Tables.{AreDistinct}
use Rattle.office_tables.specs.Standing.{Stands, named}
use Rattle.job_archives.specs.Lists.{AddsLines}
use Rattle.job_archives.specs.Names.{name_row}
use Rattle.job_archives.proofs.listing.list_named.Given as goal

abbrev pub invariant-loop-row : goal.invariant-loop-row
invariant-loop-row g l = record {
  few : l.jobs ≤ l.row-index;
  clean : doubt (state g.S.Store l.fn.bureau.conn).is_clean ≤ doubt (state g.S.Store l.bureau.conn).is_clean;
  listed : HasCleanDisk (state g.S.Store l.bureau.conn) → (office : Office) → AreDistinct (map named office) → Stands (state g.S.Store l.fn.bureau.conn) office
      → Stands (state g.S.Store l.bureau.conn) office × (l.rows ≡ map name_row office → AddsLines (option_map (λ it. it.now) l.asked) (take l.row-index office) [] l.out.items l.jobs);
}
