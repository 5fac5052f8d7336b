use Rattle.std.proofs.Common.{◌≡◌, map, take}
use Rattle.std.specs.List.{All}
use Rattle.office.specs.Jobs.{HasSwitches}
use Rattle.office_tables.specs.Standing.{stretch_row}
use Rattle.ledger.proofs.reading.read_stretches.Given as goal

abbrev pub invariant-loop-row : goal.invariant-loop-row
invariant-loop-row l = record {
  rows : map stretch_row l.stretches.items ≡ take l.row-index l.rows;
  switches : All HasSwitches l.stretches.items;
}
