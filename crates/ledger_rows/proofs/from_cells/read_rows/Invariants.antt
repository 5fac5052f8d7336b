use Rattle.std.proofs.Common.{◌≡◌, ◌≤◌, List, map, take, length}
use Rattle.std.specs.List.{All}
use Rattle.std.specs.Vec.{vec_len, vec_capacity}
use Rattle.ledger_rows.proofs.from_cells.read_rows.Given as goal

abbrev pub invariant-loop-row : goal.invariant-loop-row
invariant-loop-row g l = record {
  len : vec_len l.things ≡ l.row-index;
  room : length l.rows ≤ vec_capacity l.things;
  rows : map g.T.FromCells.cells l.things.items ≡ take l.row-index l.rows;
  held : All g.T.FromCells.IsHeld l.things.items;
  same : (all : List g.row.T.Denot) → All g.T.FromCells.IsHeld all → l.rows ≡ map g.T.FromCells.cells all → l.things.items ≡ take l.row-index all;
}
