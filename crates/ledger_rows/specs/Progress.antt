-- the progress of a machine: its standing, its I register, and its counts of cards and lines
use Rattle.std.specs.Prelude.{◌<◌, ◌≤◌}
use Rattle.core_store.specs.Storage.{largest_size}
use Rattle.units.specs.Units.{made_in_all, most_cards, most_lines}
use Rattle.machine.specs.Run.{State}
use Rattle.machine.specs.Numbers.{standing_number}
use Rattle.ledger_rows.specs.declared.progress.Progress.{Progress}
use Rattle.ledger_tables.specs.declared.rows.ProgressRow.{ProgressRow}

-- the columns of a machine's progress
abbrev pub progress_cells : Progress → ProgressRow
progress_cells it = record {
  i = it.i;
  cards = it.cards;
  lines = it.lines;
  standing = standing_number it.standing;
}

-- the progress of this machine
abbrev pub progress_of : State → Progress
progress_of m = record {
  standing = m.standing;
  i = m.works.registers.i;
  cards = (made_in_all m.works.units).cards;
  lines = (made_in_all m.works.units).lines;
}

-- a progress that a machine may be at: its I register is an address, and it has made no more cards
-- and lines than one may
pub record IsReached (it : Progress) : Type 0 where
  pub i : it.i < largest_size
  pub cards : it.cards ≤ most_cards
  pub lines : it.lines ≤ most_lines
