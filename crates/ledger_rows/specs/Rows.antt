-- the parts of a machine that are columns of its state row
use Rattle.std.specs.Prelude.{◌≡◌}
use Rattle.core_store.specs.declared.registers.Registers.{Registers}
use Rattle.units.specs.Units.{made_in_all}
use Rattle.units.specs.declared.carriage.Carriage.{Carriage}
use Rattle.units.specs.declared.units.Units.{Units}
use Rattle.ledger_rows.specs.declared.parts.Media.{Media}
use Rattle.machine.specs.Numbers.{compare_number, waiting_number}
use Rattle.ledger_rows.specs.Columns.{truth}
use Rattle.ledger_tables.specs.declared.rows.StateRow.{StateRow}

-- the state row has these registers
pub record HasRegisters (row : StateRow) (r : Registers) : Type 0 where
  pub i : row.i ≡ r.i
  pub a : row.a ≡ r.a
  pub b : row.b ≡ r.b
  pub compare : row.compare ≡ compare_number r.compare
  pub overflow : row.overflow ≡ truth r.overflow

-- the state row has this carriage
pub record HasCarriage (row : StateRow) (c : Carriage) : Type 0 where
  pub form : row.form ≡ c.form
  pub line : row.line ≡ c.line
  pub waiting : row.waiting ≡ waiting_number c.waiting
  pub channel : row.channel ≡ truth c.channel_12

-- the state row and the media have these units
pub record HasUnits (row : StateRow) (media : Media) (u : Units) : Type 0 where
  pub deck : media.deck ≡ u.hopper.deck
  pub taken : row.taken ≡ u.hopper.taken
  pub switches : media.switches ≡ u.switches
  pub punch : media.punch ≡ u.punch
  pub cards : row.cards ≡ (made_in_all u).cards
  pub printed : media.lines.items ≡ u.printer.lines
  pub lines : row.lines ≡ (made_in_all u).lines
  pub carriage : HasCarriage row u.printer.carriage
