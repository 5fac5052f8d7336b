-- the printer
use Rattle.std.specs.Prelude.{List}
use Rattle.units.specs.declared.carriage.Carriage.{Carriage}
use Rattle.units.specs.declared.printer.Line.{Line}

-- a printer: the lines that it has printed, after those that are kept elsewhere, and its carriage
pub record Printed : Type 0 where
  pub lines : List Line
  pub carriage : Carriage
