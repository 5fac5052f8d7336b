use Rattle.std.proofs.Common.{◌↔◌, drop}
use Rattle.units.specs.Ranges.{AreRising, places_then, carriage_place, the_top}
use Rattle.units.proofs.printer.Printer.is_in_range.Given as goal

abbrev pub invariant-loop-line : goal.invariant-loop-line
invariant-loop-line l =
    let carriage = carriage_place l.self.carriage in
    AreRising the_top (places_then carriage l.self.lines) ↔ AreRising l.above (places_then carriage (drop l.line-index l.self.lines))
