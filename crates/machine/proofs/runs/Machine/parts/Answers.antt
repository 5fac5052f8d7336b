use Rattle.std.proofs.Common.{subst}
use Rattle.units.specs.Listing.{IsRising}
use Rattle.units.proofs.InRange.{lines_rise}
use Rattle.machine.specs.Run.{State, lines_of}
use Rattle.machine.proofs.runs.Machine.parts.Goals as goal

pub returns-clause-lines : goal.returns-clause-lines
returns-clause-lines g c =
    let P : State → Type 0 = λ m. IsRising (lines_of m) in
    subst P c.self.view_is (lines_rise c.self.inside.parts.works.units.before.lines c.self.inside.parts.works.units.printer c.self.invariant.0.units.printer)
