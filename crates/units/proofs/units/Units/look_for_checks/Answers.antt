use Rattle.std.proofs.Common.{refl}
use Rattle.units.proofs.OperationLemmas.{reader_check, punch_check, printer_check}
use Rattle.units.proofs.units.Units.look_for_checks.Goals as goal

pub returns-then-reader_stops-clause-check : goal.returns-then-reader_stops-clause-check
returns-then-reader_stops-clause-check c = λ s. reader_check _ s _ _ (c.if-reader_stops.ensures.check refl s)

pub returns-then-punch_stops-clause-check : goal.returns-then-punch_stops-clause-check
returns-then-punch_stops-clause-check c = λ s. punch_check _ s _ _ (c.if-reader_stops.ensures.ready refl s) (c.if-punch_stops.ensures.check refl s)

pub returns-then-printer_stops-clause-check : goal.returns-then-printer_stops-clause-check
returns-then-printer_stops-clause-check c =
    λ s. printer_check _ s _ _ (c.if-reader_stops.ensures.ready refl s) (c.if-punch_stops.ensures.ready refl s) (c.if-printer_stops.ensures.check refl s)
