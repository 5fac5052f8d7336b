use Rattle.std.proofs.Common.{[]}
use Rattle.ledger_files.proofs.ClosingLemmas.{closed_are_of}
use Rattle.ledger_files.proofs.making.make_closed.Goals as goal

pub returns-in-Ok-close_connection-clause-first : goal.returns-in-Ok-close_connection-clause-first
returns-in-Ok-close_connection-clause-first g c empty image may =
    let stands = c.in-Ok.ensures.first (c.in-Ok-close_connection.ensures.clean may.0) empty in
    closed_are_of image may.1.0 [] may.1.2 (c.in-Ok-close_connection.ensures.alone may.0 [] stands may.1.0 may.1.1)
