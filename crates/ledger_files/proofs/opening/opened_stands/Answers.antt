use Rattle.sqlite.specs.Held.{state}
use Rattle.ledger_files.proofs.OpeningFinds.{found_stands, found_holds}
use Rattle.ledger_files.proofs.opening.opened_stands.Goals as goal

pub returns-clause-stands : goal.returns-clause-stands
returns-clause-stands g c opens live office left = found_stands (state g.S.Store c.args.conn.now) office (λ db opened may. g.met.S.Store.settled c.args.conn.now.store db opened may) opens live left

pub returns-clause-holds : goal.returns-clause-holds
returns-clause-holds g c opens = found_holds (state g.S.Store c.args.conn.now) (λ db opened may. g.met.S.Store.settled c.args.conn.now.store db opened may) opens
