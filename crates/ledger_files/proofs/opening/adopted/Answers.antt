use Rattle.std.proofs.Common.{subst}
use Rattle.sqlite.specs.Held.{state}
use Rattle.ledger_tables.specs.Versions.{IsAnswer}
use Rattle.ledger.specs.Adopting.{handed, verdict}
use Rattle.ledger_files.proofs.OpeningFinds.{still_holds, found_is}
use Rattle.ledger_files.proofs.opening.adopted.Goals as goal

pub returns-clause-holds : goal.returns-clause-holds
returns-clause-holds g c clean opens =
    still_holds (state g.S.Store c.args.conn) (state g.S.Store (handed c.adopt.result)) _ (c.adopt.ensures.told clean).0 opens.is_open (c.opened_stands.ensures.holds opens)

pub returns-clause-answer : goal.returns-clause-answer
returns-clause-answer g c clean opens live db sound same =
    subst (λ d. IsAnswer d (verdict c.adopt.result)) (found_is (state g.S.Store c.args.conn) db opens live sound same) (c.adopt.ensures.answer clean)
