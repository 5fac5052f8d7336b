use Rattle.std.proofs.Common.{Ok, Err, inl, inr, ap, subst}
use Rattle.sqlite.specs.Held.{state}
use Rattle.ledger_tables.specs.Versions.{IsAnswer}
use Rattle.ledger.specs.Migrating.{as_opened}
use Rattle.ledger_files.specs.Migrating.{IsVersionIn}
use Rattle.ledger_files.proofs.OpeningFinds.{found_holds, found_is, found_stands_of, still_holds}
use Rattle.ledger_files.proofs.migrating.raised.Goals as goal

pub returns-in-Ok-clause-opened : goal.returns-in-Ok-clause-opened
returns-in-Ok-clause-opened g c opens live version office left =
    found_stands_of (state g.S.Store c.args.conn) version office (λ db opened may. g.met.S.Store.settled c.args.conn.store db opened may) opens live left

pub returns-in-Ok-clause-version : goal.returns-in-Ok-clause-version
returns-in-Ok-clause-version g c clean opens live db sound same =
    subst (λ d. IsVersionIn d c.in-Ok.version) (found_is (state g.S.Store c.args.conn) db opens live sound same) (c.in-Ok.ensures.version clean)

pub returns-in-Ok-clause-alone : goal.returns-in-Ok-clause-alone
returns-in-Ok-clause-alone g c own clean opens =
    let s = state g.S.Store c.args.conn in
    still_holds s (state g.S.Store c.migrate.new.conn) _ (c.in-Ok.ensures.untouched clean (inl (ap Ok own))) opens.is_open
    (found_holds s (λ db opened may. g.met.S.Store.settled c.args.conn.store db opened may) opens)

pub returns-in-Err-clause-opened : goal.returns-in-Err-clause-opened
returns-in-Err-clause-opened g c opens live version office left =
    found_stands_of (state g.S.Store c.args.conn) version office (λ db opened may. g.met.S.Store.settled c.args.conn.store db opened may) opens live left

pub returns-in-Err-clause-untouched : goal.returns-in-Err-clause-untouched
returns-in-Err-clause-untouched g c no_bureau clean opens =
    let s = state g.S.Store c.args.conn in
    still_holds s (state g.S.Store c.migrate.new.conn) _ (c.in-Err.ensures.untouched clean (inr (inr (ap Err no_bureau)))) opens.is_open
    (found_holds s (λ db opened may. g.met.S.Store.settled c.args.conn.store db opened may) opens)

pub returns-in-Ok-clause-answer : goal.returns-in-Ok-clause-answer
returns-in-Ok-clause-answer g c clean opens live db sound same =
    subst (λ d. IsAnswer {X = Unit {0}} d (as_opened (Ok c.in-Ok.version))) (found_is (state g.S.Store c.args.conn) db opens live sound same) (c.in-Ok.ensures.answer clean)

pub returns-in-Err-clause-answer_still : goal.returns-in-Err-clause-answer_still
returns-in-Err-clause-answer_still g c clean opens live db sound same =
    subst (λ d. IsAnswer {X = Unit {0}} d (as_opened (Err c.in-Err.fault))) (found_is (state g.S.Store c.args.conn) db opens live sound same) (c.in-Err.ensures.answer clean)
