use Rattle.std.proofs.Common.{sym, subst, arith, Err}
use Rattle.std.proofs.lemmas.Result.{err_from_is_err_and}
use Rattle.sqlite.specs.State.{HasCleanDisk}
use Rattle.ledger_tables.specs.Steps.{seen}
use Rattle.ledger_tables.specs.Versions.{IsKnown}
use Rattle.ledger_tables.specs.declared.openings.OpenFault.{OpenFault}
use Rattle.ledger_tables.proofs.OpeningAnswers.{as_open_known}
use Rattle.ledger.specs.Migrating.{IsToldFrom}
use Rattle.ledger.proofs.BureauVersions.{raised_earlier, raised_own, told_unraised}
use Rattle.ledger.proofs.migrating.raise_found.Goals as goal

pub returns-in_err-version-clause-told : goal.returns-in_err-version-clause-told
returns-in_err-version-clause-told g c clean inside =
    let before = c.args.tables.now.tx.now.conn.now in
    let returned = err_from_is_err_and c.from_residual.result c.from_residual.ensures.1 in
    rw returned.1 (subst (λ (e : OpenFault). IsToldFrom g.S.Store before (Err e)) (sym returned.2) (c.in_err-version.ensures.told clean inside))

pub returns-then-version-eq-VERSION-clause-found : goal.returns-then-version-eq-VERSION-clause-found
returns-then-version-eq-VERSION-clause-found g c clean inside =
    raised_own (seen g.S.Store c.args.tables.now) (seen g.S.Store c.version_of.new.tables) c.in_ok-version.version (c.in_ok-version.ensures.found clean inside) c.if-version-eq-VERSION.true

pub returns-in_err-raise-clause-told : goal.returns-in_err-raise-clause-told
returns-in_err-raise-clause-told g c clean inside =
    let before = c.args.tables.now.tx.now.conn.now in
    let early : HasCleanDisk (seen g.S.Store c.version_of.new.tables) = omega (arith, clean, c.raise.ensures.step.survives.clean) in
    let returned = err_from_is_err_and c.from_residual-in_err-raise.result c.from_residual-in_err-raise.ensures.1 in
    let known : IsKnown returned.0 = subst IsKnown (sym returned.2) (as_open_known _) in
    rw returned.1 (told_unraised g.S.Store before c.in_ok-version.version returned.0 c.if-version-eq-VERSION.false known (c.in_ok-version.ensures.told early inside))

pub returns-clause-found : goal.returns-clause-found
returns-clause-found g c clean inside =
    let mid = seen g.S.Store c.version_of.new.tables in
    let early : HasCleanDisk mid = omega (arith, clean, c.raise.ensures.step.survives.clean) in
    let on = c.in_ok-version.ensures.step.frame early inside in
    raised_earlier (seen g.S.Store c.args.tables.now) mid (seen g.S.Store c.raise.new.tables) c.in_ok-version.version (c.in_ok-version.ensures.found early inside) (c.in_ok-raise.ensures.raised clean on.inside)

pub returns-clause-told : goal.returns-clause-told
returns-clause-told g c clean inside =
    let early : HasCleanDisk (seen g.S.Store c.version_of.new.tables) = omega (arith, clean, c.raise.ensures.step.survives.clean) in
    c.in_ok-version.ensures.told early inside
