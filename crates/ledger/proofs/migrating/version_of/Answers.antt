use Rattle.std.proofs.Common.{inl}
use Rattle.ledger_tables.specs.Steps.{seen}
use Rattle.ledger.proofs.BureauVersions.{is_no_fault_of, shown_old, shown_own, told_earlier, told_fault, version_found, version_goes_on}
use Rattle.ledger.proofs.migrating.version_of.Goals as goal

pub returns-in-Ok-clause-found : goal.returns-in-Ok-clause-found
returns-in-Ok-clause-found g c clean inside = version_found _ _ 4 (shown_own _ _ _ (c.in-Ok.ensures.found clean inside))

pub returns-in-Err-Old-clause-found : goal.returns-in-Err-Old-clause-found
returns-in-Err-Old-clause-found g c clean inside = version_found _ _ c.in-Err-Old.version (shown_old _ _ _ _ c.in-Err-Old.field-0-is (c.in-Err-Old.ensures.found clean inside))

pub returns-in-Err-Old-clause-step : goal.returns-in-Err-Old-clause-step
returns-in-Err-Old-clause-step g c =
    let step = c.find_version.ensures.step in
    record {
      same_transaction = step.same_transaction;
      same_reference = step.same_reference;
      frame = λ clean inside. version_goes_on _ _ c.in-Err-Old.version inside (shown_old _ _ _ _ c.in-Err-Old.field-0-is (c.in-Err-Old.ensures.found clean inside));
      survives = step.survives;
    }

pub returns-in-Err-NotABureau-clause-known : goal.returns-in-Err-NotABureau-clause-known
returns-in-Err-NotABureau-clause-known g c clean inside version office rows _ =
    is_no_fault_of (seen g.S.Store c.args.tables.now) version office c.in-Err-NotABureau.field-0 (c.in-Err-NotABureau.ensures.known clean inside) rows c.in-Err-NotABureau.field-0-is

pub returns-in-Ok-clause-told : goal.returns-in-Ok-clause-told
returns-in-Ok-clause-told g c clean inside = (c.find_version.new.self.tx.now.conn.now, inl (c.in-Ok.ensures.found clean inside))

pub returns-in-Err-Old-clause-told : goal.returns-in-Err-Old-clause-told
returns-in-Err-Old-clause-told g c clean inside = told_earlier g.S.Store c.args.tables.now.tx.now.conn.now c.find_version.new.self.tx.now.conn.now c.in-Err-Old.version _ c.in-Err-Old.field-0-is (c.in-Err-Old.ensures.found clean inside)

pub returns-in-Err-NoMemory-clause-told : goal.returns-in-Err-NoMemory-clause-told
returns-in-Err-NoMemory-clause-told g c clean inside = told_fault g.S.Store c.args.tables.now.tx.now.conn.now c.find_version.new.self.tx.now.conn.now _ _ c.in-Err-NoMemory.field-0-is (c.in-Err-NoMemory.ensures.found clean inside)

pub returns-in-Err-Store-clause-told : goal.returns-in-Err-Store-clause-told
returns-in-Err-Store-clause-told g c clean inside = told_fault g.S.Store c.args.tables.now.tx.now.conn.now c.find_version.new.self.tx.now.conn.now _ _ c.in-Err-Store.field-0-is (c.in-Err-Store.ensures.found clean inside)

pub returns-in-Err-NotABureau-clause-told : goal.returns-in-Err-NotABureau-clause-told
returns-in-Err-NotABureau-clause-told g c clean inside = told_fault g.S.Store c.args.tables.now.tx.now.conn.now c.find_version.new.self.tx.now.conn.now _ _ c.in-Err-NotABureau.field-0-is (c.in-Err-NotABureau.ensures.found clean inside)
