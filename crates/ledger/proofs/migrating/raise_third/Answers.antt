use Rattle.std.proofs.Common.{subst}
use Rattle.ledger_tables.specs.Steps.{seen}
use Rattle.ledger_tables.specs.Tables.{Holds}
use Rattle.ledger_tables.proofs.Frames.{on_ok_then}
use Rattle.office_tables.specs.Standing.{tables_of}
use Rattle.ledger.proofs.MigratingProfiles.{plain_tables}
use Rattle.ledger.proofs.migrating.raise_third.Goals as goal

pub returns-clause-raised : goal.returns-clause-raised
returns-clause-raised g c clean inside = on_ok_then c.end_third.result _ _ (λ ended office rows. record {
  tables = subst (Holds (seen g.S.Store c.end_third.new.tables).now) (plain_tables office rows.jobs.plain) (ended 3 (tables_of office) (λ _. rows.tables));
  jobs = rows.jobs.kept;
}) (c.end_third.ensures.ended clean inside)
