use Rattle.ledger_files.proofs.migrating.close_migrated.Goals as goal

pub returns-in-Ok-clause-migration : goal.returns-in-Ok-clause-migration
returns-in-Ok-clause-migration g c first it = c.in-Ok.ensures.migration first c.args.version it
