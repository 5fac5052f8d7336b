use Rattle.sqlite.specs.WalFiles.{image_at}
use Rattle.ledger_files.proofs.LeavingLemmas.{if_err, if_ok}
use Rattle.ledger_files.proofs.migrating.migrate.Goals as goal

pub returns-in-Ok-migrate_from-clause-migration : goal.returns-in-Ok-migrate_from-clause-migration
returns-in-Ok-migrate_from-clause-migration g c = if_ok c.end.result (λ done it. it (image_at g.S.Start) c.in-Ok-migrate_from.ensures.raised) c.end.ensures.migration

pub returns-in-Ok-migrate_from-clause-version : goal.returns-in-Ok-migrate_from-clause-version
returns-in-Ok-migrate_from-clause-version g c = if_ok c.end.result (λ done it. it (image_at g.S.Start) c.in-Ok-migrate_from.ensures.version) c.end.ensures.version

pub returns-in-Ok-migrate_from-clause-unmigrated : goal.returns-in-Ok-migrate_from-clause-unmigrated
returns-in-Ok-migrate_from-clause-unmigrated g c = if_err c.end.result (λ left it. it (image_at g.S.Start) c.in-Ok-migrate_from.ensures.midway) c.end.ensures.unmigrated

pub returns-clause-unmigrated : goal.returns-clause-unmigrated
returns-clause-unmigrated g c =
    let refused = c.in-Err-migrate_from.ensures.refused in (
      c.in-Err-migrate_from.ensures.told,
      c.let_go.ensures.migration (image_at g.S.Start) c.in-Err-migrate_from.fault refused,
      λ clean. (refused (c.let_go.ensures.clean clean)).answer,
    )
