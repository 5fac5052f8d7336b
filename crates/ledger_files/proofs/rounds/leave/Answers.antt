use Rattle.std.proofs.Common.{◌≡◌}
use Rattle.std.proofs.Math.Logic.{∥∥₁_map}
use Rattle.sqlite_pool.specs.Stored.{is_summed}
use Rattle.sqlite.specs.Tree.{Trees}
use Rattle.sqlite.specs.Files.{HoldsDatabase, file_state}
use Rattle.sqlite.specs.FileStore.{view}
use Rattle.ledger_files.proofs.MigratingLemmas.{left_migration}
use Rattle.database_files.proofs.StopLemmas.{left_holds}
use Rattle.ledger_files.proofs.rounds.leave.Goals as goal

pub returns-clause-left : goal.returns-clause-left
returns-clause-left g c clean left may =
    let store = c.into_store.result in
    ∥∥₁_map (left_holds store (c.into_store.ensures.numbered clean) (c.into_store.ensures.sound clean) left may)
    (λ it. let r : (db : Trees) × (file_state c.args.conn).may_leave db × (held : HoldsDatabase left db) × (is_summed held.0 ≡ (view store).has_sums) =
    (it.0, c.into_store.ensures.quiet.outcomes it.0 it.1, it.2, it.3) in r)

pub returns-clause-kept : goal.returns-clause-kept
returns-clause-kept g c db may = c.into_store.ensures.quiet.outcomes db may

pub returns-clause-migration : goal.returns-clause-migration
returns-clause-migration g c = left_migration c.args.conn c.into_store.result c.into_store.ensures.quiet.clean (returns-clause-left g c)
