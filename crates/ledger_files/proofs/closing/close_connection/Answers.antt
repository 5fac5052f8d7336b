use Rattle.std.proofs.Common.{[]}
use Rattle.std.proofs.Math.Logic.{∥∥₁_elim, ∥∥₁_map}
use Rattle.sqlite_store.specs.Laws.{stays_at}
use Rattle.sqlite.specs.Closing.{HoldsAlone}
use Rattle.sqlite.specs.Recovery.{Image}
use Rattle.sqlite.specs.Tree.{Trees}
use Rattle.sqlite.specs.WalFiles.{outcomes}
use Rattle.sqlite.specs.Files.{HoldsDatabase}
use Rattle.office_tables.specs.Standing.{LeftAs}
use Rattle.ledger_files.proofs.MigratingLemmas.{closed_migration}
use Rattle.ledger_files.proofs.closing.close_connection.Goals as goal

pub returns-in-Ok-clause-alone : goal.returns-in-Ok-clause-alone
returns-in-Ok-clause-alone g c clean office s left may =
    let copied = c.in-Ok.ensures.copied clean in
    let kept = s.left _ (stays_at c.args.conn.store g.met.D.Disk.seen_may_stay copied.was_open) in
    let held = copied.left left may in
    ∥∥₁_elim held.both squash₁ (λ both. ∥∥₁_map held.alone (λ alone. let r : (db : Trees) × HoldsDatabase left db × HoldsDatabase (record left { log = [] }) db × LeftAs db office = (_, both, alone, kept) in r))

pub returns-in-Err-clause-kept : goal.returns-in-Err-clause-kept
returns-in-Err-clause-kept g c db may =
    c.in-Err.ensures.err.0.quiet.outcomes db may

pub returns-in-Err-clause-cause : goal.returns-in-Err-clause-cause
returns-in-Err-clause-cause g c clean = (c.in-Err.error, c.in-Err.ensures.err.1 clean, c.store_fault_of.ensures.told)

pub returns-in-Err-clause-clean_still : goal.returns-in-Err-clause-clean_still
returns-in-Err-clause-clean_still g c = c.in-Err.ensures.err.0.quiet.clean

pub returns-in-Ok-clause-clean : goal.returns-in-Ok-clause-clean
returns-in-Ok-clause-clean g c clean = (c.in-Ok.ensures.copied clean).was_clean

pub invariant_of-result : goal.invariant_of-result
invariant_of-result g c = record {
  without_log = λ clean.
      let copied = c.in-Ok.ensures.copied clean in
      ∣ (let r : (db : Trees) × ((image : Image) → outcomes g.D.Disk c.in-Ok.files.log c.in-Ok.files.db image → HoldsAlone image db) = (_, copied.left) in r) ∣₁;
}

pub returns-in-Ok-clause-migration : goal.returns-in-Ok-clause-migration
returns-in-Ok-clause-migration g c = closed_migration c.args.conn c.in-Ok.files (returns-in-Ok-clause-clean g c) (returns-in-Ok-clause-alone g c)
