use Rattle.std.proofs.Common.{arith, subst, sym}
use Rattle.sqlite.specs.Files.{file_state}
use Rattle.sqlite.specs.State.{HasCleanDisk}
use Rattle.sqlite_trees.proofs.Doubt.{no_doubt}
use Rattle.ledger_files.specs.Migrating.{AreNotMigrated}
use Rattle.ledger_files.specs.Opening.{AreRefused, IsCleanKept}
use Rattle.ledger_files.proofs.LeavingLemmas.{nothing_migrated, nothing_refused, rest_not_migrated, rest_refused, store_not_migrated, store_refused}
use Rattle.ledger_files.proofs.kept.Kept.leave.Goals as goal

pub returns-in-Connection-clause-refusal : goal.returns-in-Connection-clause-refusal
returns-in-Connection-clause-refusal g c files fault are =
    store_refused files fault c.in-Connection.conn c.leave.result c.leave.ensures.clean c.leave.ensures.left (subst (λ k. IsCleanKept k → AreRefused files fault k) c.in-Connection.is are)

pub returns-in-Left-clause-refusal : goal.returns-in-Left-clause-refusal
returns-in-Left-clause-refusal g c files fault are = rest_refused files fault c.in-Left.left (subst (λ k. IsCleanKept k → AreRefused files fault k) c.in-Left.is are)

pub returns-in-Nothing-clause-refusal : goal.returns-in-Nothing-clause-refusal
returns-in-Nothing-clause-refusal g c files fault are = nothing_refused g.D.Disk files

pub returns-in-Connection-clause-migration : goal.returns-in-Connection-clause-migration
returns-in-Connection-clause-migration g c files fault are =
    store_not_migrated files fault c.in-Connection.conn c.leave.result c.leave.ensures.clean c.leave.ensures.left (subst (λ k. IsCleanKept k → AreNotMigrated files fault k) c.in-Connection.is are)

pub returns-in-Left-clause-migration : goal.returns-in-Left-clause-migration
returns-in-Left-clause-migration g c files fault are = rest_not_migrated files fault c.in-Left.left (subst (λ k. IsCleanKept k → AreNotMigrated files fault k) c.in-Left.is are)

pub returns-in-Nothing-clause-migration : goal.returns-in-Nothing-clause-migration
returns-in-Nothing-clause-migration g c files fault are = nothing_migrated g.D.Disk files

pub returns-in-Connection-clause-clean : goal.returns-in-Connection-clause-clean
returns-in-Connection-clause-clean g c clean =
    let late = no_doubt _ clean in
    let was : HasCleanDisk (file_state c.in-Connection.conn) = omega (arith, c.leave.ensures.clean, late) in
    subst (λ k. IsCleanKept k) (sym c.in-Connection.is) was
